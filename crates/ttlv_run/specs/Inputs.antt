-- What was taken from a reader, and the bytes of messages that an input stands for.
use Rattle.std.specs.Prelude.{◌≡◌, ℕ, ◌-◌, ◌%◌, ◌<◌, Bool, true, false, ◌==◌, ◌&&◌, List, [], ◌++◌, length, IsTrue}
use Rattle.std.specs.Prelude.{slice_index, nat_lt, Option, Some, None, IfSome, Result, Ok, Err, if◌then◌else◌}
use Rattle.std.specs.Io.KnownBytes.{Consumes, IsAtEnd}
use Rattle.hex.specs.Hex as hex
use Rattle.base64.specs.Engines.{standard, url_safe, url_safe_no_pad}
use Rattle.base64.specs.GeneralPurpose as base64
use Rattle.ttlv_run.specs.declared.job.Encoding.{Encoding}
use Rattle.ttlv_run.specs.declared.job.Encoding.TheVariants.{Detected, Raw, Hexadecimal, Base64, Base64Url, Armoured, Dump, Packets, Capture}
use Rattle.ttlv_run.specs.declared.coding.Alphabet.{Alphabet}
use Rattle.ttlv_run.specs.declared.coding.Alphabet.TheVariants.{HexadecimalDigits, Base64Digits, UrlDigits, BareUrlDigits}
use Rattle.ttlv_run.specs.declared.form.Form.{Form}
use Rattle.ttlv_run.specs.declared.form.Form.TheVariants.{HexadecimalText, Base64Text, Base64UrlText, ArmouredText, DumpText, PacketText}
use Rattle.ttlv_run.specs.declared.form.LinePart.{LinePart}
use Rattle.ttlv_run.specs.declared.misread.Misread.{Misread}
use Rattle.ttlv_run.specs.declared.misread.MisreadKind.{MisreadKind}
use Rattle.ttlv_run.specs.declared.misread.MisreadKind.TheVariants.{NoDigit, WrongCount}
use Rattle.ttlv_run.specs.declared.run_error.RunError.{RunError}
use Rattle.ttlv_run.specs.declared.run_error.RunError.TheVariants.{UnreadableInput, NoMemory}
use Rattle.ttlv_run.specs.Columns.{ReadsText, Stops}
use Rattle.ttlv_run.specs.Guesses.{encoding_found}

-- all bytes that a reader had were taken
pub record TakesAll (old new : Option (List ℕ)) (bytes : List ℕ) : Type 0 where
  pub taken : Consumes old new bytes
  pub ended : IsAtEnd new

-- these are all bytes that a reader had, of which a front was taken
pub record TakesSome (old new : Option (List ℕ)) (bytes : List ℕ) : Type 0 where
  pub front : List ℕ
  pub left : List ℕ
  pub are : bytes ≡ front ++ left
  pub taken : Consumes old new front
  pub rest : IfSome new (λ known. known ≡ left)

-- why an input was not taken: reading failed, if it can, or memory ran out
abbrev pub IsUnread : Bool → RunError → Type 0
IsUnread can_fail UnreadableInput = IsTrue can_fail
IsUnread can_fail NoMemory = Unit {0}
IsUnread can_fail _ = ⊥

-- the digits of a text
pub record Kept (form : Form) (s digits : List ℕ) : Type 0 where
  pub last : LinePart
  pub reads : ReadsText form s digits last []

-- the answer without its error
abbrev pub answer_of : {T E : Type 0} → Result T E → Option T
answer_of (Ok x) = Some x
answer_of (Err e) = None

-- digits end with padding
abbrev pub has_padding : List ℕ → Bool
has_padding ds = nat_lt 0 (length ds) && slice_index ds (length ds - 1) == 61

-- base64url has padding or none
abbrev pub url_alphabet : Bool → Alphabet
url_alphabet padded = if padded then UrlDigits else BareUrlDigits

-- the alphabet of the digits of a text
abbrev pub alphabet_of : Form → Bool → Alphabet
alphabet_of HexadecimalText padded = HexadecimalDigits
alphabet_of Base64Text padded = Base64Digits
alphabet_of Base64UrlText padded = url_alphabet padded
alphabet_of ArmouredText padded = Base64Digits
alphabet_of DumpText padded = HexadecimalDigits
alphabet_of PacketText padded = HexadecimalDigits

-- the bytes that digits are, if they are any
abbrev pub decode_digits : Alphabet → List ℕ → Option (List ℕ)
decode_digits HexadecimalDigits ds = answer_of (hex.decode_of ds)
decode_digits Base64Digits ds = answer_of (base64.decode_of standard ds)
decode_digits UrlDigits ds = answer_of (base64.decode_of url_safe ds)
decode_digits BareUrlDigits ds = answer_of (base64.decode_of url_safe_no_pad ds)

-- the bytes that digits of a text are
abbrev pub decode_form : Form → List ℕ → Option (List ℕ)
decode_form form ds = decode_digits (alphabet_of form (has_padding ds)) ds

-- how many digits are a group
abbrev pub width : Form → ℕ
width HexadecimalText = 2
width Base64Text = 4
width Base64UrlText = 4
width ArmouredText = 4
width DumpText = 2
width PacketText = 2

-- the bytes of some digits: those of whole groups in front, of as many as are bytes
pub record Makes (form : Form) (digits bytes : List ℕ) : Type 0 where
  pub front : List ℕ
  pub left : List ℕ
  pub are : digits ≡ front ++ left
  pub whole : length front % width form ≡ 0
  pub made : decode_form form front ≡ Some bytes
  pub most :
      (groups more : List ℕ) → left ≡ groups ++ more → 0 < length groups → length groups % width form ≡ 0
      → decode_form form (front ++ groups) ≡ None

-- the bytes that a text is
pub record Decodes (form : Form) (s bytes : List ℕ) : Type 0 where
  pub digits : List ℕ
  pub kept : Kept form s digits
  pub are : decode_form form digits ≡ Some bytes

-- the digits of a text, all of which are known by its end, are no bytes
pub record Miscounted (form : Form) (s : List ℕ) (place : ℕ) : Type 0 where
  pub digits : List ℕ
  pub kept : Kept form s digits
  pub at_end : place ≡ length s
  pub none : decode_form form digits ≡ None

-- where and why a text is no bytes
abbrev pub IsMisread : Form → List ℕ → ℕ → MisreadKind → Type 0
IsMisread form s place (NoDigit b) = Stops form s place b
IsMisread form s place WrongCount = Miscounted form s place

-- how digits stand in an input of an encoding
abbrev pub form_of : Encoding → Option Form
form_of Detected = None
form_of Raw = None
form_of Hexadecimal = Some HexadecimalText
form_of Base64 = Some Base64Text
form_of Base64Url = Some Base64UrlText
form_of Armoured = Some ArmouredText
form_of Dump = Some DumpText
form_of Packets = Some PacketText
form_of (Capture port) = None

-- the port of a packet capture
abbrev pub port_of : Encoding → Option ℕ
port_of (Capture port) = Some port
port_of e = None

-- no encoding was named
abbrev pub is_detected : Encoding → Bool
is_detected Detected = true
is_detected _ = false

-- the encoding of an input: the one that was named, or else what the input looks like
abbrev pub encoding_of : Encoding → List ℕ → Encoding
encoding_of named s = if is_detected named then encoding_found s else named

-- the bytes of messages that an input stands for: those of its digits, or its own
abbrev pub StandsIn : Option Form → List ℕ → List ℕ → Type 0
StandsIn None s bytes = bytes ≡ s
StandsIn (Some form) s bytes = Decodes form s bytes

abbrev pub Stands : Encoding → List ℕ → List ℕ → Type 0
Stands e s bytes = StandsIn (form_of (encoding_of e s)) s bytes

-- where and why it stands for none, and as what it was taken
pub record Misreads (e : Encoding) (s : List ℕ) (m : Misread) : Type 0 where
  pub form : Form
  pub is : form_of (encoding_of e s) ≡ Some form
  pub taken : m.taken ≡ encoding_of e s
  pub guessed : m.guessed ≡ is_detected e
  pub misread : IsMisread form s m.offset m.kind
