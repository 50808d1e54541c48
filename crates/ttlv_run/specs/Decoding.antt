-- What the front of a text of digits stands for, and a decoder that has read it.
use Rattle.std.specs.Prelude.{◌≡◌, ℕ, ◌+◌, ◌%◌, ◌<◌, ◌≤◌, Bool, true, false, List, [], ◌∷◌, ◌++◌, length, take, drop, slice_index, Option, Some, None, Result, Ok}
use Rattle.std.specs.Prelude.{Err}
use Rattle.std.specs.Io.KnownBytes.{prepend_known}
use Rattle.std.specs.List.{list_all}
use Rattle.ttlv_run.specs.declared.coding.Undecoded.{Undecoded}
use Rattle.ttlv_run.specs.declared.decoder.Decoder.{Decoder}
use Rattle.ttlv_run.specs.declared.decoder.Group.{Group}
use Rattle.ttlv_run.specs.declared.decoder.Made.{Made}
use Rattle.ttlv_run.specs.declared.decoder.Made.TheVariants.{Nothing, Bytes, Failed}
use Rattle.ttlv_run.specs.declared.decoder.Phase.{Phase}
use Rattle.ttlv_run.specs.declared.decoder.Phase.TheVariants.{Groups, Padded, Spoilt}
use Rattle.ttlv_run.specs.declared.form.Form.{Form}
use Rattle.ttlv_run.specs.declared.form.LinePart.{LinePart}
use Rattle.ttlv_run.specs.declared.form.LinePart.TheVariants.{Free}
use Rattle.ttlv_run.specs.declared.form.Step.TheVariants.{Wrong}
use Rattle.ttlv_run.specs.declared.misread.MisreadKind.{MisreadKind}
use Rattle.ttlv_run.specs.declared.misread.MisreadKind.TheVariants.{NoDigit, WrongCount}
use Rattle.ttlv_run.specs.declared.run_error.RunError.{RunError}
use Rattle.ttlv_run.specs.declared.run_error.RunError.TheVariants.{NoMemory}
use Rattle.ttlv_run.specs.Columns.{first_part, is_plain, step, Reads}
use Rattle.ttlv_run.specs.Fronts.{ReadsBytes}
use Rattle.ttlv_run.specs.Inputs.{decode_form, width}

-- a character, where there is one
abbrev pub one_or_none : Option ℕ → List ℕ
one_or_none None = []
one_or_none (Some b) = b ∷ []

-- the bytes of a group
abbrev pub bytes_in : Group → List ℕ
bytes_in g = take g.count g.bytes

-- the digits of a group that isn't whole yet
abbrev pub open_digits : Decoder → List ℕ
open_digits d = take d.count d.digits

-- digits of whole groups are these bytes, and so they are with more digits behind them
pub record Continues (form : Form) (front bytes : List ℕ) : Type 0 where
  pub whole : length front % width form ≡ 0
  pub on : (rest : List ℕ) → decode_form form (front ++ rest) ≡ prepend_known bytes (decode_form form rest)

-- digits are whole groups, which are bytes, and less than a group
pub record IsOpen (form : Form) (digits left bytes : List ℕ) : Type 0 where
  pub front : List ℕ
  pub are : digits ≡ front ++ left
  pub few : length left < width form
  pub continues : Continues form front bytes

-- digits are bytes, and with one more they are none, whatever follows
pub record IsPadded (form : Form) (digits bytes : List ℕ) : Type 0 where
  pub whole : length digits % width form ≡ 0
  pub made : decode_form form digits ≡ Some bytes
  pub last : (b : ℕ) (rest : List ℕ) → decode_form form (digits ++ b ∷ rest) ≡ None

-- digits of whole groups are bytes, and with a group at most behind them they are none, whatever follows
pub record IsSpoilt (form : Form) (digits bytes : List ℕ) : Type 0 where
  pub front : List ℕ
  pub bad : List ℕ
  pub more : List ℕ
  pub are : digits ≡ front ++ (bad ++ more)
  pub whole : length front % width form ≡ 0
  pub made : decode_form form front ≡ Some bytes
  pub few : length bad ≤ width form
  pub none : (rest : List ℕ) → decode_form form (front ++ (bad ++ rest)) ≡ None

-- what a decoder knows of digits: those of the group that isn't whole yet, and the bytes of those in front
abbrev pub Knows : Phase → Form → List ℕ → List ℕ → List ℕ → Type 0
Knows Groups form digits left bytes = IsOpen form digits left bytes
Knows Padded form digits left bytes = IsPadded form digits bytes
Knows Spoilt form digits left bytes = IsSpoilt form digits bytes

-- a digit came
abbrev pub Yields : Decoder → List ℕ → List ℕ → Made → Type 0
Yields new digits bytes Nothing = Knows new.phase new.form digits (open_digits new) bytes
Yields new digits bytes (Bytes g) =
    Knows new.phase new.form digits (open_digits new) (bytes ++ bytes_in g) × (decode_form new.form digits ≡ Some (bytes ++ bytes_in g))
Yields new digits bytes (Failed why) = ⊥

-- a text ended behind digits: they are bytes, or none
abbrev pub Ends : Decoder → List ℕ → List ℕ → Made → Type 0
Ends d digits bytes Nothing = decode_form d.form digits ≡ Some bytes
Ends d digits bytes (Bytes g) = decode_form d.form digits ≡ Some (bytes ++ bytes_in g)
Ends d digits bytes (Failed why) =
    (decode_form d.form digits ≡ None) × (why ≡ record { offset = d.offset + 1; kind = WrongCount })

-- a decoder has read a text up to a rest
pub record Holds (d : Decoder) (s bytes rest : List ℕ) : Type 0 where
  pub digits : List ℕ
  pub reads : Reads d.form (first_part d.form) s digits d.part rest
  pub knows : Knows d.phase d.form digits (open_digits d) bytes

-- what taking a character comes to: no bytes, so far; bytes of all digits; or an error, since it can't stand there
abbrev pub Takes : Decoder → Decoder → List ℕ → List ℕ → ℕ → List ℕ → Made → Type 0
Takes old new s bytes b rest Nothing = Holds new s bytes rest
Takes old new s bytes b rest (Bytes g) =
    (h : Holds new s (bytes ++ bytes_in g) rest) × (decode_form new.form h.digits ≡ Some (bytes ++ bytes_in g))
Takes old new s bytes b rest (Failed why) =
    (step old.form old.part b (slice_index rest 0) ≡ Wrong) × (why ≡ record { offset = old.offset; kind = NoDigit b })

-- how many characters came to a decoder, those of the mark too
abbrev pub characters : Decoder → ℕ
characters d = d.offset + length (one_or_none d.waiting)

-- a decoder has read a text behind a mark of so many bytes, whatever follows: all but its last character, which waits for the
-- next one
pub record Reading (d : Decoder) (mark : ℕ) (s bytes : List ℕ) : Type 0 where
  pub reads : (more : List ℕ) → Holds d (s ++ more) bytes (one_or_none d.waiting ++ more)
  pub start : d.waiting ≡ None → (s ≡ []) × (bytes ≡ [])
  pub at : characters d ≡ mark + length s

-- a character waits, behind whole groups of digits that stand freely
pub record BeginsGroup (d : Decoder) (b : ℕ) : Type 0 where
  pub part : d.part ≡ Free
  pub phase : d.phase ≡ Groups
  pub whole : d.count ≡ 0
  pub waits : d.waiting ≡ Some b

-- whole groups of digits, the first of which waits, and one more digit behind them; none is padding
pub record IsRun (d : Decoder) (digits : List ℕ) (next : ℕ) : Type 0 where
  pub begins : BeginsGroup d (slice_index digits 0)
  pub some : 0 < length digits
  pub whole : length digits % width d.form ≡ 0
  pub all : list_all (is_plain d.form) digits ≡ true
  pub on : is_plain d.form next ≡ true

-- behind these bytes stands a character that can't stand there
pub record StuckAt (form : Form) (mark : ℕ) (s bytes : List ℕ) (place b : ℕ) : Type 0 where
  pub rest : List ℕ
  pub reads : ReadsBytes form s bytes (b ∷ rest)
  pub wrong : step form reads.part b (slice_index rest 0) ≡ Wrong
  pub at : place + length (b ∷ rest) ≡ mark + length s

-- behind these bytes, at the end, all digits are no bytes
pub record EndsWrong (form : Form) (mark : ℕ) (s bytes : List ℕ) (place : ℕ) : Type 0 where
  pub reads : ReadsBytes form s bytes []
  pub none : decode_form form reads.digits ≡ None
  pub at : place ≡ mark + length s

-- why decoding ended behind these bytes
abbrev pub StuckBy : Form → ℕ → List ℕ → List ℕ → ℕ → MisreadKind → Type 0
StuckBy form mark s bytes place (NoDigit b) = StuckAt form mark s bytes place b
StuckBy form mark s bytes place WrongCount = EndsWrong form mark s bytes place

abbrev pub Stuck : Form → ℕ → List ℕ → List ℕ → Undecoded → Type 0
Stuck form mark s bytes why = StuckBy form mark s bytes why.offset why.kind

-- a character came
abbrev pub Pushes : Decoder → Decoder → ℕ → List ℕ → ℕ → List ℕ → Made → Type 0
Pushes old new mark s b bytes Nothing = Reading new mark (s ++ b ∷ []) bytes
Pushes old new mark s b bytes (Bytes g) = Reading new mark (s ++ b ∷ []) (bytes ++ bytes_in g)
Pushes old new mark s b bytes (Failed why) = (more : List ℕ) → Stuck old.form mark (s ++ b ∷ more) bytes why

-- all of a text is digits of these bytes, and what stands around them
pub record AllBytes (form : Form) (s bytes : List ℕ) : Type 0 where
  pub digits : List ℕ
  pub part : LinePart
  pub reads : Reads form (first_part form) s digits part []
  pub are : decode_form form digits ≡ Some bytes

-- the text ended
abbrev pub Finishes : Form → ℕ → List ℕ → List ℕ → Made → Type 0
Finishes form mark s bytes Nothing = AllBytes form s bytes
Finishes form mark s bytes (Bytes g) = AllBytes form s (bytes ++ bytes_in g)
Finishes form mark s bytes (Failed why) = Stuck form mark s bytes why

-- what a character came to was put behind bytes, unless memory ran out
abbrev pub Puts : List ℕ → List ℕ → Made → Result (Option Undecoded) RunError → Type 0
Puts old new made (Err why) = (why ≡ NoMemory) × (new ≡ old)
Puts old new Nothing (Ok wrong) = (wrong ≡ None) × (new ≡ old)
Puts old new (Bytes g) (Ok wrong) = (wrong ≡ None) × (new ≡ old ++ bytes_in g)
Puts old new (Failed why) (Ok wrong) = (wrong ≡ Some why) × (new ≡ old)

-- bytes came behind others, of which this holds
pub record Grows (old new : List ℕ) (P : List ℕ → Type 0) : Type 0 where
  pub came : List ℕ
  pub are : new ≡ old ++ came
  pub holds : P came

-- some of the characters behind the one that waits, the first of these, came to a decoder, unless memory ran out
abbrev pub DecodesRun : Decoder → ℕ → List ℕ → List ℕ → List ℕ → Result ℕ RunError → Type 0
DecodesRun new mark s chars bytes (Ok n) = Reading new mark (s ++ take n (drop 1 chars)) bytes
DecodesRun new mark s chars bytes (Err why) = why ≡ NoMemory

-- more characters came, behind those that a decoder has read: it has read these too, up to the first error
abbrev pub DecodesPiece : Decoder → ℕ → List ℕ → List ℕ → List ℕ → Result (Option Undecoded) RunError → Type 0
DecodesPiece new mark s piece bytes (Ok None) = Reading new mark (s ++ piece) bytes
DecodesPiece new mark s piece bytes (Ok (Some why)) = (more : List ℕ) → Stuck new.form mark ((s ++ piece) ++ more) bytes why
DecodesPiece new mark s piece bytes (Err why) = why ≡ NoMemory

-- and where they are the last, the text ended
abbrev pub DecodesLast : Decoder → ℕ → List ℕ → Bool → List ℕ → Type 0
DecodesLast new mark s true bytes = AllBytes new.form s bytes
DecodesLast new mark s false bytes = Reading new mark s bytes

abbrev pub DecodesMore : Decoder → ℕ → List ℕ → List ℕ → Bool → List ℕ → Result (Option Undecoded) RunError → Type 0
DecodesMore new mark s piece ended bytes (Ok None) = DecodesLast new mark (s ++ piece) ended bytes
DecodesMore new mark s piece ended bytes (Ok (Some why)) =
    (more : List ℕ) → (ended ≡ true → more ≡ []) → Stuck new.form mark ((s ++ piece) ++ more) bytes why
DecodesMore new mark s piece ended bytes (Err why) = why ≡ NoMemory

-- the bytes that came are the last: the text ended, and there was no error
abbrev pub is_last : Bool → Option Undecoded → Bool
is_last ended None = ended
is_last ended (Some why) = false
