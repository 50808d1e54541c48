-- How many bytes of an input decide its encoding, and the bytes that a front of it stands for.
use Rattle.std.specs.Prelude.{◌≡◌, ℕ, ◌<◌, ◌≤◌, Bool, true, false, not, ◌||◌, List, ◌++◌, length, nat_lt, Option, Some, None, if◌then◌else◌}
use Rattle.std.specs.Io.KnownBytes.{IsAtEnd}
use Rattle.ttlv_run.specs.declared.form.Form.{Form}
use Rattle.ttlv_run.specs.declared.form.Form.TheVariants.{HexadecimalText, Base64Text, Base64UrlText, ArmouredText, DumpText, PacketText}
use Rattle.ttlv_run.specs.declared.form.LinePart.{LinePart}
use Rattle.ttlv_run.specs.declared.job.Encoding.{Encoding}
use Rattle.ttlv_run.specs.declared.job.Encoding.TheVariants.{Hexadecimal, Base64, Base64Url, Armoured, Dump, Packets}
use Rattle.ttlv_run.specs.Columns.{first_part, body, Reads}
use Rattle.ttlv_run.specs.Guesses.{front_length, long_front, looks_raw, front_of}
use Rattle.ttlv_run.specs.Inputs.{Makes, form_of, is_detected, encoding_of, Stands}
use Rattle.ttlv_run.specs.Streaming.{Yields}

-- something is there
abbrev pub is_some : {A : Type 0} → Option A → Bool
is_some None = false
is_some (Some x) = true

-- how many bytes of an input decide its encoding, where these are there: four that it is raw, 64 that it is hexadecimal or a dump,
-- 1,024 anything else
abbrev pub front_size : Encoding → List ℕ → ℕ
front_size e s =
    if not (is_detected e) || (nat_lt (length s) 4 || looks_raw s) then 4
    else if nat_lt (length s) front_length || is_some (front_of s) then front_length
    else long_front

-- bytes came behind those that were there, and now as many are there as decide the encoding, or all
pub record Begins (e : Encoding) (old new : Option (List ℕ)) (before after : List ℕ) (ended : Bool) : Type 0 where
  pub yields : Yields old new before after
  pub enough : ended ≡ false → front_size e after ≤ length after
  pub at_end : ended ≡ true → IsAtEnd new

-- or fewer came, and reading failed
pub record BeginFails (e : Encoding) (old new : Option (List ℕ)) (before after : List ℕ) : Type 0 where
  pub yields : Yields old new before after
  pub few : length after < front_size e after

-- the encoding of a text
abbrev pub taken_as : Form → Encoding
taken_as HexadecimalText = Hexadecimal
taken_as Base64Text = Base64
taken_as Base64UrlText = Base64Url
taken_as ArmouredText = Armoured
taken_as DumpText = Dump
taken_as PacketText = Packets

-- a text behind its mark stands for these bytes up to a rest: they are those of its digits
pub record ReadsBytes (form : Form) (s bytes rest : List ℕ) : Type 0 where
  pub digits : List ℕ
  pub part : LinePart
  pub reads : Reads form (first_part form) s digits part rest
  pub makes : Makes form digits bytes

-- a text up to a rest stands for these bytes
abbrev pub DecodesTo : Form → List ℕ → List ℕ → List ℕ → Type 0
DecodesTo form s bytes rest = ReadsBytes form (body s) bytes rest

abbrev pub StandsFrontIn : Option Form → List ℕ → List ℕ → Type 0
StandsFrontIn None s bytes = (rest : List ℕ) × (s ≡ bytes ++ rest)
StandsFrontIn (Some form) s bytes = (rest : List ℕ) × DecodesTo form s bytes rest

-- some front of an input stands for these bytes
abbrev pub StandsFront : Encoding → List ℕ → List ℕ → Type 0
StandsFront e s bytes = StandsFrontIn (form_of (encoding_of e s)) s bytes

-- these are all bytes that an input stands for; or those of some front, if they are not the last
abbrev pub StandsUpTo : Encoding → List ℕ → List ℕ → Bool → Type 0
StandsUpTo e s bytes true = Stands e s bytes
StandsUpTo e s bytes false = StandsFront e s bytes
