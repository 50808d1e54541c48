-- The line that says why an input, taken as an encoding, stands for no bytes.
use Rattle.std.specs.Prelude.{ℕ, ◌/◌, ◌%◌, Bool, true, false, List, [], ◌∷◌, ◌++◌, codes, if◌then◌else◌}
use Rattle.std.specs.Fmt.{decimal, digit_glyph}
use Rattle.ttlv_run.specs.declared.job.Encoding.{Encoding}
use Rattle.ttlv_run.specs.declared.job.Encoding.TheVariants.{Detected, Raw, Hexadecimal, Base64, Base64Url, Armoured, Dump, Packets, Capture}
use Rattle.ttlv_run.specs.declared.misread.Misread.{Misread}
use Rattle.ttlv_run.specs.declared.misread.MisreadKind.{MisreadKind}
use Rattle.ttlv_run.specs.declared.misread.MisreadKind.TheVariants.{NoDigit, WrongCount}
use Rattle.ttlv_run.specs.Columns.{in_range}
use Rattle.ttlv_run.specs.Escapes.{escape}

-- what an encoding is called
abbrev pub encoding_words : Encoding → List ℕ
encoding_words Detected = codes "any encoding"
encoding_words Raw = codes "raw"
encoding_words Hexadecimal = codes "hexadecimal"
encoding_words Base64 = codes "base64"
encoding_words Base64Url = codes "base64url"
encoding_words Armoured = codes "armoured base64"
encoding_words Dump = codes "a hexadecimal dump"
encoding_words Packets = codes "a dump of packets"
encoding_words (Capture port) = codes "a packet capture"

-- a character of ASCII that can be seen
abbrev pub is_printable : ℕ → Bool
is_printable b = in_range 33 126 b

-- a byte as it is shown: such a character in quotes, or its two hexadecimal digits
abbrev pub byte_shown : ℕ → List ℕ
byte_shown b =
    if is_printable b then 39 ∷ b ∷ 39 ∷ []
    else 48 ∷ 120 ∷ digit_glyph true (b / 16) ∷ digit_glyph true (b % 16) ∷ []

-- a line up to an offset, and what is wrong there
abbrev pub with_kind : List ℕ → MisreadKind → List ℕ
with_kind front (NoDigit b) = front ++ codes ", " ++ byte_shown b ++ codes ", is no digit"
with_kind front WrongCount = front ++ codes ": digits are missing at the end, or too many are there"

-- the option that names another encoding, where this one was guessed
abbrev pub line_end : Bool → List ℕ
line_end true = codes " (--input)\n"
line_end false = codes "\n"

-- the line: what the input is called, what it was taken as, the offset in it, and what is wrong there
abbrev pub misread_line : List ℕ → Misread → List ℕ
misread_line name m =
    with_kind (escape name ++ codes ": taken as " ++ encoding_words m.taken ++ codes ": byte " ++ decimal m.offset) m.kind
    ++ line_end m.guessed
