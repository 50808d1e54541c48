-- Texts as they stand in a line.
use Rattle.std.specs.Prelude.{ℕ, ◌/◌, ◌%◌, ◌==◌, Bool, false, not, ◌||◌, ◌&&◌, List, [], ◌∷◌, ◌++◌, nat_lt, if◌then◌else◌, codes, encode_utf8}
use Rattle.std.specs.List.{flat_map}
use Rattle.std.specs.Char.{is_control}
use Rattle.std.specs.Fmt.{digit_glyph}
use Rattle.std.specs.Str.{chars}
use Rattle.ttlv_run.specs.Columns.{in_range}

-- the two hexadecimal digits of a number below 256, in lowercase
abbrev pub byte_hex : ℕ → List ℕ
byte_hex n = digit_glyph false (n / 16) ∷ digit_glyph false (n % 16) ∷ []

-- the hexadecimal digits of a number, in lowercase, without a zero in front: of one below 256, 65,536 and 16,777,216
abbrev pub short_hex : ℕ → List ℕ
short_hex n = (if nat_lt n 16 then [] else digit_glyph false (n / 16) ∷ []) ++ digit_glyph false (n % 16) ∷ []

abbrev pub word_hex : ℕ → List ℕ
word_hex n = if nat_lt n 256 then short_hex n else short_hex (n / 256) ++ byte_hex (n % 256)

unfoldable pub number_hex : ℕ → List ℕ
number_hex n =
    if nat_lt n 65536 then word_hex n
    else short_hex (n / 65536) ++ (byte_hex (n / 256 % 256) ++ byte_hex (n % 256))

-- a character that takes no room of its own, or changes the order or the lines of those around it: those that Unicode calls
-- default ignorable (soft hyphen, fillers, selectors of variants, zero-width characters, marks of direction, tags), the
-- separators of lines and paragraphs, and marks of annotations; those below U+2000, below U+FE00, and above
abbrev pub is_unseen_low : ℕ → Bool
is_unseen_low c =
    c == 0xAD || c == 0x34F || c == 0x61C || in_range 0x115F 0x1160 c || in_range 0x17B4 0x17B5 c || in_range 0x180B 0x180F c

abbrev pub is_unseen_middle : ℕ → Bool
is_unseen_middle c = in_range 0x200B 0x200F c || in_range 0x2028 0x202E c || in_range 0x2060 0x206F c || c == 0x3164

abbrev pub is_unseen_high : ℕ → Bool
is_unseen_high c =
    in_range 0xFE00 0xFE0F c || c == 0xFEFF || c == 0xFFA0 || in_range 0xFFF0 0xFFFB c || in_range 0x1BCA0 0x1BCA3 c
    || in_range 0x1D173 0x1D17A c || in_range 0xE0000 0xE0FFF c

unfoldable pub is_unseen : ℕ → Bool
is_unseen c = is_unseen_low c || is_unseen_middle c || is_unseen_high c

-- a character that a line doesn't show as itself: a control character (U+0000 to U+001F, U+007F to U+009F), or one that can't be seen
abbrev pub is_hidden : ℕ → Bool
is_hidden c = is_control c || is_unseen c

-- an ASCII character that is neither a control character nor a backslash
abbrev pub is_bare_ascii : ℕ → Bool
is_bare_ascii c = nat_lt 31 c && nat_lt c 127 && not (c == 92)

-- a character in a line: control characters, those that can't be seen and the backslash as Rust escapes them, any other as it is
unfoldable pub escaped_char : ℕ → List ℕ
escaped_char c =
    if c == 0 then codes "\\0"
    else if c == 9 then codes "\\t"
    else if c == 10 then codes "\\n"
    else if c == 13 then codes "\\r"
    else if c == 92 then codes "\\\\"
    else if is_hidden c then codes "\\u{" ++ (number_hex c ++ codes "}")
    else encode_utf8 c

-- a text in a line, character by character
unfoldable pub escape : List ℕ → List ℕ
escape text = flat_map escaped_char (chars text)
