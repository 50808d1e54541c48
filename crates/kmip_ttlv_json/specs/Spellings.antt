-- JSON as it is printed: `serde_json`'s compact text, but that the control characters from U+007F to U+009F are escaped as well.
use Rattle.std.specs.Prelude.{ℕ, ◌/◌, ◌%◌, Bool, true, false, ◌&&◌, List, [], ◌∷◌, ◌++◌, nat_lt, if◌then◌else◌, encode_utf8}
use Rattle.std.specs.List.{flat_map}
use Rattle.std.specs.Char.{digit_char}
use Rattle.std.specs.Str.{chars, is_utf8}
use Rattle.json.specs.Print.{escape_byte, escape, quoted}
use Rattle.serde_json.specs.Data.{Data, null, boolean, number, string, array, object, Items, no_items, item, Members, no_members, member}
use Rattle.serde_json.specs.Written.{compact_text, comma_if}

-- a character below U+0100 by its number
abbrev pub by_number : ℕ → List ℕ
by_number c = 92 ∷ 117 ∷ 48 ∷ 48 ∷ digit_char (c / 16) ∷ digit_char (c % 16) ∷ []

-- a control character that JSON may hold as it is (RFC 8259, section 7): from U+007F to U+009F
abbrev pub is_late_control : ℕ → Bool
is_late_control c = nat_lt 126 c && nat_lt c 160

-- a character of a JSON string
unfoldable pub char_text : ℕ → List ℕ
char_text c =
    if is_late_control c then by_number c else if nat_lt c 128 then escape_byte c else encode_utf8 c

-- a text in a JSON string; bytes that are no text, which no message has, as `serde_json` escapes them
abbrev pub chars_text : List ℕ → List ℕ
chars_text s = if is_utf8 s then flat_map char_text (chars s) else escape s

-- a JSON string
abbrev pub spelled : List ℕ → List ℕ
spelled s = 34 ∷ (chars_text s ++ 34 ∷ [])

-- JSON without spaces
abbrev mutual
  pub data_text : Data → List ℕ
  data_text null = compact_text null
  data_text (boolean b) = compact_text (boolean b)
  data_text (number n) = compact_text (number n)
  data_text (string s) = spelled s
  data_text (array ds) = 91 ∷ items_text false ds
  data_text (object ms) = 123 ∷ members_text false ms

  -- with the closing bracket
  pub items_text : Bool → Items → List ℕ
  items_text later no_items = 93 ∷ []
  items_text later (item d ds) = comma_if later ++ (data_text d ++ items_text true ds)

  pub members_text : Bool → Members → List ℕ
  members_text later no_members = 125 ∷ []
  members_text later (member k d ms) = comma_if later ++ (quoted k ++ 58 ∷ (data_text d ++ members_text true ms))
