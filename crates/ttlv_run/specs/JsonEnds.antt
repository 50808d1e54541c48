-- Where the values of a text of JSON end: by brackets outside of strings, or, for what begins with no bracket, by the line's end.
use Rattle.std.specs.Prelude.{◌≡◌, ℕ, ◌+◌, ◌-◌, ◌<◌, ◌≤◌, ◌==◌, ◌||◌, ◌&&◌, nat_le, Bool, true, false, List, [], ◌∷◌, ◌++◌, length, take, Option, Some, None, if◌then◌else◌}
use Rattle.ttlv_run.specs.declared.json_ends.First.{First}
use Rattle.ttlv_run.specs.declared.json_ends.First.TheVariants.{Whole, Open}
use Rattle.ttlv_run.specs.declared.json_ends.Part.{Part}
use Rattle.ttlv_run.specs.declared.json_ends.Part.TheVariants.{Front, Line, Brackets, Text, Backslash}

-- `{` or `[`; `}` or `]`
abbrev pub is_opening : ℕ → Bool
is_opening b = b == 123 || b == 91

abbrev pub is_closing : ℕ → Bool
is_closing b = b == 125 || b == 93

-- white space, or a byte of the mark of UTF-8: it may stand in front of a value
abbrev pub is_in_front : ℕ → Bool
is_in_front b = b == 32 || (b == 9 || (b == 13 || (b == 239 || (b == 187 || b == 191))))

-- no bracket came yet, so that a line feed ends the value
abbrev pub is_in_line : Part → Bool
is_in_line Front = true
is_in_line Line = true
is_in_line part = false

abbrev pub ends_line : Part → ℕ → Bool
ends_line part b = is_in_line part && b == 10

-- a bracket ends it: the last one that is open
abbrev pub closes : Part → ℕ → Bool
closes (Brackets depth) b = nat_le depth 1 && is_closing b
closes part b = false

abbrev pub is_end : Part → ℕ → Bool
is_end part b = ends_line part b || closes part b

-- the part behind a byte that doesn't end the value
abbrev pub part_after : Part → ℕ → Part
part_after Front b = if is_opening b then Brackets 1 else if is_in_front b then Front else Line
part_after Line b = Line
part_after (Brackets depth) b =
    if b == 34 then Text depth
    else if is_opening b then Brackets (depth + 1)
    else if is_closing b then Brackets (depth - 1)
    else Brackets depth
part_after (Text depth) b = if b == 34 then Brackets depth else if b == 92 then Backslash depth else Text depth
part_after (Backslash depth) b = Text depth

-- in how many brackets a part is
abbrev pub depth_of : Part → ℕ
depth_of (Brackets depth) = depth
depth_of (Text depth) = depth
depth_of (Backslash depth) = depth
depth_of part = 0

-- the part behind bytes, none of which ends the value
abbrev pub goes_on : Part → List ℕ → Option Part
goes_on part [] = Some part
goes_on part (b ∷ s) = if is_end part b then None else goes_on (part_after part b) s

-- the values of a text, one after the other, the first of which was read so far: a bracket is a value's last byte, a line feed is none
-- of it; what is left behind the last one, which may be nothing, counts as one
abbrev pub values_from : Part → List ℕ → List ℕ → List (List ℕ)
values_from part value [] = value ∷ []
values_from part value (b ∷ s) =
    if ends_line part b then value ∷ values_from Front [] s
    else if closes part b then (value ++ b ∷ []) ∷ values_from Front [] s
    else values_from (part_after part b) (value ++ b ∷ []) s

unfoldable pub values_of : List ℕ → List (List ℕ)
values_of s = values_from Front [] s

-- no value ends in a text
pub record IsOpen (s : List ℕ) : Type 0 where
  pub part : Part
  pub goes : goes_on Front s ≡ Some part

-- a text is a whole value, with the line feed that ends it, or with its last bracket
pub data IsWhole (value s : List ℕ) : Type 0 where
  by_feed : (part : Part) → goes_on Front value ≡ Some part → ends_line part 10 ≡ true → s ≡ value ++ 10 ∷ [] → IsWhole value s
  by_bracket :
      (front : List ℕ) (b : ℕ) (part : Part)
      → goes_on Front front ≡ Some part
      → closes part b ≡ true
      → value ≡ front ++ b ∷ []
      → s ≡ value
      → IsWhole value s

-- so are the first bytes of a text
pub record IsFirst (s value : List ℕ) (size : ℕ) : Type 0 where
  pub some : 0 < size
  pub within : size ≤ length s
  pub whole : IsWhole value (take size s)
  pub shorter : length value ≤ size

-- no value ends in so many bytes of a text, and this is the part behind them
pub record IsSeen (s : List ℕ) (count : ℕ) (part : Part) : Type 0 where
  pub within : count ≤ length s
  pub goes : goes_on Front (take count s) ≡ Some part

-- a value that is whole stands in front of a text, or one that goes on
abbrev pub FindsValue : List ℕ → First → Type 0
FindsValue s (Whole value size) = IsFirst s value.now size
FindsValue s (Open part) = goes_on Front s ≡ Some part
