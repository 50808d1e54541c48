-- Tags with their attributes (XML 1.0, 3.1).
use Rattle.std.specs.Prelude.{ℕ, ◌==◌, ◌||◌, nat_le, Bool, true, false, List, [], ◌∷◌, ◌++◌, length, if◌then◌else◌, Option, Some, None, Result, Ok}
use Rattle.std.specs.Str.{bytes_eq}
use Rattle.plain_xml.specs.declared.failure.Flaw.TheVariants.{Tag, TooMany, Repeated}
use Rattle.plain_xml.specs.declared.failure.Fault.{Fault}
use Rattle.plain_xml.specs.Characters.{is_name_start}
use Rattle.plain_xml.specs.Faults.{◌>>=◌, fails, Stepped, steps}
use Rattle.plain_xml.specs.Reading.{after_space, name_at}
use Rattle.plain_xml.specs.Values.{value_at}
use Rattle.plain_xml.specs.Elements.{Pair}

-- one of these attributes has this name
abbrev pub has_name : List Pair → List ℕ → Bool
has_name [] name = false
has_name (a ∷ others) name = bytes_eq a.0 name || has_name others name

-- the value of an attribute behind its name
abbrev pub value_behind : List ℕ → Result (List ℕ × List ℕ) Fault
value_behind [] = fails Tag []
value_behind (c ∷ cs) = if c == 61 then value_at (after_space cs) else fails Tag (c ∷ cs)

-- an attribute, and what follows it
unfoldable pub attribute_at : List ℕ → Result (Pair × List ℕ) Fault
attribute_at text = do
  name ← name_at text
  value ← value_behind (after_space name.1)
  Ok ((name.0, value.0), value.1)

-- where the next attribute begins behind white space, if there is one
abbrev pub start_in : List ℕ → List ℕ → Result (Option (List ℕ)) Fault
start_in text [] = Ok None
start_in text (c ∷ cs) =
    if is_name_start c
    then (if length (c ∷ cs) == length text then fails Tag (c ∷ cs) else Ok (Some (c ∷ cs)))
    else Ok None

unfoldable pub attribute_start : List ℕ → Result (Option (List ℕ)) Fault
attribute_start text = start_in text (after_space text)

-- an attribute of this name may follow others
unfoldable pub admitted : List Pair → List ℕ → List ℕ → Result (Unit {0}) Fault
admitted attributes name text =
    if nat_le 64 (length attributes) then fails TooMany text else
    if has_name attributes name then fails Repeated text else Ok tt

-- one more attribute
abbrev pub attribute_behind : List Pair → Option (List ℕ) → Stepped (List Pair)
attribute_behind attributes None = Ok None
attribute_behind attributes (Some start) = do
  a ← attribute_at start
  done ← admitted attributes a.0.0 start
  Ok (Some (attributes ++ a.0 ∷ [], a.1))

unfoldable pub next_attribute : List Pair → List ℕ → Stepped (List Pair)
next_attribute attributes text = attribute_start text >>= attribute_behind attributes

-- attributes, and what follows them
unfoldable pub attributes_at : List ℕ → Result (List Pair × List ℕ) Fault
attributes_at text = steps next_attribute [] text

-- the end of a start tag: it is the end tag too, and what follows it
abbrev pub slash_end : List ℕ → List ℕ → Result (Bool × List ℕ) Fault
slash_end text [] = fails Tag text
slash_end text (c ∷ cs) = if c == 62 then Ok (true, cs) else fails Tag text

abbrev pub tag_end_at : List ℕ → Result (Bool × List ℕ) Fault
tag_end_at [] = fails Tag []
tag_end_at (c ∷ cs) = if c == 62 then Ok (false, cs) else if c == 47 then slash_end (c ∷ cs) cs else fails Tag (c ∷ cs)

unfoldable pub tag_end : List ℕ → Result (Bool × List ℕ) Fault
tag_end text = tag_end_at (after_space text)

-- a start tag behind its <: its name, its attributes, whether it is the end tag too, and what follows it
unfoldable pub opening_at : List ℕ → Result (List ℕ × List Pair × Bool × List ℕ) Fault
opening_at text = do
  name ← name_at text
  attributes ← attributes_at name.1
  end ← tag_end attributes.1
  Ok (name.0, attributes.0, end.0, end.1)

-- an end tag behind its </
abbrev pub ending_end : List ℕ → Result (List ℕ) Fault
ending_end [] = fails Tag []
ending_end (c ∷ cs) = if c == 62 then Ok cs else fails Tag (c ∷ cs)

unfoldable pub ending_at : List ℕ → Result (List ℕ × List ℕ) Fault
ending_at text = do
  name ← name_at text
  rest ← ending_end (after_space name.1)
  Ok (name.0, rest)
