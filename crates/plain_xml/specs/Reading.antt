-- White space and names at the front of a text.
use Rattle.std.specs.Prelude.{ℕ, List, [], ◌∷◌, drop, take, Result, Ok, if◌then◌else◌, encode_utf8_all}
use Rattle.std.specs.List.{prefix_len}
use Rattle.plain_xml.specs.declared.failure.Flaw.TheVariants.{Tag}
use Rattle.plain_xml.specs.declared.failure.Fault.{Fault}
use Rattle.plain_xml.specs.Characters.{is_space, is_name_start, is_name_part}
use Rattle.plain_xml.specs.Faults.{fails}

-- what follows white space
abbrev pub after_space : List ℕ → List ℕ
after_space [] = []
after_space (c ∷ cs) = if is_space c then after_space cs else c ∷ cs

-- a name, in bytes, and what follows it
unfoldable pub name_at : List ℕ → Result (List ℕ × List ℕ) Fault
name_at [] = fails Tag []
name_at (c ∷ cs) =
    if is_name_start c
    then Ok (encode_utf8_all (take (prefix_len is_name_part (c ∷ cs)) (c ∷ cs)), drop (prefix_len is_name_part (c ∷ cs)) (c ∷ cs))
    else fails Tag (c ∷ cs)
