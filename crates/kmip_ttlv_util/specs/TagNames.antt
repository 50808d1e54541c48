-- The names of tags.
use Rattle.std.specs.Prelude.{ℕ, List, Option, None, ◌==◌}
use Rattle.std.specs.Option.{option_map}
use Rattle.std.specs.Borrow.{Bor}
use Rattle.std.specs.declared.hash.FoldHasher.{FoldHasher}
use Rattle.std.specs.declared.hash.BuildHasherDefault.{BuildHasherDefault}
use Rattle.std.specs.HashMap.{get, HashMap}

-- a map of names
abbrev pub NameMap : Type 0
NameMap = HashMap ℕ (Bor (List ℕ)) (BuildHasherDefault FoldHasher)

-- the name that a map has for a tag
abbrev pub name_in : NameMap → ℕ → Option (List ℕ)
name_in names tag = option_map (λ s. s.now) (get (λ a b. a == b) names tag)

-- no tag has a name
abbrev pub no_names : ℕ → Option (List ℕ)
no_names tag = None

-- every tag has this name, if one is given
abbrev pub named : Option (Bor (List ℕ)) → ℕ → Option (List ℕ)
named name tag = option_map (λ s. s.now) name
