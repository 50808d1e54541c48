-- The tags of a table by their names.
use Rattle.std.proofs.Common.{◌≡◌, ◌∙◌, ℕ, Bool, true, false, cond, if◌then◌else◌, List, Bor, Option, Some, None, bytes_eq, ap, sym, refl}
use Rattle.std.specs.Cmp.Lexicographic.{bytes_decides}
use Rattle.std.specs.HashMap.{HashMap, UpdatesBy}
use Rattle.std.proofs.lemmas.Map.Text.{hash_map_updates_str}
use Rattle.kmip_ttlv_names.specs.NameTables.{first_of, tag_in}

-- what is found of a name, where one more was added that had no tag
chosen : (b : Bool) (found : Option ℕ) (tag : ℕ) → (b ≡ true → found ≡ None)
    → cond b (Some tag) found ≡ first_of found (if b then Some tag else None)
chosen true found tag none = rw (none refl) refl
chosen false None tag none = refl
chosen false (Some other) tag none = refl

pub name_added : {S : Type 0} (old new : HashMap (Bor (List ℕ)) ℕ S) (own : List ℕ) (tag : ℕ)
    → UpdatesBy (λ x y. bytes_eq x.now y.now) (λ k. bytes_eq own k.now) old new (Some tag) → tag_in old own ≡ None
    → (name : List ℕ) → tag_in new name ≡ first_of (tag_in old name) (if bytes_eq own name then Some tag else None)
name_added old new own tag put none name =
    hash_map_updates_str own old new (Some tag) put name
    ∙ chosen (bytes_eq own name) (tag_in old name) tag (λ same. ap (tag_in old) (sym ((bytes_decides own name).0 same)) ∙ none)

-- what is found among some lines, in the next one, or behind that
pub first_among : (found next behind : Option ℕ) → first_of found (first_of next behind) ≡ first_of (first_of found next) behind
first_among None next behind = refl
first_among (Some tag) next behind = refl
