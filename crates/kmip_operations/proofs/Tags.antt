-- Attributes and references by tags.
use Rattle.std.proofs.Common.{◌≡◌, ℕ, Bool, true, false, List, [], Option, Some, None, Result, Ok, subst, sym, true≢false}
use Rattle.std.specs.Bool.{MatchBool}
use Rattle.kmip_ttlv_base.specs.declared.error.Error.{Error}
use Rattle.kmip_ttlv_parts.specs.declared.kept.Kept.{Kept}
use Rattle.kmip_attribute_set.specs.declared.attributes.Attributes.{Attributes}
use Rattle.kmip_attribute_set.specs.Tags.{Refers}
use Rattle.kmip_operations.specs.Tagging.{AreGiven}

pub given_none : {A : Type 0} (IsOfTags : Kept A → Result (Attributes A) (Error A) → Type 0) (by_tags : Bool) (items : Option (Kept A)) (given : Attributes A)
    → items ≡ None → given.list.items ≡ [] → AreGiven IsOfTags by_tags items given
given_none IsOfTags by_tags items given e none = subst (λ i. AreGiven IsOfTags by_tags i given) (sym e) none

pub given_some : {A : Type 0} (IsOfTags : Kept A → Result (Attributes A) (Error A) → Type 0) (by_tags : Bool) (items : Option (Kept A)) (kept : Kept A)
    (given : Attributes A) → items ≡ Some kept → by_tags ≡ true → IsOfTags kept (Ok given) → AreGiven IsOfTags by_tags items given
given_some IsOfTags by_tags items kept given e t h = subst (λ i. AreGiven IsOfTags by_tags i given) (sym e) (t, h)

pub refers_to : {A : Type 0} (IsTagged : Attributes A → Result (Kept A) (Error A) → Type 0) (names others : List (List ℕ)) (items : Kept A)
    → names ≡ others → Refers IsTagged names items → Refers IsTagged others items
refers_to IsTagged names others items e r = subst (λ l. Refers IsTagged l items) e r

-- the form of a request that has attributes by tags, or by names
pub by_tags_so : (b : Bool) (P Q : Type 0) → b ≡ true → P → MatchBool b P Q
by_tags_so true P Q e p = p
by_tags_so false P Q e p = absurd (true≢false (sym e))

pub by_names_so : (b : Bool) (P Q : Type 0) → b ≡ false → Q → MatchBool b P Q
by_names_so false P Q e q = q
by_names_so true P Q e q = absurd (true≢false e)
