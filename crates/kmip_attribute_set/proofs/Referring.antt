-- How references to names grow.
use Rattle.std.proofs.Common.{◌≡◌, ◌∙◌, ℕ, zero, suc, ◌+◌, ◌<◌, ◌≤◌, List, [], ◌∷◌, ◌++◌, Some, None, Result, Ok, Err, IfOk, ap, arith}
use Rattle.std.proofs.Common.{codes, get_or, length, map, option_map, refl, sym, take, add-one}
use Rattle.std.specs.Borrow.{Bor}
use Rattle.std.proofs.Math.Seq.{take-suc}
use Rattle.std.proofs.lemmas.List.{map-append}
use Rattle.kmip_ttlv_base.specs.declared.error.Error.{Error}
use Rattle.kmip_ttlv_parts.specs.declared.kept.Kept.{Kept}
use Rattle.kmip_attributes.specs.declared.attribute.Attribute.{Attribute}
use Rattle.kmip_attributes.specs.declared.attribute.AttributeValue.TheVariants as values
use Rattle.kmip_attribute_set.specs.Attributes.{AreWith, IsAttribute}
use Rattle.kmip_attribute_set.specs.Names.{attribute_tag}
use Rattle.kmip_attribute_set.specs.Tags.{Refers, reference_to, said_of}
use Rattle.kmip_attribute_set.specs.declared.attributes.Attributes.{Attributes}

-- what such an attribute says
said_is : {A : Type 0} (x : Attribute A) (name : List ℕ) (tag : ℕ) → IsAttribute (codes "0x42013B") (values.Enumeration tag) x → Some tag ≡ attribute_tag name
    → said_of x ≡ reference_to name
said_is x name tag is of =
    ap (λ n. record { name = n; index = x.index; says = Some x.value }) is.name_is
    ∙ ap (λ i. record { name = codes "0x42013B"; index = i; says = Some x.value }) is.index
    ∙ ap (λ v. record { name = codes "0x42013B"; index = None; says = Some v }) is.value_is
    ∙ ap (λ o. record { name = codes "0x42013B"; index = None; says = option_map values.Enumeration o }) of

-- one more
pub refers_on : {A : Type 0} (names : List (Bor (List ℕ))) (i : ℕ) (d : Bor (List ℕ)) (old new : Attributes A) (tag : ℕ)
    → map said_of old.list.items ≡ map (λ name. reference_to name.now) (take i names) → i < length names
    → AreWith old (IsAttribute (codes "0x42013B") (values.Enumeration tag)) new → Some tag ≡ attribute_tag (get_or names i d).now
    → map said_of new.list.items ≡ map (λ name. reference_to name.now) (take (i + 1) names)
refers_on names i d old new tag so lt with of =
    ap (map said_of) with.list_is ∙ map-append said_of old.list.items (with.attribute ∷ [])
    ∙ ap (λ l. l ++ said_of with.attribute ∷ []) so
    ∙ ap (λ s. map (λ name. reference_to name.now) (take i names) ++ s ∷ []) (said_is with.attribute (get_or names i d).now tag with.is_so of)
    ∙ sym (map-append (λ name. reference_to name.now) (take i names) (get_or names i d ∷ []))
    ∙ ap (map (λ name. reference_to name.now)) (sym (take-suc names i d lt))
    ∙ ap (λ n. map (λ name. reference_to name.now) (take n names)) (sym (add-one i))

all_taken : {X : Type 0} (i : ℕ) (xs : List X) → length xs ≤ i → take i xs ≡ xs
all_taken zero [] h = refl
all_taken zero (x ∷ xs) h = absurd (omega arith)
all_taken (suc i) [] h = refl
all_taken (suc i) (x ∷ xs) h = ap (λ l. x ∷ l) (all_taken i xs (omega arith))

fused : {A : Type 0} (names : List (Bor (List ℕ))) → map (λ name. reference_to {A = A} name.now) names ≡ map reference_to (map (λ name. name.now) names)
fused [] = refl
fused (n ∷ names) = ap (λ l. reference_to n.now ∷ l) (fused names)

-- they refer to all
pub refers : {A : Type 0} (IsTagged : Attributes A → Result (Kept A) (Error A) → Type 0) (names : List (Bor (List ℕ))) (i : ℕ) (list : Attributes A)
    (r : Result (Kept A) (Error A)) → map said_of list.list.items ≡ map (λ name. reference_to name.now) (take i names) → length names ≤ i → IsTagged list r
    → IfOk r (Refers IsTagged (map (λ name. name.now) names))
refers IsTagged names i list (Ok items) so all tagged = record {
  references = list;
  refer = so ∙ ap (map (λ name. reference_to name.now)) (all_taken i names all) ∙ fused names;
  are = tagged;
}
refers IsTagged names i list (Err e) so all tagged = tt
