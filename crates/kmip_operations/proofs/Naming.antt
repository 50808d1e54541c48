-- What requests call objects: no two have one name.
use Rattle.std.proofs.Common.{◌≡◌, ℕ, ◌+◌, ◌<◌, ◌^◌, Option, Some, None, String, ap, refl, sym, ◌∙◌, arith}
use Rattle.std.specs.Str.Parse.{digits_value}
use Rattle.std.proofs.lemmas.Fmt.{decimal_is_IsNumeral_wide}
use Rattle.std.proofs.lemmas.Option.{slice_get_within}
use Rattle.kmip_memory_store.specs.declared.object.Object.{Object}
use Rattle.kmip_memory_store.specs.Objects.{at, objects_of}
use Rattle.kmip_operations.specs.declared.about.About.{About}
use Rattle.kmip_operations.specs.declared.objects.Objects.{Objects}
use Rattle.kmip_operations.specs.Effects.{Means, MeansNone, NoneIsMeant}

-- the number of an object that is there has a successor that a machine can count
pub counted : {K : Type 0} (objects : Objects K) (id : ℕ) (object : Object (About K) K) → at objects.store id ≡ Some object → id + 1 < 2 ^ 64
counted objects id object there =
    let all = objects.store.objects in
    omega (arith, slice_get_within (objects_of objects.store) id object there, all.ok.0, all.ok.1, all.small)

-- if a number is meant, no other is
pub only_one : {K A : Type 0} (objects : Objects K) (name : Option (String A)) (id other : ℕ) → id < 2 ^ 64 → other < 2 ^ 64
    → Means objects name id → Means objects name other → other ≡ id
only_one objects (Some name) id other h k m n =
    let same = ap (digits_value 10) (sym n ∙ m) in
    omega (arith, sym (decimal_is_IsNumeral_wide (other + 1) (omega (arith, k))).1 ∙ same ∙ (decimal_is_IsNumeral_wide (id + 1) (omega (arith, h))).1)
only_one objects None id other h k m n = cc (sym n ∙ m)

-- an object that is there is meant, or none is there
none_if : {K : Type 0} (objects : Objects K) (id : ℕ) (found : Option (Object (About K) K)) → at objects.store id ≡ found
    → ((object : Object (About K) K) → at objects.store id ≡ Some object → ⊥) → at objects.store id ≡ None
none_if objects id None e never = e
none_if objects id (Some object) e never = absurd (never object e)

pub none_is_meant : {K A : Type 0} (objects : Objects K) (name : Option (String A)) → MeansNone objects name → NoneIsMeant objects name
none_is_meant objects name never id m =
    none_if objects id (at objects.store id) refl (λ object there. never id (counted objects id object there) m)

-- the one that is meant isn't there, so none is that is meant
pub it_is_absent : {K A : Type 0} (objects : Objects K) (name : Option (String A)) (id : ℕ) → id < 2 ^ 64 → Means objects name id
    → at objects.store id ≡ None → NoneIsMeant objects name
it_is_absent objects name id h m absent other n =
    none_if objects other (at objects.store other) refl
    (λ object there. let same = only_one objects name id other h (omega (arith, counted objects other object there)) m n in
    absurd (cc (sym there ∙ ap (at objects.store) same ∙ absent)))
