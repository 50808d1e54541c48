-- Tests of attributes, by what they say.
use Rattle.std.proofs.Common.{◌≡◌, ℕ, ℤ, Bool, true, false, ◌&&◌, ◌||◌, if◌then◌else◌, List, [], ◌∷◌, map, refl, ap, sym, ◌∙◌}
use Rattle.std.specs.List.{list_all, list_any}
use Rattle.std.specs.Prelude.{is_some}
use Rattle.std.proofs.lemmas.List.Folds.{list_all-map}
use Rattle.kmip_attributes.specs.declared.attribute.Attribute.{Attribute}
use Rattle.kmip_attributes.specs.declared.attribute.AttributeStructure.TheVariants as structures
use Rattle.kmip_attributes.specs.declared.attribute.AttributeValue.{AttributeValue}
use Rattle.kmip_attributes.specs.declared.attribute.AttributeValue.TheVariants as values
use Rattle.kmip_ttlv_reader.specs.declared.values.DateTime.{DateTime}
use Rattle.kmip_operations.specs.Listing.{Saying, meaning_of, saying_of}
use Rattle.kmip_operations.specs.Matching.{date_under, fits, in_range, is_from, is_in_range, is_sought, is_timely, is_up_to}

any_said : {A : Type 0} (p : Saying → Bool) (xs : List (Attribute A)) → list_any (λ x. p (saying_of x)) xs ≡ list_any p (map saying_of xs)
any_said p [] = refl
any_said p (x ∷ xs) = ap (λ b. p (saying_of x) || b) (any_said p xs)

all_any_said : {A B : Type 0} (p : Saying → Saying → Bool) (xs : List (Attribute A)) (ys : List (Attribute B))
    → list_all (λ x. list_any (λ y. p (saying_of x) (saying_of y)) ys) xs ≡ list_all (λ x. list_any (λ y. p x y) (map saying_of ys)) (map saying_of xs)
all_any_said p [] ys = refl
all_any_said p (x ∷ xs) ys =
    ap (λ b. b && list_all (λ x. list_any (λ y. p (saying_of x) (saying_of y)) ys) xs) (any_said (λ y. p (saying_of x) y) ys)
    ∙ ap (λ b. list_any (λ y. p (saying_of x) y) (map saying_of ys) && b) (all_any_said p xs ys)

-- a date lies between those that are sought, by tests of the attributes
pub lies_in_range : {A : Type 0} (name : List ℕ) (date : ℤ) (sought : List (Attribute A)) (there begun ended : Bool)
    → there ≡ list_any (λ one. is_some (date_under name (saying_of one))) sought
    → begun ≡ list_any (λ one. is_up_to date (date_under name (saying_of one))) sought
    → ended ≡ list_any (λ one. is_from date (date_under name (saying_of one))) sought
    → (if there then (if begun then ended else false) else true) ≡ is_in_range name date (map saying_of sought)
lies_in_range name date sought there begun ended e f g =
    ap (λ a. if a then (if begun then ended else false) else true) (e ∙ any_said (λ one. is_some (date_under name one)) sought)
    ∙ ap (λ b. if list_any (λ one. is_some (date_under name one)) (map saying_of sought) then (if b then ended else false) else true)
    (f ∙ any_said (λ one. is_up_to date (date_under name one)) sought)
    ∙ ap (λ c. if list_any (λ one. is_some (date_under name one)) (map saying_of sought)
    then (if list_any (λ one. is_up_to date (date_under name one)) (map saying_of sought) then c else false) else true)
    (g ∙ any_said (λ one. is_from date (date_under name one)) sought)

-- an object is sought, by tests of the attributes
pub is_as_sought : {A B : Type 0} (sought : List (Attribute A)) (owned : List (Attribute B)) (has timely : Bool)
    → has ≡ list_all (λ one. list_any (λ own. fits (saying_of one) (saying_of own)) owned) sought
    → timely ≡ list_all (λ own. is_timely (map saying_of sought) (saying_of own)) owned
    → (if has then timely else false) ≡ is_sought (map saying_of sought) (map saying_of owned)
is_as_sought sought owned has timely e f =
    ap (λ a. if a then timely else false) (e ∙ all_any_said fits sought owned)
    ∙ ap (λ b. if list_all (λ one. list_any (λ own. fits one own) (map saying_of owned)) (map saying_of sought) then b else false)
    (f ∙ sym (list_all-map (λ own. is_timely (map saying_of sought) own) saying_of owned))

-- what is no date is timely
pub is_undated : {A : Type 0} (value : AttributeValue A) (name : List ℕ) (sought : List Saying) → ((date : DateTime) → value ≡ values.DateTime date → ⊥)
    → true ≡ in_range name (meaning_of value) sought
is_undated (values.DateTime date) name sought never = absurd (never date refl)
is_undated (values.Structure (structures.Name x)) name sought never = refl
is_undated _ name sought never = refl
