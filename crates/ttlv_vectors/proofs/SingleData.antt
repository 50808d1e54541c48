-- The data of the sample types.
use Rattle.std.proofs.Common.{◌≡◌, ℕ, ℤ, List, [], ◌∷◌, refl, ap, sym, ◌∙◌, subst, length, slice_index_or, codes}
use Rattle.kmip_ttlv_base.specs.declared.shape.Data.{Data}
use Rattle.kmip_ttlv.specs.Values.{Value, Values, view, views, i32_value, struct_value, value, no_values}
use Rattle.kmip_ttlv.specs.Gives.{Gives, FirstGives, IsI32, IsEmpty}
use Rattle.ttlv_vectors.specs.Samples.{single_form, read_single}

-- one item of data, a number
pub record IsOne {A : Type 0} (ds : List (Data A)) : Type 0 where
  pub first : Data A
  pub are : ds ≡ first ∷ []
  pub first_is : IsI32 (view first)

one : {A : Type 0} (ds : List (Data A)) → FirstGives IsI32 IsEmpty (views ds) → IsOne ds
one [] h = absurd h
one (x ∷ []) h = record { first = x; are = refl; first_is = h.0 }
one (x ∷ y ∷ ds) h = absurd h.1

-- data is a structure of these fields
abbrev pub HasFields : {A : Type 0} → Data A → List (Data A) → Type 0
HasFields d ds = view d ≡ struct_value (codes "0xAAAAAA") (views ds)

-- the structure that data of the form is has the form's name
pub is_named : {A : Type 0} (d : Data A) (name : List ℕ) (vs : Values) → view d ≡ struct_value name vs → Gives single_form (view d)
    → view d ≡ struct_value (codes "0xAAAAAA") vs
is_named d name vs is given =
    let G : Value → Type 0 = λ w. Gives single_form w in
    is ∙ ap (λ n. struct_value n vs) (subst G is given).0

one_of : {A : Type 0} (d : Data A) (ds : List (Data A)) → HasFields d ds → Gives single_form (view d) → IsOne ds
one_of d ds seen given =
    let G : Value → Type 0 = λ w. Gives single_form w in
    one ds (subst G seen given).1

-- what the form gives has a field
pub is_one : {A : Type 0} (d : Data A) (ds : List (Data A)) → HasFields d ds → Gives single_form (view d) → length ds ≡ 1
is_one d ds seen given = ap length (one_of d ds seen given).are

-- which is a number
pub first_is_number : {A : Type 0} (d : Data A) (ds : List (Data A)) (x : Data A) → HasFields d ds → Gives single_form (view d)
    → x ≡ slice_index_or ds 0 x → IsI32 (view x)
first_is_number d ds x seen given at =
    let t = one_of d ds seen given in
    let P : Data _ → Type 0 = λ y. IsI32 (view y) in
    subst P (sym (at ∙ ap (λ es. slice_index_or es 0 x) t.are)) t.first_is

-- and it is read as this number
pub is_read : {A : Type 0} (d : Data A) (ds : List (Data A)) (x : Data A) (n : ℤ) → HasFields d ds → Gives single_form (view d)
    → x ≡ slice_index_or ds 0 x → view x ≡ i32_value n → view d ≡ read_single n
is_read d ds x n seen given x_at x_is =
    let t = one_of d ds seen given in
    let first = ap view (sym (x_at ∙ ap (λ es. slice_index_or es 0 x) t.are)) ∙ x_is in
    seen ∙ ap (λ es. struct_value (codes "0xAAAAAA") (views es)) t.are ∙ ap (λ w. struct_value (codes "0xAAAAAA") (value w no_values)) first
