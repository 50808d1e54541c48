-- The data of a pair.
use Rattle.std.proofs.Common.{◌≡◌, ℕ, ℤ, List, [], ◌∷◌, refl, ap, sym, ◌∙◌, subst, length, slice_index_or, codes}
use Rattle.kmip_ttlv_base.specs.declared.shape.Data.{Data}
use Rattle.kmip_ttlv.specs.Values.{Value, Values, view, views, i32_value, struct_value, value, no_values}
use Rattle.kmip_ttlv.specs.Gives.{Gives, FirstGives, IsI32, IsEmpty}
use Rattle.hex_to_txt_run.specs.Pair.{pair_form, read_pair}

-- two items of data, each a number
pub record AreTwo {A : Type 0} (ds : List (Data A)) : Type 0 where
  pub first : Data A
  pub second : Data A
  pub are : ds ≡ first ∷ second ∷ []
  pub first_is : IsI32 (view first)
  pub second_is : IsI32 (view second)

two : {A : Type 0} (ds : List (Data A)) → FirstGives IsI32 (FirstGives IsI32 IsEmpty) (views ds) → AreTwo ds
two [] h = absurd h
two (x ∷ []) h = absurd h.1
two (x ∷ y ∷ []) h = record { first = x; second = y; are = refl; first_is = h.0; second_is = h.1.0 }
two (x ∷ y ∷ z ∷ ds) h = absurd h.1.1

-- data is a structure of these fields
abbrev pub HasFields : {A : Type 0} → Data A → List (Data A) → Type 0
HasFields d ds = view d ≡ struct_value (codes "0xAAAAAA") (views ds)

-- the structure that data of the form is has the form's name
pub is_named : {A : Type 0} (d : Data A) (name : List ℕ) (vs : Values) → view d ≡ struct_value name vs → Gives pair_form (view d)
    → view d ≡ struct_value (codes "0xAAAAAA") vs
is_named d name vs is given =
    let G : Value → Type 0 = λ w. Gives pair_form w in
    is ∙ ap (λ n. struct_value n vs) (subst G is given).0

two_of : {A : Type 0} (d : Data A) (ds : List (Data A)) → HasFields d ds → Gives pair_form (view d) → AreTwo ds
two_of d ds seen given =
    let G : Value → Type 0 = λ w. Gives pair_form w in
    two ds (subst G seen given).1

-- data of the form has two fields
pub are_two : {A : Type 0} (d : Data A) (ds : List (Data A)) → HasFields d ds → Gives pair_form (view d) → length ds ≡ 2
are_two d ds seen given = ap length (two_of d ds seen given).are

-- each of which is a number
pub first_is_number : {A : Type 0} (d : Data A) (ds : List (Data A)) (x : Data A) → HasFields d ds → Gives pair_form (view d)
    → x ≡ slice_index_or ds 0 x → IsI32 (view x)
first_is_number d ds x seen given at =
    let t = two_of d ds seen given in
    let P : Data _ → Type 0 = λ y. IsI32 (view y) in
    subst P (sym (at ∙ ap (λ es. slice_index_or es 0 x) t.are)) t.first_is

pub second_is_number : {A : Type 0} (d : Data A) (ds : List (Data A)) (x : Data A) → HasFields d ds → Gives pair_form (view d)
    → x ≡ slice_index_or ds 1 x → IsI32 (view x)
second_is_number d ds x seen given at =
    let t = two_of d ds seen given in
    let P : Data _ → Type 0 = λ y. IsI32 (view y) in
    subst P (sym (at ∙ ap (λ es. slice_index_or es 1 x) t.are)) t.second_is

-- and the data is the pair of them
pub is_read : {A : Type 0} (d : Data A) (ds : List (Data A)) (x y : Data A) (a b : ℤ) → HasFields d ds → Gives pair_form (view d)
    → x ≡ slice_index_or ds 0 x → y ≡ slice_index_or ds 1 y → view x ≡ i32_value a → view y ≡ i32_value b → view d ≡ read_pair a b
is_read d ds x y a b seen given x_at y_at x_is y_is =
    let t = two_of d ds seen given in
    let first = ap view (sym (x_at ∙ ap (λ es. slice_index_or es 0 x) t.are)) ∙ x_is in
    let second = ap view (sym (y_at ∙ ap (λ es. slice_index_or es 1 y) t.are)) ∙ y_is in
    seen ∙ ap (λ es. struct_value (codes "0xAAAAAA") (views es)) t.are
    ∙ ap (λ w. struct_value (codes "0xAAAAAA") (value w (value (view t.second) no_values))) first
    ∙ ap (λ w. struct_value (codes "0xAAAAAA") (value (i32_value a) (value w no_values))) second
