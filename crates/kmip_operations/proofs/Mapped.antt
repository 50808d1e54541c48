-- What a loop has put together so far, of each element one.
use Rattle.std.proofs.Common.{◌≡◌, ◌+◌, ◌<◌, ℕ, List, [], ◌∷◌, ◌++◌, ap, sym, ◌∙◌, get_or, length, map, suc, take, arith}
use Rattle.std.proofs.Math.Seq.{take-suc}
use Rattle.std.proofs.lemmas.List.{map-append}
use Rattle.std.proofs.lemmas.List.Elements.{filter-append}
use Rattle.std.specs.List.{filter}
use Rattle.kmip_attributes.specs.declared.attribute.Attribute.{Attribute}
use Rattle.kmip_operations.specs.Listing.{saying_of}
use Rattle.kmip_operations.specs.Showing.{is_first, names_of}

-- the elements before one, and that one
take_one : {X : Type 0} (xs : List X) (i : ℕ) (x : X) → i < length xs → x ≡ get_or xs i x → take (i + 1) xs ≡ take i xs ++ x ∷ []
take_one xs i x h e =
    let after : i + 1 ≡ suc i = omega arith in
    ap (λ n. take n xs) after ∙ take-suc xs i x h ∙ ap (λ y. take i xs ++ y ∷ []) (sym e)

-- what was made of elements, and of one more
pub mapped_more : {X Y Z : Type 0} (f : X → Z) (g : Y → Z) (made : List X) (one : X) (xs : List Y) (i : ℕ) (x : Y) → i < length xs → x ≡ get_or xs i x
    → map f made ≡ map g (take i xs) → f one ≡ g x → map f (made ++ one ∷ []) ≡ map g (take (i + 1) xs)
mapped_more f g made one xs i x h e so_far is =
    map-append f made (one ∷ []) ∙ ap (λ l. l ++ f one ∷ []) so_far ∙ ap (λ z. map g (take i xs) ++ z ∷ []) is
    ∙ sym (map-append g (take i xs) (x ∷ [])) ∙ ap (map g) (sym (take_one xs i x h e))

-- the names of attributes, and of one more
pub names_more : {A : Type 0} (xs : List (Attribute A)) (i : ℕ) (x : Attribute A) → i < length xs → x ≡ get_or xs i x
    → names_of (map saying_of (take (i + 1) xs)) ≡ names_of (map saying_of (take i xs)) ++ names_of (saying_of x ∷ [])
names_more xs i x h e =
    ap (λ l. names_of (map saying_of l)) (take_one xs i x h e) ∙ ap names_of (map-append saying_of (take i xs) (x ∷ []))
    ∙ ap (map (λ one. one.name)) (filter-append is_first (map saying_of (take i xs)) (saying_of x ∷ []))
    ∙ map-append (λ one. one.name) (filter is_first (map saying_of (take i xs))) (filter is_first (saying_of x ∷ []))
