-- The names of open elements, the innermost first, as they lie in memory, the innermost last.
use Rattle.std.proofs.Common.{◌≡◌, ℕ, Bool, true, false, not, ◌&&◌, eqb, suc, inl, inr, arith, List, [], ◌∷◌, ◌++◌, length, map, reverse, refl, sym, ap}
use Rattle.std.proofs.Common.{◌∙◌}
use Rattle.std.specs.Prelude.{String, string_bytes}
use Rattle.std.proofs.lemmas.List.{reverse-append, length-reverse, length-map, map_push}
use Rattle.std.proofs.lemmas.Bool.{eqb-true}
use Rattle.plain_xml.specs.declared.element.Element.{Element}
use Rattle.plain_xml.specs.Elements.{Flat, element_view}
use Rattle.plain_xml.specs.Documents.{is_closed, has_ended}
use Rattle.plain_xml.proofs.Tools.{cases_bool}

abbrev pub names_of : {Z : Type 0} → List (String Z) → List (List ℕ)
names_of xs = reverse (map string_bytes xs)

pub names-push : {Z : Type 0} (xs : List (String Z)) (x : String Z) → reverse (map string_bytes (xs ++ x ∷ [])) ≡ string_bytes x ∷ reverse (map string_bytes xs)
names-push xs x = ap reverse (map_push string_bytes xs x) ∙ reverse-append (map string_bytes xs) (string_bytes x ∷ [])

pub length-names : {Z : Type 0} (xs : List (String Z)) → length (reverse (map string_bytes xs)) ≡ length xs
length-names xs = length-reverse (map string_bytes xs) ∙ length-map xs string_bytes

suc_not_zero : (n : ℕ) → eqb (suc n) 0 ≡ false
suc_not_zero n = elim (cases_bool (eqb (suc n) 0)) [ inl e ↦ absurd (omega (arith, eqb-true _ _ e)) | inr e ↦ e ]

closed_len : (ns : List (List ℕ)) (fs : List Flat) → is_closed ns fs ≡ has_ended (length ns) (length fs)
closed_len [] [] = refl
closed_len [] (f ∷ fs) = sym (ap (λ (b : Bool). true && not b) (suc_not_zero (length fs)))
closed_len (n ∷ ns) fs = sym (ap (λ (b : Bool). b && not (eqb (length fs) 0)) (suc_not_zero (length ns)))

-- whether the root has ended, by how many names and elements there are
pub closed_by_len : {Z : Type 0} (xs : List (String Z)) (es : List (Element Z))
    → is_closed (reverse (map string_bytes xs)) (map element_view es) ≡ has_ended (length xs) (length es)
closed_by_len xs es =
    closed_len (reverse (map string_bytes xs)) (map element_view es)
    ∙ ap (λ (n : ℕ). has_ended n (length (map element_view es))) (length-names xs)
    ∙ ap (λ (n : ℕ). has_ended (length xs) n) (length-map es element_view)

pub elements-push : {Z : Type 0} (es : List (Element Z)) (e : Element Z) → map element_view (es ++ e ∷ []) ≡ map element_view es ++ element_view e ∷ []
elements-push es e = map_push element_view es e

pub ruleset names = (names-push, length-names)

pub ruleset elements = elements-push
