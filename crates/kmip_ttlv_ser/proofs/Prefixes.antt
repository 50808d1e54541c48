-- What is left after prefixes, and the number that it is.
use Rattle.std.proofs.Common.{◌≡◌, ℕ, ◌<◌, ◌++◌, List, [], ◌∷◌, Bool, true, false, ◌&&◌, Option, Some, None, option_map, MatchOption, Bor, take, drop, length}
use Rattle.std.proofs.Common.{get_or, eqb, ◌==◌, if◌then◌else◌, codes, refl, sym, ap, ◌∙◌, subst, arith, append-nil, true≢false}
use Rattle.std.proofs.{Math.Logic.⊎_elim, lemmas.Str.Pattern.starts_text, lemmas.Bool.cases_Bool, lemmas.Bool.ne_eqb, lemmas.Bool.Decides.Decides-eqb}
use Rattle.std.proofs.{Math.ListN.get_or-append, lemmas.Slice.Eq.starts_is, lemmas.Slice.Eq.bytes_eq-Decides, lemmas.Str.Parse.without_leading_plus_none}
use Rattle.std.specs.{Char.digit_value, Str.bytes_eq, Str.IsCharBoundary, Str.Parse.AllDigits, Str.Parse.without_leading_plus, Str.Pattern.FindsTextPrefix}
use Rattle.std.specs.{Str.Pattern.StripsPrefix, List.starts_with}
use Rattle.std.proofs.lemmas.List.{take-append-drop, drop_all, take_all}
use Rattle.kmip_ttlv_types.specs.Names.{after_prefix, without_0x, numeral, number}

pub stripped : (p s : List ℕ) (r : Option (Bor (List ℕ))) → MatchOption r (FindsTextPrefix p s None) (λ x. StripsPrefix (FindsTextPrefix p) s x.now)
    → option_map (λ x. x.now) r ≡ after_prefix p s
stripped p s None h = let e : false ≡ starts_with eqb s p = starts_text false p s h in rw (← e)
stripped p s (Some x) (n, found, is, len) =
    let b : IsCharBoundary s n = subst (IsCharBoundary s) (sym found.0) found.2 in
    let e : true ≡ starts_with eqb s p = starts_text true p s (n, found, b) in
    rw (← e) (ap Some (is ∙ ap (λ k. drop k s) found.0))

-- ---- bytes compared one by one

pub begun : (p s : List ℕ) → take (length p) s ≡ p → true ≡ starts_with eqb s p
begun p s is =
    sym ((starts_is Decides-eqb s p _ refl).1 (drop (length p) s) (sym (take-append-drop (length p) s) ∙ ap (λ xs. xs ++ drop (length p) s) is))

not_begun : (p s : List ℕ) → (s ≡ p ++ drop (length p) s → ⊥) → false ≡ starts_with eqb s p
not_begun p s never = ⊎_elim (λ e. absurd (never ((starts_is Decides-eqb s p _ refl).0 e))) (λ e. sym e) (cases_Bool (starts_with eqb s p))

pub differs_at : (p s : List ℕ) (i : ℕ) → i < length p → (get_or s i 0 ≡ get_or p i 0 → ⊥) → false ≡ starts_with eqb s p
differs_at p s i within other =
    not_begun p s (λ e. other (ap (λ xs. get_or xs i 0) e ∙ get_or-append p (drop (length p) s) 0 i within))

pub lacks_prefix : (p s : List ℕ) → false ≡ starts_with eqb s p → None ≡ after_prefix p s
lacks_prefix p s e = rw (← e) refl

pub has_prefix : (p s rest : List ℕ) → true ≡ starts_with eqb s p → rest ≡ drop (length p) s → Some rest ≡ after_prefix p s
has_prefix p s rest e is = rw (← e) (ap Some is)

-- bytes that are as long as their prefix
pub whole_prefix : (b : Bool) (p s : List ℕ) → b ≡ starts_with eqb s p → length s ≡ length p → b ≡ bytes_eq s p
whole_prefix true p s e same =
    let parts : s ≡ p ++ drop (length p) s = (starts_is Decides-eqb s p _ refl).0 (sym e) in
    let none : drop (length p) s ≡ [] = drop_all (length p) s (omega (arith, same)) in
    sym ((bytes_eq-Decides s p).1 (parts ∙ ap (λ xs. p ++ xs) none ∙ append-nil p))
whole_prefix false p s e same =
    let never : s ≡ p → ⊥ = λ is. true≢false (begun p s (ap (λ xs. take (length xs) s) (sym is) ∙ take_all (length s) s (omega arith) ∙ is) ∙ sym e) in
    ⊎_elim (λ t. absurd (never ((bytes_eq-Decides s p).0 t))) (λ f. sym f) (cases_Bool (bytes_eq s p))

-- ---- digits

and_false : (b : Bool) → b && false ≡ false
and_false true = refl
and_false false = refl

no_x : (b : ℕ) → digit_value b < 16 → b ≡ 120 → ⊥
no_x b small is = omega (arith, small, ap digit_value is)

no_plus : (ds : List ℕ) → AllDigits 16 ds → get_or ds 0 0 ≡ 43 → ⊥
no_plus [] each is = omega (arith, is)
no_plus (c ∷ cs) each is = omega (arith, each.0, ap digit_value is)

plain : (ds : List ℕ) → AllDigits 16 ds → without_0x ds ≡ ds
plain [] each = refl
plain (a ∷ []) each = refl
plain (a ∷ b ∷ rest) each =
    let other : ((a == 48) && (b == 120)) ≡ false = ap (λ t. (a == 48) && t) (ne_eqb b 120 (no_x b each.1.0)) ∙ and_false (a == 48) in
    ap (λ t. if t then without_0x rest else a ∷ b ∷ rest) other

-- digits alone are their number
pub digits_number : (ds : List ℕ) (o : Option ℕ) → AllDigits 16 ds → o ≡ numeral ds → o ≡ number ds
unfolding number
digits_number ds o each is =
    is ∙ sym (ap numeral (ap without_leading_plus (plain ds each) ∙ without_leading_plus_none ds (no_plus ds each)))

-- and so they are after `0x`
pub prefixed_number : (s ds : List ℕ) (o : Option ℕ) → true ≡ starts_with eqb s (codes "0x") → ds ≡ drop 2 s → AllDigits 16 ds → o ≡ numeral ds → o ≡ number s
unfolding number
prefixed_number s ds o begins rest each is =
    let parts : s ≡ codes "0x" ++ drop 2 s = (starts_is Decides-eqb s (codes "0x") _ refl).0 (sym begins) in
    digits_number ds o each is ∙ ap number rest ∙ sym (ap number parts)
