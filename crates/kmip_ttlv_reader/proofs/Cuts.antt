-- What `strip_prefix`, `strip_suffix` and `split_once` at a text give.
use Rattle.std.proofs.Common.{◌≡◌, ℕ, zero, suc, ◌-◌, ◌<◌, ◌≤◌, List, [], ◌∷◌, ◌++◌, true, false, Option, Some, None, option_map, MatchOption, Bor, length}
use Rattle.std.proofs.Common.{take, drop, eqb, refl, sym, ap, ◌∙◌, subst, arith}
use Rattle.std.proofs.lemmas.{List.drop_at, Bool.Decides.Decides-eqb, Slice.Eq.starts_is, Str.Pattern.starts_text, Str.Pattern.ends_text}
use Rattle.std.specs.{Str.IsCharBoundary, Str.trim, List.starts_with, List.ends_with}
use Rattle.std.specs.Str.Pattern.{LacksTextAt, FindsText, FindsTextPrefix, FindsTextSuffix, StripsPrefix, StripsSuffix, SplitsAroundMatch}
use Rattle.kmip_ttlv_types.specs.Names.{after_prefix}
use Rattle.kmip_ttlv_reader.specs.Rules.{before_suffix, cut, sides}

-- `strip_prefix`
pub stripped_prefix : (p s : List ℕ) (r : Option (Bor (List ℕ))) → MatchOption r (FindsTextPrefix p s None) (λ x. StripsPrefix (FindsTextPrefix p) s x.now)
    → option_map (λ x. x.now) r ≡ after_prefix p s
stripped_prefix p s None h = let e : false ≡ starts_with eqb s p = starts_text false p s h in rw (← e)
stripped_prefix p s (Some x) (n, found, is, len) =
    let b : IsCharBoundary s n = subst (IsCharBoundary s) (sym found.0) found.2 in
    let e : true ≡ starts_with eqb s p = starts_text true p s (n, found, b) in
    rw (← e) (ap Some (is ∙ ap (λ k. drop k s) found.0))

-- `strip_suffix`
pub stripped_suffix : (p s : List ℕ) (r : Option (Bor (List ℕ))) → MatchOption r (FindsTextSuffix p s None) (λ x. StripsSuffix (FindsTextSuffix p) s x.now)
    → option_map (λ x. x.now) r ≡ before_suffix p s
stripped_suffix p s None h = let e : false ≡ ends_with eqb s p = ends_text false p s h in rw (← e)
stripped_suffix p s (Some x) (n, found, is, len) =
    let b : IsCharBoundary s (length s - n) = subst (λ k. IsCharBoundary s (length s - k)) (sym found.0) found.2 in
    let e : true ≡ ends_with eqb s p = ends_text true p s (n, found, omega arith, b) in
    rw (← e) (ap Some (is ∙ ap (λ k. take (length s - k) s) found.0))

-- a text that doesn't begin with a pattern
absent : (p s : List ℕ) → LacksTextAt p s 0 → after_prefix p s ≡ None
absent p s lacks = let e : false ≡ starts_with eqb s p = starts_text false p s lacks in rw (← e) refl

-- a text that begins with a pattern
present : (p s rest : List ℕ) → s ≡ p ++ rest → after_prefix p s ≡ Some rest
present p s rest is =
    let e : starts_with eqb s p ≡ true = (starts_is Decides-eqb s p _ refl).1 rest is in
    rw e (ap Some (ap (drop (length p)) is ∙ drop_at p rest (length p) refl))

-- a text that has the pattern at no place
cut_nowhere : (p s : List ℕ) → ((i : ℕ) → i ≤ length s → LacksTextAt p s i) → cut p s ≡ None
cut_nowhere p [] lacks = rw (absent p [] (lacks 0 (omega arith))) refl
cut_nowhere p (c ∷ cs) lacks = rw (absent p (c ∷ cs) (lacks 0 (omega arith))) (rw (cut_nowhere p cs (λ i le. lacks (suc i) (omega arith))) refl)

-- a text that has the pattern first at i
cut_at : (p s rest : List ℕ) (i : ℕ) → ((k : ℕ) → k < i → LacksTextAt p s k) → i ≤ length s → drop i s ≡ p ++ rest → cut p s ≡ Some (take i s, rest)
cut_at p [] rest zero lacks le is = rw (present p [] rest is) refl
cut_at p (c ∷ cs) rest zero lacks le is = rw (present p (c ∷ cs) rest is) refl
cut_at p [] rest (suc i) lacks le is = absurd (omega arith)
cut_at p (c ∷ cs) rest (suc i) lacks le is = rw (absent p (c ∷ cs) (lacks 0 (omega arith)))
    (rw (cut_at p cs rest i (λ k lt. lacks (suc k) (omega arith)) (omega arith) is) refl)

-- `split_once`
pub split_once_is : (p s : List ℕ) (r : Option (Bor (List ℕ) × Bor (List ℕ)))
    → MatchOption r (FindsText p s None) (λ x. SplitsAroundMatch (FindsText p) s x.0.now x.1.now) → option_map (λ x. (x.0.now, x.1.now)) r ≡ cut p s
split_once_is p s None h = sym (cut_nowhere p s h)
split_once_is p s (Some x) (i, j, found, front, back, le, front_len, back_len) =
    (λ k. Some (front k, back k)) ∙ sym (cut_at p s (drop j s) i found.0 (omega arith) found.1.split)

-- both sides, trimmed
pub sides_are : (operator body left right : List ℕ) → Some (left, right) ≡ cut operator body → sides operator body ≡ Some (trim left, trim right)
unfolding sides
sides_are operator body left right is = rw (← is) refl
