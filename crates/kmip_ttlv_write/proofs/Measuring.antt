-- Items that are checked one after the other, up to the first that can't be written.
use Rattle.std.proofs.Common.{◌≡◌, ℕ, ◌+◌, ◌≤◌, List, [], ◌∷◌, ◌++◌, take, drop, ap, sym, subst, ◌∙◌}
use Rattle.kmip_ttlv_write.specs.declared.{given.GivenItem.GivenItem, given.BadKind.BadKind, judge.Reach.Reach}
use Rattle.kmip_ttlv_write.specs.FlatWrites.{start, after, after_all, Fits, AllFit, Misfits, IsFirstBad, HasNone}
use Rattle.kmip_ttlv_write.proofs.Fitting.{fit_append, after_append, few_more, not_all}
use Rattle.kmip_ttlv_write.proofs.Completing.{written_fit}

-- an item is the first bad one
pub has_none : {lent : List ℕ} (xs : List GivenItem) (k : ℕ) {n : ℕ} (kind : BadKind) (x : GivenItem) {r : Reach} → n ≡ k → AllFit lent start (take k xs)
    → r ≡ after_all start (take k xs) → drop k xs ≡ x ∷ drop (k + 1) xs → Misfits lent r x kind → HasNone xs lent record { index = n; kind = kind }
has_none {lent} xs k {n} kind x is fit reach at wrong =
    let first : IsFirstBad xs lent record { index = n; kind = kind } = record {
      before = subst (λ (m : ℕ). AllFit lent start (take m xs)) (sym is) fit;
      item = x;
      rest = drop (k + 1) xs;
      there = ap (λ (m : ℕ). drop m xs) is ∙ at;
      wrong = subst (λ (m : ℕ). Misfits lent (after_all start (take m xs)) x kind) (sym is) (subst (λ (s : Reach). Misfits lent s x kind) reach wrong);
    } in
    record { first = first; none = λ out w. not_all lent xs _ first (written_fit xs lent out w) }

module _ {lent : List ℕ} {x : GivenItem} {r s : Reach} (f : Fits lent r x) (is : s ≡ after r x) where
  -- one more fits
  pub fits_more : (xs : List GivenItem) (k : ℕ) → r ≡ after_all start (take k xs) → AllFit lent start (take k xs) → take (k + 1) xs ≡ take k xs ++ x ∷ []
      → AllFit lent start (take (k + 1) xs)
  fits_more xs k reach fit more =
      subst (AllFit lent start) (sym more) (fit_append lent start (take k xs) (x ∷ []) fit (subst (λ (q : Reach). Fits lent q x) reach f, tt))

  pub after_more : (xs : List GivenItem) (k : ℕ) → r ≡ after_all start (take k xs) → take (k + 1) xs ≡ take k xs ++ x ∷ []
      → s ≡ after_all start (take (k + 1) xs)
  after_more xs k reach more =
      is ∙ ap (λ (q : Reach). after q x) reach ∙ sym (after_append start (take k xs) (x ∷ [])) ∙ ap (after_all start) (sym more)

  pub few_then : r.depth ≤ r.size → s.depth ≤ s.size
  few_then few = subst (λ (q : Reach). q.depth ≤ q.size) (sym is) (few_more lent r x f few)
