-- Rows that texts are held in: one more text in the row that takes it, or beside the rows.
use Rattle.std.proofs.Common.{◌≡◌, ℕ, zero, suc, ◌<◌, ◌≤◌, List, [], ◌∷◌, Bool, true, false, cond, length, drop, set, Option, Some, None, option_map, refl, sym}
use Rattle.std.proofs.Common.{ap, ◌∙◌, ◌==◌, rules, arith}
use Rattle.std.specs.{Ordering.nat_cmp, Borrow.Bor, Option.option_copied}
use Rattle.std.specs.BTreeMap.{BTreeMap, get, is_at}
use Rattle.kmip_ttlv_reader.specs.declared.store.{StoredText.StoredText, Row.Row}
use Rattle.kmip_ttlv_reader.specs.StoredTexts.{stored_text_of, row_for, in_rows}
use Rattle.kmip_ttlv_reader.proofs.RuleLemmas.{is_eq-nat_cmp}

-- of two tags the same one is asked for, in either order
swapped : {X : Type 0} (a b q : ℕ) (x y z : X) → (a == b) ≡ false → cond (a == q) x (cond (b == q) y z) ≡ cond (b == q) y (cond (a == q) x z)
swapped a b q x y z other = search rules

-- of two equal tags the first one is asked for
hidden : {X : Type 0} (a b q : ℕ) (x y z : X) → (a == b) ≡ true → cond (b == q) y z ≡ cond (b == q) y (cond (a == q) x z)
hidden a b q x y z same = search rules

-- the row that takes a text holds it, and the others hold what they held
row_taken : (rows : List (Option Row)) (other : Option StoredText) (t q : ℕ) (h : StoredText) → row_for rows t < length rows
    → in_rows (set rows (row_for rows t) (Some record { tag = t; stored_text = h })) other q ≡ cond (t == q) (Some h) (in_rows rows other q)
row_taken [] other t q h l = absurd (omega arith)
row_taken (None ∷ rows) other t q h l = refl
row_taken (Some r ∷ rows) other t q h l = by (row_taken rows other t q h) (r.tag == t) refl l
  where
    by : (row_for rows t < length rows → in_rows (set rows (row_for rows t) (Some record { tag = t; stored_text = h })) other q ≡ cond (t == q) (Some h)
        (in_rows rows other q))
        → (b : Bool) → (r.tag == t) ≡ b → cond b zero (suc (row_for rows t)) < suc (length rows)
        → in_rows (set (Some r ∷ rows) (cond b zero (suc (row_for rows t))) (Some record { tag = t; stored_text = h })) other q ≡ cond (t == q) (Some h)
        (in_rows (Some r ∷ rows) other q)
    by more true e l = hidden r.tag t q (Some r.stored_text) (Some h) (in_rows rows other q) e
    by more false e l = ap (cond (r.tag == q) (Some r.stored_text)) (more (omega arith)) ∙ swapped r.tag t q (Some r.stored_text) (Some h)
        (in_rows rows other q) e

-- where no row takes a text, what is held beside the rows is found
rows_full : (rows : List (Option Row)) (old new : Option StoredText) (t q : ℕ) (h : StoredText) → length rows ≤ row_for rows t
    → new ≡ cond (t == q) (Some h) old → in_rows rows new q ≡ cond (t == q) (Some h) (in_rows rows old q)
rows_full [] old new t q h l e = e
rows_full (None ∷ rows) old new t q h l e = absurd (omega arith)
rows_full (Some r ∷ rows) old new t q h l e = by (λ k. rows_full rows old new t q h k e) (r.tag == t) refl l
  where
    by : (length rows ≤ row_for rows t → in_rows rows new q ≡ cond (t == q) (Some h) (in_rows rows old q))
        → (b : Bool) → (r.tag == t) ≡ b → suc (length rows) ≤ cond b zero (suc (row_for rows t))
        → in_rows (Some r ∷ rows) new q ≡ cond (t == q) (Some h) (in_rows (Some r ∷ rows) old q)
    by more true e2 l = absurd (omega arith)
    by more false e2 l = ap (cond (r.tag == q) (Some r.stored_text)) (more (omega arith)) ∙ swapped r.tag t q (Some r.stored_text) (Some h)
        (in_rows rows old q) e2

-- what a map holds after an insertion, by the tag
pub inserted : (m n : BTreeMap ℕ StoredText) (t : ℕ) (h : StoredText) → ((q : ℕ) → get nat_cmp n q ≡ cond (is_at (nat_cmp t) q) (Some h) (get nat_cmp m q))
    → (q : ℕ) → get nat_cmp n q ≡ cond (t == q) (Some h) (get nat_cmp m q)
inserted m n t h updated q = updated q ∙ ap (λ b. cond b (Some h) (get nat_cmp m q)) (is_eq-nat_cmp t q)

-- what the rows hold, where they hold something
pub found_in : (rows : List (Option Row)) (other : Option StoredText) (t : ℕ) (h : StoredText) → Some h ≡ in_rows rows None t → in_rows rows other t ≡ Some h
found_in [] other t h e = absurd (search rules)
found_in (None ∷ rows) other t h e = found_in rows other t h e
found_in (Some r ∷ rows) other t h e = by (found_in rows other t h) (r.tag == t) e
  where
    by : (Some h ≡ in_rows rows None t → in_rows rows other t ≡ Some h) → (b : Bool) → Some h ≡ cond b (Some r.stored_text) (in_rows rows None t)
        → cond b (Some r.stored_text) (in_rows rows other t) ≡ Some h
    by more true e = sym e
    by more false e = more e

-- where they hold nothing, what is held beside them
pub beside : (rows : List (Option Row)) (other : Option StoredText) (t : ℕ) → None ≡ in_rows rows None t → in_rows rows other t ≡ other
beside [] other t e = refl
beside (None ∷ rows) other t e = beside rows other t e
beside (Some r ∷ rows) other t e = by (beside rows other t) (r.tag == t) e
  where
    by : (None ≡ in_rows rows None t → in_rows rows other t ≡ other) → (b : Bool) → None ≡ cond b (Some r.stored_text) (in_rows rows None t)
        → cond b (Some r.stored_text) (in_rows rows other t) ≡ other
    by more true e = absurd (search rules)
    by more false e = more e

-- what is held, seen through a reference
pub alike : (o : Option (Bor StoredText)) → option_map (λ h. stored_text_of h.now) o ≡ option_map stored_text_of (option_copied o)
alike None = refl
alike (Some h) = refl

-- behind the last row there is nothing
pub nothing_left : (rows : List (Option Row)) (i t : ℕ) → length rows ≤ i → in_rows (drop i rows) None t ≡ None
nothing_left [] zero t l = refl
nothing_left [] (suc i) t l = refl
nothing_left (r ∷ rows) zero t l = absurd (omega arith)
nothing_left (r ∷ rows) (suc i) t l = nothing_left rows i t (omega arith)

-- a row holds one more text
pub taken : (rows new : List (Option Row)) (other : ℕ → Option StoredText) (at tag t : ℕ) (h : StoredText) → at ≡ row_for rows tag → at < length rows
    → new ≡ set rows at (Some record { tag = tag; stored_text = h }) → tag ≡ t → (q : ℕ) → in_rows new (other q) q ≡ cond (t == q) (Some h)
    (in_rows rows (other q) q)
taken rows new other at tag t h first l now same q =
    ap (λ xs. in_rows xs (other q) q) (now ∙ ap (λ i. set rows i (Some record { tag = tag; stored_text = h })) first)
    ∙ row_taken rows (other q) tag q h (rw (← first) l)
    ∙ ap (λ n. cond (n == q) (Some h) (in_rows rows (other q) q)) same

-- beside the rows there is one more text
pub taken_beside : (rows : List (Option Row)) (old new : ℕ → Option StoredText) (tag t : ℕ) (h : StoredText) → length rows ≤ row_for rows tag
    → ((q : ℕ) → new q ≡ cond (tag == q) (Some h) (old q)) → tag ≡ t → (q : ℕ) → in_rows rows (new q) q ≡ cond (t == q) (Some h) (in_rows rows (old q) q)
taken_beside rows old new tag t h full now same q = rows_full rows (old q) (new q) tag q h full (now q)
    ∙ ap (λ n. cond (n == q) (Some h) (in_rows rows (old q) q)) same
