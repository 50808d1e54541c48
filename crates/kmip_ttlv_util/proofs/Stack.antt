-- A stack as a list, from its last element to its first.
use Rattle.std.proofs.Common.{◌≡◌, ◌≢◌, ℕ, suc, ◌+◌, ◌-◌, ◌<◌, ◌≤◌, Bool, true, false, List, [], ◌∷◌, ◌++◌, length, take, get_or, Some, None, refl, sym, ap}
use Rattle.std.proofs.Common.{◌∙◌, arith, ◌⊎◌, inl, inr}
use Rattle.std.specs.{Prelude.reverse, List.slice_get}
use Rattle.std.proofs.lemmas.List.{reverse-append, take_more, take_all, length-reverse}
use Rattle.std.proofs.lemmas.Option.{slice_get_within, slice_get-get_or, get_or_from_slice_get}
use Rattle.kmip_ttlv_util.specs.WalkPlaces.{Place, has_end, opened, onward, after}
use Rattle.kmip_ttlv_util.specs.{Walks.Ready, Walks.Closed, Entries.extent}
use Rattle.kmip_ttlv_types.specs.declared.typ.TtlvType.{TtlvType, TheVariants.Structure}
use Rattle.kmip_ttlv_util.proofs.Rest.{place, ready_root, ready_before, ready_loose}

-- an empty stack has no last
last_none : (xs : List ℕ) → slice_get xs (length xs - 1) ≡ None → xs ≡ []
last_none [] e = refl
last_none (x ∷ xs) e =
    let k : slice_get (x ∷ xs) (length (x ∷ xs) - 1) ≡ Some (get_or (x ∷ xs) (length (x ∷ xs) - 1) 0) =
    slice_get-get_or (x ∷ xs) (length (x ∷ xs) - 1) 0 (omega arith) in
    cc

-- the last is the innermost
last_some : (xs : List ℕ) (e : ℕ) → slice_get xs (length xs - 1) ≡ Some e → reverse xs ≡ e ∷ reverse (take (length xs - 1) xs)
last_some xs e is =
    let lt : length xs - 1 < length xs = slice_get_within xs (length xs - 1) e is in
    let one : length xs - 1 + 1 ≡ length xs = omega arith in
    let all : xs ≡ take (length xs - 1) xs ++ (get_or xs (length xs - 1) 0 ∷ []) = sym (take_all (length xs) xs (omega arith))
    ∙ ap (λ (n : ℕ). take n xs) (sym one) ∙ take_more xs (length xs - 1) 0 lt in
    ap reverse all ∙ reverse-append (take (length xs - 1) xs) _ ∙ rw (get_or_from_slice_get xs (length xs - 1) e 0 is) refl

-- an end that is pushed
pub pushed : (xs : List ℕ) (e : ℕ) → reverse (xs ++ (e ∷ [])) ≡ e ∷ reverse xs
pushed xs e = reverse-append xs (e ∷ [])

-- what comes next
pub comes_root : (p : ℕ) (xs : List ℕ) (k : ℕ) (z : Bool) → slice_get xs (length xs - 1) ≡ None → Ready (place p (reverse xs) k z)
comes_root p xs k z e = rw (last_none xs e) (ready_root p k z)

-- an entry follows before the end
pub comes_read : (p e : ℕ) (xs : List ℕ) (k : ℕ) (z : Bool) → slice_get xs (length xs - 1) ≡ Some e → e ≢ p → (z ≡ true) ⊎ (p ≤ e)
    → Ready (place p (reverse xs) k z)
comes_read p e xs k z is ne (inl t) = rw (last_some xs e is, t) (ready_loose p e (reverse (take (length xs - 1) xs)) k ne)
comes_read p e xs k z is ne (inr le) = rw (last_some xs e is) (ready_before p e (reverse (take (length xs - 1) xs)) k z (omega arith))

-- an end is reached
pub comes_close : (p e : ℕ) (xs ys : List ℕ) (k : ℕ) (z : Bool) → slice_get xs (length xs - 1) ≡ Some e → e ≡ p → ys ≡ take (length xs - 1) xs → length ys ≢ 0
    → Closed (place p (reverse xs) k z) (place p (reverse ys) k z)
comes_close p e xs ys k z is same rest some = by (reverse ys) refl
  where
    by : (rs : List ℕ) → reverse ys ≡ rs → Closed (place p (reverse xs) k z) (place p (reverse ys) k z)
    by [] h = absurd (some (sym (length-reverse ys) ∙ ap length h))
    by (r ∷ rs) h = record { next = r; others = rs; ends = last_some xs e is ∙ rw (same, ← rest, h) refl; is = ap (λ (l : List ℕ). place p l k z) h }

-- ---- a step

-- past a leaf
pub step_leaf : (closed : Bool) (s : Place) (t : TtlvType) (n next : ℕ) → Ready s → t ≢ Structure → next ≡ s.pos + extent t n
    → place next s.ends s.endless s.loose ≡ after closed s t n
unfolding after
step_leaf closed s t n next ready ne is = rw ready.left (by t ne is)
  where
    by : (t : TtlvType) → t ≢ Structure → next ≡ s.pos + extent t n → place next s.ends s.endless s.loose ≡ onward closed s.pos s.ends s.endless s.loose t n
    by Structure ne is = absurd (ne refl)
    by typ ne is = ap (λ (q : ℕ). place q s.ends s.endless s.loose) is

-- past the opening of a structure with an end
pub step_opens : (closed : Bool) (s : Place) (t : TtlvType) (n next : ℕ) (ends : List ℕ) → Ready s → t ≡ Structure → next ≡ s.pos + extent t n
    → has_end closed n ≡ true → ends ≡ (next + n) ∷ s.ends → place next ends s.endless s.loose ≡ after closed s t n
unfolding after
step_opens closed s t n next ends ready is to own ends-are =
    let at : next ≡ s.pos + 8 = to ∙ ap (λ (u : TtlvType). s.pos + extent u n) is in
    rw (is, ready.left, own, ends-are, at) refl

-- an empty structure in others stays open as long as the innermost of them
pub step_empty : (closed : Bool) (s : Place) (t : TtlvType) (n next : ℕ) (xs : List ℕ) (e : ℕ) → Ready s → t ≡ Structure → next ≡ s.pos + extent t n
    → has_end closed n ≡ false → s.ends ≡ reverse xs → slice_get xs (length xs - 1) ≡ Some e → place next (reverse (xs ++ (e ∷ []))) s.endless true
    ≡ after closed s t n
unfolding after
step_empty closed s t n next xs e ready is to none ends-are top =
    let at : next ≡ s.pos + 8 = to ∙ ap (λ (u : TtlvType). s.pos + extent u n) is in
    let below = reverse (take (length xs - 1) xs) in
    let old : s.ends ≡ e ∷ below = ends-are ∙ last_some xs e top in
    let new : reverse (xs ++ (e ∷ [])) ≡ e ∷ e ∷ below = pushed xs e ∙ ap (λ (l : List ℕ). e ∷ l) (last_some xs e top) in
    rw (is, ready.left, none, old, new, at) refl

-- one that is in no structure with an end stays open to the end of the input
pub step_endless : (closed : Bool) (s : Place) (t : TtlvType) (n next k : ℕ) (xs : List ℕ) → Ready s → t ≡ Structure → next ≡ s.pos + extent t n
    → has_end closed n ≡ false → s.ends ≡ reverse xs → slice_get xs (length xs - 1) ≡ None → k ≡ s.endless + 1
    → place next (reverse xs) k true ≡ after closed s t n
unfolding after
step_endless closed s t n next k xs ready is to none ends-are top more =
    let at : next ≡ s.pos + 8 = to ∙ ap (λ (u : TtlvType). s.pos + extent u n) is in
    let old : s.ends ≡ [] = ends-are ∙ ap reverse (last_none xs top) in
    let one : k ≡ suc s.endless = omega arith in
    rw (is, ready.left, none, old, last_none xs top, at, one) refl

-- the depth after a step
pub deeper : (closed : Bool) (s : Place) (t : TtlvType) (n : ℕ) → Ready s → (after closed s t n).endless + length (after closed s t n).ends ≤ s.endless
    + length s.ends + 1
unfolding after
deeper closed s t n ready = rw ready.left (by t)
  where
    inside : (b : Bool) (es : List ℕ) → (opened b (s.pos + 8) n es s.endless s.loose).endless + length (opened b (s.pos + 8) n es s.endless s.loose).ends
        ≤ s.endless + length es + 1
    inside true es = omega arith
    inside false [] = omega arith
    inside false (e ∷ es) = omega arith

    by : (t : TtlvType) → (onward closed s.pos s.ends s.endless s.loose t n).endless + length (onward closed s.pos s.ends s.endless s.loose t n).ends
        ≤ s.endless + length s.ends + 1
    by Structure = inside (has_end closed n) s.ends
    by typ = omega arith
