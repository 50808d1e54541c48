-- What is known of every walk: where it is; that a message's items are those that it met and those that are
-- left; and so how it ends.
use Rattle.std.proofs.Common.{◌≡◌, ◌≢◌, ℕ, ◌+◌, ◌-◌, ◌*◌, ◌^◌, ◌<◌, ◌≤◌, Bool, true, false, List, [], ◌∷◌, ◌++◌, length, get_or, Some, None, ap, sym, refl}
use Rattle.std.proofs.Common.{subst, ◌∙◌, arith, length-append, append-nil, append_assoc, ◌==◌, if◌then◌else◌}
use Rattle.std.proofs.{lemmas.Bool.eqb-true, lemmas.Bool.eqb-false, Math.Bridge.le_prop, Math.Logic.∥∥₁_elim, Math.Logic.∥∥₁_map}
use Rattle.kmip_ttlv_types.specs.declared.typ.TtlvType.{TtlvType, TheVariants.Structure}
use Rattle.kmip_ttlv_types.specs.Places.{tag_at, length_at, size}
use Rattle.kmip_ttlv_items.specs.declared.found.{FoundItem.FoundItem, FaultKind.FaultKind, FaultKind.TheVariants.Surplus}
use Rattle.kmip_ttlv_items.specs.FoundItems.{Lists}
use Rattle.kmip_ttlv_items.specs.ItemWalks.{content_at, own_size, IsWhole, Misfits, RootMisfits, WalksTo, enters_root, enters, passes, leaves, at_root, inside}
use Rattle.kmip_ttlv_items.specs.ItemWalks.{behind, Meets, at_first, on_the_way, CanStand, Ended}
use Rattle.kmip_ttlv_items.specs.WalkPlaces.{unreached, innermost, Continues, into_structure, past_leaf, IsDue, root, within, IsLeafTo, PassesLeaves}
use Rattle.kmip_ttlv_items.proofs.Spans.{size_least, size_structure, own_least, own_leaf, leaf_not}
use Rattle.kmip_ttlv_items.proofs.Lefts.{Goes, out_to, out_from, past_to, past_from, into_to, into_from, misfit, root_facts, root_misfit, root_to, root_from}
use Rattle.kmip_ttlv_items.proofs.Steps.{IsNested, nested_within}

-- ends are nested; each item took at least eight bytes; and no item of a message is left out
pub record Walked (w : List ℕ) (p : ℕ) (es : List ℕ) (xs : List FoundItem) : Type 0 where
  pub nested : IsNested w p es
  pub here : p ≤ length w
  pub eighths : 8 * length xs ≤ p
  pub far : 8 ≤ p
  pub to : (all : List FoundItem) → Lists w all → Goes w p es xs all

pub walked : (w : List ℕ) (p : ℕ) (es : List ℕ) (xs : List FoundItem) → WalksTo w p es xs → Walked w p es xs
walked w _ _ _ (enters_root q e i whole is at end) = record {
  nested = (omega (arith, size_least i.typ i.length), end ∙ ap (λ (t : TtlvType). size t i.length) is ∙ ap (size Structure) whole.len ∙ omega arith);
  here = omega (arith, whole.there, own_least i.typ i.length);
  eighths = omega arith;
  far = omega arith;
  to = λ all l. root_to whole is at end all l;
}
walked w _ _ _ (enters p q e f es xs i walks whole is at end) =
    let h = walked w p (e ∷ es) xs walks in
    let lt : p < e = omega (arith, whole.fits, size_least i.typ i.length) in
    record {
      here = omega (arith, whole.there, own_least i.typ i.length);
      nested = (omega (arith, size_least i.typ i.length), (omega (arith, whole.fits), h.nested.1));
      eighths = omega (arith, h.eighths, length-append xs (i ∷ []));
      far = omega (arith, h.far);
      to = λ all l. into_to lt (omega (arith, nested_within w e es h.nested.1, (root_facts l).1)) whole is at end (h.to all l);
    }
walked w _ _ _ (passes p q e es xs i walks whole ne at) =
    let h = walked w p (e ∷ es) xs walks in
    let lt : p < e = omega (arith, whole.fits, size_least i.typ i.length) in
    record {
      here = omega (arith, whole.there, own_leaf i.typ i.length ne);
      nested = (omega (arith, whole.fits), h.nested.1);
      eighths = omega (arith, h.eighths, length-append xs (i ∷ []), size_least i.typ i.length);
      far = omega (arith, h.far);
      to = λ all l. past_to lt (omega (arith, nested_within w e es h.nested.1, (root_facts l).1)) whole ne at (h.to all l);
    }
walked w _ _ _ (leaves p e es xs walks at) =
    let h = walked w p (e ∷ es) xs walks in
    let nested = subst (λ (q : ℕ). IsNested w q es) (sym at) h.nested.1 in
    record { here = h.here; nested = nested; eighths = h.eighths; far = h.far; to = λ all l. out_to at (omega (arith, h.here, at)) (h.to all l) }

module _ (w : List ℕ) (plain : (k : ℕ) → get_or w k 0 < 256) where
  -- if the root ends where the bytes do, and what is left is the rest of a message, the whole is a message
  pub walked_from : {p : ℕ} {es : List ℕ} {xs all : List FoundItem} → length w ≡ 8 + length_at w 0 → WalksTo w p es xs → Goes w p es xs all → Lists w all
  walked_from exact (enters_root q e i whole is at end) g = root_from whole is at end plain g
  walked_from exact (enters p q e f es xs i walks whole is at end) g =
      let h = walked w p (e ∷ es) xs walks in
      let lt : p < e = omega (arith, whole.fits, size_least i.typ i.length) in
      walked_from exact walks (into_from lt (omega (arith, exact, nested_within w e es h.nested.1)) plain whole is at end g)
  walked_from exact (passes p q e es xs i walks whole ne at) g =
      let h = walked w p (e ∷ es) xs walks in
      let lt : p < e = omega (arith, whole.fits, size_least i.typ i.length) in
      walked_from exact walks (past_from lt (omega (arith, exact, nested_within w e es h.nested.1)) plain whole ne at g)
  walked_from exact (leaves p e es xs walks at) g = walked_from exact walks (out_from at g)

  -- all items of a message were met
  pub ended_whole : (p : ℕ) (xs : List FoundItem) → WalksTo w p [] xs → length w ≤ p → Ended w xs None
  ended_whole p xs walks le =
      let h = walked w p [] xs walks in
      let end : p ≡ length w = omega (arith, h.here) in
      walked_from (sym end ∙ h.nested) walks record { rest = []; left = (end, refl); are = sym (append-nil xs) }

-- an item that is whole is whole before its own end
whole_anywhere : {w : List ℕ} {p e depth : ℕ} {i : FoundItem} → IsWhole w p e depth i → IsWhole w i.offset (i.offset + size i.typ i.length) i.depth i
whole_anywhere h =
    let k = rw (sym h.offset) at h in
    record { offset = refl; deep = refl; tag = k.tag; typ = k.typ; len = k.len; fits = omega arith; there = k.there; valid = k.valid }

-- the first of some ends
pub first_of : (es : List ℕ) {e : ℕ} → Some e ≡ innermost es → (fs : List ℕ) × (es ≡ e ∷ fs)
first_of [] is = absurd cc
first_of (x ∷ es) {e} is = let k : x ≡ e = cc in (es, ap (λ (y : ℕ). y ∷ es) k)

-- the first end that is not reached is not at this offset
pub unreached_ne : (p : ℕ) (es : List ℕ) {e : ℕ} {fs : List ℕ} → unreached p es ≡ e ∷ fs → p ≢ e
unreached_ne p [] is = absurd cc
unreached_ne p (x ∷ es) {e} {fs} is = by (λ h. unreached_ne p es h) (x == p) refl is
  where
    by : (unreached p es ≡ e ∷ fs → p ≢ e) → (b : Bool) → (x == p) ≡ b → (if b then unreached p es else x ∷ es) ≡ e ∷ fs → p ≢ e
    by further true eq h = further h
    by further false eq h = let k : x ≡ e = cc in λ same. eqb-false x p eq (k ∙ sym same)

-- no item was met
pub ended_at_root : (w : List ℕ) (kind : FaultKind) → RootMisfits w kind → Ended w [] (Some record { offset = 0; kind = kind })
ended_at_root w kind wrong = (at_root refl refl wrong, λ all. root_misfit w all kind wrong)

-- a walk may leave the structures whose ends are reached
pub unreached_walks : {w : List ℕ} {p : ℕ} (es : List ℕ) {xs : List FoundItem} → WalksTo w p es xs → WalksTo w p (unreached p es) xs
unreached_walks [] h = h
unreached_walks {w} {p} (e ∷ es) {xs} h = by (λ walks. unreached_walks es walks) (e == p) refl
  where
    by : (WalksTo w p es xs → WalksTo w p (unreached p es) xs) → (b : Bool) → (e == p) ≡ b → WalksTo w p (if b then unreached p es else e ∷ es) xs
    by further true is = further (leaves p e es xs h (sym (eqb-true e p is)))
    by further false is = h

module _ {w : List ℕ} {p : ℕ} where
  -- an item is not whole
  pub ended_inside : {e : ℕ} {es : List ℕ} {xs : List FoundItem} (kind : FaultKind) → WalksTo w p (e ∷ es) xs → p < e → Misfits w p e kind
      → Ended w xs (Some record { offset = p; kind = kind })
  ended_inside {e} {es} {xs} kind walks lt wrong =
      let h = walked w p (e ∷ es) xs walks in
      (inside e es walks lt wrong, λ all l. misfit lt (omega (arith, nested_within w e es h.nested.1, (root_facts l).1)) kind wrong (h.to all l))

  -- more bytes follow the root
  pub ended_behind : {xs : List FoundItem} → WalksTo w p [] xs → p < length w → Ended w xs (Some record { offset = p; kind = Surplus })
  ended_behind {xs} walks lt = (behind walks lt refl, λ all l. omega (arith, ((walked w p [] xs walks).to all l).left.0))

  -- a walk past offset 0 has met an item
  pub met_walks : {es : List ℕ} {xs : List FoundItem} → 0 < p → Meets w p es xs → WalksTo w p es xs
  met_walks lt (at_first first _ _) = absurd (omega arith)
  met_walks lt (on_the_way walks) = walks

  pub met_none : {es : List ℕ} {xs : List FoundItem} → p ≡ 0 → Meets w p es xs → (es ≡ []) × (xs ≡ [])
  met_none zero (at_first _ none empty) = (none, empty)
  met_none {es} {xs} zero (on_the_way walks) = absurd (omega (arith, (walked w p es xs walks).far))

  -- each item that was met took at least eight bytes
  pub met_few : {es : List ℕ} {xs : List FoundItem} → Meets w p es xs → 8 * length xs ≤ length w
  met_few (at_first _ _ none) = omega (arith, ap length none)
  met_few {es} {xs} (on_the_way walks) = let h = walked w p es xs walks in omega (arith, h.eighths, h.here)

  -- the offset is at most the innermost end that is not reached, and at most the number of bytes
  pub stands_within : (es : List ℕ) {e : ℕ} {fs : List ℕ} → 0 < p → CanStand w p es → unreached p es ≡ e ∷ fs → (p ≤ e) × (p ≤ length w)
  stands_within es {e} {fs} lt stands is = ∥∥₁_elim stands (hlevel le_prop) by
    where
      by : ((xs : List FoundItem) × Meets w p es xs) → (p ≤ e) × (p ≤ length w)
      by (xs, m) =
          let h = walked w p (e ∷ fs) xs (subst (λ (s : List ℕ). WalksTo w p s xs) is (unreached_walks es (met_walks lt m))) in
          (h.nested.0, h.here)

  -- so it may, wherever a walk can be
  pub unreached_met : (es : List ℕ) {xs : List FoundItem} → 0 < p → Meets w p es xs → Meets w p (unreached p es) xs
  unreached_met es lt m = on_the_way (unreached_walks es (met_walks lt m))

  -- a walk in a structure is in front of its end
  pub stands_before : {e : ℕ} {es fs : List ℕ} → fs ≡ e ∷ es → CanStand w p fs → (p ≤ e) × (p ≤ length w)
  stands_before {e} {es} {fs} is stands = ∥∥₁_elim stands (hlevel le_prop) by
    where
      by : ((xs : List FoundItem) × Meets w p fs xs) → (p ≤ e) × (p ≤ length w)
      by (xs, at_first _ none _) = let k : e ∷ es ≡ [] = sym is ∙ none in absurd cc
      by (xs, on_the_way walks) = let h = walked w p (e ∷ es) xs (subst (λ (s : List ℕ). WalksTo w p s xs) is walks) in (h.nested.0, h.here)

  pub stands_still : {es fs : List ℕ} → ((xs : List FoundItem) → Meets w p es xs → Meets w p fs xs) → CanStand w p es → CanStand w p fs
  stands_still stays stands = ∥∥₁_map stands (λ (xs, m). (xs, stays xs m))

module _ {w : List ℕ} {p : ℕ} {es : List ℕ} {i : FoundItem} where
  -- the next item is whole before its own end
  pub due_whole : IsDue w p es i → IsWhole w i.offset (i.offset + size i.typ i.length) i.depth i
  due_whole (root first whole node small) = whole_anywhere whole
  due_whole (within e gs is some lt top whole) = whole_anywhere whole

  -- its offset is that of the walk
  due_at : IsDue w p es i → (i.offset ≡ p) × (p + own_size i.typ i.length ≤ length w)
  due_at (root first whole node small) = (omega (arith, whole.offset, first), omega (arith, whole.there, first))
  due_at (within e gs is some lt top whole) = (whole.offset, whole.there)

  -- and its end is below 2^64
  pub due_small : IsDue w p es i → i.offset + size i.typ i.length < 2 ^ 64
  due_small (root first whole node small) = omega (arith, whole.offset, size_structure i.typ i.length node, small)
  due_small (within e gs is some lt top whole) = omega (arith, whole.offset, whole.fits, top)

  -- and the walk gets further
  pub due_onward : {q : ℕ} {fs : List ℕ} → IsDue w p es i → Continues i es q fs → length w - q < length w - p
  due_onward due (into_structure node at ends) = let d = due_at due in omega (arith, at, d.0, d.1, own_least i.typ i.length)
  due_onward due (past_leaf leaf at same) =
      let d = due_at due in
      omega (arith, at, d.0, d.1, own_leaf i.typ i.length leaf, size_least i.typ i.length)

  -- the next item is met, and the walk moves on
  pub met_more : {q : ℕ} {fs : List ℕ} {xs : List FoundItem} → IsDue w p es i → Continues i es q fs → Meets w p es xs → Meets w q fs (xs ++ (i ∷ []))
  met_more {xs = xs} (root first whole node small) (past_leaf leaf _ _) m = absurd (leaf node)
  met_more {q} {fs} {xs} (root first whole node small) (into_structure _ at ends) m =
      let met = met_none first m in
      let end = i.offset + size i.typ i.length in
      let end-is : end ≡ size i.typ i.length = omega (arith, whole.offset) in
      let whole' : IsWhole w 0 end 0 i = subst (λ (e : ℕ). IsWhole w 0 e 0 i) (sym end-is) whole in
      let walks : WalksTo w q (end ∷ []) (i ∷ []) = enters_root q end i whole' node (omega (arith, at, whole.offset)) end-is in
      let is : fs ≡ end ∷ [] = ends ∙ ap (λ (s : List ℕ). end ∷ s) met.0 in
      on_the_way (rw (is, met.1) walks)
  met_more {q} {fs} {xs} (within e gs is some lt top whole) goes m = by goes
    where
      walks : WalksTo w p (e ∷ gs) xs
      walks = subst (λ (s : List ℕ). WalksTo w p s xs) is (met_walks some m)

      whole' : IsWhole w p e (length (e ∷ gs)) i
      whole' = subst (λ (s : List ℕ). IsWhole w p e (length s) i) is whole

      by : Continues i es q fs → Meets w q fs (xs ++ (i ∷ []))
      by (past_leaf leaf at same) =
          let end : q ≡ p + size i.typ i.length = at ∙ ap (λ (n : ℕ). n + size i.typ i.length) whole.offset in
          on_the_way (subst (λ (s : List ℕ). WalksTo w q s (xs ++ (i ∷ []))) (sym (same ∙ is)) (passes p q e gs xs i walks whole' leaf end))
      by (into_structure node at ends) =
          let end = i.offset + size i.typ i.length in
          let ends-are : fs ≡ end ∷ e ∷ gs = ends ∙ ap (λ (s : List ℕ). end ∷ s) is in
          let there : q ≡ p + 8 = at ∙ ap (λ (n : ℕ). n + 8) whole.offset in
          let ended : end ≡ p + size i.typ i.length = ap (λ (n : ℕ). n + size i.typ i.length) whole.offset in
          on_the_way (subst (λ (s : List ℕ). WalksTo w q s (xs ++ (i ∷ []))) (sym ends-are) (enters p q e end gs xs i walks whole' node there ended))

  pub stands_on : {q : ℕ} {fs : List ℕ} → IsDue w p es i → Continues i es q fs → CanStand w p es → CanStand w q fs
  stands_on due goes stands = ∥∥₁_map stands (λ (xs, m). (xs ++ (i ∷ []), met_more due goes m))

-- a leaf is passed
passed_leaf : {w : List ℕ} {p stop q : ℕ} (e : ℕ) → stop ≤ e → stop ≤ length w → IsLeafTo w p stop q → (es : List ℕ) (xs : List FoundItem)
    → WalksTo w p (e ∷ es) xs → (i : FoundItem) × WalksTo w q (e ∷ es) (xs ++ (i ∷ []))
passed_leaf {w} {p} {q = q} e short there leaf es xs walks =
    let i : FoundItem = record { offset = p; depth = length (e ∷ es); tag = tag_at w p; typ = leaf.typ; length = length_at w p } in
    let ne : leaf.typ ≢ Structure = leaf_not leaf.typ (content_at w p) leaf.valid in
    let fits : p + size leaf.typ (length_at w p) ≤ e = omega (arith, leaf.end, leaf.fits, short) in
    let here : p + own_size leaf.typ (length_at w p) ≤ length w = omega (arith, leaf.end, leaf.fits, there, own_leaf leaf.typ (length_at w p) ne) in
    let whole : IsWhole w p e (length (e ∷ es)) i =
    record { offset = refl; deep = refl; tag = refl; typ = leaf.code; len = refl; fits = fits; there = here; valid = λ _. leaf.valid } in
    (i, passes p q e es xs i walks whole ne leaf.end)

pub passed_none : (w : List ℕ) (p e : ℕ) → PassesLeaves w e p p
passed_none w p e = record { onward = omega arith; walks = λ es xs walks. ([], subst (WalksTo w p (e ∷ es)) (sym (append-nil xs)) walks) }

-- one more leaf is passed
pub passed_more : {w : List ℕ} {p e stop q r : ℕ} → stop ≤ e → stop ≤ length w → PassesLeaves w e p q → IsLeafTo w q stop r → PassesLeaves w e p r
passed_more {w} {e = e} {r = r} short there passed leaf = record {
  onward = omega (arith, passed.onward, leaf.end);
  walks = λ es xs walks.
      let h = passed.walks es xs walks in
      let k = passed_leaf e short there leaf es (xs ++ h.0) h.1 in
      (h.0 ++ (k.0 ∷ []), subst (WalksTo w r (e ∷ es)) (append_assoc xs h.0 (k.0 ∷ [])) k.1);
}

-- so a walk that is in this structure passes them
pub met_passed : {w : List ℕ} {p q e : ℕ} {es fs : List ℕ} {xs : List FoundItem} → fs ≡ e ∷ es → PassesLeaves w e p q → Meets w p fs xs
    → (more : List FoundItem) × Meets w q fs (xs ++ more)
met_passed {e = e} {es} is passed (at_first _ none _) = let k : e ∷ es ≡ [] = sym is ∙ none in absurd cc
met_passed {w} {p} {q} {es = es} {xs = xs} is passed (on_the_way walks) =
    let h = passed.walks es xs (subst (λ (s : List ℕ). WalksTo w p s xs) is walks) in
    (h.0, on_the_way (subst (λ (s : List ℕ). WalksTo w q s (xs ++ h.0)) (sym is) h.1))

pub stands_passed : {w : List ℕ} {p q e : ℕ} {es fs : List ℕ} → fs ≡ e ∷ es → PassesLeaves w e p q → CanStand w p fs → CanStand w q fs
stands_passed is passed stands = ∥∥₁_map stands (λ (xs, m). let h = met_passed is passed m in (xs ++ h.0, h.1))
