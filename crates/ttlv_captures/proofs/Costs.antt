-- What a search reads in vain.
use Rattle.std.proofs.Common.{◌≡◌, inl, inr, subst, ℕ, zero, suc, ◌+◌, ◌-◌, ◌<◌, ◌≤◌, List, drop, refl, ap, sym, ◌∙◌, arith}
use Rattle.std.proofs.{lemmas.List.drop-drop, Math.Nat.eq-or-lt_of_le}
use Rattle.ttlv_captures.specs.Captures.{NoneHere, NoneBetween, cost, costs}

-- up to an offset, and from there on
pub costs_add : (s : List ℕ) (a b c : ℕ) → c ≡ a + b → costs s c ≡ costs s a + costs (drop a s) b
costs_add s zero b c is = let same : c ≡ b = omega arith in omega (arith, ap (costs s) same)
costs_add s (suc a) b c is =
    let rest = costs_add (drop 1 s) a b (a + b) refl in
    let to : 1 + a ≡ suc a = omega arith in
    let same : drop a (drop 1 s) ≡ drop (suc a) s = drop-drop a 1 s ∙ ap (λ (k : ℕ). drop k s) to in
    let moved = ap (λ (d : List ℕ). costs d b) same in
    let c_is : c ≡ suc (a + b) = omega arith in
    ap (costs s) c_is ∙ omega (arith, rest, moved)

-- at one offset more
pub costs_next : (s : List ℕ) (a : ℕ) → costs s (a + 1) ≡ costs s a + cost (drop a s)
costs_next s a = costs_add s a 1 (a + 1) refl ∙ omega arith

-- no less than at the first
pub costs_first : (s : List ℕ) (k : ℕ) → 0 < k → cost s ≤ costs s k
costs_first s zero lt = absurd (omega arith)
costs_first s (suc k) lt = omega arith

-- one offset more, from another on
pub costs_between : (s : List ℕ) (from at : ℕ) → from ≤ at → costs (drop from s) (at + 1 - from) ≡ costs (drop from s) (at - from) + cost (drop at s)
costs_between s from at le =
    let more : at + 1 - from ≡ (at - from) + 1 = omega arith in
    let place : from + (at - from) ≡ at = omega arith in
    let here : cost (drop (at - from) (drop from s)) ≡ cost (drop at s) =
    ap cost (drop-drop (at - from) from s ∙ ap (λ (k : ℕ). drop k s) place) in
    ap (costs (drop from s)) more ∙ costs_next (drop from s) (at - from) ∙ ap (λ (k : ℕ). costs (drop from s) (at - from) + k) here

-- some offsets more
pub costs_behind : (s : List ℕ) (from at taken : ℕ) → from ≤ at → 0 < taken
    → costs (drop from s) (at - from) + cost (drop at s) ≤ costs (drop from s) (at + taken - from)
costs_behind s from at taken le some =
    let more : at + taken - from ≡ (at - from) + taken = omega arith in
    let place : from + (at - from) ≡ at = omega arith in
    let here : drop (at - from) (drop from s) ≡ drop at s = drop-drop (at - from) from s ∙ ap (λ (k : ℕ). drop k s) place in
    let first = costs_first (drop (at - from) (drop from s)) taken some in
    omega (arith, costs_add (drop from s) (at - from) taken (at + taken - from) more, ap cost here, first)

-- no message begins at one offset more
pub none_more : (s : List ℕ) (from at : ℕ) → NoneBetween s from at → NoneHere (drop at s) → NoneBetween s from (at + 1)
none_more s from at none here k le lt =
    let up : k ≤ at = omega arith in
    elim (eq-or-lt_of_le up) as (λ _. NoneHere (drop k s)) [
      | inl is ↦ subst (λ (d : ℕ). NoneHere (drop d s)) (sym is) here
      | inr before ↦ none k le before
    ]
