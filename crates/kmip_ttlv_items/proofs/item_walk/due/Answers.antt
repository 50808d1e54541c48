use Rattle.std.proofs.Common.{rules, arith, ◌≡◌, ◌∙◌, ℕ, ◌<◌, ◌≤◌, ◌^◌, List, length, Some, sym, subst}
use Rattle.kmip_ttlv_items.specs.Enclosing.{open_ends}
use Rattle.kmip_ttlv_items.specs.ItemWalks.{IsWhole, Meets, CanStand, WalksTo}
use Rattle.kmip_ttlv_items.specs.WalkPlaces.{unreached, innermost, Due, within}
use Rattle.kmip_ttlv_items.proofs.Walks.{first_of, unreached_ne, unreached_met, stands_within, met_walks, ended_inside}
use Rattle.kmip_ttlv_items.proofs.item_walk.due.Goals as goal

-- the ends that are not reached, and the innermost of them
module _ (p : ℕ) {old new : List ℕ} (some : 0 < p) (is : new ≡ unreached p old) {w : List ℕ} where
  stays : (xs : List _) → Meets w p old xs → Meets w p new xs
  stays xs m = subst (λ (s : List ℕ). Meets w p s xs) (sym is) (unreached_met old some m)

  first : {e : ℕ} → Some e ≡ innermost new → CanStand w p old → (p < e) × (p ≤ length w)
  first top stands =
      let there = sym is ∙ (first_of new top).1 in
      let lies = stands_within old some stands there in
      let ne = unreached_ne p old there in
      (omega (arith, lies.0), lies.1)

pub returns-then-offset-eq0-clause-due : goal.returns-then-offset-eq0-clause-due
returns-then-offset-eq0-clause-due g c =
    subst (λ (p : ℕ). Due c.args.bytes.now p (open_ends c.args.ends.now) c.root_due.result) (sym c.if-offset-eq0.true)
    (c.root_due.ensures (open_ends c.args.ends.now))

pub returns-in_default-clause-stays : goal.returns-in_default-clause-stays
returns-in_default-clause-stays g c = stays c.args.offset (omega arith) c.leave.ensures.ends

pub item_at-requires-clause-before : goal.item_at-requires-clause-before
item_at-requires-clause-before g c =
    omega (arith, (first c.args.offset (omega arith) c.leave.ensures.ends c.in-Some.ensures.innermost c.requires).0)

pub item_at-requires-clause-within : goal.item_at-requires-clause-within
item_at-requires-clause-within g c = (first c.args.offset (omega arith) c.leave.ensures.ends c.in-Some.ensures.innermost c.requires).1

pub returns-in-Ok-clause-stays : goal.returns-in-Ok-clause-stays
returns-in-Ok-clause-stays g c = stays c.args.offset (omega arith) c.leave.ensures.ends

pub returns-in-Ok-clause-due : goal.returns-in-Ok-clause-due
returns-in-Ok-clause-due g c =
    let lies = first c.args.offset (omega arith) c.leave.ensures.ends c.in-Some.ensures.innermost c.requires in
    let at = first_of (open_ends c.leave.new.self) c.in-Some.ensures.innermost in
    let top : c.in-Some.end < 2 ^ 64 = search rules in
    within c.in-Some.end at.0 at.1 (omega arith) lies.0 top
    (subst (λ (d : ℕ). IsWhole c.args.bytes.now c.args.offset c.in-Some.end d c.in-Ok.item) c.depth.ensures c.in-Ok.ensures.ok)

pub returns-in-Err-clause-stays : goal.returns-in-Err-clause-stays
returns-in-Err-clause-stays g c = stays c.args.offset (omega arith) c.leave.ensures.ends

pub returns-in-Err-clause-due : goal.returns-in-Err-clause-due
returns-in-Err-clause-due g c =
    let lies = first c.args.offset (omega arith) c.leave.ensures.ends c.in-Some.ensures.innermost c.requires in
    let at = first_of (open_ends c.leave.new.self) c.in-Some.ensures.innermost in
    λ xs m. ended_inside c.in-Err.kind (subst (λ (s : List ℕ). WalksTo c.args.bytes.now c.args.offset s xs) at.1 (met_walks (omega arith) m)) lies.0
    c.in-Err.ensures.err
