use Rattle.std.proofs.Common.{◌≡◌, ◌-◌, ◌+◌, suc, refl, length, arith}
use Rattle.std.proofs.lemmas.{Result.err_from_is_err_and, Bool.lt-ltb, Bool.le-ltb}
use Rattle.kmip_ttlv_types.specs.{Digits.tag_text, Places.tag_at}
use Rattle.kmip_ttlv_base.specs.Values.{no_values, struct_value, value}
use Rattle.kmip_ttlv_reader.specs.Outcomes.{any_outcome, each_outcome, node_outcome}
use Rattle.kmip_ttlv_reader.specs.Steps.{within}
use Rattle.kmip_ttlv_reader.proofs.Steps.{failure_then}
use Rattle.kmip_ttlv_reader.proofs.Loops.{more_steps}
use Rattle.kmip_ttlv_reader.proofs.AnyItems.{all_front, any_is_leaf, any_is_structure, any_untyped, none_more, one_fails, one_more}
use Rattle.kmip_ttlv_reader.proofs.any_item.+passed.Goals as goal

pub item_passed-returns-in_err-typ-clause-passed : goal.item_passed-returns-in_err-typ-clause-passed
item_passed-returns-in_err-typ-clause-passed g t c =
    let p = err_from_is_err_and c.from_residual.result c.from_residual.ensures.1 in
    rw (p.1, p.2) (any_untyped c.args.levels c.args.scope.now.bytes.now c.args.pos c.args.scope.now.end c.in_err-typ.field-0.0 c.in_err-typ.ensures.step)

pub item_passed-returns-then-eq-clause-passed : goal.item_passed-returns-then-eq-clause-passed
item_passed-returns-then-eq-clause-passed g t c =
    let s = c.args.scope.now in
    rw (any_is_structure c.args.levels s.bytes.now c.args.pos s.end c.in_ok-typ.typ (omega arith) c.in_ok-typ.ensures.step c.if-eq.ensures)
    c.structure_passed.ensures.passed

pub item_passed-returns-else-eq-clause-passed : goal.item_passed-returns-else-eq-clause-passed
item_passed-returns-else-eq-clause-passed g t c =
    rw (any_is_leaf c.args.levels c.args.scope.now.bytes.now c.args.pos c.args.scope.now.end c.in_ok-typ.typ (omega arith) c.in_ok-typ.ensures.step
    c.if-eq.ensures) c.leaf_passed.ensures.passed

pub items_passed-items-init : goal.items_passed-items-init
items_passed-items-init g t c = (length c.args.scope.now.bytes.now, (λ vs. vs), all_front _, omega arith, omega arith, omega arith)

pub items_passed-returns-in_err-next-clause-passed : goal.items_passed-returns-in_err-next-clause-passed
items_passed-returns-in_err-next-clause-passed g t c =
    let p = err_from_is_err_and c.from_residual.result c.from_residual.ensures.1 in
    let i = c.items.invariant in
    rw (p.1, p.2) (one_fails i.1 (any_outcome c.args.levels) c.args.scope.now.bytes.now c.items.next c.args.scope.now.end i.0 c.in_err-next.field-0.0 i.2
    (lt-ltb c.items.next c.args.scope.now.end c.items-test.true) c.in_err-next.ensures.passed)

pub items_passed-items-preserved : goal.items_passed-items-preserved
items_passed-items-preserved g t c =
    let i = c.items.invariant in
    let f = c.in_ok-next.ensures.further in
    let one = c.in_ok-next.ensures.passed in
    let more : i.0 ≡ suc (i.0 - 1) = more_steps (length c.args.scope.now.bytes.now) i.0 c.items.next c.in_ok-next.next i.3 f.0 f.2 in
    let with = one_more i.1 (any_outcome c.args.levels) c.args.scope.now.bytes.now c.items.next c.args.scope.now.end c.in_ok-next.next one.0 i.0 i.2
    (lt-ltb c.items.next c.args.scope.now.end c.items-test.true) one.1 in
    (i.0 - 1, (λ vs. i.1 (value one.0 vs)), rw more at with, omega (arith, f), omega (arith, f), omega (arith, f))

pub items_passed-returns-clause-passed : goal.items_passed-returns-clause-passed
items_passed-returns-clause-passed g t c =
    let i = c.items.invariant in (
      i.1 no_values,
      none_more i.1 (any_outcome c.args.levels) c.args.scope.now.bytes.now c.items.next c.args.scope.now.end i.0 i.2
          (le-ltb c.items.next c.args.scope.now.end c.items-test.false),
    )

pub structure_passed-returns-in_ok-inside-in-Ok-clause-passed : goal.structure_passed-returns-in_ok-inside-in-Ok-clause-passed
unfolding node_outcome
structure_passed-returns-in_ok-inside-in-Ok-clause-passed g t c =
    let each = c.in-Ok.ensures.passed in (
      struct_value (tag_text (tag_at c.args.scope.now.bytes.now c.args.pos)) each.0,
      rw (c.in_ok-n.ensures.step, each.1, c.in_ok-inside-in-Ok.ensures.step) refl,
    )

pub structure_passed-returns-in-Err-clause-passed : goal.structure_passed-returns-in-Err-clause-passed
unfolding node_outcome
structure_passed-returns-in-Err-clause-passed g t c =
    let b = c.args.scope.now.bytes.now in
    let each = each_outcome (suc (length b)) (any_outcome c.args.levels) b (c.args.pos + 8) (c.args.pos + 8 + c.in_ok-n.n) in
    rw c.in_ok-n.ensures.step (failure_then (within (tag_at b c.args.pos) each) _ c.within.result
    (rw c.tag_at-owner.ensures at (c.within.ensures.items each c.in-Err.ensures.passed)))
