use Rattle.std.proofs.Common.{arith, ◌≡◌, ◌≤◌, ℕ, List, Some, length, take, drop, ap, subst}
use Rattle.ttlv_run.specs.JsonEnds.{goes_on}
use Rattle.std.proofs.lemmas.List.{length-drop}
use Rattle.ttlv_run.proofs.JsonParts.{seen_on, seen_all, depth_seen}
use Rattle.ttlv_run.proofs.json_ends.first_value.Goals as goal

pub scan-more-requires : goal.scan-more-requires
scan-more-requires c =
    let n = length (drop c.args.seen c.args.text.now) in
    omega (
      arith,
      ap length c.behind.ensures,
      length-drop c.args.seen c.args.text.now,
      depth_seen c.args.text.now c.args.seen c.args.part c.requires,
      c.requires.within,
    )

pub value_to-requires-clause-seen : goal.value_to-requires-clause-seen
value_to-requires-clause-seen c =
    seen_on c.args.text.now c.args.seen c.scan-more.result.0 c.args.part c.scan-more.result.1 c.requires
    (subst (λ (t : List ℕ). c.scan-more.result.0 ≤ length t) c.behind.ensures c.scan-more.ensures.within)
    (subst (λ (t : List ℕ). goes_on c.args.part (take c.scan-more.result.0 t) ≡ Some c.scan-more.result.1) c.behind.ensures c.scan-more.ensures.goes)

pub returns : goal.returns
returns c =
    seen_all c.args.text.now c.args.seen c.scan-more.result.0 c.args.part c.scan-more.result.1 c.requires
    (subst (λ (t : List ℕ). c.scan-more.result.0 ≤ length t) c.behind.ensures c.scan-more.ensures.within)
    (subst (λ (t : List ℕ). goes_on c.args.part (take c.scan-more.result.0 t) ≡ Some c.scan-more.result.1) c.behind.ensures c.scan-more.ensures.goes)
    c.if-seen-more.false
