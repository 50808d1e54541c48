use Rattle.std.proofs.Common.{arith, ◌≡◌, ◌∙◌, false, get_or, Some, ap, sym}
use Rattle.ttlv_run.specs.JsonEnds.{is_end, part_after, depth_of}
use Rattle.ttlv_run.proofs.JsonParts.{goes_suc, depth_after}
use Rattle.ttlv_run.proofs.json_ends.scan.Goals as goal

pub loop-at-preserved : goal.loop-at-preserved
loop-at-preserved c =
    let b = get_or c.args.bytes.now c.loop-at.at 0 in
    let after : c.part_after-part.result ≡ part_after c.loop-at.part b = c.part_after-part.ensures in
    let no : is_end c.loop-at.part b ≡ false = sym c.is_end.ensures ∙ c.if-is_end.false in (
      goes_suc c.args.part c.loop-at.part c.args.bytes.now c.loop-at.at c.loop-at-test.true c.loop-at.invariant.0 no ∙ ap Some (sym after),
      omega (arith, c.loop-at.invariant.1, depth_after c.loop-at.part b, ap depth_of after),
    )
