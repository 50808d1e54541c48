use Rattle.std.proofs.Common.{◌∙◌}
use Rattle.kmip_ttlv_write.specs.OpenStructures.{close_one}
use Rattle.kmip_ttlv_write.proofs.Holding.{left_more}
use Rattle.kmip_ttlv_write.proofs.emit.leave.Goals as goal

pub leaving-preserved : goal.leaving-preserved
leaving-preserved c =
    let v = c.leaving.invariant in
    record {
      len = c.close-place.ensures.len ∙ v.len;
      some = record { opened = close_one v.some.opened; holds = c.close-place.ensures.holds v.some.opened v.some.holds };
      holds = λ o h. left_more c.leaving-test.true c.close-place.ensures.holds (v.holds o h);
    }
