use Rattle.std.proofs.Common.{sym, ◌∙◌}
use Rattle.kmip_ttlv_c.specs.LentItems.{judged}
use Rattle.kmip_ttlv_c.proofs.Reports.{check_fault, check_whole}
use Rattle.kmip_ttlv_c.proofs.items.kmip_ttlv_check.Goals as goal

pub returns-then-is_some : goal.returns-then-is_some
returns-then-is_some c = judged c.in-Ok.found c.in-Ok.ensures c.fault_of-2.ensures (check_fault c.in-Ok.found (sym c.is_some.ensures ∙ c.if-is_some.true))

pub returns : goal.returns
returns c = judged c.in-Ok.found c.in-Ok.ensures c.fault_of-2.ensures (check_whole c.in-Ok.found (sym c.is_some.ensures ∙ c.if-is_some.false))
