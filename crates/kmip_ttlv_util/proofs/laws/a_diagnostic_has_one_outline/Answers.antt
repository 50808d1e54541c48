use Rattle.kmip_ttlv_util.proofs.Unique.{diag_one}
use Rattle.kmip_ttlv_util.proofs.laws.a_diagnostic_has_one_outline.Goals as goal

pub returns : goal.returns
returns c = diag_one
