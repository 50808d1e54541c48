use Rattle.kmip_ttlv_util.specs.Undiag.{undiag}
use Rattle.kmip_ttlv_util.proofs.undiag.read_back.Goals as goal

pub returns-clause-undiag : goal.returns-clause-undiag
unfolding undiag
returns-clause-undiag g c = c.in_ok-lines.ensures.text
