use Rattle.kmip_ttlv_parts.proofs.Lacking.{padding_is_required, padding_of_roots_is_required}
use Rattle.kmip_ttlv_parts.proofs.laws.padding_is_required.Goals as goal

pub returns-clause-anywhere : goal.returns-clause-anywhere
returns-clause-anywhere c = padding_is_required

pub returns-clause-root : goal.returns-clause-root
returns-clause-root c = padding_of_roots_is_required
