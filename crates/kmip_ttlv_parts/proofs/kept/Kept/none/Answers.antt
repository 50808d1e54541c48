use Rattle.std.proofs.Common.{refl}
use Rattle.kmip_ttlv_parts.specs.Kept.{is_kept, kept_values}
use Rattle.kmip_ttlv_parts.proofs.KeptLemmas.{empty_is_kept, empty_values}
use Rattle.kmip_ttlv_parts.proofs.kept.Kept.none.Goals as goal

pub invariant_of-result : goal.invariant_of-result
invariant_of-result g c = record { kept = rw c.new.ensures.items empty_is_kept }

pub returns : goal.returns
returns g c = rw c.new.ensures.items empty_values
