use Rattle.kmip_ttlv_base.specs.Values.{seq_value}
use Rattle.kmip_ttlv_reader.specs.{Outcomes.outcome, Spots.values_by}
use Rattle.kmip_ttlv_reader.proofs.Mapped.{mapped_to}
use Rattle.kmip_ttlv_kinds.proofs.fields.read_sequence.Goals as goal

pub returns-clause-read : goal.returns-clause-read
unfolding outcome
returns-clause-read g c =
    mapped_to seq_value (λ xs. values_by g.E.Element.value xs.items) c.read_several.new.cursor _ c.read_several.result c.read_several.ensures.read
