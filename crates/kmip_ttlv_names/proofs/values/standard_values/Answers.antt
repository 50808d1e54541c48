use Rattle.kmip_ttlv_names.specs.declared.enumerations.TheConstants.{STANDARD_VALUES}
use Rattle.kmip_ttlv_names.proofs.GoodTables.{values_good, only_memory}
use Rattle.kmip_ttlv_names.proofs.values.standard_values.Goals as goal

pub returns-clause-memory : goal.returns-clause-memory
returns-clause-memory g c = only_memory c.tag_names.result STANDARD_VALUES.now values_good c.tag_names.ensures.bad
