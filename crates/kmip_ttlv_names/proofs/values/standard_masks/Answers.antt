use Rattle.kmip_ttlv_names.specs.declared.masks.TheConstants.{STANDARD_MASKS}
use Rattle.kmip_ttlv_names.proofs.GoodTables.{masks_good, only_memory}
use Rattle.kmip_ttlv_names.proofs.values.standard_masks.Goals as goal

pub returns-clause-memory : goal.returns-clause-memory
returns-clause-memory g c = only_memory c.tag_names.result STANDARD_MASKS.now masks_good c.tag_names.ensures.bad
