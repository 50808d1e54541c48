use Rattle.kmip_ttlv_names.specs.declared.standard.TheConstants.{STANDARD_TAGS}
use Rattle.kmip_ttlv_names.proofs.GoodTables.{tags_good, only_memory}
use Rattle.kmip_ttlv_names.proofs.table.standard_names.Goals as goal

pub returns-clause-memory : goal.returns-clause-memory
returns-clause-memory g c = only_memory c.tag_names.result STANDARD_TAGS.now tags_good c.tag_names.ensures.bad
