use Rattle.kmip_ttlv_names.specs.declared.secrets.TheConstants.{STANDARD_SECRETS}
use Rattle.kmip_ttlv_names.proofs.{SecretNames.secrets_in, GoodTables.secrets_good, GoodTables.only_memory}
use Rattle.kmip_ttlv_names.proofs.values.standard_secrets.Goals as goal

pub returns-clause-secrets : goal.returns-clause-secrets
returns-clause-secrets g c = secrets_in c.tag_names.result c.tag_names.ensures.names

pub returns-clause-memory : goal.returns-clause-memory
returns-clause-memory g c = only_memory c.tag_names.result STANDARD_SECRETS.now secrets_good c.tag_names.ensures.bad
