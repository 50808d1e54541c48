use Rattle.kmip_ttlv_names.proofs.SecretNames.{standard_secrets_named}
use Rattle.kmip_ttlv_names.proofs.values.secrets_are_named.Goals as goal

pub returns : goal.returns
returns c = standard_secrets_named
