use Rattle.kmip_ttlv_items.proofs.Names.{one_name, one_root_name}
use Rattle.kmip_ttlv_items.proofs.laws.a_fault_has_one_name.Goals as goal

pub returns-clause-item : goal.returns-clause-item
returns-clause-item c = λ bytes p e. one_name bytes p e

pub returns-clause-root : goal.returns-clause-root
returns-clause-root c = λ bytes. one_root_name bytes
