use Rattle.kmip_ttlv_reader.proofs.NumberLemmas.{any_number_four}
use Rattle.kmip_ttlv_reader.proofs.leaf.store_leaf.Goals as goal

pub store_number-requires : goal.store_number-requires
store_number-requires g c = any_number_four c.args.typ c.args.content.now (rw c.in-U32.is at c.requires.takes) c.requires.valid
