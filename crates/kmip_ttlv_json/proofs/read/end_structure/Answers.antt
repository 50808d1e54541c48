use Rattle.std.proofs.Common.{sym, arith}
use Rattle.kmip_ttlv_json.proofs.read.end_structure.Goals as goal

pub set_header-requires : goal.set_header-requires
set_header-requires g c = omega (arith, c.requires (sym c.in_ok-items.ensures), c.as_mut_slice.ensures.len)
