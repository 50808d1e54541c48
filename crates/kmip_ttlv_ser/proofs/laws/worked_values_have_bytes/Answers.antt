use Rattle.std.proofs.Common.{rules}
use Rattle.kmip_ttlv_types.specs.Names.{tag_of, number, transparent_name, override_name}
use Rattle.kmip_ttlv_types.specs.{Primitives.sign_extended, Trees.leaf_bytes, Trees.node_bytes}
use Rattle.kmip_ttlv_ser.specs.WrittenItems.{take_tag, pending_after, some_item, enumeration, is_wrapper}
use Rattle.kmip_ttlv_ser.specs.Faults.{place_after}
use Rattle.kmip_ttlv_ser.proofs.laws.worked_values_have_bytes.Goals as goal

-- Worked values, computed.
pub returns : goal.returns
unfolding take_tag transparent_name override_name tag_of number pending_after some_item enumeration is_wrapper sign_extended place_after leaf_bytes node_bytes
returns c = search rules
