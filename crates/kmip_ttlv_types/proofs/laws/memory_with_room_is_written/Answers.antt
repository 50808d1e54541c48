use Rattle.kmip_ttlv_types.proofs.InMemory.{where_room_written}
use Rattle.kmip_ttlv_types.proofs.laws.memory_with_room_is_written.Goals as goal

pub returns : goal.returns
returns c = where_room_written
