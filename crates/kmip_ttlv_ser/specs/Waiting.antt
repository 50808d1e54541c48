-- The bytes in a buffer, and in room that is lent.
use Rattle.std.specs.Prelude.{ℕ, List, take}
use Rattle.kmip_ttlv_ser.specs.declared.buffer.Buffer.{Buffer}
use Rattle.kmip_ttlv_ser.specs.declared.room.Room.{Room}

abbrev pub waiting : Buffer → List ℕ
waiting b = take b.len b.bytes

-- what is written of some room
abbrev pub filled : Room → List ℕ
filled r = take r.len r.bytes.now
