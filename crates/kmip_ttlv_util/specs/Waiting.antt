-- The bytes in a buffer that are not sent yet.
use Rattle.std.specs.Prelude.{ℕ, List, take}
use Rattle.kmip_ttlv_util.specs.declared.buffer.Buffer.{Buffer}

abbrev pub waiting : Buffer → List ℕ
waiting b = take b.len b.bytes
