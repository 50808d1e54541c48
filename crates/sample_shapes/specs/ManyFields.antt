-- Fields of one name and form, so many times.
use Rattle.std.specs.Prelude.{ℕ, zero, suc, List}
use Rattle.kmip_ttlv.specs.Forms.{Form, Fields, field}

-- so many fields of this name and form, in front of others
abbrev pub many : List ℕ → Form → ℕ → Fields → Fields
many name s zero fs = fs
many name s (suc n) fs = field name s (many name s n fs)
