-- The content of a leaf (KMIP 1.0, 9.1.1.4).
use Rattle.std.specs.Prelude.{ℕ, Bool, true, false, List, length, ◌==◌, if◌then◌else◌, nat_lt}
use Rattle.std.specs.Int.{w64, from_be_bytes}
use Rattle.std.specs.Str.{is_utf8}
use Rattle.kmip_ttlv_types.specs.declared.typ.TtlvType.{TtlvType}
use Rattle.kmip_ttlv_types.specs.declared.typ.TtlvType.TheVariants.{Structure, Integer, LongInteger, BigInteger}
use Rattle.kmip_ttlv_types.specs.declared.typ.TtlvType.TheVariants.{Enumeration, Boolean, TextString, ByteString}
use Rattle.kmip_ttlv_types.specs.declared.typ.TtlvType.TheVariants.{DateTime, Interval}

-- whether these bytes are valid content of a leaf of this type
abbrev pub is_valid : TtlvType → List ℕ → Bool
is_valid Structure content = false
is_valid Integer content = length content == 4
is_valid LongInteger content = length content == 8
is_valid BigInteger content = true
is_valid Enumeration content = length content == 4
is_valid Boolean content = if length content == 8 then nat_lt (from_be_bytes w64 content) 2 else false
is_valid TextString content = is_utf8 content
is_valid ByteString content = true
is_valid DateTime content = length content == 8
is_valid Interval content = length content == 4
