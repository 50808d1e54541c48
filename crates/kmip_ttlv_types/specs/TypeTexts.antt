-- How types are printed, and what `try_from` returns for a code.
use Rattle.std.specs.Prelude.{◌≡◌, ℕ, List, codes, Some, None, Result, Ok, Err}
use Rattle.kmip_ttlv_types.specs.declared.typ.TtlvType.{TtlvType}
use Rattle.kmip_ttlv_types.specs.declared.typ.TtlvType.TheVariants.{Structure, Integer, LongInteger, BigInteger}
use Rattle.kmip_ttlv_types.specs.declared.typ.TtlvType.TheVariants.{Enumeration, Boolean, TextString, ByteString}
use Rattle.kmip_ttlv_types.specs.declared.typ.TtlvType.TheVariants.{DateTime, Interval}
use Rattle.kmip_ttlv_types.specs.declared.error.Error.{Error}
use Rattle.kmip_ttlv_types.specs.declared.error.Error.TheVariants.{InvalidTtlvType}
use Rattle.kmip_ttlv_types.specs.ItemTypes.{type_of}

-- the name, and the code in brackets
abbrev pub type_text : TtlvType → List ℕ
type_text Structure = codes "Structure (0x01)"
type_text Integer = codes "Integer (0x02)"
type_text LongInteger = codes "LongInteger (0x03)"
type_text BigInteger = codes "BigInteger (0x04)"
type_text Enumeration = codes "Enumeration (0x05)"
type_text Boolean = codes "Boolean (0x06)"
type_text TextString = codes "TextString (0x07)"
type_text ByteString = codes "ByteString (0x08)"
type_text DateTime = codes "DateTime (0x09)"
type_text Interval = codes "Interval (0x0A)"

-- the type with this code, or an error with the code if there is none
abbrev pub IsTypeOf : {A : Type 0} → ℕ → Result TtlvType (Error A) → Type 0
IsTypeOf c (Ok t) = type_of c ≡ Some t
IsTypeOf c (Err e) = (type_of c ≡ None) × (e ≡ InvalidTtlvType c)
