-- The letters of types in diagnostics, and the digits of tags.
use Rattle.std.specs.Prelude.{◌≡◌, ◌↔◌, ℕ, Bool, ◌&&◌, ◌||◌, Option, Some, None, if◌then◌else◌, ◌==◌, nat_le}
use Rattle.kmip_ttlv_types.specs.declared.typ.TtlvType.{TtlvType}
use Rattle.kmip_ttlv_types.specs.declared.typ.TtlvType.TheVariants.{Structure, Integer, LongInteger, BigInteger}
use Rattle.kmip_ttlv_types.specs.declared.typ.TtlvType.TheVariants.{Enumeration, Boolean, TextString, ByteString}
use Rattle.kmip_ttlv_types.specs.declared.typ.TtlvType.TheVariants.{DateTime, Interval}

-- a type's letter
abbrev pub letter : TtlvType → ℕ
letter Structure = 91
letter Integer = 105
letter LongInteger = 108
letter BigInteger = 73
letter Enumeration = 101
letter Boolean = 98
letter TextString = 116
letter ByteString = 111
letter DateTime = 100
letter Interval = 110

-- the type of a letter
abbrev pub type_of_letter : ℕ → Option TtlvType
type_of_letter c =
    if c == 91 then Some Structure else
    if c == 105 then Some Integer else
    if c == 108 then Some LongInteger else
    if c == 73 then Some BigInteger else
    if c == 101 then Some Enumeration else
    if c == 98 then Some Boolean else
    if c == 116 then Some TextString else
    if c == 111 then Some ByteString else
    if c == 100 then Some DateTime else
    if c == 110 then Some Interval else None

-- each letter has exactly one type, and no other character has one
abbrev pub LettersDetermineTypes : Type 0
LettersDetermineTypes = (c : ℕ) (t : TtlvType) → (type_of_letter c ≡ Some t) ↔ (c ≡ letter t)

-- 0 to 9 and A to F
abbrev pub is_hex : ℕ → Bool
is_hex c = (nat_le 48 c && nat_le c 57) || (nat_le 65 c && nat_le c 70)
