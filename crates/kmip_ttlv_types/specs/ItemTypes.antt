-- The types of items, their codes, and how long their values are (KMIP 1.0, 9.1.1.2 and 9.1.1.3).
use Rattle.std.specs.Prelude.{ℕ, ◌-◌, ◌%◌, Bool, true, false, Option, Some, None, if◌then◌else◌, ◌==◌}
use Rattle.kmip_ttlv_types.specs.declared.typ.TtlvType.{TtlvType}
use Rattle.kmip_ttlv_types.specs.declared.typ.TtlvType.TheVariants.{Structure, Integer, LongInteger, BigInteger}
use Rattle.kmip_ttlv_types.specs.declared.typ.TtlvType.TheVariants.{Enumeration, Boolean, TextString, ByteString}
use Rattle.kmip_ttlv_types.specs.declared.typ.TtlvType.TheVariants.{DateTime, Interval}

-- the code of a type
abbrev pub code : TtlvType → ℕ
code Structure = 1
code Integer = 2
code LongInteger = 3
code BigInteger = 4
code Enumeration = 5
code Boolean = 6
code TextString = 7
code ByteString = 8
code DateTime = 9
code Interval = 10

-- the type of a code
abbrev pub type_of : ℕ → Option TtlvType
type_of n =
    if n == 1 then Some Structure else
    if n == 2 then Some Integer else
    if n == 3 then Some LongInteger else
    if n == 4 then Some BigInteger else
    if n == 5 then Some Enumeration else
    if n == 6 then Some Boolean else
    if n == 7 then Some TextString else
    if n == 8 then Some ByteString else
    if n == 9 then Some DateTime else
    if n == 10 then Some Interval else None

-- whether it is the type of a structure
abbrev pub is_structure : TtlvType → Bool
is_structure Structure = true
is_structure _ = false

-- how long a value of this type is, if all are equally long
abbrev pub fixed_length : TtlvType → Option ℕ
fixed_length Structure = None
fixed_length Integer = Some 4
fixed_length LongInteger = Some 8
fixed_length BigInteger = None
fixed_length Enumeration = Some 4
fixed_length Boolean = Some 8
fixed_length TextString = None
fixed_length ByteString = None
fixed_length DateTime = Some 8
fixed_length Interval = Some 4

-- the least number that extends n to a multiple of eight
abbrev pub pad_len : ℕ → ℕ
pad_len n = (8 - n % 8) % 8

-- how many bytes of padding follow a value of this type and length: none after a structure
abbrev pub padding : TtlvType → ℕ → ℕ
padding Structure n = 0
padding typ n = pad_len n
