-- Entries of any bytes: what a trace keeps of the header and the content at an offset, and which type is read there.
use Rattle.std.specs.Prelude.{ℕ, ◌+◌, Bool, true, false, ◌&&◌, List, length, take, drop, Option, Some, None, ◌==◌}
use Rattle.std.specs.Prelude.{nat_le}
use Rattle.std.specs.Prelude.{if◌then◌else◌}
use Rattle.std.specs.Int.{w32, from_be_bytes}
use Rattle.kmip_ttlv_types.specs.declared.typ.TtlvType.{TtlvType}
use Rattle.kmip_ttlv_types.specs.declared.typ.TtlvType.TheVariants.{Structure, Integer, LongInteger, Enumeration}
use Rattle.kmip_ttlv_types.specs.declared.typ.TtlvType.TheVariants.{Boolean}
use Rattle.kmip_ttlv_types.specs.declared.typ.TtlvType.TheVariants.{TextString, DateTime, Interval}
use Rattle.kmip_ttlv_types.specs.ItemTypes.{type_of}
use Rattle.kmip_ttlv_types.specs.Leaves.{is_valid}
use Rattle.kmip_ttlv_types.specs.Places.{code_at, length_at, size}

-- what is kept of content that is there: an enumeration's value, and whether a Boolean or a text is valid
pub data Detail : Type 0 where
  no_detail : Detail
  number_detail : ℕ → Detail
  validity_detail : Bool → Detail

-- an entry: the header bytes that are there, and what is kept of the content
pub record Entry : Type 0 where
  pub header : List ℕ
  pub detail : Detail

-- what is kept of content of a type
abbrev pub detail_of : TtlvType → List ℕ → Detail
detail_of Enumeration content = if length content == 4 then number_detail (from_be_bytes w32 content) else no_detail
detail_of Boolean content = validity_detail (is_valid Boolean content)
detail_of TextString content = validity_detail (is_valid TextString content)
detail_of _ content = no_detail

-- what is kept of the content at an offset, if all of it is there
abbrev pub detail_at : List ℕ → ℕ → Option TtlvType → Detail
detail_at bytes p None = no_detail
detail_at bytes p (Some typ) =
    if nat_le (p + size typ (length_at bytes p)) (length bytes)
    then detail_of typ (take (length_at bytes p) (drop (p + 8) bytes))
    else no_detail

-- the entry at an offset
unfoldable pub entry_at : List ℕ → ℕ → Entry
entry_at bytes p = record { header = take 8 (drop p bytes); detail = detail_at bytes p (type_of (code_at bytes p)) }

-- whether content of this length is valid, given what is kept of it
abbrev pub is_fine : TtlvType → ℕ → Detail → Bool
is_fine Integer n d = n == 4
is_fine LongInteger n d = n == 8
is_fine Enumeration n d = n == 4
is_fine DateTime n d = n == 8
is_fine Interval n d = n == 4
is_fine Boolean n (validity_detail b) = b
is_fine Boolean n d = false
is_fine TextString n (validity_detail b) = b
is_fine TextString n d = false
is_fine _ n d = true

-- the distance from an entry to the next; of a structure it is the header
abbrev pub extent : TtlvType → ℕ → ℕ
extent Structure n = 8
extent typ n = size typ n

-- a type, if the entry's bytes are within the input and its content is valid
abbrev pub type_if : ℕ → ℕ → Entry → Option TtlvType → Option TtlvType
type_if count p x None = None
type_if count p x (Some t) =
    if nat_le (p + extent t (length_at x.header 0)) count && is_fine t (length_at x.header 0) x.detail
    then Some t
    else None

-- the type of the entry at an offset, if it can be read
unfoldable pub type_read : ℕ → ℕ → Entry → Option TtlvType
type_read count p x = type_if count p x (type_of (code_at x.header 0))

-- an enumeration's value
abbrev pub detail_value : TtlvType → Detail → Option ℕ
detail_value Enumeration (number_detail n) = Some n
detail_value _ d = None
