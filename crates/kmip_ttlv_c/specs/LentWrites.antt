-- What the call that writes items returns.
use Rattle.std.specs.Prelude.{◌≡◌, ℕ, List, map, Option, Some, None}
use Rattle.kmip_ttlv_write.specs.declared.given.GivenItem.{GivenItem}
use Rattle.kmip_ttlv_write.specs.declared.given.BadItem.{BadItem}
use Rattle.kmip_ttlv_write.specs.declared.given.BadKind.{BadKind}
use Rattle.kmip_ttlv_write.specs.declared.given.BadKind.TheVariants.{NotInside, LongTag, UnknownType, WrongLength}
use Rattle.kmip_ttlv_write.specs.declared.given.BadKind.TheVariants.{Outside, InvalidValue, TooLong}
use Rattle.kmip_ttlv_write.specs.GivenItems.{IsWritten}
use Rattle.kmip_ttlv_write.specs.FlatWrites.{HasNone}
use Rattle.kmip_ttlv_c.specs.declared.items.KmipTtlvItem.{KmipTtlvItem}
use Rattle.kmip_ttlv_c.specs.declared.writing.KmipTtlvBadItem.{KmipTtlvBadItem}
use Rattle.kmip_ttlv_c.specs.declared.status.TheConstants.{MALFORMED}
use Rattle.kmip_ttlv_c.specs.Buffers.{Offers}

-- an item of the caller's list
abbrev pub c_given : KmipTtlvItem → GivenItem
c_given i = record { offset = i.offset; depth = i.depth; tag = i.tag; typ = i.typ; length = i.length }

-- the number of what is wrong with an item
abbrev pub c_bad_kind : BadKind → ℕ
c_bad_kind UnknownType = 3
c_bad_kind WrongLength = 5
c_bad_kind InvalidValue = 7
c_bad_kind NotInside = 9
c_bad_kind LongTag = 10
c_bad_kind Outside = 11
c_bad_kind TooLong = 12

-- a bad item, or 0 for none
abbrev pub c_bad : Option BadItem → KmipTtlvBadItem
c_bad None = record { index = 0; kind = 0 }
c_bad (Some b) = record { index = b.index; kind = c_bad_kind b.kind }

-- items are written to the front of a buffer if it has room for them, and their length is set; or they have no
-- encoding, the first bad one is set, and the buffer is unchanged
pub data AnswersWrite (items : List KmipTtlvItem) (lent : List ℕ) (status len : ℕ) (bad : KmipTtlvBadItem)
    (old new : List ℕ) : Type 0 where
  writes :
      (text : List ℕ)
      → IsWritten (map c_given items) lent text
      → Offers text status len old new
      → bad ≡ c_bad None
      → AnswersWrite items lent status len bad old new
  names :
      (found : BadItem)
      → HasNone (map c_given items) lent found
      → bad ≡ c_bad (Some found)
      → status ≡ MALFORMED
      → len ≡ 0
      → new ≡ old
      → AnswersWrite items lent status len bad old new
