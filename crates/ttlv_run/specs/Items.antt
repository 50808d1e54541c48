-- Items whose own bytes are there: of a leaf the content too, which is a value of its type.
use Rattle.std.specs.Prelude.{◌≡◌, ◌≢◌, ℕ, ◌+◌, ◌≤◌, true, List, length}
use Rattle.kmip_ttlv_types.specs.declared.typ.TtlvType.TheVariants.{Structure}
use Rattle.kmip_ttlv_types.specs.Leaves.{is_valid}
use Rattle.kmip_ttlv_types.specs.Places.{length_at}
use Rattle.kmip_ttlv_items.specs.declared.found.FoundItem.{FoundItem}
use Rattle.kmip_ttlv_items.specs.ItemWalks.{content_at}

-- the header lies among the bytes; so does the value of a leaf, which is one of its type
pub record IsGood (bytes : List ℕ) (i : FoundItem) : Type 0 where
  pub head : i.offset + 8 ≤ length bytes
  pub within : i.typ ≢ Structure → i.offset + 8 + i.length ≤ length bytes
  pub len : i.length ≡ length_at bytes i.offset
  pub valid : i.typ ≢ Structure → is_valid i.typ (content_at bytes i.offset) ≡ true
