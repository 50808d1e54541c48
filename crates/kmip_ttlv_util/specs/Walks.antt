-- Definitions for the printers' inner calls: the item at an offset, and where a walk is.
use Rattle.std.specs.Prelude.{◌≡◌, ◌≢◌, ℕ, true, false, ◌+◌, ◌<◌, ◌≤◌, List, [], ◌∷◌, length, take, drop, reverse, Some}
use Rattle.kmip_ttlv_types.specs.declared.typ.TtlvType.TheVariants.{Structure}
use Rattle.kmip_ttlv_types.specs.Leaves.{is_valid}
use Rattle.kmip_ttlv_types.specs.Places.{tag_at, length_at}
use Rattle.kmip_ttlv_util.specs.declared.item.Item.{Item}
use Rattle.kmip_ttlv_util.specs.declared.walk.Walk.{Walk}
use Rattle.kmip_ttlv_util.specs.declared.walk.Next.{Next}
use Rattle.kmip_ttlv_util.specs.declared.walk.Next.TheVariants.{Closes, Over, Past, Reads}
use Rattle.kmip_ttlv_util.specs.WalkPlaces.{Place, left_at, turn, entry_follows}
use Rattle.kmip_ttlv_util.specs.Entries.{entry_at, type_read, detail_value, extent}

-- this item is read at an offset
pub record IsItem (bytes : List ℕ) (p : ℕ) (i : Item) : Type 0 where
  pub typ : type_read (length bytes) p (entry_at bytes p) ≡ Some i.typ
  pub tag : i.tag ≡ tag_at (entry_at bytes p).header 0
  pub len : i.length ≡ length_at (entry_at bytes p).header 0
  pub value : i.value ≡ detail_value i.typ (entry_at bytes p).detail
  pub next : i.next ≡ p + extent i.typ i.length
  pub within : i.next ≤ length bytes
  pub content : i.typ ≢ Structure → i.content.now ≡ take i.length (drop (p + 8) bytes)
  pub valid : i.typ ≢ Structure → is_valid i.typ i.content.now ≡ true

-- where a walk is; the stack's last end is the innermost
abbrev pub place_of : {A : Type 0} → Walk A → Place
place_of w = record { pos = w.pos; ends = reverse w.ends.items; endless = w.endless; loose = w.loose }

-- nothing closes, and an entry follows
pub record Ready (s : Place) : Type 0 where
  pub turns : turn s ≡ entry_follows
  pub left : left_at s.pos s.ends ≡ s.ends

-- the innermost structure closes, and others stay open
pub record Closed (old new : Place) : Type 0 where
  pub next : ℕ
  pub others : List ℕ
  pub ends : old.ends ≡ old.pos ∷ next ∷ others
  pub is : new ≡ record { pos = old.pos; ends = next ∷ others; endless = old.endless; loose = old.loose }

-- the innermost structure's end was passed
pub record Passed (old : Place) : Type 0 where
  pub next : ℕ
  pub others : List ℕ
  pub ends : old.ends ≡ next ∷ others
  pub strict : old.loose ≡ false
  pub passed : next < old.pos

-- what comes next
abbrev pub Advances : Place → Place → Next → Type 0
Advances old new Closes = Closed old new
Advances old new Over = old.ends ≡ old.pos ∷ []
Advances old new Past = Passed old
Advances old new Reads = (new ≡ old) × Ready old
