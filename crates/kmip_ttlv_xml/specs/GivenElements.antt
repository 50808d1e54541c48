-- While elements are read: the items that were made of them, with their values in lent bytes.
use Rattle.std.specs.Prelude.{◌≡◌, ◌≢◌, ℕ, ◌+◌, ◌-◌, ◌<◌, ◌≤◌, ◌^◌, true, List, [], ◌∷◌, ◌++◌, map, length, string_bytes, Some, Result, Ok, Err}
use Rattle.std.specs.List.{AllByRecursion}
use Rattle.kmip_ttlv_types.specs.declared.typ.TtlvType.{TtlvType}
use Rattle.kmip_ttlv_types.specs.declared.typ.TtlvType.TheVariants.{Structure}
use Rattle.kmip_ttlv_types.specs.ItemTypes.{type_of, code}
use Rattle.kmip_ttlv_types.specs.Items.{Raw}
use Rattle.kmip_ttlv_types.specs.Leaves.{is_valid}
use Rattle.kmip_ttlv_write.specs.declared.given.GivenItem.{GivenItem}
use Rattle.kmip_ttlv_write.specs.declared.given.BadItem.{BadItem}
use Rattle.kmip_ttlv_write.specs.declared.given.BadKind.{BadKind}
use Rattle.kmip_ttlv_write.specs.declared.given.BadKind.TheVariants.{NotInside, TooLong as ItemTooLong}
use Rattle.kmip_ttlv_write.specs.GivenItems.{line, line_of}
use Rattle.kmip_ttlv_write.specs.FlatWrites.{HasValue, HasNone}
use Rattle.plain_xml.specs.declared.element.Element.{Element}
use Rattle.plain_xml.specs.Elements.{Flat, attribute_view}
use Rattle.kmip_ttlv_xml.specs.declared.element.Item.{Item}
use Rattle.kmip_ttlv_xml.specs.declared.element.Stop.{Stop}
use Rattle.kmip_ttlv_xml.specs.declared.element.Stop.TheVariants.{NoMemory, Bad}
use Rattle.kmip_ttlv_xml.specs.declared.failure.BadElement.{BadElement}
use Rattle.plain_xml.specs.Places.{element_offset}
use Rattle.kmip_ttlv_xml.specs.declared.failure.XmlError.{XmlError}
use Rattle.kmip_ttlv_xml.specs.declared.failure.XmlError.TheVariants.{NotItem, InLeaf as XmlInLeaf, TooLong as XmlTooLong, OutOfMemory as XmlNoMemory}
use Rattle.kmip_ttlv_xml.specs.declared.given.Refusal.{Refusal}
use Rattle.kmip_ttlv_xml.specs.declared.given.Refusal.TheVariants.{NoMemory as RefusedMemory, Wrong, InLeaf, TooLong}
use Rattle.kmip_ttlv_xml.specs.XmlItems.{raw, line_in}
use Rattle.kmip_ttlv_xml.specs.XmlReadings.{right, IsFirstWrong, CannotFollow}

-- what is returned of an item
abbrev pub item_view : {A : Type 0} → Item A → Raw
item_view i = raw i.tag i.typ i.content.items

-- what reading an element returned is what it gives, out of memory aside
abbrev pub Stops : Stop → Result Raw BadElement → Type 0
Stops NoMemory item = Unit {0}
Stops (Bad bad) item = item ≡ Err bad

abbrev pub Gives : {A : Type 0} → Result (Item A) Stop → Result Raw BadElement → Type 0
Gives (Ok i) item = item ≡ Ok (item_view i)
Gives (Err e) item = Stops e item

-- an item that may stand somewhere: a Structure without content, or a leaf with a valid one
pub record IsSound (item : Raw) : Type 0 where
  pub tag : item.tag < 2 ^ 24
  pub short : length item.content < 2 ^ 32
  pub empty : item.typ ≡ Structure → item.content ≡ []
  pub valid : item.typ ≢ Structure → is_valid item.typ item.content ≡ true

-- a given item is right but for its place
pub record IsGood (lent : List ℕ) (i : GivenItem) : Type 0 where
  pub tag : i.tag < 2 ^ 24
  pub typ : TtlvType
  pub typed : type_of i.typ ≡ Some typ
  pub value : typ ≢ Structure → HasValue lent typ i

-- an element in so many structures less
abbrev pub moved_view : {A : Type 0} → ℕ → Element A → Flat
moved_view count e = record { depth = e.depth - count; name = string_bytes e.name; attributes = map attribute_view e.attributes.items }

-- all elements are items, which are given
pub record AreGiven (es : List Flat) (items : List GivenItem) (lent : List ℕ) : Type 0 where
  pub are : map line_in es ≡ map right (map (line_of lent) items)
  pub good : AllByRecursion (IsGood lent) items
  pub filled : 8 ≤ length lent

-- an item was added
pub record Adds (old new : List GivenItem) (lent lent_new : List ℕ) (depth : ℕ) (item : Raw) : Type 0 where
  pub one : GivenItem
  pub all : new ≡ old ++ one ∷ []
  pub bytes : lent_new ≡ lent ++ item.content
  pub is : line_of lent_new one ≡ line depth item.tag (code item.typ) item.content
  pub good : IsGood lent_new one

-- why elements are not given
abbrev pub AreUngiven : List Flat → Refusal → Type 0
AreUngiven es RefusedMemory = Unit {0}
AreUngiven es (Wrong bad index) = IsFirstWrong es bad index
AreUngiven es _ = ⊥

-- what is said of given items that can't be written
abbrev pub refused_as : BadKind → ℕ → Refusal
refused_as ItemTooLong index = TooLong index
refused_as _ index = InLeaf index

abbrev pub refused : BadItem → Refusal
refused bad = refused_as bad.kind bad.index

-- where what is refused stands
abbrev pub refused_at : Refusal → ℕ
refused_at RefusedMemory = 0
refused_at (Wrong bad index) = index
refused_at (InLeaf index) = index
refused_at (TooLong index) = index

-- why given items are not written
abbrev pub AreUnwritten : List GivenItem → List ℕ → Refusal → Type 0
AreUnwritten items lent RefusedMemory = Unit {0}
AreUnwritten items lent (Wrong bad index) = ⊥
AreUnwritten items lent (InLeaf index) = HasNone items lent (record { index = index; kind = NotInside })
AreUnwritten items lent (TooLong index) = HasNone items lent (record { index = index; kind = ItemTooLong })

-- why elements are no items that can be written
abbrev pub IsRefused : List Flat → Refusal → Type 0
IsRefused es RefusedMemory = Unit {0}
IsRefused es (Wrong bad index) = IsFirstWrong es bad index
IsRefused es (InLeaf index) = CannotFollow es NotInside index
IsRefused es (TooLong index) = CannotFollow es ItemTooLong index

-- memory ran out
abbrev pub IsOut : Refusal → Type 0
IsOut RefusedMemory = Unit {0}
IsOut _ = ⊥

-- the error for what was refused in a text, where so many elements are in front of the first item
abbrev pub Places : List ℕ → ℕ → Refusal → XmlError → Type 0
Places text count RefusedMemory error = error ≡ XmlNoMemory
Places text count (Wrong bad index) error = error ≡ NotItem bad (element_offset (index + count) text)
Places text count (InLeaf index) error = error ≡ XmlInLeaf (element_offset (index + count) text)
Places text count (TooLong index) error = error ≡ XmlTooLong (element_offset (index + count) text)
