-- What is seen of JSON while it is read, event by event, and the bytes that are made of it.
use Rattle.std.specs.Prelude.{◌≡◌, ℕ, ◌+◌, ◌≤◌, Bool, true, false, not, ◌||◌, List, ◌++◌, length, take, replicate, codes, Option, Some, None, Result, Ok, Err}
use Rattle.std.specs.Str.{bytes_eq}
use Rattle.json.specs.Json.{value, items, members}
use Rattle.json.specs.Token.{Token}
use Rattle.serde_json.specs.Data.{Data, object, Items, Members, no_members, member, put}
use Rattle.serde_json.specs.Find.{as_str, as_bool}
use Rattle.serde_json.specs.Read.{read, converted, of_json, of_items, of_members}
use Rattle.kmip_ttlv_types.specs.declared.typ.TtlvType.{TtlvType}
use Rattle.kmip_ttlv_types.specs.declared.typ.TtlvType.TheVariants.{Structure}
use Rattle.kmip_ttlv_types.specs.Trees.{Tree, Trees, bytes, bytes_below}
use Rattle.kmip_ttlv_json.specs.declared.failure.BadItem.{BadItem}
use Rattle.kmip_ttlv_json.specs.declared.failure.BadMember.{BadMember}
use Rattle.kmip_ttlv_json.specs.declared.failure.BadMember.TheVariants.{Members as BadMembers, Value}
use Rattle.kmip_ttlv_json.specs.declared.seen.Whole.{Whole}
use Rattle.kmip_ttlv_json.specs.declared.seen.Seen.{Seen}
use Rattle.kmip_ttlv_json.specs.declared.seen.Seen.TheVariants.{Text, Truth, Items as SeenItems, Item as SeenItem, Number, Null}
use Rattle.kmip_ttlv_json.specs.declared.members.Members.{Members as SeenMembers}
use Rattle.kmip_ttlv_json.specs.declared.read.Stop.{Stop}
use Rattle.kmip_ttlv_json.specs.declared.read.Stop.TheVariants.{NotJson, NoMemory}
use Rattle.kmip_ttlv_json.specs.JsonTrees.{whole_of_data, type_of_text, tree_of, below_of, trees_of}
use Rattle.kmip_ttlv_json.specs.Readings.{is_node}
use Rattle.kmip_ttlv_json.specs.Spots.{is_array}

-- ---- a value

-- the text that it is
abbrev pub text_in : Seen → Option (List ℕ)
text_in (Text s) = Some s.now
text_in seen = None

-- which of true and false it is
abbrev pub truth_in : Seen → Option Bool
truth_in (Truth b) = Some b
truth_in seen = None

-- the whole number that it is
abbrev pub whole_in : Seen → Option Whole
whole_in (Number w) = w
whole_in seen = None

-- it is an array
abbrev pub is_items : Seen → Bool
is_items (Text s) = false
is_items (Truth b) = false
is_items (SeenItems r) = true
is_items (SeenItem r) = false
is_items (Number w) = false
is_items Null = false

-- what is wrong, without its place
abbrev pub unplaced : {A : Type 0} → Result A BadItem → Result A BadMember
unplaced (Ok a) = Ok a
unplaced (Err bad) = Err bad.bad

-- what is wrong with the item behind so many tokens itself
abbrev pub bad_at : {A : Type 0} → ℕ → BadMember → Result A BadItem
bad_at at bad = Err (record { bad = bad; at = at })

abbrev pub placed : ℕ → Result Bool BadMember → Result Bool BadItem
placed at (Ok structure) = Ok structure
placed at (Err bad) = bad_at at bad

-- what is wrong with it as a structure's value, where this is behind so many tokens
abbrev pub items_at : ℕ → Seen → Result (Unit {0}) BadItem
items_at at (SeenItems r) = r
items_at at seen = bad_at at Value

abbrev pub items_in : Seen → Result (Unit {0}) BadMember
items_in (SeenItems r) = unplaced r
items_in seen = Err Value

-- what is wrong with it as an item, or whether it is a structure
abbrev pub item_at : ℕ → Seen → Result Bool BadItem
item_at at (SeenItem r) = r
item_at at seen = bad_at at BadMembers

abbrev pub item_in : Seen → Result Bool BadMember
item_in (SeenItem r) = unplaced r
item_in seen = Err BadMembers

-- what is wrong with items, behind which there is one more
abbrev pub both_at : Result (Unit {0}) BadItem → Result Bool BadItem → Result (Unit {0}) BadItem
both_at (Ok done) (Ok structure) = Ok done
both_at (Ok done) (Err bad) = Err bad
both_at (Err bad) item = Err bad

abbrev pub both_seen : Result (Unit {0}) BadMember → Result Bool BadMember → Result (Unit {0}) BadMember
both_seen (Ok done) (Ok structure) = Ok done
both_seen (Ok done) (Err bad) = Err bad
both_seen (Err bad) item = Err bad

-- what is kept of bytes when items have come to this
abbrev pub kept : ℕ → Result (Unit {0}) BadMember → List ℕ → List ℕ
kept mark (Ok done) out = out
kept mark (Err bad) out = take mark out

-- where the header of a structure will be
abbrev pub room : List ℕ
room = replicate 8 0

-- what the items of an array come to, and the bytes that were added
abbrev pub AreSeen : Result Trees BadMember → Result (Unit {0}) BadMember → List ℕ → Type 0
AreSeen trees (Ok done) added = (below : Trees) × (trees ≡ Ok below) × (added ≡ room ++ bytes_below below)
AreSeen trees (Err bad) added = trees ≡ Err bad

-- what an item comes to, and the bytes that were added
abbrev pub IsItem : Result Tree BadMember → Result Bool BadMember → List ℕ → Type 0
IsItem tree (Ok structure) added = (t : Tree) × (tree ≡ Ok t) × (structure ≡ is_node t) × (added ≡ bytes t)
IsItem tree (Err bad) added = tree ≡ Err bad

-- bytes were added: of the item that JSON is, if it is one
pub record AddsItem (tree : Result Tree BadMember) (old new : List ℕ) (result : Result Bool BadMember) : Type 0 where
  pub added : List ℕ
  pub all : new ≡ old ++ added
  pub is : IsItem tree result added

-- what JSON is seen as, and the bytes that were added
pub record IsSeen (seen : Seen) (json : Data) (added : List ℕ) : Type 0 where
  pub text : as_str json ≡ text_in seen
  pub truth : as_bool json ≡ truth_in seen
  pub whole : whole_of_data json ≡ whole_in seen
  pub below : AreSeen (below_of json) (items_in seen) added
  pub item : IsItem (tree_of json) (item_in seen) added
  pub array : is_array json ≡ is_items seen

-- ---- what tokens are read as

-- why they are not read
abbrev pub Stops : {A : Type 0} → Option A → Stop → Type 0
Stops read (NotJson at) = read ≡ None
Stops read NoMemory = Unit {0}

-- a value was read, and bytes were added
pub record Reads (depth : ℕ) (tokens rest : List Token) (old new : List ℕ) (seen : Seen) : Type 0 where
  pub json : Data
  pub parsed : converted of_json (value depth tokens) ≡ Some (json, rest)
  pub added : List ℕ
  pub all : new ≡ old ++ added
  pub is : IsSeen seen json added

-- the text is JSON, and the bytes of the item that it is were added to others
pub record ReadsText (text old new : List ℕ) (result : Result Bool BadMember) : Type 0 where
  pub json : Data
  pub parsed : read text ≡ Some json
  pub adds : AddsItem (tree_of json) old new result

-- the rest of an array
pub record ReadsItems (depth : ℕ) (tokens rest : List Token) (old new : List ℕ) (result : Result (Unit {0}) BadMember) : Type 0 where
  pub json : Items
  pub parsed : converted of_items (items (value depth) (length tokens) tokens) ≡ Some (json, rest)
  pub added : List ℕ
  pub all : new ≡ old ++ added
  pub are : AreSeen (trees_of json) result added

-- the rest of an object
pub record ReadsMembers (depth : ℕ) (tokens rest : List Token) (old new : List ℕ) (result : Result Bool BadMember) : Type 0 where
  pub json : Members
  pub parsed : converted (λ ms. of_members ms no_members) (members (value depth) (length tokens) tokens) ≡ Some (json, rest)
  pub adds : AddsItem (tree_of (object json)) old new result

-- ---- the members that were met

-- a name is none of an item's members
abbrev pub is_other : List ℕ → Bool
is_other name = not (bytes_eq name (codes "tag") || (bytes_eq name (codes "type") || bytes_eq name (codes "value")))

-- an object has a member with such a name
abbrev pub has_other : Members → Bool
has_other no_members = false
has_other (member name json ms) = is_other name || has_other ms

-- members of an item, where they are there
abbrev pub with_value : Option Data → Members
with_value None = no_members
with_value (Some json) = member (codes "value") json no_members

abbrev pub with_type : Option Data → Members → Members
with_type None ms = ms
with_type (Some json) ms = member (codes "type") json ms

abbrev pub with_tag : Option Data → Members → Members
with_tag None ms = ms
with_tag (Some json) ms = member (codes "tag") json ms

abbrev pub three : Option Data → Option Data → Option Data → Members
three tag typ value = with_tag tag (with_type typ (with_value value))

-- a member whose text alone counts
abbrev pub HasText : Option Data → Option Seen → Type 0
HasText None None = Unit {0}
HasText (Some json) (Some seen) = as_str json ≡ text_in seen
HasText json seen = ⊥

-- the value
abbrev pub HasValue : Option Data → Option Seen → List ℕ → Type 0
HasValue None None added = Unit {0}
HasValue (Some json) (Some seen) added = IsSeen seen json added
HasValue json seen added = ⊥

-- the type that was met: a Structure, where none was
abbrev pub type_met : Option Seen → Option TtlvType
type_met None = Some Structure
type_met (Some seen) = type_of_text (text_in seen)

-- the members are these three, as far as they are there
pub record AreThree (json : Members) (met : SeenMembers) (added : List ℕ) : Type 0 where
  pub tag : Option Data
  pub typ : Option Data
  pub value : Option Data
  pub are : json ≡ three tag typ value
  pub has_tag : HasText tag met.tag
  pub has_type : HasText typ met.typ
  pub has_value : HasValue value met.value added

abbrev pub AreMet : Bool → Members → SeenMembers → List ℕ → Type 0
AreMet true json met added = has_other json ≡ true
AreMet false json met added = AreThree json met added

-- an object's members so far, and the bytes that were added of its value
pub record Meets (json : Members) (met : SeenMembers) (old new : List ℕ) : Type 0 where
  pub added : List ℕ
  pub all : new ≡ old ++ added
  pub are : AreMet met.others json met added

-- the bytes of a value that is items have room for a header in front
abbrev pub HasRoom : SeenMembers → ℕ → ℕ → Type 0
HasRoom met top len = (seen : Seen) → met.others ≡ false → met.value ≡ Some seen → items_in seen ≡ Ok tt → top + 8 ≤ len

-- a member was read, and is met behind those before it
pub record ReadsMember (depth : ℕ) (name : List ℕ) (tokens rest : List Token) (top : ℕ) (old new : List ℕ) (met now : SeenMembers) : Type 0 where
  pub json : Data
  pub parsed : converted of_json (value depth tokens) ≡ Some (json, rest)
  pub meets : (before : Members) (front : List ℕ) → length front ≡ top → Meets before met front old → Meets (put name json before) now front new
