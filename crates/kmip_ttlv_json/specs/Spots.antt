-- Where JSON stops being JSON, and where the item begins that isn't one: by how many tokens are left there.
use Rattle.std.specs.Prelude.{◌≡◌, ◌≢◌, ◌⊎◌, ℕ, ◌+◌, ◌-◌, ◌<◌, Bool, true, false, List, [], ◌∷◌, length, nat_lt, is_some, codes, if◌then◌else◌}
use Rattle.std.specs.Prelude.{Option, Some, None, Result, Ok, Err}
use Rattle.std.specs.Str.{bytes_eq}
use Rattle.json.specs.Token.{Token}
use Rattle.json.specs.Json.{after_end_array, read_key, members, value}
use Rattle.json.specs.Lex.{tokens}
use Rattle.serde_json.specs.Data.{Data, null, boolean, number, string, array, object, Members, no_members, member}
use Rattle.serde_json.specs.Read.{converted, of_json, of_members, number_of, max_depth}
use Rattle.kmip_ttlv_types.specs.declared.typ.TtlvType.{TtlvType}
use Rattle.kmip_ttlv_types.specs.declared.typ.TtlvType.TheVariants.{Structure}
use Rattle.kmip_ttlv_types.specs.Trees.{Tree}
use Rattle.kmip_ttlv_json.specs.declared.failure.BadItem.{BadItem}
use Rattle.kmip_ttlv_json.specs.declared.failure.BadMember.{BadMember}
use Rattle.kmip_ttlv_json.specs.declared.members.Members.{Members as SeenMembers}
use Rattle.kmip_ttlv_json.specs.declared.read.Stop.{Stop}
use Rattle.kmip_ttlv_json.specs.declared.read.Stop.TheVariants.{NotJson, NoMemory}
use Rattle.kmip_ttlv_json.specs.declared.seen.Seen.{Seen}
use Rattle.kmip_ttlv_json.specs.declared.seen.Seen.TheVariants.{Text, Truth, Items as SeenItems, Item as SeenItem, Number, Null}
use Rattle.kmip_ttlv_json.specs.declared.tokens.Tokens.{Tokens}
use Rattle.kmip_ttlv_json.specs.JsonTrees.{tag_in, type_in, are_named, are_two_named, tree_of}
use Rattle.kmip_ttlv_json.specs.Places.{offset_of}

-- a value of JSON is read from the front of some tokens, and these are left
abbrev pub Gives : ℕ → List Token → Data → List Token → Type 0
Gives depth ts d rest = converted of_json (value depth ts) ≡ Some (d, rest)

-- ---- where it stops being JSON

-- a value may begin with the first of some tokens
abbrev pub begins_value : ℕ → List Token → Bool
begins_value depth [] = false
begins_value depth (Token.begin_object ∷ ts) = nat_lt 0 depth
begins_value depth (Token.end_object ∷ ts) = false
begins_value depth (Token.begin_array ∷ ts) = nat_lt 0 depth
begins_value depth (Token.end_array ∷ ts) = false
begins_value depth (Token.key s ∷ ts) = false
begins_value depth (Token.string s ∷ ts) = true
begins_value depth (Token.number s ∷ ts) = is_some (number_of s)
begins_value depth (Token.boolean b ∷ ts) = true
begins_value depth (Token.null ∷ ts) = true
begins_value depth (Token.bad ∷ ts) = false

-- a value, the rest of an array or of an object stops being one where so many tokens are left
mutual
  pub data StopsAt : ℕ → List Token → ℕ → Type 0 where
    no_value : (depth : ℕ) (ts : List Token) → begins_value depth ts ≡ false → StopsAt depth ts (length ts)
    in_array :
        (depth : ℕ) (ts us : List Token) (left : ℕ)
        → 0 < depth
        → ts ≡ Token.begin_array ∷ us
        → ItemsStopAt (depth - 1) us left
        → StopsAt depth ts left
    in_object :
        (depth : ℕ) (ts us : List Token) (left : ℕ)
        → 0 < depth
        → ts ≡ Token.begin_object ∷ us
        → MembersStopAt (depth - 1) us left
        → StopsAt depth ts left

  pub data ItemsStopAt : ℕ → List Token → ℕ → Type 0 where
    in_item :
        (depth : ℕ) (ts : List Token) (left : ℕ)
        → after_end_array ts ≡ None
        → StopsAt depth ts left
        → ItemsStopAt depth ts left
    behind_item :
        (depth : ℕ) (ts rest : List Token) (d : Data) (left : ℕ)
        → after_end_array ts ≡ None
        → Gives depth ts d rest
        → ItemsStopAt depth rest left
        → ItemsStopAt depth ts left

  pub data MembersStopAt : ℕ → List Token → ℕ → Type 0 where
    no_member : (depth : ℕ) (ts : List Token) → read_key ts ≡ None → MembersStopAt depth ts (length ts)
    in_member :
        (depth : ℕ) (ts us : List Token) (name : List ℕ) (left : ℕ)
        → read_key ts ≡ Some (Some name, us)
        → StopsAt depth us left
        → MembersStopAt depth ts left
    behind_member :
        (depth : ℕ) (ts us rest : List Token) (name : List ℕ) (d : Data) (left : ℕ)
        → read_key ts ≡ Some (Some name, us)
        → Gives depth us d rest
        → MembersStopAt depth rest left
        → MembersStopAt depth ts left

-- a text stops being JSON where so many tokens are left: in its value, or behind it
abbrev pub TextStopsAt : List Token → ℕ → Type 0
TextStopsAt ts left =
    StopsAt max_depth ts left
    ⊎ ((d : Data) × (rest : List Token) × Gives max_depth ts d rest × (rest ≢ []) × (length rest ≡ left))

-- a text stops being JSON at this offset
pub record Breaks (text : List ℕ) (offset : ℕ) : Type 0 where
  pub index : ℕ
  pub stops : TextStopsAt (tokens text) (length (tokens text) - index)
  pub is : offset ≡ offset_of index text

-- ---- where the item begins that isn't one

-- JSON is an array
abbrev pub is_array : Data → Bool
is_array null = false
is_array (boolean b) = false
is_array (number n) = false
is_array (string s) = false
is_array (array ds) = true
is_array (object ms) = false

-- JSON is an object with the members of an item, and is right as far as they go without the items in its value: a Structure
abbrev pub is_typed_open : Option TtlvType → Data → Bool
is_typed_open None v = false
is_typed_open (Some Structure) v = is_array v
is_typed_open (Some typ) v = false

abbrev pub is_tagged_open : Option ℕ → Option TtlvType → Data → Bool
is_tagged_open None typ v = false
is_tagged_open (Some tag) typ v = is_typed_open typ v

abbrev pub is_open : Data → Bool
is_open (object (member a tag (member b typ (member c v no_members)))) = if are_named a b c then is_tagged_open (tag_in tag) (type_in typ) v else false
is_open (object (member a tag (member c v no_members))) = if are_two_named a c then is_tagged_open (tag_in tag) (Some Structure) v else false
is_open _ = false

-- the last member `value` of the rest of an object, where one was met before or not, begins with these tokens
pub data LastValue : ℕ → List Token → Option (List Token) → List Token → Type 0 where
  no_more :
      (depth : ℕ) (ts rest vs : List Token)
      → read_key ts ≡ Some (None, rest)
      → LastValue depth ts (Some vs) vs
  this_value :
      (depth : ℕ) (ts us rest vs : List Token) (met : Option (List Token)) (name : List ℕ) (d : Data)
      → read_key ts ≡ Some (Some name, us)
      → bytes_eq name (codes "value") ≡ true
      → Gives depth us d rest
      → LastValue depth rest (Some us) vs
      → LastValue depth ts met vs
  another :
      (depth : ℕ) (ts us rest vs : List Token) (met : Option (List Token)) (name : List ℕ) (d : Data)
      → read_key ts ≡ Some (Some name, us)
      → bytes_eq name (codes "value") ≡ false
      → Gives depth us d rest
      → LastValue depth rest met vs
      → LastValue depth ts met vs

-- of a value that is no item, or of items that aren't all right, what is wrong begins where so many tokens are left: it is a value that is
-- wrong itself, or the first wrong item in its last value
mutual
  pub data Blames : ℕ → List Token → ℕ → Type 0 where
    itself :
        (depth : ℕ) (ts rest : List Token) (d : Data) (why : BadMember)
        → Gives depth ts d rest
        → tree_of d ≡ Err why
        → is_open d ≡ false
        → Blames depth ts (length ts)
    in_value :
        (depth : ℕ) (ts us vs rest : List Token) (d : Data) (left : ℕ)
        → Gives depth ts d rest
        → is_open d ≡ true
        → 0 < depth
        → ts ≡ Token.begin_object ∷ us
        → LastValue (depth - 1) us None vs
        → BlamesArray (depth - 1) vs left
        → Blames depth ts left

  pub data BlamesArray : ℕ → List Token → ℕ → Type 0 where
    in_items :
        (depth : ℕ) (ts us : List Token) (left : ℕ)
        → 0 < depth
        → ts ≡ Token.begin_array ∷ us
        → BlamesFirst (depth - 1) us left
        → BlamesArray depth ts left

  pub data BlamesFirst : ℕ → List Token → ℕ → Type 0 where
    the_first :
        (depth : ℕ) (ts : List Token) (left : ℕ)
        → after_end_array ts ≡ None
        → Blames depth ts left
        → BlamesFirst depth ts left
    a_later :
        (depth : ℕ) (ts rest : List Token) (d : Data) (t : Tree) (left : ℕ)
        → after_end_array ts ≡ None
        → Gives depth ts d rest
        → tree_of d ≡ Ok t
        → BlamesFirst depth rest left
        → BlamesFirst depth ts left

-- in the value that a text is, what is wrong begins at this offset
pub record Blamed (text : List ℕ) (offset : ℕ) : Type 0 where
  pub index : ℕ
  pub blames : Blames max_depth (tokens text) (length (tokens text) - index)
  pub is : offset ≡ offset_of index text

-- ---- while it is read

-- all tokens, those that were taken and those that are left
abbrev pub all_of : Tokens → ℕ
all_of t = t.taken + length t.reader

-- of so many tokens, reading stopped where it does
abbrev pub Stopped : (ℕ → Type 0) → ℕ → Stop → Type 0
Stopped stops total (NotJson at) = stops (total - at)
Stopped stops total NoMemory = Unit {0}

abbrev pub StopsThere : ℕ → ℕ → List Token → Stop → Type 0
StopsThere total depth ts e = Stopped (StopsAt depth ts) total e

abbrev pub StopsInItems : ℕ → ℕ → List Token → Stop → Type 0
StopsInItems total depth ts e = Stopped (ItemsStopAt depth ts) total e

abbrev pub StopsInMembers : ℕ → ℕ → List Token → Stop → Type 0
StopsInMembers total depth ts e = Stopped (MembersStopAt depth ts) total e

abbrev pub StopsInText : List ℕ → Stop → Type 0
StopsInText text e = Stopped (TextStopsAt (tokens text)) (length (tokens text)) e

-- of so many tokens, what is wrong with some items is where it is said to be
abbrev pub ArePlaced : ℕ → ℕ → List Token → Result (Unit {0}) BadItem → Type 0
ArePlaced total depth ts (Ok done) = Unit {0}
ArePlaced total depth ts (Err bad) = BlamesFirst depth ts (total - bad.at)

-- what is wrong with a value as an item, or as items
abbrev pub IsPlaced : ℕ → ℕ → List Token → Seen → Type 0
IsPlaced total depth ts (SeenItem (Ok structure)) = Unit {0}
IsPlaced total depth ts (SeenItem (Err bad)) = Blames depth ts (total - bad.at)
IsPlaced total depth ts (SeenItems (Ok done)) = Blames depth ts (length ts)
IsPlaced total depth ts (SeenItems (Err bad)) = Blames depth ts (length ts) × BlamesArray depth ts (total - bad.at)
IsPlaced total depth ts (Text s) = Blames depth ts (length ts)
IsPlaced total depth ts (Truth b) = Blames depth ts (length ts)
IsPlaced total depth ts (Number w) = Blames depth ts (length ts)
IsPlaced total depth ts Null = Blames depth ts (length ts)

-- a value's items
abbrev pub IsValuePlaced : ℕ → ℕ → List Token → Option Seen → Type 0
IsValuePlaced total depth ts value = (bad : BadItem) → value ≡ Some (SeenItems (Err bad)) → BlamesArray depth ts (total - bad.at)

-- a member was read: if it is the value, its items
abbrev pub MeetsPlaced : ℕ → ℕ → List ℕ → List Token → SeenMembers → SeenMembers → Type 0
MeetsPlaced total depth name ts met now =
    ((bytes_eq name (codes "value") ≡ true) × IsValuePlaced total depth ts now.value)
    ⊎ ((bytes_eq name (codes "value") ≡ false) × (now.value ≡ met.value))

-- an object behind so many tokens is wrong itself, or its value is
abbrev pub IsEndPlaced : ℕ → Option Seen → Data → Result Bool BadItem → Type 0
IsEndPlaced at value d (Ok structure) = Unit {0}
IsEndPlaced at value d (Err bad) =
    ((bad.at ≡ at) × (is_open d ≡ false)) ⊎ ((is_open d ≡ true) × (value ≡ Some (SeenItems (Err bad))))

-- the rest of an object behind so many tokens
pub record BlamesMembers (total depth at : ℕ) (ts : List Token) (bad : BadItem) : Type 0 where
  pub json : Members
  pub rest : List Token
  pub gives : converted (λ ms. of_members ms no_members) (members (value depth) (length ts) ts) ≡ Some (json, rest)
  pub why : tree_of (object json) ≡ Err bad.bad
  pub place : ((bad.at ≡ at) × (is_open (object json) ≡ false))
      ⊎ ((is_open (object json) ≡ true) × ((vs : List Token) × LastValue depth ts None vs × BlamesArray depth vs (total - bad.at)))

abbrev pub IsItemPlaced : ℕ → ℕ → ℕ → List Token → Result Bool BadItem → Type 0
IsItemPlaced total depth at ts (Ok structure) = Unit {0}
IsItemPlaced total depth at ts (Err bad) = BlamesMembers total depth at ts bad

-- a text's value
abbrev pub IsTextPlaced : List ℕ → Result Bool BadItem → Type 0
IsTextPlaced text (Ok structure) = Unit {0}
IsTextPlaced text (Err bad) = Blames max_depth (tokens text) (length (tokens text) - bad.at)
