-- A walk over whole items, where it stops, and what it returns.
use Rattle.std.specs.Prelude.{◌≡◌, ◌≢◌, ◌⊎◌, ℕ, ◌+◌, ◌<◌, ◌≤◌, Bool, true, false, ◌==◌, List, [], ◌∷◌, ◌++◌, length}
use Rattle.std.specs.Prelude.{map, take, drop, Option, Some, None, EachIndex, slice_index}
use Rattle.kmip_ttlv_types.specs.declared.typ.TtlvType.{TtlvType}
use Rattle.kmip_ttlv_types.specs.declared.typ.TtlvType.TheVariants.{Structure}
use Rattle.kmip_ttlv_types.specs.ItemTypes.{type_of, fixed_length}
use Rattle.kmip_ttlv_types.specs.Leaves.{is_valid}
use Rattle.kmip_ttlv_types.specs.Places.{tag_at, code_at, length_at, size}
use Rattle.kmip_ttlv_items.specs.declared.found.FoundItem.{FoundItem}
use Rattle.kmip_ttlv_items.specs.declared.found.Fault.{Fault}
use Rattle.kmip_ttlv_items.specs.declared.found.FaultKind.{FaultKind}
use Rattle.kmip_ttlv_items.specs.declared.found.FaultKind.TheVariants.{Cut, NoStructure, UnknownType, PartialHeader}
use Rattle.kmip_ttlv_items.specs.declared.found.FaultKind.TheVariants.{WrongLength, Overlong, InvalidValue, Surplus}
use Rattle.kmip_ttlv_items.specs.declared.found.WalkEnd.{WalkEnd}
use Rattle.kmip_ttlv_items.specs.FoundItems.{Lists, overlaid}

-- whether a value may have this length, if its type has this fixed length or none
abbrev pub has_length : Option ℕ → ℕ → Bool
has_length None n = true
has_length (Some m) n = n == m

-- the type at an offset, if its code is known
abbrev pub type_at : List ℕ → ℕ → Option TtlvType
type_at bytes p = type_of (code_at bytes p)

-- the content of the item at an offset
abbrev pub content_at : List ℕ → ℕ → List ℕ
content_at bytes p = take (length_at bytes p) (drop (p + 8) bytes)

-- how many bytes an item takes by itself: a structure those of its header, since the items in it have their own
abbrev pub own_size : TtlvType → ℕ → ℕ
own_size Structure n = 8
own_size t n = size t n

-- the item at an offset passes no end, its own bytes are there, and the value of a leaf is valid; it is at this
-- depth
pub record IsWhole (bytes : List ℕ) (p e depth : ℕ) (i : FoundItem) : Type 0 where
  pub offset : i.offset ≡ p
  pub deep : i.depth ≡ depth
  pub tag : i.tag ≡ tag_at bytes p
  pub typ : type_at bytes p ≡ Some i.typ
  pub len : i.length ≡ length_at bytes p
  pub fits : p + size i.typ i.length ≤ e
  pub there : p + own_size i.typ i.length ≤ length bytes
  pub valid : i.typ ≢ Structure → is_valid i.typ (content_at bytes p) ≡ true

-- the header at an offset ends before this end and within the bytes, and has this type
pub record HasType (bytes : List ℕ) (p e : ℕ) (t : TtlvType) : Type 0 where
  pub there : p + 8 ≤ e
  pub read : p + 8 ≤ length bytes
  pub typ : type_at bytes p ≡ Some t

-- a length that a value of this type may have
abbrev pub IsLengthOf : TtlvType → ℕ → Type 0
IsLengthOf t n = has_length (fixed_length t) n ≡ true

-- there is room for a header at an offset before this end, but the bytes end within it
abbrev pub CutHeader : List ℕ → ℕ → ℕ → Type 0
CutHeader bytes p e = (p + 8 ≤ e) × (length bytes < p + 8)

-- the leaf at an offset passes no end, but the bytes end within its value or padding
pub record CutValue (bytes : List ℕ) (p e : ℕ) : Type 0 where
  pub typ : TtlvType
  pub has : HasType bytes p e typ
  pub long : IsLengthOf typ (length_at bytes p)
  pub fits : p + size typ (length_at bytes p) ≤ e
  pub cut : length bytes < p + own_size typ (length_at bytes p)

-- what is wrong with the item at an offset, in a structure with this end; each kind is for what no kind above it
-- is for
abbrev pub Misfits : List ℕ → ℕ → ℕ → FaultKind → Type 0
Misfits bytes p e PartialHeader = e < p + 8
Misfits bytes p e Cut = CutHeader bytes p e ⊎ CutValue bytes p e
Misfits bytes p e UnknownType = (p + 8 ≤ e) × (p + 8 ≤ length bytes) × (type_at bytes p ≡ None)
Misfits bytes p e WrongLength =
    (t : TtlvType) × HasType bytes p e t × (has_length (fixed_length t) (length_at bytes p) ≡ false)
Misfits bytes p e Overlong =
    (t : TtlvType) × HasType bytes p e t × IsLengthOf t (length_at bytes p) × (e < p + size t (length_at bytes p))
Misfits bytes p e InvalidValue =
    (t : TtlvType) × HasType bytes p e t × IsLengthOf t (length_at bytes p) × (p + size t (length_at bytes p) ≤ e)
    × (p + own_size t (length_at bytes p) ≤ length bytes) × (t ≢ Structure) × (is_valid t (content_at bytes p) ≡ false)
Misfits bytes p e _ = ⊥

-- what is wrong with the root
abbrev pub RootMisfits : List ℕ → FaultKind → Type 0
RootMisfits bytes Cut = length bytes < 8
RootMisfits bytes UnknownType = (8 ≤ length bytes) × (type_at bytes 0 ≡ None)
RootMisfits bytes NoStructure = (t : TtlvType) × HasType bytes 0 (length bytes) t × (t ≢ Structure)
RootMisfits bytes _ = ⊥

-- a walk over whole items, into structures and out of them at the ends that their headers state, whether or not the bytes
-- reach that far: it is at this offset, in structures with these ends, the innermost first, and has met these items
pub data WalksTo (bytes : List ℕ) : ℕ → List ℕ → List FoundItem → Type 0 where
  enters_root :
      (q e : ℕ) (i : FoundItem)
      → IsWhole bytes 0 e 0 i
      → i.typ ≡ Structure
      → q ≡ 8
      → e ≡ size i.typ i.length
      → WalksTo bytes q (e ∷ []) (i ∷ [])
  enters :
      (p q e f : ℕ) (es : List ℕ) (xs : List FoundItem) (i : FoundItem)
      → WalksTo bytes p (e ∷ es) xs
      → IsWhole bytes p e (length (e ∷ es)) i
      → i.typ ≡ Structure
      → q ≡ p + 8 → f ≡ p + size i.typ i.length → WalksTo bytes q (f ∷ e ∷ es) (xs ++ (i ∷ []))
  passes :
      (p q e : ℕ) (es : List ℕ) (xs : List FoundItem) (i : FoundItem)
      → WalksTo bytes p (e ∷ es) xs
      → IsWhole bytes p e (length (e ∷ es)) i
      → i.typ ≢ Structure
      → q ≡ p + size i.typ i.length → WalksTo bytes q (e ∷ es) (xs ++ (i ∷ []))
  leaves : (p e : ℕ) (es : List ℕ) (xs : List FoundItem) → WalksTo bytes p (e ∷ es) xs → p ≡ e → WalksTo bytes p es xs

-- where a walk can be: the offset, the ends of the structures around, and the items that it has met; before its first
-- step it is at 0, in no structure, and has met no item
pub data Meets (bytes : List ℕ) (p : ℕ) (es : List ℕ) (xs : List FoundItem) : Type 0 where
  at_first : p ≡ 0 → es ≡ [] → xs ≡ [] → Meets bytes p es xs
  on_the_way : WalksTo bytes p es xs → Meets bytes p es xs

-- a walk can be at this offset, in structures with these ends
abbrev pub CanStand : List ℕ → ℕ → List ℕ → Type 0
CanStand bytes p es = ∥ ((xs : List FoundItem) × Meets bytes p es xs) ∥₁

-- the fault at which a walk that has met these items stops: of the root, of an item in a structure, or of what
-- follows the root
pub data StopsAt (bytes : List ℕ) (xs : List FoundItem) (f : Fault) : Type 0 where
  at_root : xs ≡ [] → f.offset ≡ 0 → RootMisfits bytes f.kind → StopsAt bytes xs f
  inside :
      (e : ℕ) (es : List ℕ)
      → WalksTo bytes f.offset (e ∷ es) xs
      → f.offset < e
      → Misfits bytes f.offset e f.kind
      → StopsAt bytes xs f
  behind : WalksTo bytes f.offset [] xs → f.offset < length bytes → f.kind ≡ Surplus → StopsAt bytes xs f

-- the bytes are one whole message with these items; or they are none, and a walk that met these items stops at this fault
abbrev pub Ended : List ℕ → List FoundItem → Option Fault → Type 0
Ended bytes xs None = Lists bytes xs
Ended bytes xs (Some f) = StopsAt bytes xs f × ((all : List FoundItem) → Lists bytes all → ⊥)

-- what a walk returns: the items that it met, stored in some form in the caller's list, and how it ended
pub record Finds {T : Type 0} (from_item : FoundItem → T) (bytes : List ℕ) (old new : List T) (r : WalkEnd) : Type 0 where
  pub found : List FoundItem
  pub count : r.count ≡ length found
  pub converted : new ≡ overlaid (map from_item found) old
  pub ended : Ended bytes found r.fault

-- whether bytes are one whole message, and the first fault if not
pub record Judges (bytes : List ℕ) (fault : Option Fault) : Type 0 where
  pub found : List FoundItem
  pub ended : Ended bytes found fault

-- what is wrong is of one kind
abbrev pub HasOneName : (FaultKind → Type 0) → Type 0
HasOneName is_wrong = (k m : FaultKind) → is_wrong k → is_wrong m → k ≡ m

-- each number is a byte
abbrev pub AreBytes : List ℕ → Type 0
AreBytes bytes = EachIndex bytes (λ k. slice_index bytes k < 256)

-- a walk that met these items ends, with a fault or without
pub record Ends (bytes : List ℕ) (met : List FoundItem) : Type 0 where
  pub more : List FoundItem
  pub fault : Option Fault
  pub ended : Ended bytes (met ++ more) fault
