-- How a walk moves on from where it is: an offset, and the ends of the open structures, the innermost first.
use Rattle.std.specs.Prelude.{◌≡◌, ◌≢◌, ℕ, ◌+◌, ◌^◌, ◌<◌, ◌≤◌, ◌==◌, true, false, List, [], ◌∷◌, ◌++◌, length, Option, Some, None, if◌then◌else◌}
use Rattle.kmip_ttlv_types.specs.declared.typ.TtlvType.{TtlvType}
use Rattle.kmip_ttlv_types.specs.declared.typ.TtlvType.TheVariants.{Structure}
use Rattle.kmip_ttlv_types.specs.Leaves.{is_valid}
use Rattle.kmip_ttlv_types.specs.Places.{length_at, size}
use Rattle.kmip_ttlv_items.specs.declared.found.FaultKind.{FaultKind}
use Rattle.kmip_ttlv_items.specs.declared.found.FaultKind.TheVariants.{Cut, InvalidValue}
use Rattle.kmip_ttlv_items.specs.declared.found.FoundItem.{FoundItem}
use Rattle.kmip_ttlv_items.specs.declared.found.Step.{Step}
use Rattle.kmip_ttlv_items.specs.declared.found.Step.TheVariants.{Item, End}
use Rattle.kmip_ttlv_items.specs.ItemWalks.{type_at, content_at, own_size, IsWhole, WalksTo, Meets, Ended}

-- the ends that remain when those that are reached are removed
abbrev pub unreached : ℕ → List ℕ → List ℕ
unreached p [] = []
unreached p (e ∷ es) = if e == p then unreached p es else e ∷ es

-- the first of some ends
abbrev pub innermost : List ℕ → Option ℕ
innermost [] = None
innermost (e ∷ es) = Some e

-- a walk moves on: past the header of a structure, whose end is added in front; or past a leaf
pub data Continues (i : FoundItem) (es : List ℕ) (q : ℕ) (fs : List ℕ) : Type 0 where
  into_structure :
      i.typ ≡ Structure → q ≡ i.offset + 8 → fs ≡ (i.offset + size i.typ i.length) ∷ es → Continues i es q fs
  past_leaf : i.typ ≢ Structure → q ≡ i.offset + size i.typ i.length → fs ≡ es → Continues i es q fs

-- what is wrong with the value of the item at an offset, if anything is: the bytes end within it, or it is no value of
-- the type; a structure has no value of its own
abbrev pub JudgesValue : List ℕ → ℕ → TtlvType → Option FaultKind → Type 0
JudgesValue bytes p t None =
    (p + own_size t (length_at bytes p) ≤ length bytes) × (t ≢ Structure → is_valid t (content_at bytes p) ≡ true)
JudgesValue bytes p t (Some Cut) = length bytes < p + own_size t (length_at bytes p)
JudgesValue bytes p t (Some InvalidValue) =
    (p + own_size t (length_at bytes p) ≤ length bytes) × (t ≢ Structure) × (is_valid t (content_at bytes p) ≡ false)
JudgesValue bytes p t (Some _) = ⊥

-- the next item is whole: it is the root, or it is in a structure
pub data IsDue (bytes : List ℕ) (p : ℕ) (es : List ℕ) (i : FoundItem) : Type 0 where
  root : p ≡ 0 → IsWhole bytes 0 (size i.typ i.length) 0 i → i.typ ≡ Structure → i.length < 2 ^ 32 → IsDue bytes p es i
  within :
      (e : ℕ) (fs : List ℕ)
      → es ≡ e ∷ fs
      → 0 < p
      → p < e
      → e < 2 ^ 64
      → IsWhole bytes p e (length es) i
      → IsDue bytes p es i

-- what is next at an offset: an item; or the end, with the fault that stopped the walk
abbrev pub Due : List ℕ → ℕ → List ℕ → Step → Type 0
Due bytes p es (Item i) = IsDue bytes p es i
Due bytes p es (End fault) = (xs : List FoundItem) → Meets bytes p es xs → Ended bytes xs fault

-- a whole leaf is at an offset, and ends at q, by this stop
pub record IsLeafTo (bytes : List ℕ) (p stop q : ℕ) : Type 0 where
  pub typ : TtlvType
  pub code : type_at bytes p ≡ Some typ
  pub end : q ≡ p + size typ (length_at bytes p)
  pub fits : q ≤ stop
  pub valid : is_valid typ (content_at bytes p) ≡ true

-- in a structure that ends at e a walk passes items from an offset up to another
pub record PassesLeaves (bytes : List ℕ) (e p q : ℕ) : Type 0 where
  pub onward : p ≤ q
  pub walks :
      (es : List ℕ) (xs : List FoundItem)
      → WalksTo bytes p (e ∷ es) xs
      → (more : List FoundItem) × WalksTo bytes q (e ∷ es) (xs ++ more)
