-- Item by item: whether each can follow those before it, what is wrong with the first that can't, and what the
-- calls return.
use Rattle.std.specs.Prelude.{◌≡◌, ◌≢◌, ◌⊎◌, ℕ, ◌+◌, ◌<◌, ◌≤◌, ◌^◌, ◌==◌, true, false, List, [], ◌∷◌, ◌++◌, length, take, drop}
use Rattle.std.specs.Prelude.{Some, None, if◌then◌else◌}
use Rattle.kmip_ttlv_types.specs.declared.typ.TtlvType.{TtlvType}
use Rattle.kmip_ttlv_types.specs.declared.typ.TtlvType.TheVariants.{Structure}
use Rattle.kmip_ttlv_types.specs.ItemTypes.{type_of, fixed_length}
use Rattle.kmip_ttlv_types.specs.Leaves.{is_valid}
use Rattle.kmip_ttlv_types.specs.Places.{size}
use Rattle.kmip_ttlv_items.specs.ItemWalks.{has_length}
use Rattle.kmip_ttlv_write.specs.declared.given.GivenItem.{GivenItem}
use Rattle.kmip_ttlv_write.specs.declared.given.BadItem.{BadItem}
use Rattle.kmip_ttlv_write.specs.declared.given.BadKind.{BadKind}
use Rattle.kmip_ttlv_write.specs.declared.given.BadKind.TheVariants.{NotInside, LongTag, UnknownType, WrongLength}
use Rattle.kmip_ttlv_write.specs.declared.given.BadKind.TheVariants.{Outside, InvalidValue, TooLong}
use Rattle.kmip_ttlv_write.specs.declared.given.WriteError.{WriteError}
use Rattle.kmip_ttlv_write.specs.declared.given.WriteError.TheVariants.{Bad, OutOfMemory}
use Rattle.kmip_ttlv_write.specs.declared.judge.Reach.{Reach}
use Rattle.kmip_ttlv_write.specs.GivenItems.{given_content, IsWritten}

-- how many bytes an item adds: a structure those of its header
abbrev pub taken : TtlvType → ℕ → ℕ
taken Structure n = 8
taken typ n = size typ n

-- how many structures are open after an item
abbrev pub opened : TtlvType → ℕ → ℕ
opened Structure depth = depth + 1
opened typ depth = depth

-- the state before the first item
abbrev pub start : Reach
start = record { depth = 0; size = 0; content = 0 }

-- the state after an item of this type
abbrev pub advanced : Reach → TtlvType → GivenItem → Reach
advanced r typ i = record {
  depth = opened typ i.depth;
  size = r.size + taken typ i.length;
  content = if i.depth == 0 then 0 else r.content + taken typ i.length;
}

-- the type of an item, if its code is known
abbrev pub typ_of : GivenItem → TtlvType
typ_of i = elim (type_of i.typ) [ None ↦ Structure | Some typ ↦ typ ]

-- the state after an item, and after several
abbrev pub after : Reach → GivenItem → Reach
after r i = advanced r (typ_of i) i

abbrev pub after_all : Reach → List GivenItem → Reach
after_all r [] = r
after_all r (x ∷ xs) = after_all (after r x) xs

-- a leaf has a valid value
pub record HasValue (lent : List ℕ) (typ : TtlvType) (i : GivenItem) : Type 0 where
  pub short : i.length < 2 ^ 32
  pub inside : i.offset + 8 + i.length ≤ length lent
  pub valid : is_valid typ (given_content lent i) ≡ true

-- what is wrong with its value
abbrev pub MissesValue : List ℕ → TtlvType → GivenItem → BadKind → Type 0
MissesValue lent typ i WrongLength = has_length (fixed_length typ) i.length ≡ false
MissesValue lent typ i Outside =
    (has_length (fixed_length typ) i.length ≡ true) × (length lent < i.offset + 8 + i.length)
MissesValue lent typ i InvalidValue =
    (has_length (fixed_length typ) i.length ≡ true) × (i.offset + 8 + i.length ≤ length lent)
    × (is_valid typ (given_content lent i) ≡ false)
MissesValue lent typ i _ = ⊥

-- with the item, every length fits into four bytes, and every offset into eight
pub record HasRoom (r : Reach) (typ : TtlvType) (i : GivenItem) : Type 0 where
  pub content : (advanced r typ i).content < 2 ^ 32
  pub total : r.size + taken typ i.length < 2 ^ 64

-- with it, one doesn't
abbrev pub IsTooLong : Reach → TtlvType → GivenItem → BadKind → Type 0
IsTooLong r typ i TooLong = (2 ^ 32 ≤ (advanced r typ i).content) ⊎ (2 ^ 64 ≤ r.size + taken typ i.length)
IsTooLong r typ i _ = ⊥

-- an item can be written in this state
pub record Fits (lent : List ℕ) (r : Reach) (i : GivenItem) : Type 0 where
  pub depth : i.depth ≤ r.depth
  pub tag : i.tag < 2 ^ 24
  pub typ : TtlvType
  pub typed : type_of i.typ ≡ Some typ
  pub value : typ ≢ Structure → HasValue lent typ i
  pub room : HasRoom r typ i

-- its depth, tag and type are right
pub record HasHeader (r : Reach) (i : GivenItem) (typ : TtlvType) : Type 0 where
  pub depth : i.depth ≤ r.depth
  pub tag : i.tag < 2 ^ 24
  pub typed : type_of i.typ ≡ Some typ

-- what is wrong with it; each kind is for what no kind above it is for
abbrev pub Misfits : List ℕ → Reach → GivenItem → BadKind → Type 0
Misfits lent r i NotInside = r.depth < i.depth
Misfits lent r i LongTag = (i.depth ≤ r.depth) × (2 ^ 24 ≤ i.tag)
Misfits lent r i UnknownType = (i.depth ≤ r.depth) × (i.tag < 2 ^ 24) × (type_of i.typ ≡ None)
Misfits lent r i TooLong =
    (typ : TtlvType) × HasHeader r i typ × (typ ≢ Structure → HasValue lent typ i) × IsTooLong r typ i TooLong
Misfits lent r i kind = (typ : TtlvType) × HasHeader r i typ × (typ ≢ Structure) × MissesValue lent typ i kind

-- each of some items can follow those before it
abbrev pub AllFit : List ℕ → Reach → List GivenItem → Type 0
AllFit lent r [] = Unit {0}
AllFit lent r (x ∷ xs) = Fits lent r x × AllFit lent (after r x) xs

-- the first item that can't be written, and what is wrong with it
pub record IsFirstBad (xs : List GivenItem) (lent : List ℕ) (bad : BadItem) : Type 0 where
  pub before : AllFit lent start (take bad.index xs)
  pub item : GivenItem
  pub rest : List GivenItem
  pub there : drop bad.index xs ≡ item ∷ rest
  pub wrong : Misfits lent (after_all start (take bad.index xs)) item bad.kind

-- these items have no encoding, and this is the first of them that can't be written
pub record HasNone (xs : List GivenItem) (lent : List ℕ) (bad : BadItem) : Type 0 where
  pub first : IsFirstBad xs lent bad
  pub none : (out : List ℕ) → IsWritten xs lent out → ⊥

-- items were written to the front of a buffer, if it has room for them; the rest is unchanged
pub record FillsFront (xs : List GivenItem) (lent : List ℕ) (len : ℕ) (old new : List ℕ) : Type 0 where
  pub text : List ℕ
  pub written : IsWritten xs lent text
  pub length_is : len ≡ length text
  pub buffer : ((len ≤ length old) × (new ≡ text ++ drop len old)) ⊎ ((length old < len) × (new ≡ old))

-- why no vector with the items was returned
abbrev pub FailsToWrite : List GivenItem → List ℕ → WriteError → Type 0
FailsToWrite xs lent (Bad bad) = HasNone xs lent bad
FailsToWrite xs lent OutOfMemory = Unit {0}
