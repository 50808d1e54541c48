-- What was written so far, with the structures that are still open: the length field of an open one holds the distance
-- from the header of the one around it.
use Rattle.std.specs.Prelude.{◌≡◌, ◌≢◌, ℕ, zero, suc, ◌+◌, ◌-◌, ◌<◌, ◌≤◌, ◌^◌, List, ◌++◌, length, take, Some}
use Rattle.kmip_ttlv_types.specs.declared.typ.TtlvType.{TtlvType}
use Rattle.kmip_ttlv_types.specs.declared.typ.TtlvType.TheVariants.{Structure}
use Rattle.kmip_ttlv_types.specs.ItemTypes.{type_of}
use Rattle.kmip_ttlv_types.specs.Items.{header}
use Rattle.kmip_ttlv_types.specs.Trees.{Tree, Trees, leaf, node, no_trees, tree, bytes_below}
use Rattle.kmip_ttlv_write.specs.declared.given.GivenItem.{GivenItem}
use Rattle.kmip_ttlv_write.specs.declared.emit.Place.{Place}
use Rattle.kmip_ttlv_write.specs.GivenItems.{given_content}
use Rattle.kmip_ttlv_write.specs.FlatWrites.{HasValue, typ_of, taken}

-- trees with one more after them
abbrev pub add_last : Trees → Tree → Trees
add_last no_trees t = tree t no_trees
add_last (tree u us) t = tree u (add_last us t)

-- whole trees outside of all structures, and within each open one, the outermost first
pub data Opened : Type 0 where
  outside : (done : Trees) → Opened
  within : (around : Opened) → (tag : ℕ) → (done : Trees) → Opened

-- how many structures are open
abbrev pub depth_of : Opened → ℕ
depth_of (outside done) = 0
depth_of (within around tag done) = suc (depth_of around)

-- the distance from the header of the innermost open structure to the next header
abbrev pub link : Opened → ℕ
link (outside done) = 0
link (within around tag done) = 8 + length (bytes_below done)

-- the bytes so far
abbrev pub spine : Opened → List ℕ
spine (outside done) = bytes_below done
spine (within around tag done) = spine around ++ (header tag Structure (link around) ++ bytes_below done)

-- the offset of the innermost open structure's header
abbrev pub IsTop : Opened → ℕ → Type 0
IsTop (outside done) top = Unit {0}
IsTop (within around tag done) top = top ≡ length (spine around)

-- how many bytes there are from the outermost open structure on, and n more
abbrev pub since : ℕ → Opened → ℕ
since n (outside done) = n
since n (within around tag done) = since (n + 8 + length (bytes_below done)) around

-- one more tree in the innermost open structure
abbrev pub add : Tree → Opened → Opened
add t (outside done) = outside (add_last done t)
add t (within around tag done) = within around tag (add_last done t)

-- the innermost open structure ends
abbrev pub close_one : Opened → Opened
close_one (outside done) = outside done
close_one (within around tag done) = add (node tag done) around

-- n of them end
abbrev pub close_by : ℕ → Opened → Opened
close_by zero o = o
close_by (suc n) o = close_by n (close_one o)

-- they end until `depth` are left
abbrev pub leave : ℕ → Opened → Opened
leave depth o = close_by (depth_of o - depth) o

-- an item of this type is next, in structures that are open
abbrev pub entered_as : TtlvType → List ℕ → GivenItem → Opened → Opened
entered_as Structure lent i o = within o i.tag no_trees
entered_as typ lent i o = add (leaf i.tag typ (given_content lent i)) o

abbrev pub entered : List ℕ → GivenItem → Opened → Opened
entered lent i o = entered_as (typ_of i) lent i (leave i.depth o)

-- a buffer holds the bytes so far, up to an offset
pub record Holds (o : Opened) (buffer : List ℕ) (p : Place) : Type 0 where
  pub room : p.at ≤ length buffer
  pub front : take p.at buffer ≡ spine o
  pub depth : p.depth ≡ depth_of o
  pub top : IsTop o p.top
  pub small : since 0 o < 2 ^ 32 + 8

-- with n more bytes, no structure's content is too long
abbrev pub Small : ℕ → Opened → Type 0
Small n (outside done) = Unit {0}
Small n (within around tag done) = since n (within around tag done) < 2 ^ 32 + 8

-- a buffer holds the bytes of some open structures
pub record IsOpen (buffer : List ℕ) (p : Place) : Type 0 where
  pub opened : Opened
  pub holds : Holds opened buffer p

-- the innermost of them can end
pub record CanClose (buffer : List ℕ) (p : Place) : Type 0 where
  pub opened : Opened
  pub holds : Holds opened buffer p
  pub some : 0 < p.depth

-- n bytes can follow them
pub record CanTake (n : ℕ) (buffer : List ℕ) (p : Place) : Type 0 where
  pub opened : Opened
  pub holds : Holds opened buffer p
  pub small : Small n opened
  pub room : p.at + n ≤ length buffer

-- an item can follow once the structures that don't contain it have ended
pub record CanPut (lent : List ℕ) (i : GivenItem) (buffer : List ℕ) (p : Place) : Type 0 where
  pub opened : Opened
  pub holds : Holds opened buffer p
  pub typ : TtlvType
  pub typed : type_of i.typ ≡ Some typ
  pub value : typ ≢ Structure → HasValue lent typ i
  pub small : Small (taken typ i.length) (leave i.depth opened)
  pub room : p.at + taken typ i.length ≤ length buffer
