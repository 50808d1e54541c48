-- Items as trees: their encodings, their canonical bytes, and what fits (KMIP 1.0, 9.1.1).
use Rattle.std.specs.Prelude.{◌≡◌, ℕ, ◌<◌, ◌^◌, true, List, [], ◌∷◌, ◌++◌, length, replicate}
use Rattle.std.specs.List.{flat_map}
use Rattle.kmip_ttlv_types.specs.declared.typ.TtlvType.{TtlvType}
use Rattle.kmip_ttlv_types.specs.declared.typ.TtlvType.TheVariants.{Structure}
use Rattle.kmip_ttlv_types.specs.ItemTypes.{pad_len}
use Rattle.kmip_ttlv_types.specs.Leaves.{is_valid}
use Rattle.kmip_ttlv_types.specs.Items.{Raw, header, IsTextOf}

mutual
  -- a leaf with its content, or a structure with the trees in it
  pub data Tree : Type 0 where
    leaf : (tag : ℕ) → (typ : TtlvType) → (content : List ℕ) → Tree
    node : (tag : ℕ) → (below : Trees) → Tree

  -- trees, one after the other
  pub data Trees : Type 0 where
    no_trees : Trees
    tree : Tree → Trees → Trees

-- the trees of a list
abbrev pub trees_of : List Tree → Trees
trees_of [] = no_trees
trees_of (t ∷ ts) = tree t (trees_of ts)

-- a leaf's canonical bytes are padded with zeros
unfoldable pub leaf_bytes : ℕ → TtlvType → List ℕ → List ℕ
leaf_bytes tag typ content = header tag typ (length content) ++ (content ++ replicate (pad_len (length content)) 0)

-- a structure's canonical bytes have no padding: its content is a multiple of eight bytes
unfoldable pub node_bytes : ℕ → List ℕ → List ℕ
node_bytes tag content = header tag Structure (length content) ++ content

-- the canonical bytes of a tree
abbrev mutual
  pub bytes : Tree → List ℕ
  bytes (leaf tag typ content) = leaf_bytes tag typ content
  bytes (node tag below) = node_bytes tag (bytes_below below)

  pub bytes_below : Trees → List ℕ
  bytes_below no_trees = []
  bytes_below (tree t ts) = bytes t ++ bytes_below ts

-- the canonical bytes of a list of trees
abbrev pub bytes_all : List Tree → List ℕ
bytes_all ts = flat_map bytes ts

-- the item that a tree is: its content is the canonical bytes of the trees in it
abbrev pub raw_of : Tree → Raw
raw_of (leaf tag typ content) = record { tag = tag; typ = typ; content = content }
raw_of (node tag below) = record { tag = tag; typ = Structure; content = bytes_below below }

-- a tree fits if every length in it is below 2^32
abbrev mutual
  pub Fits : Tree → Type 0
  Fits (leaf tag typ content) = length content < 2 ^ 32
  Fits (node tag below) = (length (bytes_below below) < 2 ^ 32) × FitsBelow below

  pub FitsBelow : Trees → Type 0
  FitsBelow no_trees = Unit {0}
  FitsBelow (tree t ts) = Fits t × FitsBelow ts

-- the bytes encode the tree, with valid leaves and padding of any value
abbrev mutual
  pub IsTreeText : Tree → List ℕ → Type 0
  IsTreeText (leaf tag typ content) bytes =
      (is_valid typ content ≡ true) × IsTextOf record { tag = tag; typ = typ; content = content } bytes
  IsTreeText (node tag below) bytes =
      (content : List ℕ)
      × IsTextOf record { tag = tag; typ = Structure; content = content } bytes
      × AreTreeTexts below content

  pub AreTreeTexts : Trees → List ℕ → Type 0
  AreTreeTexts no_trees bytes = bytes ≡ []
  AreTreeTexts (tree t ts) bytes =
      (text : List ℕ) × (rest : List ℕ) × (bytes ≡ text ++ rest) × IsTreeText t text × AreTreeTexts ts rest

-- the tree is a structure
abbrev pub IsStructure : Tree → Type 0
IsStructure (leaf tag typ content) = ⊥
IsStructure (node tag below) = Unit {0}

-- no structure in the tree is empty
abbrev mutual
  pub HasNoEmpty : Tree → Type 0
  HasNoEmpty (leaf tag typ content) = Unit {0}
  HasNoEmpty (node tag no_trees) = ⊥
  HasNoEmpty (node tag (tree t ts)) = HasNoEmpty t × HaveNoEmpty ts

  pub HaveNoEmpty : Trees → Type 0
  HaveNoEmpty no_trees = Unit {0}
  HaveNoEmpty (tree t ts) = HasNoEmpty t × HaveNoEmpty ts
