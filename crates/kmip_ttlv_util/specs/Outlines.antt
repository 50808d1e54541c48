-- Outlines of messages, which are what a diagnostic shows, and their text.
use Rattle.std.specs.Prelude.{ℕ, ◌^◌, ◌<◌, Bool, true, false, List, [], ◌∷◌, ◌++◌, length, drop, if◌then◌else◌, Option, Some, None}
use Rattle.std.specs.Prelude.{nat_eq, codes}
use Rattle.std.specs.List.{starts_with}
use Rattle.std.specs.Int.{w32, from_be_bytes}
use Rattle.std.specs.Fmt.{digits}
use Rattle.kmip_ttlv_types.specs.Digits.{six_digits}
use Rattle.kmip_ttlv_types.specs.declared.typ.TtlvType.{TtlvType}
use Rattle.kmip_ttlv_types.specs.declared.typ.TtlvType.TheVariants.{Structure, Enumeration}
use Rattle.kmip_ttlv_util.specs.Letters.{letter}
use Rattle.kmip_ttlv_types.specs.Trees.{Tree, Trees, leaf, node, no_trees, tree}

mutual
  -- of a leaf its tag and type, and an enumeration's value; of a structure its tag and the outlines in it
  pub data Outline : Type 0 where
    leaf_outline : (tag : ℕ) → (typ : TtlvType) → (value : Option ℕ) → Outline
    node_outline : (tag : ℕ) → (below : Outlines) → Outline

  -- outlines, one after the other
  pub data Outlines : Type 0 where
    no_outlines : Outlines
    outline : Outline → Outlines → Outlines

-- an enumeration has a value, any other leaf none
abbrev pub IsShown : TtlvType → Option ℕ → Type 0
IsShown Structure v = ⊥
IsShown Enumeration (Some n) = n < 2 ^ 32
IsShown Enumeration None = ⊥
IsShown typ (Some n) = ⊥
IsShown typ None = Unit {0}

-- tags have three bytes, values four
abbrev mutual
  pub IsOutline : Outline → Type 0
  IsOutline (leaf_outline tag typ value) = (tag < 2 ^ 24) × IsShown typ value
  IsOutline (node_outline tag below) = (tag < 2 ^ 24) × AreOutlines below

  pub AreOutlines : Outlines → Type 0
  AreOutlines no_outlines = Unit {0}
  AreOutlines (outline o os) = IsOutline o × AreOutlines os

-- an enumeration's value
abbrev pub value_of : TtlvType → List ℕ → Option ℕ
value_of Enumeration content = Some (from_be_bytes w32 content)
value_of _ content = None

-- the outline of a tree
abbrev mutual
  pub outline_of : Tree → Outline
  outline_of (leaf tag typ content) = leaf_outline tag typ (value_of typ content)
  outline_of (node tag below) = node_outline tag (outlines_of below)

  pub outlines_of : Trees → Outlines
  outlines_of no_trees = no_outlines
  outlines_of (tree t ts) = outline (outline_of t) (outlines_of ts)

-- n in uppercase hexadecimal, without leading zeros
abbrev pub hex_upper : ℕ → List ℕ
hex_upper n = digits 16 true n

-- the digits without the prefix, if they begin with it
abbrev pub stripped : List ℕ → List ℕ → List ℕ
stripped prefix text = if starts_with nat_eq text prefix then drop (length prefix) text else text

-- a value and `:`
abbrev pub value_text : Option ℕ → List ℕ
value_text None = []
value_text (Some n) = hex_upper n ++ codes ":"

-- a leaf, or the opening of a structure
unfoldable pub mark : List ℕ → ℕ → TtlvType → Option ℕ → List ℕ
mark prefix tag typ value = stripped prefix (six_digits tag) ++ (letter typ ∷ value_text value)

-- the diagnostic of an outline: a structure is its mark, its content, and `]`
abbrev mutual
  pub diag : List ℕ → Outline → List ℕ
  diag prefix (leaf_outline tag typ value) = mark prefix tag typ value
  diag prefix (node_outline tag below) = mark prefix tag Structure None ++ (diag_all prefix below ++ codes "]")

  pub diag_all : List ℕ → Outlines → List ℕ
  diag_all prefix no_outlines = []
  diag_all prefix (outline o os) = diag prefix o ++ diag_all prefix os

-- the closing bracket of an empty structure, if it stays open until the structure around it ends
abbrev pub late : Outline → List ℕ
late (leaf_outline tag typ value) = []
late (node_outline tag no_outlines) = codes "]"
late (node_outline tag (outline o os)) = []

-- the diagnostic of an outline in a structure, if empty structures stay open as long as the one around them
abbrev mutual
  pub open_diag : List ℕ → Outline → List ℕ
  open_diag prefix (leaf_outline tag typ value) = mark prefix tag typ value
  open_diag prefix (node_outline tag no_outlines) = mark prefix tag Structure None
  open_diag prefix (node_outline tag (outline o os)) =
      mark prefix tag Structure None ++ (open_all prefix (outline o os) ++ codes "]")

  pub open_all : List ℕ → Outlines → List ℕ
  open_all prefix no_outlines = []
  open_all prefix (outline o os) = open_diag prefix o ++ (open_all prefix os ++ late o)

-- the diagnostic of a message with this outline; if empty structures stay open, a message without items ends with `ERR`
abbrev pub shown : List ℕ → Bool → Outline → List ℕ
shown prefix true o = diag prefix o
shown prefix false (node_outline tag no_outlines) = mark prefix tag Structure None ++ codes "ERR"
shown prefix false o = open_diag prefix o
