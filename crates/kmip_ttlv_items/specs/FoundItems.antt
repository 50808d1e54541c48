-- The items of a message in document order, and the caller's list for them.
use Rattle.std.specs.Prelude.{◌≡◌, ℕ, suc, ◌+◌, List, [], ◌∷◌, ◌++◌, length}
use Rattle.kmip_ttlv_types.specs.declared.typ.TtlvType.{TtlvType}
use Rattle.kmip_ttlv_types.specs.declared.typ.TtlvType.TheVariants.{Structure}
use Rattle.kmip_ttlv_types.specs.Places.{size}
use Rattle.kmip_ttlv_types.specs.Trees.{Tree, Trees, leaf, node, no_trees, tree, IsTreeText, IsStructure}
use Rattle.kmip_ttlv_items.specs.declared.found.FoundItem.{FoundItem}

-- how many bytes an encoding of a tree takes, and of several trees
abbrev mutual
  pub span : Tree → ℕ
  span (leaf tag typ content) = size typ (length content)
  span (node tag below) = 8 + span_all below

  pub span_all : Trees → ℕ
  span_all no_trees = 0
  span_all (tree t ts) = span t + span_all ts

-- an item at an offset and a depth
abbrev pub item : ℕ → ℕ → ℕ → TtlvType → ℕ → FoundItem
item offset depth tag typ len = record { offset = offset; depth = depth; tag = tag; typ = typ; length = len }

-- the items of a tree at an offset and a depth, in document order
abbrev mutual
  pub listed : ℕ → ℕ → Tree → List FoundItem
  listed offset depth (leaf tag typ content) = item offset depth tag typ (length content) ∷ []
  listed offset depth (node tag below) =
      item offset depth tag Structure (span_all below) ∷ listed_all (offset + 8) (suc depth) below

  pub listed_all : ℕ → ℕ → Trees → List FoundItem
  listed_all offset depth no_trees = []
  listed_all offset depth (tree t ts) = listed offset depth t ++ listed_all (offset + span t) depth ts

-- bytes are one whole well-formed message, and these are its items
pub record Lists (bytes : List ℕ) (xs : List FoundItem) : Type 0 where
  pub message : Tree
  pub text : IsTreeText message bytes
  pub root : IsStructure message
  pub items : xs ≡ listed 0 0 message

-- a list whose first elements are replaced by these, as far as it has room
abbrev pub overlaid : {X : Type 0} → List X → List X → List X
overlaid xs [] = []
overlaid [] (y ∷ ys) = y ∷ ys
overlaid (x ∷ xs) (y ∷ ys) = x ∷ overlaid xs ys
