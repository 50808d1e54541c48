-- Items given as a flat list, and the trees that such a list stands for.
use Rattle.std.specs.Prelude.{◌≡◌, ◌⊎◌, ℕ, suc, ◌+◌, ◌<◌, ◌≤◌, ◌^◌, ◌==◌, List, [], ◌∷◌, ◌++◌, map, length, take, drop}
use Rattle.std.specs.Prelude.{if◌then◌else◌}
use Rattle.std.specs.List.{AllByRecursion}
use Rattle.kmip_ttlv_types.specs.ItemTypes.{code}
use Rattle.kmip_ttlv_types.specs.Trees.{Tree, Trees, leaf, node, no_trees, tree, AreTreeTexts, bytes_below}
use Rattle.kmip_ttlv_items.specs.declared.found.FoundItem.{FoundItem}
use Rattle.kmip_ttlv_write.specs.declared.given.GivenItem.{GivenItem}

-- a found item, given to be written
abbrev pub given_of : FoundItem → GivenItem
given_of i = record { offset = i.offset; depth = i.depth; tag = i.tag; typ = code i.typ; length = i.length }

-- what is given of an item, without the offset of its content; the content of a structure is empty
pub record Line : Type 0 where
  pub depth : ℕ
  pub tag : ℕ
  pub code : ℕ
  pub content : List ℕ

-- a line by its parts
abbrev pub line : ℕ → ℕ → ℕ → List ℕ → Line
line depth tag code content = record { depth = depth; tag = tag; code = code; content = content }

-- the lines of a tree at a depth, in document order, and those of several trees
abbrev mutual
  pub lines : ℕ → Tree → List Line
  lines depth (leaf tag typ content) = line depth tag (code typ) content ∷ []
  lines depth (node tag below) = line depth tag 1 [] ∷ lines_below (suc depth) below

  pub lines_below : ℕ → Trees → List Line
  lines_below depth no_trees = []
  lines_below depth (tree t ts) = lines depth t ++ lines_below depth ts

-- the content of a given leaf, in the lent bytes
abbrev pub given_content : List ℕ → GivenItem → List ℕ
given_content lent i = take i.length (drop (i.offset + 8) lent)

-- the line of a given item
abbrev pub line_of : List ℕ → GivenItem → Line
line_of lent i = line i.depth i.tag i.typ (if i.typ == 1 then [] else given_content lent i)

-- the value of a leaf is within the lent bytes; a structure has none
abbrev pub IsInside : List ℕ → GivenItem → Type 0
IsInside lent i = (i.typ ≡ 1) ⊎ (i.offset + 8 + i.length ≤ length lent)

-- the given items are those of these trees, and `out` is the trees' canonical bytes: values are valid for their
-- types, tags have three bytes and lengths four
pub record IsWritten (xs : List GivenItem) (lent out : List ℕ) : Type 0 where
  pub trees : Trees
  pub are : map (line_of lent) xs ≡ lines_below 0 trees
  pub inside : AllByRecursion (IsInside lent) xs
  pub texts : AreTreeTexts trees out
  pub canonical : out ≡ bytes_below trees
  pub total : length out < 2 ^ 64
