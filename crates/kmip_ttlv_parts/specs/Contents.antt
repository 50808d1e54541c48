-- What structures contain.
use Rattle.std.specs.Prelude.{List, [], ◌∷◌}
use Rattle.kmip_ttlv_types.specs.Items.{Raw, Splits}
use Rattle.kmip_ttlv_types.specs.Trees.{Tree, leaf, node, Trees, no_trees, tree, bytes_below, raw_of}

-- the items of the trees
abbrev pub items_below : Trees → List Raw
items_below no_trees = []
items_below (tree t ts) = raw_of t ∷ items_below ts

-- the content of a structure is the items of the trees in it, in order, and so is that of each structure below
abbrev mutual
  pub ContainsItems : Tree → Type 0
  ContainsItems (leaf tag typ content) = Unit {0}
  ContainsItems (node tag below) = Splits (items_below below) (bytes_below below) × ContainBelow below

  pub ContainBelow : Trees → Type 0
  ContainBelow no_trees = Unit {0}
  ContainBelow (tree t ts) = ContainsItems t × ContainBelow ts
