-- Trees that are determined by their bytes.
use Rattle.std.specs.Prelude.{◌≡◌, ◌<◌, ◌^◌, false, length}
use Rattle.kmip_ttlv_types.specs.ItemTypes.{is_structure}
use Rattle.kmip_ttlv_types.specs.Trees.{Tree, leaf, node, Trees, no_trees, tree, bytes_below}

-- tags have three bytes and lengths four, and no leaf has the type Structure
abbrev mutual
  pub IsSound : Tree → Type 0
  IsSound (leaf tag typ content) = (tag < 2 ^ 24) × (is_structure typ ≡ false) × (length content < 2 ^ 32)
  IsSound (node tag below) = (tag < 2 ^ 24) × (length (bytes_below below) < 2 ^ 32) × AreSound below

  pub AreSound : Trees → Type 0
  AreSound no_trees = Unit {0}
  AreSound (tree t ts) = IsSound t × AreSound ts
