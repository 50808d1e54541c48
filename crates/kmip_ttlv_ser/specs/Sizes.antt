-- How long structures are, and what fits.
use Rattle.std.specs.Prelude.{ℕ, ◌+◌, ◌<◌, ◌^◌, List, [], ◌∷◌, ◌++◌, length}
use Rattle.std.specs.List.{flat_map, AllByRecursion}
use Rattle.kmip_ttlv_types.specs.Trees.{Tree, leaf, node, Trees, no_trees, tree, bytes_below, bytes_all, Fits}

-- the lengths of the structures, in document order
abbrev mutual
  pub sizes : Tree → List ℕ
  sizes (leaf tag typ content) = []
  sizes (node tag below) = length (bytes_below below) ∷ sizes_below below

  pub sizes_below : Trees → List ℕ
  sizes_below no_trees = []
  sizes_below (tree t ts) = sizes t ++ sizes_below ts

-- the lengths of the structures of a list of trees
abbrev pub sizes_all : List Tree → List ℕ
sizes_all ts = flat_map sizes ts

-- each length fits in four bytes, and all bytes, after n earlier ones, are fewer than 2^64
pub record FitsAfter (n : ℕ) (ts : List Tree) : Type 0 where
  pub each : AllByRecursion Fits ts
  pub total : n + length (bytes_all ts) < 2 ^ 64
