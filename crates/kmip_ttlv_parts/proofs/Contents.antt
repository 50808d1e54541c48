-- Encoded bytes are items, at every depth.
use Rattle.std.proofs.Common.{◌≡◌, ℕ, List, [], ◌∷◌, map, Some, refl, sym, ap, subst, ◌∙◌}
use Rattle.std.specs.List.{AllByRecursion}
use Rattle.kmip_ttlv_types.specs.Items.{Splits}
use Rattle.kmip_ttlv_types.specs.Trees.{Fits, FitsBelow, Tree, Trees, bytes, bytes_all, bytes_below, leaf, no_trees, node, raw_of, tree}
use Rattle.kmip_ttlv_ser.specs.{declared.pending.PendingTag.TheVariants.Nothing, Sizes.FitsAfter}
use Rattle.kmip_ttlv_parts.specs.Contents.{ContainBelow, ContainsItems, items_below}
use Rattle.kmip_ttlv_parts.specs.ReadingLaws.{WrittenIsItems}
use Rattle.kmip_ttlv_parts.proofs.Made.{AllMade, Any, AreMade, IsMade, any_texts, items_made, text_of_tree}

-- the bytes of trees are split by their items
pub below_splits : (ts : Trees) → AreMade Any ts → FitsBelow ts → Splits (items_below ts) (bytes_below ts)
below_splits no_trees m f = refl
below_splits (tree t ts) m f = (bytes t, bytes_below ts, text_of_tree Any t m.0 f.0, refl, below_splits ts m.1 f.1)

-- and so are those of a list
pub all_split : (ts : List Tree) → AllMade Any ts → AllByRecursion Fits ts → Splits (map raw_of ts) (bytes_all ts)
all_split [] m f = refl
all_split (t ∷ ts) m f = (bytes t, bytes_all ts, text_of_tree Any t m.0 f.0, refl, all_split ts m.1 f.1)

-- and so below
mutual
  contains : (t : Tree) → IsMade Any t → Fits t → ContainsItems t
  contains (leaf tag typ content) m f = tt
  contains (node tag below) m f = (below_splits below m.1 f.1, contain_below below m.1 f.1)

  contain_below : (ts : Trees) → AreMade Any ts → FitsBelow ts → ContainBelow ts
  contain_below no_trees m f = tt
  contain_below (tree t ts) m f = (contains t m.0 f.0, contain_below ts m.1 f.1)

all_contain : (ts : List Tree) → AllMade Any ts → AllByRecursion Fits ts → AllByRecursion ContainsItems ts
all_contain [] m f = tt
all_contain (t ∷ ts) m f = (contains t m.0 f.0, all_contain ts m.1 f.1)

pub written_is_items : WrittenIsItems
written_is_items v n written ts w is =
    let same : w.trees ≡ ts = let k : Some w.trees ≡ Some ts = sym w.are ∙ is in cc in
    let fit : FitsAfter n ts = subst (FitsAfter n) same w.fit in
    let made : AllMade Any ts = items_made Any v Nothing ts (any_texts v) tt is in
    let parts : written ≡ bytes_all ts = w.bytes_are ∙ ap bytes_all same in
    (subst (λ (b : List ℕ). Splits (map raw_of ts) b) (sym parts) (all_split ts made fit.each), all_contain ts made fit.each)
