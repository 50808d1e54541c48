-- Structures whose content is split into items, and so at every depth.
use Rattle.std.specs.Prelude.{◌≡◌, ℕ, false, List, [], ◌∷◌, ◌++◌}
use Rattle.kmip_ttlv_types.specs.declared.typ.TtlvType.TheVariants.{Structure}
use Rattle.kmip_ttlv_types.specs.ItemTypes.{is_structure}
use Rattle.kmip_ttlv_types.specs.Items.{Raw, Splits, IsTextOf}
use Rattle.kmip_ttlv_types.specs.Places.{ItemsAt}

mutual
  -- a leaf, valid or not, or a Structure whose content is split into such items
  pub data SplitThroughout : Raw → Type 0 where
    leaf_item : {x : Raw} → is_structure x.typ ≡ false → SplitThroughout x
    split_item :
        {x : Raw} {zs : List Raw}
        → x.typ ≡ Structure
        → Splits zs x.content
        → AllSplitThroughout zs
        → SplitThroughout x

  -- each of them is such an item
  pub data AllSplitThroughout : List Raw → Type 0 where
    none_split : AllSplitThroughout []
    more_split : {x : Raw} {xs : List Raw} → SplitThroughout x → AllSplitThroughout xs → AllSplitThroughout (x ∷ xs)

-- from one place to another stand such items
pub record AreWhole (bytes : List ℕ) (p e : ℕ) : Type 0 where
  pub items : List Raw
  pub are : ItemsAt bytes p e items
  pub split_throughout : AllSplitThroughout items

-- the bytes begin with such a Structure
pub record BeginsWhole (bytes : List ℕ) : Type 0 where
  pub item : Raw
  pub item_text : List ℕ
  pub after : List ℕ
  pub is_text : IsTextOf item item_text
  pub is_structure : item.typ ≡ Structure
  pub parts : bytes ≡ item_text ++ after
  pub split_throughout : SplitThroughout item
