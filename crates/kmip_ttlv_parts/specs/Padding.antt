-- Items that differ only in the values of padding bytes within them.
use Rattle.std.specs.Prelude.{◌≡◌, ℕ, ◌<◌, ◌^◌, List, [], ◌∷◌, ◌++◌, length}
use Rattle.kmip_ttlv_types.specs.declared.typ.TtlvType.TheVariants.{Structure}
use Rattle.kmip_ttlv_types.specs.ItemTypes.{padding}
use Rattle.kmip_ttlv_types.specs.Items.{Raw, Splits, header}

mutual
  -- equal items; or Structures of one tag whose items are pairwise the same but for padding
  pub data SameButPadding : Raw → Raw → Type 0 where
    equal_items : {x : Raw} → SameButPadding x x
    split_alike :
        {x y : Raw} {xs ys : List Raw}
        → x.tag ≡ y.tag
        → x.typ ≡ Structure
        → y.typ ≡ Structure
        → Splits xs x.content
        → Splits ys y.content
        → AllSameButPadding xs ys
        → SameButPadding x y

  -- items that are pairwise the same but for padding
  pub data AllSameButPadding : List Raw → List Raw → Type 0 where
    both_end : AllSameButPadding [] []
    both_go_on :
        {x y : Raw} {xs ys : List Raw}
        → SameButPadding x y
        → AllSameButPadding xs ys
        → AllSameButPadding (x ∷ xs) (y ∷ ys)

-- the header and the content of an item, with less padding than it needs
pub record LacksPadding (x : Raw) (text : List ℕ) : Type 0 where
  pub tag_fits : x.tag < 2 ^ 24
  pub length_fits : length x.content < 2 ^ 32
  pub pad : List ℕ
  pub pad_short : length pad < padding x.typ (length x.content)
  pub parts : text ≡ header x.tag x.typ (length x.content) ++ x.content ++ pad

-- a Structure's content is whole items, and then one that lacks padding
pub record EndsInLack (x : Raw) : Type 0 where
  pub is_structure : x.typ ≡ Structure
  pub whole : List Raw
  pub front : List ℕ
  pub lacking : Raw
  pub back : List ℕ
  pub are_whole : Splits whole front
  pub lacks : LacksPadding lacking back
  pub parts : x.content ≡ front ++ back
