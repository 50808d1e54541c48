-- The first of the trees that are encoded from an offset to an end.
use Rattle.std.proofs.Common.{◌≡◌, ◌≢◌, ℕ, ◌+◌, ◌-◌, ◌<◌, ◌≤◌, true, List, ◌++◌, length, get_or, take, drop, Some, ap, sym, refl, subst, ◌∙◌, arith}
use Rattle.std.proofs.Common.{append_assoc, length-append}
use Rattle.std.proofs.Math.Seq.{take-add}
use Rattle.std.proofs.lemmas.List.{drop_at, take_at, drop-drop, length-drop, length-take-le, take-append-drop}
use Rattle.kmip_ttlv_types.specs.{declared.typ.TtlvType.TtlvType, declared.typ.TtlvType.TheVariants.Structure, ItemTypes.type_of, Items.Raw, Leaves.is_valid}
use Rattle.kmip_ttlv_types.specs.Places.{ItemAt, tag_at, code_at, length_at, size}
use Rattle.kmip_ttlv_types.specs.Trees.{Tree, Trees, leaf, node, no_trees, tree, IsTreeText, AreTreeTexts}
use Rattle.kmip_ttlv_types.proofs.PlaceLemmas.{raw_with, text_length, item_at_text, text_at_item, plain_bytes, type_of-code}
use Rattle.kmip_ttlv_items.specs.ItemWalks.{type_at, content_at}
use Rattle.kmip_ttlv_items.proofs.Spans.{code_is, leaf_not, size_least}

-- the bytes from an offset to an end encode these trees
abbrev pub TreesAt : List ℕ → ℕ → ℕ → Trees → Type 0
TreesAt w p e ts = AreTreeTexts ts (take (e - p) (drop p w))

-- the first of them is a leaf, or a structure with trees in it; and the others follow it
pub data Lead (w : List ℕ) (p e : ℕ) (ts : Trees) : Type 0 where
  leaf_first : (typ : TtlvType) (more : Trees) → type_at w p ≡ Some typ → typ ≢ Structure → is_valid typ (content_at w p) ≡ true
      → length (content_at w p) ≡ length_at w p → p + size typ (length_at w p) ≤ e
      → ts ≡ tree (leaf (tag_at w p) typ (content_at w p)) more → TreesAt w (p + size typ (length_at w p)) e more → Lead w p e ts
  node_first : (below more : Trees) → type_at w p ≡ Some Structure → p + size Structure (length_at w p) ≤ e
      → ts ≡ tree (node (tag_at w p) below) more → TreesAt w (p + 8) (p + 8 + length_at w p) below → TreesAt w (p + size Structure (length_at w p)) e more
      → Lead w p e ts

-- the type that an item has
type_there : (w : List ℕ) (p : ℕ) (x : Raw) → ItemAt w p x → type_at w p ≡ Some x.typ
type_there w p x item = ap type_of (sym item.typ) ∙ type_of-code x.typ

module _ (w : List ℕ) (p e : ℕ) (le : p ≤ e) (within : e ≤ length w) where
  -- an encoding that others follow
  module _ (text rest : List ℕ) (is : take (e - p) (drop p w) ≡ text ++ rest) where
    both : e - p ≡ length text + length rest
    both = sym (length-take-le (e - p) (drop p w) (omega (arith, length-drop p w))) ∙ ap length is ∙ length-append text rest

    -- with the bytes after it
    split_rest : drop p w ≡ text ++ (rest ++ drop (e - p) (drop p w))
    split_rest = sym (take-append-drop (e - p) (drop p w)) ∙ ap (λ (s : List ℕ). s ++ drop (e - p) (drop p w)) is ∙ append_assoc text rest _

    -- what follows it
    rest_at : (q : ℕ) → q ≡ p + length text → rest ≡ take (e - q) (drop q w)
    rest_at q q-is =
        let behind : drop q w ≡ rest ++ drop (e - p) (drop p w) = ap (λ (n : ℕ). drop n w) q-is ∙ sym (drop-drop (length text) p w)
        ∙ ap (drop (length text)) split_rest ∙ drop_at text (rest ++ drop (e - p) (drop p w)) (length text) refl in
        let n : e - q ≡ length rest = omega (arith, both) in
        sym (ap (λ (m : ℕ). take m (drop q w)) n ∙ ap (take (length rest)) behind ∙ take_at rest (drop (e - p) (drop p w)) (length rest) refl)

    first_leaf : (tag : ℕ) (typ : TtlvType) (content : List ℕ) (more : Trees) → IsTreeText (leaf tag typ content) text → AreTreeTexts more rest
        → Lead w p e (tree (leaf tag typ content) more)
    first_leaf tag typ content more h others =
        let x = raw_with tag typ content in
        let item = item_at_text w p x text (rest ++ drop (e - p) (drop p w)) (omega arith) split_rest h.1 in
        let long : length text ≡ size typ (length_at w p) = text_length x text h.1 ∙ ap (size typ) item.len in
        let same : tree (leaf tag typ content) more ≡ tree (leaf (tag_at w p) typ (content_at w p)) more =
        ap (λ (m : ℕ). tree (leaf m typ content) more) item.tag ∙ ap (λ (c : List ℕ). tree (leaf (tag_at w p) typ c) more) item.content in
        leaf_first typ more (type_there w p x item) (leaf_not typ content h.0) (ap (is_valid typ) (sym item.content) ∙ h.0) (ap length (sym item.content)
        ∙ item.len) (omega (arith, both)) same
        (subst (AreTreeTexts more) (rest_at (p + size typ (length_at w p)) (ap (λ (n : ℕ). p + n) (sym long))) others)

    first_node : (tag : ℕ) (below more : Trees) → IsTreeText (node tag below) text → AreTreeTexts more rest → Lead w p e (tree (node tag below) more)
    first_node tag below more h others =
        let x = raw_with tag Structure h.0 in
        let item = item_at_text w p x text (rest ++ drop (e - p) (drop p w)) (omega arith) split_rest h.1 in
        let long : length text ≡ size Structure (length_at w p) = text_length x text h.1 ∙ ap (size Structure) item.len in
        let n : p + 8 + length_at w p - (p + 8) ≡ length_at w p = omega arith in
        let inner : h.0 ≡ take (p + 8 + length_at w p - (p + 8)) (drop (p + 8) w) = item.content ∙ ap (λ (m : ℕ). take m (drop (p + 8) w)) (sym n) in
        node_first below more (type_there w p x item) (omega (arith, both)) (ap (λ (m : ℕ). tree (node m below) more) item.tag)
        (subst (AreTreeTexts below) inner h.2)
        (subst (AreTreeTexts more) (rest_at (p + size Structure (length_at w p)) (ap (λ (n : ℕ). p + n) (sym long))) others)

  -- if trees are encoded before an end, there is a first one
  pub lead : (ts : Trees) → p < e → TreesAt w p e ts → Lead w p e ts
  lead no_trees lt h = absurd (omega (arith, ap length h, length-take-le (e - p) (drop p w) (omega (arith, length-drop p w))))
  lead (tree (leaf tag typ content) more) lt h = first_leaf h.0 h.1 h.2 tag typ content more h.3 h.4
  lead (tree (node tag below) more) lt h = first_node h.0 h.1 h.2 tag below more h.3 h.4

  -- the bytes from an offset to an end are those of an item and those from its end on
  parts_at : (s : ℕ) → p + s ≤ e → take (e - p) (drop p w) ≡ take s (drop p w) ++ take (e - (p + s)) (drop (p + s) w)
  parts_at s fits =
      let sum : e - p ≡ s + (e - (p + s)) = omega arith in
      ap (λ (n : ℕ). take n (drop p w)) sum ∙ take-add s (e - (p + s)) (drop p w) ∙ ap (λ (r : List ℕ). take s (drop p w) ++ take (e - (p + s)) r)
      (drop-drop s p w)

  -- a tree before others
  before : (s : ℕ) (t : Tree) (more : Trees) → p + s ≤ e → IsTreeText t (take s (drop p w)) → TreesAt w (p + s) e more → TreesAt w p e (tree t more)
  before s t more fits text others = (take s (drop p w), take (e - (p + s)) (drop (p + s) w), parts_at s fits, text, others)

  module _ (plain : (i : ℕ) → get_or w i 0 < 256) where
    -- the item at an offset
    pub item_here : (typ : TtlvType) → type_at w p ≡ Some typ → p + size typ (length_at w p) ≤ e → ItemAt w p (raw_with (tag_at w p) typ (content_at w p))
    item_here typ is fits =
        let least = size_least typ (length_at w p) in
        record {
          plain = plain_bytes w p plain;
          tag = refl;
          typ = code_is (code_at w p) typ is;
          len = length-take-le (length_at w p) (drop (p + 8) w) (omega (arith, length-drop (p + 8) w));
          content = refl;
          there = omega arith;
        }

    -- a leaf before trees
    pub leaf_before : (typ : TtlvType) (more : Trees) → type_at w p ≡ Some typ → is_valid typ (content_at w p) ≡ true → p + size typ (length_at w p) ≤ e
        → TreesAt w (p + size typ (length_at w p)) e more → TreesAt w p e (tree (leaf (tag_at w p) typ (content_at w p)) more)
    leaf_before typ more is valid fits others = before (size typ (length_at w p)) (leaf (tag_at w p) typ (content_at w p)) more fits
        (valid, text_at_item w p (raw_with (tag_at w p) typ (content_at w p)) (item_here typ is fits)) others

    -- a structure before trees
    pub node_before : (below more : Trees) → type_at w p ≡ Some Structure → p + size Structure (length_at w p) ≤ e
        → TreesAt w (p + 8) (p + 8 + length_at w p) below → TreesAt w (p + size Structure (length_at w p)) e more
        → TreesAt w p e (tree (node (tag_at w p) below) more)
    node_before below more is fits inner others =
        let n : p + 8 + length_at w p - (p + 8) ≡ length_at w p = omega arith in
        let content : AreTreeTexts below (content_at w p) = subst (λ (m : ℕ). AreTreeTexts below (take m (drop (p + 8) w))) n inner in
        let text = text_at_item w p (raw_with (tag_at w p) Structure (content_at w p)) (item_here Structure is fits) in
        before (size Structure (length_at w p)) (node (tag_at w p) below) more fits (content_at w p, text, content) others
