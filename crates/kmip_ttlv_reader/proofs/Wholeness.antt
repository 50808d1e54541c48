-- Whole items at a place: the first of them is there, whole items follow it, and a Structure's content is whole.
use Rattle.std.proofs.Common.{◌≡◌, ℕ, ◌+◌, ◌<◌, ◌≤◌, List, [], ◌∷◌, ◌++◌, length, drop, refl, ap, sym, ◌∙◌, subst, arith}
use Rattle.std.proofs.lemmas.List.{take-append-drop}
use Rattle.kmip_ttlv_types.specs.{declared.typ.TtlvType.TtlvType, declared.typ.TtlvType.TheVariants.Structure, ItemTypes.code, ItemTypes.is_structure}
use Rattle.kmip_ttlv_types.specs.{Items.Raw, Items.Splits}
use Rattle.kmip_ttlv_types.specs.Places.{ItemAt, ItemsAt, code_at, length_at, size}
use Rattle.kmip_ttlv_types.proofs.PlaceLemmas.{code_one, item_at_text, items_at_splits}
use Rattle.kmip_ttlv_reader.specs.Wholes.{AllSplitThroughout, AreWhole, BeginsWhole, SplitThroughout, leaf_item, more_split, none_split, split_item}
use Rattle.kmip_ttlv_reader.proofs.Onward.{StructureAt}

-- no whole items stand from p to e, n bytes at least
abbrev pub NotWhole : ℕ → List ℕ → ℕ → ℕ → Type 0
NotWhole n b p e = AreWhole b p e → n + p ≤ e → ⊥

-- the first of whole items
record First (b : List ℕ) (p e : ℕ) : Type 0 where
  item : Raw
  at : ItemAt b p item
  split : SplitThroughout item
  after : AreWhole b (p + size item.typ (length_at b p)) e

whole_first : (b : List ℕ) (p e : ℕ) → 1 + p ≤ e → AreWhole b p e → First b p e
whole_first b p e lt w = by_items w.items w.are w.split_throughout
  where
    by_items : (xs : List Raw) → ItemsAt b p e xs → AllSplitThroughout xs → First b p e
    by_items [] items d = absurd (omega (arith, items))
    by_items (x ∷ xs) items (more_split h d) = record { item = x; at = items.0; split = h; after = record { items = xs; are = items.1; split_throughout = d } }

-- bytes that end before the first item's header does
pub head_cut : (b : List ℕ) (p e : ℕ) → length b < p + 8 → NotWhole 1 b p e
head_cut b p e short w lt = let f = whole_first b p e lt w in omega (arith, f.at.there)

-- the first item is there, and whole items follow it
pub item_after : (b : List ℕ) (p e : ℕ) (t : TtlvType) → code t ≡ code_at b p → 1 + p ≤ e → AreWhole b p e → (p + size t (length_at b p) ≤ length b)
    × AreWhole b (p + size t (length_at b p)) e
item_after b p e t typ lt w =
    let f = whole_first b p e lt w in
    subst (λ (u : TtlvType). (p + size u (length_at b p) ≤ length b) × AreWhole b (p + size u (length_at b p)) e) (code_one f.item.typ t (f.at.typ ∙ sym typ))
    (f.at.there, f.after)

-- bytes that end before the first item does
pub item_cut : (b : List ℕ) (p e : ℕ) (t : TtlvType) → code t ≡ code_at b p → length b < p + size t (length_at b p) → NotWhole 1 b p e
item_cut b p e t typ short w lt = let at = item_after b p e t typ lt w in omega (arith, at.0)

pub content_items : (b : List ℕ) (p : ℕ) (x : Raw) (zs : List Raw) → ItemAt b p x → Splits zs x.content → ItemsAt b (p + 8) (p + 8 + length_at b p) zs
content_items b p x zs item s =
    let back = drop (length_at b p) (drop (p + 8) b) in
    let parts : drop (p + 8) b ≡ x.content ++ back = sym (take-append-drop (length_at b p) (drop (p + 8) b))
    ∙ ap (λ (c : List ℕ). c ++ back) (sym item.content) in
    items_at_splits b (p + 8) (p + 8 + length_at b p) zs back x.content (omega (arith, item.there)) parts (omega (arith, item.len)) s

content_whole : (b : List ℕ) (p : ℕ) (x : Raw) → x.typ ≡ Structure → ItemAt b p x → SplitThroughout x → AreWhole b (p + 8) (p + 8 + length_at b p)
content_whole b p x is item (leaf_item plain) = let never = ap is_structure is in absurd cc
content_whole b p x is item (split_item {zs = zs} t z d) = record { items = zs; are = content_items b p x zs item z; split_throughout = d }

-- where a Structure's content isn't whole, nor is the Structure
pub structure_cut : (b : List ℕ) (p e stop : ℕ) → StructureAt b p stop → NotWhole 0 b (p + 8) stop → NotWhole 1 b p e
structure_cut b p e stop at never w lt =
    let f = whole_first b p e lt w in
    never (subst (λ (n : ℕ). AreWhole b (p + 8) n) (sym at.stops) (content_whole b p f.item (code_one f.item.typ Structure (f.at.typ ∙ sym at.typ)) f.at
    f.split)) (omega (arith, at.stops))

-- nor is the message that the bytes begin with
pub message_cut : (b : List ℕ) → ((e : ℕ) → NotWhole 1 b 0 e) → BeginsWhole b → ⊥
message_cut b never w =
    let at : ItemAt b 0 w.item = item_at_text b 0 w.item w.item_text w.after (omega arith) w.parts w.is_text in
    never (0 + size w.item.typ (length_at b 0)) record { items = w.item ∷ []; are = (at, refl); split_throughout = more_split w.split_throughout none_split }
    (omega arith)
