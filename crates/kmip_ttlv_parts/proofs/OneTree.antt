-- Bytes encode at most one tree.
use Rattle.std.proofs.Common.{◌≡◌, ℕ, List, [], ◌++◌, length, take, drop, refl, sym, ap, subst, ◌∙◌, arith}
use Rattle.std.proofs.lemmas.List.{drop_at, length-append, take_at}
use Rattle.kmip_ttlv_types.specs.{declared.typ.TtlvType.TheVariants.Structure, Items.IsTextOf, Items.Raw, Places.size}
use Rattle.kmip_ttlv_types.specs.Trees.{AreTreeTexts, IsTreeText, Tree, Trees, leaf, no_trees, node, tree}
use Rattle.kmip_ttlv_parts.proofs.{Padding.no_structure, Roots.one_item, Roots.text_length, TreeTexts.one_of_text}

-- an encoding of a tree encodes an item
item_of : (t : Tree) (a : List ℕ) → IsTreeText t a → (x : Raw) × IsTextOf x a
item_of (leaf tag typ content) a h = (record { tag = tag; typ = typ; content = content }, h.1)
item_of (node tag below) a h = (record { tag = tag; typ = Structure; content = h.0 }, h.1)

-- an encoding isn't empty
not_empty : (t : Tree) (a rest : List ℕ) → IsTreeText t a → [] ≡ a ++ rest → ⊥
not_empty t a rest h e = let x = item_of t a h in absurd (omega (arith, ap length e, length-append a rest, text_length x.0 a x.1))

-- encodings at the front of the same bytes are equal
fronts : (t u : Tree) (a b r s : List ℕ) → IsTreeText t a → IsTreeText u b → a ++ r ≡ b ++ s → (a ≡ b) × (r ≡ s)
fronts t u a b r s h k e =
    let x = item_of t a h in
    let y = item_of u b k in
    let same = one_item x.0 y.0 a b r s x.1 y.1 e in
    let long : length b ≡ length a = text_length y.0 b y.1 ∙ ap (λ (z : Raw). size z.typ (length z.content)) (sym same) ∙ sym (text_length x.0 a x.1) in (
      sym (take_at a r (length a) refl) ∙ ap (take (length a)) e ∙ take_at b s (length a) long,
      sym (drop_at a r (length a) refl) ∙ ap (drop (length a)) e ∙ drop_at b s (length a) long,
    )

-- at most one tree has this encoding
mutual
  pub tree_same : (t u : Tree) (a : List ℕ) → IsTreeText t a → IsTreeText u a → t ≡ u
  tree_same (leaf tag typ content) (leaf tag' typ' content') a h k =
      let e = one_of_text _ _ a h.1 k.1 in
      cc (ap (λ (x : Raw). x.tag) e, ap (λ (x : Raw). x.typ) e, ap (λ (x : Raw). x.content) e)
  tree_same (leaf tag typ content) (node tag' below) a h k =
      absurd (no_structure typ content h.0 (ap (λ (x : Raw). x.typ) (one_of_text _ _ a h.1 k.1)))
  tree_same (node tag below) (leaf tag' typ content) a h k =
      absurd (no_structure typ content k.0 (ap (λ (x : Raw). x.typ) (one_of_text _ _ a k.1 h.1)))
  tree_same (node tag below) (node tag' below') a h k =
      let e = one_of_text _ _ a h.1 k.1 in
      cc (ap (λ (x : Raw). x.tag) e, trees_same below below' h.0 k.0 (ap (λ (x : Raw). x.content) e) h.2 k.2)

  trees_same : (ts us : Trees) (c d : List ℕ) → c ≡ d → AreTreeTexts ts c → AreTreeTexts us d → ts ≡ us
  trees_same no_trees no_trees c d e h k = refl
  trees_same no_trees (tree u us) c d e h k = absurd (not_empty u k.0 k.1 k.3 (sym h ∙ e ∙ k.2))
  trees_same (tree t ts) no_trees c d e h k = absurd (not_empty t h.0 h.1 h.3 (sym k ∙ sym e ∙ h.2))
  trees_same (tree t ts) (tree u us) c d e h k =
      let f = fronts t u h.0 k.0 h.1 k.1 h.3 k.3 (sym h.2 ∙ e ∙ k.2) in
      cc (tree_same t u k.0 (subst (λ (l : List ℕ). IsTreeText t l) f.0 h.3) k.3, trees_same ts us h.1 k.1 f.1 h.4 k.4)
