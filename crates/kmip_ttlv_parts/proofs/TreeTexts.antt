-- Encodings of one tree.
use Rattle.std.proofs.Common.{◌≡◌, ℕ, List, [], ◌∷◌, refl, subst}
use Rattle.kmip_ttlv_types.specs.Items.{Raw, IsTextOf, Splits}
use Rattle.kmip_ttlv_types.specs.Trees.{Tree, leaf, node, Trees, no_trees, tree, IsTreeText, AreTreeTexts}
use Rattle.kmip_ttlv_parts.specs.ReadingLaws.{TextsDifferInPadding, PaddingOfTreesIsFree}
use Rattle.kmip_ttlv_parts.specs.Padding.{AllSameButPadding, SameButPadding, both_go_on, both_end, equal_items, split_alike}
use Rattle.kmip_ttlv_parts.proofs.Roots.{one_item, padding_is_free}

-- the items that two encodings encode
record Pair (a b : List ℕ) : Type 0 where
  one : Raw
  two : Raw
  one_text : IsTextOf one a
  two_text : IsTextOf two b
  alike : SameButPadding one two

record Pairs (a b : List ℕ) : Type 0 where
  ones : List Raw
  twos : List Raw
  ones_split : Splits ones a
  twos_split : Splits twos b
  all_alike : AllSameButPadding ones twos

-- two encodings of a tree encode items that are the same but for padding
mutual
  pair_of : (t : Tree) (a b : List ℕ) → IsTreeText t a → IsTreeText t b → Pair a b
  pair_of (leaf tag typ content) a b h k = record { one = _; two = _; one_text = h.1; two_text = k.1; alike = equal_items }
  pair_of (node tag below) a b h k =
      let p = pairs_of below h.0 k.0 h.2 k.2 in
      record { one = _; two = _; one_text = h.1; two_text = k.1; alike = split_alike refl refl refl p.ones_split p.twos_split p.all_alike }

  pairs_of : (ts : Trees) (a b : List ℕ) → AreTreeTexts ts a → AreTreeTexts ts b → Pairs a b
  pairs_of no_trees a b h k = record { ones = []; twos = []; ones_split = h; twos_split = k; all_alike = both_end }
  pairs_of (tree t ts) a b h k =
      let p = pair_of t h.0 k.0 h.3 k.3 in
      let q = pairs_of ts h.1 k.1 h.4 k.4 in
      record {
        ones = p.one ∷ q.ones;
        twos = p.two ∷ q.twos;
        ones_split = (h.0, h.1, p.one_text, h.2, q.ones_split);
        twos_split = (k.0, k.1, p.two_text, k.2, q.twos_split);
        all_alike = both_go_on p.alike q.all_alike;
      }

-- bytes encode at most one item
pub one_of_text : (x y : Raw) (a : List ℕ) → IsTextOf x a → IsTextOf y a → x ≡ y
one_of_text x y a t u = one_item x y a a [] [] t u refl

pub texts_differ_in_padding : TextsDifferInPadding
texts_differ_in_padding t x y a b h k u w =
    let p = pair_of t a b h k in
    let first : SameButPadding x p.two = subst (λ (z : Raw). SameButPadding z p.two) (one_of_text p.one x a p.one_text u) p.alike in
    subst (λ (z : Raw). SameButPadding x z) (one_of_text p.two y b p.two_text w) first

pub padding_of_trees_is_free : PaddingOfTreesIsFree
padding_of_trees_is_free s t a b after other v h k =
    let p = pair_of t a b h k in
    padding_is_free s p.one p.two a b after other v p.alike p.one_text p.two_text
