-- Trees by their canonical bytes.
use Rattle.std.proofs.Common.{◌≡◌, ℕ, ◌/◌, ◌%◌, ◌<◌, ◌^◌, true, false, List, [], ◌∷◌, ◌++◌, length, replicate, Some, refl, sym, ap, ap₂, ◌∙◌, arith}
use Rattle.std.proofs.Common.{append_assoc, length-append}
use Rattle.std.specs.List.{AllByRecursion}
use Rattle.std.specs.Int.{w32, to_be_bytes, from_be_bytes, bytes_high_first}
use Rattle.std.proofs.lemmas.Nat.{from_be_bytes-to_be_bytes_4}
use Rattle.kmip_ttlv_types.specs.{declared.typ.TtlvType.TtlvType, declared.typ.TtlvType.TheVariants.Structure, Items.header}
use Rattle.kmip_ttlv_types.specs.ItemTypes.{code, type_of, is_structure, pad_len}
use Rattle.kmip_ttlv_types.specs.Trees.{Tree, leaf, node, Trees, no_trees, tree, trees_of, leaf_bytes, node_bytes, bytes, bytes_below, bytes_all}
use Rattle.kmip_ttlv_ser.specs.WriteLaws.{IsSound, AreSound}
use Rattle.kmip_ttlv_ser.proofs.{Leaves.below_is, Leaves.tree_len, Parts.some_same}

-- ---- numbers

same_number : (m n : ℕ) → m < 2 ^ 32 → n < 2 ^ 32 → to_be_bytes w32 m ≡ to_be_bytes w32 n → m ≡ n
same_number m n hm hn e = sym (from_be_bytes-to_be_bytes_4 m hm) ∙ ap (from_be_bytes w32) e ∙ from_be_bytes-to_be_bytes_4 n hn

tag_bytes : (n : ℕ) → n < 2 ^ 24 → to_be_bytes w32 n ≡ 0 ∷ bytes_high_first 3 n
tag_bytes n h = let top : n / 16777216 % 256 ≡ 0 = omega (arith, h) in ap (λ b. b ∷ bytes_high_first 3 n) top

same_tag : (m n : ℕ) → m < 2 ^ 24 → n < 2 ^ 24 → bytes_high_first 3 m ≡ bytes_high_first 3 n → m ≡ n
same_tag m n hm hn e = same_number m n (omega (arith, hm)) (omega (arith, hn)) (tag_bytes m hm ∙ ap (λ bs. 0 ∷ bs) e ∙ sym (tag_bytes n hn))

of_code : (t : TtlvType) → type_of (code t) ≡ Some t
of_code Structure = refl
of_code _ = refl

same_type : (t u : TtlvType) → code t ≡ code u → t ≡ u
same_type t u e = some_same t u (sym (of_code t) ∙ ap type_of e ∙ of_code u)

-- ---- lists

split_same : (xs ys a b : List ℕ) → length xs ≡ length ys → xs ++ a ≡ ys ++ b → (xs ≡ ys) × (a ≡ b)
split_same [] [] a b len e = (refl, e)
split_same (x ∷ xs) (y ∷ ys) a b len e =
    let tail : xs ++ a ≡ ys ++ b = cc in
    let head : x ≡ y = cc in
    let s = split_same xs ys a b (omega (arith, len)) tail in
    (ap₂ (λ z zs. z ∷ zs) head s.0, s.1)
split_same _ _ a b len e = absurd (omega (arith, len))

-- two headers, and what follows them
same_header : (t u : ℕ) (p q : TtlvType) (m n : ℕ) (a b : List ℕ) → t < 2 ^ 24 → u < 2 ^ 24 → m < 2 ^ 32 → n < 2 ^ 32 → header t p m ++ a ≡ header u q n ++ b
    → (t ≡ u) × (p ≡ q) × (m ≡ n) × (a ≡ b)
same_header t u p q m n a b ht hu hm hn e =
    let whole = split_same (header t p m) (header u q n) a b refl e in
    let parts = split_same (bytes_high_first 3 t) (bytes_high_first 3 u) (code p ∷ to_be_bytes w32 m) (code q ∷ to_be_bytes w32 n) refl whole.0 in
    let codes_same : code p ≡ code q = cc in
    let lens_same : to_be_bytes w32 m ≡ to_be_bytes w32 n = cc in
    (same_tag t u ht hu parts.0, same_type p q codes_same, same_number m n hm hn lens_same, whole.1)

-- ---- trees

leaf_split : (t u : ℕ) (p q : TtlvType) (c d a b : List ℕ) → t < 2 ^ 24 → u < 2 ^ 24 → length c < 2 ^ 32 → length d < 2 ^ 32
    → leaf_bytes t p c ++ a ≡ leaf_bytes u q d ++ b → (leaf t p c ≡ leaf u q d) × (a ≡ b)
unfolding leaf_bytes
leaf_split t u p q c d a b ht hu hc hd e =
    let zc = replicate (pad_len (length c)) 0 in
    let zd = replicate (pad_len (length d)) 0 in
    let flat : header t p (length c) ++ (c ++ (zc ++ a)) ≡ header u q (length d) ++ (d ++ (zd ++ b)) = simp append_assoc at e in
    let h = same_header t u p q (length c) (length d) (c ++ (zc ++ a)) (d ++ (zd ++ b)) ht hu hc hd flat in
    let content = split_same c d (zc ++ a) (zd ++ b) h.2 h.3 in
    let pad : zd ≡ zc = ap (λ n. replicate (pad_len n) 0) (sym h.2) in
    let rest = split_same zc zd a b (ap length (sym pad)) content.1 in
    (ap (λ k. leaf k p c) h.0 ∙ ap (λ k. leaf u k c) h.1 ∙ ap (λ k. leaf u q k) content.0, rest.1)

node_split : (t u : ℕ) (c d a b : List ℕ) → t < 2 ^ 24 → u < 2 ^ 24 → length c < 2 ^ 32 → length d < 2 ^ 32 → node_bytes t c ++ a ≡ node_bytes u d ++ b
    → (t ≡ u) × (c ≡ d) × (a ≡ b)
unfolding node_bytes
node_split t u c d a b ht hu hc hd e =
    let flat : header t Structure (length c) ++ (c ++ a) ≡ header u Structure (length d) ++ (d ++ b) = simp append_assoc at e in
    let h = same_header t u Structure Structure (length c) (length d) (c ++ a) (d ++ b) ht hu hc hd flat in
    let s = split_same c d a b h.2 h.3 in
    (h.0, s.0, s.1)

-- a leaf's header has another type than a structure's
leaf_no_node : (t u : ℕ) (p : TtlvType) (c d a b : List ℕ) → t < 2 ^ 24 → u < 2 ^ 24 → is_structure p ≡ false → length c < 2 ^ 32 → length d < 2 ^ 32
    → leaf_bytes t p c ++ a ≡ node_bytes u d ++ b → ⊥
unfolding leaf_bytes node_bytes
leaf_no_node t u p c d a b ht hu plain hc hd e =
    let z : List ℕ = replicate (pad_len (length c)) 0 in
    let flat : header t p (length c) ++ (c ++ (z ++ a)) ≡ header u Structure (length d) ++ (d ++ b) = simp append_assoc at e in
    let h = same_header t u p Structure (length c) (length d) (c ++ (z ++ a)) (d ++ b) ht hu hc hd flat in
    let k : true ≡ false = sym (ap is_structure h.1) ∙ plain in
    absurd cc

some_bytes : (t : Tree) (ts : Trees) → bytes t ++ bytes_below ts ≡ [] → ⊥
some_bytes t ts e = absurd (omega (arith, tree_len t, length-append (bytes t) (bytes_below ts), ap length e))

mutual
  tree_split : (t u : Tree) (a b : List ℕ) → IsSound t → IsSound u → bytes t ++ a ≡ bytes u ++ b → (t ≡ u) × (a ≡ b)
  tree_split (leaf t p c) (leaf u q d) a b h k e = leaf_split t u p q c d a b h.0 k.0 h.2 k.2 e
  tree_split (leaf t p c) (node u us) a b h k e = absurd (leaf_no_node t u p c (bytes_below us) a b h.0 k.0 h.1 h.2 k.1 e)
  tree_split (node t ts) (leaf u q d) a b h k e = absurd (leaf_no_node u t q d (bytes_below ts) b a k.0 h.0 k.1 k.2 h.1 (sym e))
  tree_split (node t ts) (node u us) a b h k e =
      let s = node_split t u (bytes_below ts) (bytes_below us) a b h.0 k.0 h.1 k.1 e in
      (ap₂ (λ i is. node i is) s.0 (trees_same ts us h.2 k.2 s.1), s.2)

  trees_same : (ts us : Trees) → AreSound ts → AreSound us → bytes_below ts ≡ bytes_below us → ts ≡ us
  trees_same no_trees no_trees h k e = refl
  trees_same no_trees (tree u us) h k e = absurd (some_bytes u us (sym e))
  trees_same (tree t ts) no_trees h k e = absurd (some_bytes t ts e)
  trees_same (tree t ts) (tree u us) h k e =
      let s = tree_split t u (bytes_below ts) (bytes_below us) h.0 k.0 e in
      ap₂ (λ i is. tree i is) s.0 (trees_same ts us h.1 k.1 s.1)

pub all_same : (ts us : List Tree) → AllByRecursion IsSound ts → AllByRecursion IsSound us → bytes_all ts ≡ bytes_all us → ts ≡ us
all_same [] [] h k e = refl
all_same [] (u ∷ us) h k e = absurd (some_bytes u (trees_of us) (ap (λ xs. bytes u ++ xs) (below_is us) ∙ sym e))
all_same (t ∷ ts) [] h k e = absurd (some_bytes t (trees_of ts) (ap (λ xs. bytes t ++ xs) (below_is ts) ∙ e))
all_same (t ∷ ts) (u ∷ us) h k e =
    let s = tree_split t u (bytes_all ts) (bytes_all us) h.0 k.0 e in
    ap₂ (λ i is. i ∷ is) s.0 (all_same ts us h.1 k.1 s.1)
