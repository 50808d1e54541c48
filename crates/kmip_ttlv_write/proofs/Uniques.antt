-- A list of lines is that of one list of trees; and the lines of a message's items.
use Rattle.std.proofs.Common.{◌≡◌, ◌≢◌, inl, inr, ℕ, suc, ◌+◌, ◌<◌, ◌≤◌, true, false, List, [], ◌∷◌, ◌++◌, length, map, take, drop, refl, ap, sym, subst, ◌∙◌}
use Rattle.std.proofs.Common.{arith, append_assoc, append-nil, length-append, ◌==◌}
use Rattle.std.specs.List.{AllByRecursion}
use Rattle.std.proofs.lemmas.Bool.{ne_eqb}
use Rattle.std.proofs.lemmas.List.{drop_at, drop-drop, length-drop}
use Rattle.kmip_ttlv_types.specs.{declared.typ.TtlvType.TtlvType, declared.typ.TtlvType.TheVariants.Structure, ItemTypes.code, Items.header, Items.IsTextOf}
use Rattle.kmip_ttlv_types.specs.{Leaves.is_valid}
use Rattle.kmip_ttlv_types.specs.Trees.{Tree, Trees, leaf, node, no_trees, tree, bytes, bytes_below, IsTreeText, AreTreeTexts}
use Rattle.kmip_ttlv_types.proofs.PlaceLemmas.{raw_with, text_length, item_at_text, code_one}
use Rattle.kmip_ttlv_items.specs.declared.found.FoundItem.{FoundItem}
use Rattle.kmip_ttlv_items.specs.FoundItems.{span, listed, listed_all}
use Rattle.kmip_ttlv_items.proofs.Spans.{leaf_not, text_span}
use Rattle.kmip_ttlv_write.specs.GivenItems.{Line, line, lines, lines_below, line_of, given_of, IsInside, IsWritten}
use Rattle.kmip_ttlv_write.specs.FlatLaws.{HaveOneText, AreWrittenBack, CanonicalStays, AreMessages}
use Rattle.kmip_ttlv_write.proofs.Opens.{leaf_len, node_len, AllTexts, leaf_text, node_text, padding_is}

-- what follows is in fewer structures
abbrev IsLow : ℕ → List Line → Type 0
IsLow d [] = Unit {0}
IsLow d (l ∷ ls) = l.depth < d

low_more : (d : ℕ) (ts : Trees) (r : List Line) → IsLow d r → IsLow (suc d) (lines_below d ts ++ r)
low_more d no_trees [] h = tt
low_more d no_trees (l ∷ ls) h = omega (arith, h)
low_more d (tree (leaf tag typ content) ts) r h = omega arith
low_more d (tree (node tag below) ts) r h = omega arith

-- the next item isn't of this depth
low_not : (d : ℕ) (u : Tree) (r s : List Line) → r ≡ lines d u ++ s → IsLow d r → ⊥
low_not d (leaf tag typ content) (l ∷ ls) s e h = let k : l ≡ line d tag (code typ) content = cc in omega (arith, h, ap (λ (m : Line). m.depth) k)
low_not d (node tag below) (l ∷ ls) s e h = let k : l ≡ line d tag 1 [] = cc in omega (arith, h, ap (λ (m : Line). m.depth) k)
low_not d (leaf tag typ content) [] s e h = absurd cc
low_not d (node tag below) [] s e h = absurd cc

same_leaf : (a b : ℕ) (t u : TtlvType) (x y : List ℕ) → a ≡ b → t ≡ u → x ≡ y → leaf a t x ≡ leaf b u y
same_leaf a b t u x y e f g = ap (λ (n : ℕ). leaf n t x) e ∙ ap (λ (v : TtlvType). leaf b v x) f ∙ ap (λ (c : List ℕ). leaf b u c) g

-- a leaf's line isn't a structure's
leaf_no_node : (d a b : ℕ) (typ : TtlvType) (content : List ℕ) → is_valid typ content ≡ true → line d a (code typ) content ≡ line d b 1 [] → ⊥
leaf_no_node d a b typ content valid e = leaf_not typ content valid (code_one typ Structure (ap (λ (l : Line). l.code) e))

mutual
  tree_one : (d : ℕ) (t u : Tree) (x y : List ℕ) → IsTreeText t x → IsTreeText u y → (r s : List Line) → lines d t ++ r ≡ lines d u ++ s → IsLow (suc d) r
      → IsLow (suc d) s → (t ≡ u) × (r ≡ s)
  tree_one d (leaf a typ v) (leaf b kind w) x y h k r s e low slow =
      let l : line d a (code typ) v ≡ line d b (code kind) w = cc in
      let rest : r ≡ s = cc in
      (same_leaf a b typ kind v w (ap (λ (m : Line). m.tag) l) (code_one typ kind (ap (λ (m : Line). m.code) l)) (ap (λ (m : Line). m.content) l), rest)
  tree_one d (leaf a typ v) (node b us) x y h k r s e low slow = let l : line d a (code typ) v ≡ line d b 1 [] = cc in absurd (leaf_no_node d a b typ v h.0 l)
  tree_one d (node a ts) (leaf b kind w) x y h k r s e low slow = let l : line d b (code kind) w ≡ line d a 1 [] = cc in
      absurd (leaf_no_node d b a kind w k.0 l)
  tree_one d (node a ts) (node b us) x y h k r s e low slow =
      let l : line d a 1 [] ≡ line d b 1 [] = cc in
      let rest : lines_below (suc d) ts ++ r ≡ lines_below (suc d) us ++ s = cc in
      let one = trees_one (suc d) ts us h.0 k.0 h.2 k.2 r s rest low slow in
      (ap (λ (n : ℕ). node n ts) (ap (λ (m : Line). m.tag) l) ∙ ap (λ (vs : Trees). node b vs) one.0, one.1)

  trees_one : (d : ℕ) (ts us : Trees) (x y : List ℕ) → AreTreeTexts ts x → AreTreeTexts us y → (r s : List Line) → lines_below d ts ++ r ≡ lines_below d us ++ s
      → IsLow d r → IsLow d s → (ts ≡ us) × (r ≡ s)
  trees_one d no_trees no_trees x y h k r s e low slow = (refl, e)
  trees_one d no_trees (tree u us) x y h k r s e low slow =
      absurd (low_not d u r (lines_below d us ++ s) (e ∙ append_assoc (lines d u) (lines_below d us) s) low)
  trees_one d (tree t ts) no_trees x y h k r s e low slow =
      absurd (low_not d t s (lines_below d ts ++ r) (sym e ∙ append_assoc (lines d t) (lines_below d ts) r) slow)
  trees_one d (tree t ts) (tree u us) x y h k r s e low slow =
      let all = sym (append_assoc (lines d t) (lines_below d ts) r) ∙ e ∙ append_assoc (lines d u) (lines_below d us) s in
      let one = tree_one d t u h.0 k.0 h.3 k.3 (lines_below d ts ++ r) (lines_below d us ++ s) all (low_more d ts r low) (low_more d us s slow) in
      let more = trees_one d ts us h.1 k.1 h.4 k.4 r s one.1 low slow in
      (ap (λ (v : Tree). tree v ts) one.0 ∙ ap (λ (vs : Trees). tree u vs) more.0, more.1)

pub one_text : HaveOneText
one_text xs lent a b v w =
    let e : lines_below 0 v.trees ++ [] ≡ lines_below 0 w.trees ++ [] = append-nil (lines_below 0 v.trees) ∙ sym v.are ∙ w.are
    ∙ sym (append-nil (lines_below 0 w.trees)) in
    let same = (trees_one 0 v.trees w.trees a b v.texts w.texts [] [] e tt tt).0 in
    v.canonical ∙ ap bytes_below same ∙ sym w.canonical

-- the canonical bytes are an encoding too, and of the same length
record Canon (t : Tree) (text : List ℕ) : Type 0 where
  is : IsTreeText t (bytes t)
  len : length (bytes t) ≡ length text

record Canons (ts : Trees) (text : List ℕ) : Type 0 where
  are : AllTexts ts
  len : length (bytes_below ts) ≡ length text

mutual
  canon : (t : Tree) (text : List ℕ) → IsTreeText t text → Canon t text
  canon (leaf tag typ content) text h =
      let ne = leaf_not typ content h.0 in
      let len : length (bytes (leaf tag typ content)) ≡ length text =
      omega (arith, leaf_len tag typ content, padding_is typ (length content) ne, text_length (raw_with tag typ content) text h.1) in
      record { is = leaf_text tag typ content h.1.tag_fits ne h.1.length_fits h.0; len = len }
  canon (node tag below) text h =
      let k = canons below h.0 h.2 in
      record {
        is = node_text tag below h.1.tag_fits (omega (arith, k.len, h.1.length_fits)) k.are;
        len = omega (arith, node_len tag (bytes_below below), k.len, text_length (raw_with tag Structure h.0) text h.1);
      }

  canons : (ts : Trees) (text : List ℕ) → AreTreeTexts ts text → Canons ts text
  canons no_trees text h = record { are = tt; len = ap length (sym h) }
  canons (tree t ts) text h =
      let a = canon t h.0 h.3 in
      let b = canons ts h.1 h.4 in
      record { are = (a.is, b.are); len = omega (arith, length-append (bytes t) (bytes_below ts), a.len, b.len, ap length h.2, length-append h.0 h.1) }

-- the lines of a message's items
pub record HasLines (w : List ℕ) (xs : List FoundItem) (ls : List Line) : Type 0 where
  pub same : map (line_of w) (map given_of xs) ≡ ls
  pub inside : AllByRecursion (IsInside w) (map given_of xs)

both_have_lines : {w : List ℕ} (xs : List FoundItem) {ys : List FoundItem} {ls ms : List Line} → HasLines w xs ls → HasLines w ys ms
    → HasLines w (xs ++ ys) (ls ++ ms)
both_have_lines [] {ms = ms} a b = record { same = b.same ∙ ap (λ (s : List Line). s ++ ms) a.same; inside = b.inside }
both_have_lines {w} (x ∷ xs) {ms = ms} a b =
    let k = both_have_lines xs {ls = map (line_of w) (map given_of xs)} record { same = refl; inside = a.inside.1 } b in
    record { same = ap (λ (s : List Line). line_of w (given_of x) ∷ s) k.same ∙ ap (λ (s : List Line). s ++ ms) a.same; inside = (a.inside.0, k.inside) }

module _ (w : List ℕ) where
  inner_at : (p tag : ℕ) (content text rest : List ℕ) → drop p w ≡ text ++ rest → IsTextOf (raw_with tag Structure content) text
      → drop (p + 8) w ≡ content ++ rest
  inner_at p tag content text rest at h =
      let head = header tag Structure (length content) in
      let e : drop p w ≡ head ++ (content ++ (h.pad ++ rest)) = at ∙ ap (λ (s : List ℕ). s ++ rest) h.parts ∙ simp append_assoc in
      sym (drop-drop 8 p w) ∙ ap (drop 8) e ∙ drop_at head (content ++ (h.pad ++ rest)) 8 refl
      ∙ ap (λ (s : List ℕ). content ++ (s ++ rest)) (nil h.pad h.pad_length)
    where
      nil : (s : List ℕ) → length s ≡ 0 → s ≡ []
      nil [] e = refl
      nil (x ∷ s) e = absurd (omega (arith, e))

  mutual
    tree_has_lines : (p d : ℕ) (t : Tree) (text rest : List ℕ) → p ≤ length w → drop p w ≡ text ++ rest → IsTreeText t text
        → HasLines w (listed p d t) (lines d t)
    tree_has_lines p d (leaf tag typ content) text rest le at h =
        let here = item_at_text w p (raw_with tag typ content) text rest le at h.1 in
        let not-one : code typ ≢ 1 = λ one. (leaf_not typ content h.0) (code_one typ Structure one) in
        let k : (code typ == 1) ≡ false = ne_eqb (code typ) 1 not-one in
        let there : take (length content) (drop (p + 8) w) ≡ content = ap (λ (n : ℕ). take n (drop (p + 8) w)) here.len ∙ sym here.content in
        record { same = rw (k, there) refl; inside = (inr (omega (arith, here.there, here.len)), tt) }
    tree_has_lines p d (node tag below) text rest le at h =
        let fits : p + 8 ≤ length w = omega (arith, length-drop p w, ap length at, length-append text rest, text_length (raw_with tag Structure h.0) text h.1)
        in
        let k = trees_have_lines (p + 8) (suc d) below h.0 rest fits (inner_at p tag h.0 text rest at h.1) h.2 in
        record { same = ap (λ (s : List Line). line d tag 1 [] ∷ s) k.same; inside = (inl refl, k.inside) }

    trees_have_lines : (p d : ℕ) (ts : Trees) (text rest : List ℕ) → p ≤ length w → drop p w ≡ text ++ rest → AreTreeTexts ts text
        → HasLines w (listed_all p d ts) (lines_below d ts)
    trees_have_lines p d no_trees text rest le at h = record { same = refl; inside = tt }
    trees_have_lines p d (tree t ts) text rest le at h =
        let here : drop p w ≡ h.0 ++ (h.1 ++ rest) = at ∙ ap (λ (s : List ℕ). s ++ rest) h.2 ∙ append_assoc h.0 h.1 rest in
        let long : length h.0 ≡ span t = text_span t h.0 h.3 in
        let next : drop (p + span t) w ≡ h.1 ++ rest = sym (drop-drop (span t) p w) ∙ ap (drop (span t)) here ∙ drop_at h.0 (h.1 ++ rest) (span t) long in
        let fits : p + span t ≤ length w = omega (arith, length-drop p w, ap length here, length-append h.0 (h.1 ++ rest), long) in
        both_have_lines (listed p d t) (tree_has_lines p d t h.0 (h.1 ++ rest) le here h.3) (trees_have_lines (p + span t) d ts h.1 rest fits next h.4)

pub message_has_lines : (message : List ℕ) (t : Tree) → IsTreeText t message → HasLines message (listed 0 0 t) (lines 0 t)
message_has_lines message t h = tree_has_lines message 0 0 t message [] (omega arith) (sym (append-nil message)) h

pub written_back : AreWrittenBack
written_back message xs short h =
    let t = h.message in
    let c = canon t message h.text in
    let has_lines = message_has_lines message t h.text in
    let none : bytes t ++ [] ≡ bytes t = append-nil (bytes t) in
    record {
      trees = tree t no_trees;
      are = ap (λ (s : List FoundItem). map (line_of message) (map given_of s)) h.items ∙ has_lines.same ∙ sym (append-nil (lines 0 t));
      inside = subst (λ (s : List FoundItem). AllByRecursion (IsInside message) (map given_of s)) (sym h.items) has_lines.inside;
      texts = (bytes t, [], sym none, c.is, refl);
      canonical = sym none;
      total = omega (arith, c.len, short);
    }

pub canonical_stays : CanonicalStays
canonical_stays message xs short h is = subst (IsWritten (map given_of xs) message) (sym is) (written_back message xs short h)

pub are_messages : AreMessages
are_messages xs lent out w root is whole =
    let texts : AreTreeTexts (tree root no_trees) out = subst (λ (ts : Trees). AreTreeTexts ts out) is w.texts in
    let same : out ≡ texts.0 = texts.2 ∙ ap (λ (s : List ℕ). texts.0 ++ s) texts.4 ∙ append-nil texts.0 in
    let text : IsTreeText root out = subst (IsTreeText root) (sym same) texts.3 in
    record {
      found = listed 0 0 root;
      lists = record { message = root; text = text; root = whole; items = refl };
      same = (message_has_lines out root text).same ∙ sym (append-nil (lines 0 root)) ∙ sym (ap (lines_below 0) is) ∙ sym w.are;
    }
