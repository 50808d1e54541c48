-- What any style writes for a well-formed message.
use Rattle.std.proofs.Common.{◌≡◌, ◌≢◌, ℕ, zero, suc, ◌+◌, ◌<◌, ◌≤◌, Bool, true, false, List, [], ◌∷◌, ◌++◌, length, take, drop, refl, sym, ap, ◌∙◌, arith}
use Rattle.std.proofs.Common.{append_assoc, append-nil, length-append}
use Rattle.std.proofs.lemmas.List.{drop_at, length-drop, drop-drop}
use Rattle.std.proofs.lemmas.Bool.{lt-ltb}
use Rattle.kmip_ttlv_types.specs.{declared.typ.TtlvType.TtlvType, declared.typ.TtlvType.TheVariants.Structure, Items.Raw, Items.IsTextOf, ItemTypes.type_of}
use Rattle.kmip_ttlv_types.specs.{Leaves.is_valid}
use Rattle.kmip_ttlv_types.specs.Places.{tag_at, length_at, size}
use Rattle.kmip_ttlv_types.specs.Trees.{Tree, Trees, leaf, node, no_trees, tree, IsTreeText, AreTreeTexts, HasNoEmpty, HaveNoEmpty, IsStructure}
use Rattle.kmip_ttlv_util.specs.Traces.{trace, Style, printed_text}
use Rattle.kmip_ttlv_util.specs.{WalkPlaces.has_end, WalkPlaces.after, Walks.Ready}
use Rattle.kmip_ttlv_util.specs.Entries.{Entry, entry_at, detail_of, extent}
use Rattle.kmip_ttlv_types.proofs.PlaceLemmas.{raw_with, header_of, item_at_text, text_length, type_of-code}
use Rattle.kmip_ttlv_util.proofs.Entries.{entry_tag, entry_length, detail_here, read_leaf, read_structure, extent_leaf}
use Rattle.kmip_ttlv_util.proofs.Rest.{place, ready_root, ready_before, text_from, text_start, turn_reads, turn_closes, turn_over}
use Rattle.kmip_ttlv_util.proofs.Stack.{step_leaf, step_opens}

-- how many turns a tree takes, in addition to f
abbrev mutual
  -- the turns of a tree
  pub more : Tree → ℕ → ℕ
  more (leaf tag typ content) f = suc f
  more (node tag ts) f = suc (more_all ts f)

  pub more_all : Trees → ℕ → ℕ
  more_all no_trees f = f
  more_all (tree t ts) f = more t (more_all ts f)

-- a type with valid content is not Structure
pub leaf_not : (typ : TtlvType) (content : List ℕ) → is_valid typ content ≡ true → typ ≢ Structure
leaf_not typ content valid h = let k : is_valid Structure content ≡ true = ap (λ (u : TtlvType). is_valid u content) (sym h) ∙ valid in cc

-- an item has a header
size_least : (typ : TtlvType) (n : ℕ) → 8 + n ≤ size typ n
size_least typ n = omega arith

-- the length of an encoding
pub tree_length : (t : Tree) (text : List ℕ) → IsTreeText t text → 8 ≤ length text
tree_length (leaf tag typ content) text h = omega (arith, text_length (raw_with tag typ content) text h.1, size_least typ (length content))
tree_length (node tag ts) text h = omega (arith, text_length (raw_with tag Structure h.0) text h.1, size_least Structure (length h.0))

-- there are enough bytes for all turns
pub record Turns (g n : ℕ) (m : ℕ → ℕ) : Type 0 where
  pub left : ℕ
  pub is : g ≡ m left
  pub enough : g ≤ left + n

-- the length of a structure's encoding
pub node_length : (tag : ℕ) (ts : Trees) (text : List ℕ) (h : IsTreeText (node tag ts) text) → length text ≡ 8 + length h.0
node_length tag ts text h = text_length (raw_with tag Structure h.0) text h.1 ∙ omega arith

mutual
  -- a tree takes no more turns than it has bytes
  pub turns : (t : Tree) (text : List ℕ) (g : ℕ) → IsTreeText t text → length text ≤ g → Turns g (length text) (more t)
  turns (leaf tag typ content) text zero h le = absurd (omega (arith, tree_length (leaf tag typ content) text h))
  turns (leaf tag typ content) text (suc g) h le = record { left = g; is = refl; enough = omega (arith, tree_length (leaf tag typ content) text h) }
  turns (node tag ts) text zero h le = absurd (omega (arith, tree_length (node tag ts) text h))
  turns (node tag ts) text (suc g) h le =
      let k = turns_all ts h.0 g h.2 (omega (arith, node_length tag ts text h)) in
      record { left = k.left; is = ap suc k.is; enough = omega (arith, k.enough, node_length tag ts text h) }

  -- nor do several
  turns_all : (ts : Trees) (text : List ℕ) (g : ℕ) → AreTreeTexts ts text → length text ≤ g → Turns g (length text) (more_all ts)
  turns_all no_trees text g h le = record { left = g; is = refl; enough = omega arith }
  turns_all (tree t ts) text g h le =
      let a = turns t h.0 g h.3 (omega (arith, ap length h.2, length-append h.0 h.1)) in
      let b = turns_all ts h.1 a.left h.4 (omega (arith, a.enough, ap length h.2, length-append h.0 h.1)) in
      record { left = b.left; is = a.is ∙ ap (more t) b.is; enough = omega (arith, a.enough, b.enough, ap length h.2, length-append h.0 h.1) }

-- ---- structures with their own end

-- what is in a structure without empty ones has none either
inner : (tag : ℕ) (ts : Trees) → HasNoEmpty (node tag ts) → HaveNoEmpty ts
inner tag no_trees h = tt
inner tag (tree t ts) h = h

-- such a structure has content
first_length : (tag : ℕ) (ts : Trees) (text : List ℕ) → HasNoEmpty (node tag ts) → AreTreeTexts ts text → 0 < length text
first_length tag no_trees text none h = absurd none
first_length tag (tree t ts) text none h = omega (arith, tree_length t h.0 h.3, ap length h.2, length-append h.0 h.1)

-- so it has its own end
ends_itself : (closed : Bool) (tag : ℕ) (ts : Trees) (text : List ℕ) → (closed ≡ false → HasNoEmpty (node tag ts)) → AreTreeTexts ts text
    → has_end closed (length text) ≡ true
ends_itself true tag ts text none h = refl
ends_itself false tag ts text none h = lt-ltb 0 (length text) (first_length tag ts text (none refl) h)

-- ---- the walk over a tree

-- what follows the first part is after it
pub next_at : (w : List ℕ) (p : ℕ) (a rest : List ℕ) → drop p w ≡ a ++ rest → drop (p + length a) w ≡ rest
next_at w p a rest e = sym (drop-drop (length a) p w) ∙ ap (drop (length a)) e ∙ drop_at a rest (length a) refl

-- an encoding at an offset is within the bytes
pub within_at : (w : List ℕ) (p : ℕ) (a rest : List ℕ) → p ≤ length w → drop p w ≡ a ++ rest → p + length a ≤ length w
within_at w p a rest le e = omega (arith, ap length e, length-append a rest, length-drop p w)

-- where its content is
pub content_at_text : (w : List ℕ) (p : ℕ) (x : Raw) (text rest : List ℕ) (t : IsTextOf x text) → drop p w ≡ text ++ rest
    → drop (p + 8) w ≡ x.content ++ (t.pad ++ rest)
content_at_text w p x text rest t e =
    let r : drop p w ≡ header_of x ++ (x.content ++ (t.pad ++ rest)) = e ∙ ap (λ (s : List ℕ). s ++ rest) t.parts ∙ simp append_assoc in
    sym (drop-drop 8 p w) ∙ ap (drop 8) r ∙ drop_at (header_of x) (x.content ++ (t.pad ++ rest)) 8 refl

-- ---- what a style writes for a tree

-- what is written for a leaf at a depth, and for a structure's opening
pub record Drawing : Type 0 where
  pub of_leaf : (depth tag : ℕ) → TtlvType → List ℕ → List ℕ
  pub of_node : (depth tag : ℕ) → List ℕ

abbrev mutual
  -- the text of a tree at a depth
  pub drawn : Drawing → List ℕ → ℕ → Tree → List ℕ
  drawn d shut depth (leaf tag typ content) = d.of_leaf depth tag typ content
  drawn d shut depth (node tag below) = d.of_node depth tag ++ (drawn_all d shut (suc depth) below ++ shut)

  pub drawn_all : Drawing → List ℕ → ℕ → Trees → List ℕ
  drawn_all d shut depth no_trees = []
  drawn_all d shut depth (tree t ts) = drawn d shut depth t ++ drawn_all d shut depth ts

-- an entry is this leaf's
pub record LeafHere (w : List ℕ) (p : ℕ) (x : Entry) (tag : ℕ) (typ : TtlvType) (content : List ℕ) : Type 0 where
  pub valid : is_valid typ content ≡ true
  pub tag_is : tag_at x.header 0 ≡ tag
  pub content_is : take (length_at x.header 0) (drop (p + 8) w) ≡ content
  pub detail_is : x.detail ≡ detail_of typ content

-- an entry opens a structure with its own end
pub record NodeHere (closed : Bool) (x : Entry) (tag : ℕ) : Type 0 where
  pub tag_is : tag_at x.header 0 ≡ tag
  pub own : has_end closed (length_at x.header 0) ≡ true

-- a style writes this
pub record Draws (style : Style) (d : Drawing) (closed : Bool) (w : List ℕ) : Type 0 where
  pub leafs : (depth p tag : ℕ) (typ : TtlvType) (content : List ℕ) → LeafHere w p (entry_at w p) tag typ content
      → style.item depth p (entry_at w p) typ ≡ d.of_leaf depth tag typ content
  pub nodes : (depth p tag : ℕ) → NodeHere closed (entry_at w p) tag → style.item depth p (entry_at w p) Structure ≡ d.of_node depth tag

module _ (style : Style) (d : Drawing) (closed : Bool) (w : List ℕ) (draws : Draws style d closed w) where
  pub leaf_step : (tag : ℕ) (typ : TtlvType) (content : List ℕ) (p f : ℕ) (es : List ℕ) (k : ℕ) (z : Bool) (text rest : List ℕ)
      → IsTreeText (leaf tag typ content) text → drop p w ≡ text ++ rest → p ≤ length w → Ready (place p es k z)
      → text_from style closed w (suc f) (place p es k z) ≡ d.of_leaf (k + length es) tag typ content ++ text_from style closed w f
      (place (p + length text) es k z)
  leaf_step tag typ content p f es k z text rest h at le ready =
      let item = item_at_text w p (raw_with tag typ content) text rest le at h.1 in
      let n = length_at w p in
      let m = length_at (entry_at w p).header 0 in
      let ne = leaf_not typ content h.0 in
      let valid : is_valid typ (take n (drop (p + 8) w)) ≡ true = ap (is_valid typ) (sym item.content) ∙ h.0 in
      let reads = read_leaf w p typ n (ap type_of (sym item.typ) ∙ type_of-code typ) ne refl item.there valid in
      let here : LeafHere w p (entry_at w p) tag typ content = record {
        valid = h.0;
        tag_is = entry_tag w p ∙ sym item.tag;
        content_is = ap (λ (q : ℕ). take q (drop (p + 8) w)) (entry_length w p) ∙ sym item.content;
        detail_is = detail_here w p typ n (ap type_of (sym item.typ) ∙ type_of-code typ) refl item.there ∙ ap (detail_of typ) (sym item.content);
      } in
      let size-is : p + length text ≡ p + extent typ m =
      rw (text_length (raw_with tag typ content) text h.1, extent_leaf typ m ne, entry_length w p, ← item.len) refl in
      let goes : after closed (place p es k z) typ m ≡ place (p + length text) es k z =
      sym (step_leaf closed (place p es k z) typ m (p + length text) ready ne size-is) in
      (turn_reads style closed w f (place p es k z) typ ready reads).0 ∙ rw (draws.leafs (k + length es) p tag typ content here, goes) refl

  -- a structure's opening
  pub node_step : (tag : ℕ) (ts : Trees) (p f : ℕ) (es : List ℕ) (k : ℕ) (z : Bool) (text rest : List ℕ) (h : IsTreeText (node tag ts) text)
      → has_end closed (length h.0) ≡ true → drop p w ≡ text ++ rest → p ≤ length w → Ready (place p es k z)
      → text_from style closed w (suc f) (place p es k z) ≡ d.of_node (k + length es) tag ++ text_from style closed w f
      (place (p + 8) ((p + 8 + length h.0) ∷ es) k z)
  node_step tag ts p f es k z text rest h ends at le ready =
      let item = item_at_text w p (raw_with tag Structure h.0) text rest le at h.1 in
      let n = length_at (entry_at w p).header 0 in
      let n-is : n ≡ length h.0 = entry_length w p ∙ sym item.len in
      let reads = read_structure w p (ap type_of (sym item.typ)) (omega (arith, item.there)) in
      let own : has_end closed n ≡ true = ap (has_end closed) n-is ∙ ends in
      let here : NodeHere closed (entry_at w p) tag = record { tag_is = entry_tag w p ∙ sym item.tag; own = own } in
      let goes : after closed (place p es k z) Structure n ≡ place (p + 8) ((p + 8 + length h.0) ∷ es) k z =
      sym (step_opens closed (place p es k z) Structure n (p + 8) ((p + 8 + length h.0) ∷ es) ready refl refl own
      (ap (λ (m : ℕ). (p + 8 + m) ∷ es) (sym n-is))) in
      (turn_reads style closed w f (place p es k z) Structure ready reads).0 ∙ rw (draws.nodes (k + length es) p tag here, goes) refl

  mutual
    tree_text : (t : Tree) (p e f : ℕ) (es : List ℕ) (k : ℕ) (z : Bool) (text rest : List ℕ) → IsTreeText t text → (closed ≡ false → HasNoEmpty t)
        → drop p w ≡ text ++ rest → p ≤ length w → p + length text ≤ e
        → text_from style closed w (more t f) (place p (e ∷ es) k z) ≡ drawn d style.close (k + length (e ∷ es)) t ++ text_from style closed w f
        (place (p + length text) (e ∷ es) k z)
    tree_text (leaf tag typ content) p e f es k z text rest h none at le end =
        leaf_step tag typ content p f (e ∷ es) k z text rest h at le (ready_before p e es k z (omega (arith, tree_length (leaf tag typ content) text h)))
    tree_text (node tag ts) p e f es k z text rest h none at le end =
        let ready = ready_before p e es k z (omega (arith, tree_length (node tag ts) text h)) in
        let q = p + 8 + length h.0 in
        let q-is : q ≡ p + length text = omega (arith, node_length tag ts text h) in
        let long : p + 8 ≤ length w = omega (arith, within_at w p text rest le at, tree_length (node tag ts) text h) in
        let deep : k + length (q ∷ e ∷ es) ≡ suc (k + length (e ∷ es)) = omega arith in
        let first = node_step tag ts p (more_all ts f) (e ∷ es) k z text rest h (ends_itself closed tag ts h.0 none h.2) at le ready in
        let second = trees_text ts (p + 8) q f (e ∷ es) k z h.0 (h.1.pad ++ rest) h.2 (λ c. inner tag ts (none c))
        (content_at_text w p (raw_with tag Structure h.0) text rest h.1 at) long (omega arith) in
        rw (first, second, deep, ((turn_closes style closed w f q e es k z).0), q-is) (simp append_assoc)

    trees_text : (ts : Trees) (p e f : ℕ) (es : List ℕ) (k : ℕ) (z : Bool) (text rest : List ℕ) → AreTreeTexts ts text → (closed ≡ false → HaveNoEmpty ts)
        → drop p w ≡ text ++ rest → p ≤ length w → p + length text ≤ e
        → text_from style closed w (more_all ts f) (place p (e ∷ es) k z) ≡ drawn_all d style.close (k + length (e ∷ es)) ts ++ text_from style closed w f
        (place (p + length text) (e ∷ es) k z)
    trees_text no_trees p e f es k z text rest h none at le end =
        let same : p ≡ p + length text = omega (arith, ap length h) in
        ap (λ (m : ℕ). text_from style closed w f (place m (e ∷ es) k z)) same
    trees_text (tree t ts) p e f es k z text rest h none at le end =
        let a = h.0 in
        let b = h.1 in
        let size-is : length text ≡ length a + length b = ap length h.2 ∙ length-append a b in
        let here : drop p w ≡ a ++ (b ++ rest) = at ∙ ap (λ (s : List ℕ). s ++ rest) h.2 ∙ append_assoc a b rest in
        let first = tree_text t p e (more_all ts f) es k z a (b ++ rest) h.3 (λ c. (none c).0) here le (omega arith) in
        let second = trees_text ts (p + length a) e f es k z b rest h.4 (λ c. (none c).1) (next_at w p a (b ++ rest) here) (within_at w p a (b ++ rest) le here)
        (omega arith) in
        let sum : p + length a + length b ≡ p + length text = omega arith in
        rw (first, second, sum) (simp append_assoc)

  -- a whole message
  pub message_determined : (t : Tree) → IsTreeText t w → IsStructure t → (closed ≡ false → HasNoEmpty t) → printed_text style closed (length w) (trace closed w)
      ≡ drawn d style.close 0 t
  message_determined (leaf tag typ content) h root none = absurd root
  message_determined (node tag ts) h root none =
      let t = turns (node tag ts) w (suc (length w)) h (omega arith) in
      let at : drop 0 w ≡ w ++ [] = sym (append-nil w) in
      let first = node_step tag ts 0 (more_all ts t.left) [] 0 false w [] h (ends_itself closed tag ts h.0 none h.2) at (omega arith) (ready_root 0 0 false) in
      let second = trees_text ts (0 + 8) (0 + 8 + length h.0) t.left [] 0 false h.0 (h.1.pad ++ []) h.2 (λ c. inner tag ts (none c))
      (content_at_text w 0 (raw_with tag Structure h.0) w [] h.1 at) (omega (arith, node_length tag ts w h)) (omega arith) in
      rw (← text_start style closed w, t.is, first, second, (turn_over style closed w t.left (0 + 8 + length h.0) 0 false).0) refl
