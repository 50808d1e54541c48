-- The diagnostic of a well-formed message in which empty structures stay open.
use Rattle.std.proofs.Common.{◌≡◌, ℕ, suc, ◌+◌, ◌≤◌, Bool, true, false, List, [], ◌∷◌, ◌++◌, length, drop, None, refl, sym, ap, ◌∙◌, arith}
use Rattle.std.proofs.Common.{append_assoc, append-nil, length-append}
use Rattle.std.proofs.lemmas.Bool.{lt-ltb}
use Rattle.std.specs.Prelude.{codes}
use Rattle.kmip_ttlv_types.specs.{declared.typ.TtlvType.TheVariants.Structure, ItemTypes.type_of, Places.length_at}
use Rattle.kmip_ttlv_types.specs.Trees.{Tree, Trees, leaf, node, no_trees, tree, IsTreeText, AreTreeTexts, IsStructure}
use Rattle.kmip_ttlv_types.proofs.PlaceLemmas.{raw_with, item_at_text, type_of-code}
use Rattle.kmip_ttlv_util.specs.{Traces.trace, Diagnostics.diag_style, Diagnostics.hostile, WalkPlaces.after, WalkPlaces.has_end, Walks.Ready}
use Rattle.kmip_ttlv_util.specs.Outlines.{outline_of, outlines_of, mark, open_diag, open_all, late, shown}
use Rattle.kmip_ttlv_util.specs.Entries.{entry_at}
use Rattle.kmip_ttlv_util.proofs.Entries.{entry_tag, entry_length, read_structure, read_short}
use Rattle.kmip_ttlv_util.proofs.Message.{diag_drawing, diag_draws, message_text}
use Rattle.kmip_ttlv_util.proofs.Rest.{place, ready_root, ready_before, text_from, text_start, turn_reads, turn_unreadable, turn_closes, turn_over}
use Rattle.kmip_ttlv_util.proofs.Walked.{more, more_all, turns, tree_length, node_length, next_at, within_at, content_at_text, leaf_step, node_step}

module _ (prefix w : List ℕ) where
  -- what is left to write
  left : ℕ → ℕ → List ℕ → ℕ → Bool → List ℕ
  left f p es k z = text_from (diag_style prefix) false w f (place p es k z)

  -- what is written for an item, up to where a walk is then; ends may be passed from there on
  record Writes (f g p q : ℕ) (es fs : List ℕ) (z : Bool) (text : List ℕ) : Type 0 where
    loose : Bool
    is : left f p es 0 z ≡ text ++ left g q fs 0 loose

  -- an empty structure in others is closed with the innermost of them
  empty_step : (tag p e f : ℕ) (fs : List ℕ) (z : Bool) (text rest : List ℕ) → IsTreeText (node tag no_trees) text → drop p w ≡ text ++ rest → p ≤ length w
      → p + length text ≤ e → Writes (suc f) f p (p + length text) (e ∷ fs) (e ∷ e ∷ fs) z (mark prefix tag Structure None)
  unfolding left after
  empty_step tag p e f fs z text rest h at le end =
      let ready = ready_before p e fs 0 z (omega (arith, tree_length (node tag no_trees) text h)) in
      let item = item_at_text w p (raw_with tag Structure h.0) text rest le at h.1 in
      let none : length_at (entry_at w p).header 0 ≡ 0 = entry_length w p ∙ sym item.len ∙ ap length h.2 in
      let q-is : p + 8 ≡ p + length text = omega (arith, node_length tag no_trees text h, ap length h.2) in
      let reads = read_structure w p (ap type_of (sym item.typ)) (omega (arith, item.there)) in
      let goes : after false (place p (e ∷ fs) 0 z) Structure (length_at (entry_at w p).header 0) ≡ place (p + length text) (e ∷ e ∷ fs) 0 true =
      rw (none, ready.left, q-is) refl in
      record {
        loose = true;
        is = (turn_reads (diag_style prefix) false w f (place p (e ∷ fs) 0 z) Structure ready reads).0 ∙ rw (goes, entry_tag w p, item.tag) refl;
      }

  -- the ends after an item
  abbrev piled : Tree → ℕ → List ℕ → List ℕ
  piled (leaf tag typ content) e fs = e ∷ fs
  piled (node tag no_trees) e fs = e ∷ e ∷ fs
  piled (node tag (tree t ts)) e fs = e ∷ fs

  -- what follows an item up to the end of the structure around it, and the closing bracket of an empty one
  joins : (t : Tree) (g f p e : ℕ) (fs : List ℕ) (z : Bool) (text : List ℕ) → ((gs : List ℕ) → Writes g f p e (e ∷ gs) (e ∷ gs) z text)
      → Writes g f p e (piled t e fs) (e ∷ fs) z (text ++ late (outline_of t))
  unfolding left
  joins (leaf tag typ content) g f p e fs z text follows =
      let s = follows fs in
      record { loose = s.loose; is = rw (append-nil text) s.is }
  joins (node tag no_trees) g f p e fs z text follows =
      let s = follows (e ∷ fs) in
      record {
        loose = s.loose;
        is = s.is ∙ ap (λ (r : List ℕ). text ++ r) ((turn_closes (diag_style prefix) false w f e e fs 0 s.loose).0) ∙ sym (append_assoc text (codes "]") _);
      }
  joins (node tag (tree t ts)) g f p e fs z text follows =
      let s = follows fs in
      record { loose = s.loose; is = rw (append-nil text) s.is }

  -- a structure with an item in it has content
  filled : (t : Tree) (ts : Trees) (text : List ℕ) → AreTreeTexts (tree t ts) text → has_end false (length text) ≡ true
  filled t ts text h = lt-ltb 0 (length text) (omega (arith, tree_length t h.0 h.3, ap length h.2, length-append h.0 h.1))

  -- a structure, whose items are written up to its end
  opens : (tag : ℕ) (ts : Trees) (p e f : ℕ) (fs : List ℕ) (z : Bool) (text rest : List ℕ) (h : IsTreeText (node tag ts) text) → drop p w ≡ text ++ rest
      → p ≤ length w → p + length text ≤ e
      → Writes (more_all ts f) f (p + 8) (p + 8 + length h.0) ((p + 8 + length h.0) ∷ e ∷ fs) ((p + 8 + length h.0) ∷ e ∷ fs) z
      (open_all prefix (outlines_of ts))
      → Writes (more (node tag ts) f) f p (p + length text) (e ∷ fs) (piled (node tag ts) e fs) z (open_diag prefix (outline_of (node tag ts)))
  unfolding left diag_drawing
  opens tag no_trees p e f fs z text rest h at le end below = empty_step tag p e f fs z text rest h at le end
  opens tag (tree t ts) p e f fs z text rest h at le end below =
      let all = tree t ts in
      let ready = ready_before p e fs 0 z (omega (arith, tree_length (node tag all) text h)) in
      let q = p + 8 + length h.0 in
      let q-is : q ≡ p + length text = omega (arith, node_length tag all text h) in
      let first = node_step (diag_style prefix) (diag_drawing prefix) false w (diag_draws prefix false w) tag all p (more_all all f) (e ∷ fs) 0 z text rest h
      (filled t ts h.0 h.2) at le ready in
      record {
        loose = below.loose;
        is = rw (first, below.is, (turn_closes (diag_style prefix) false w f q e fs 0 below.loose).0, q-is) (simp append_assoc);
      }

  mutual
    unfolding left diag_drawing

    tree_open : (t : Tree) (p e f : ℕ) (fs : List ℕ) (z : Bool) (text rest : List ℕ) → IsTreeText t text → drop p w ≡ text ++ rest → p ≤ length w
        → p + length text ≤ e → Writes (more t f) f p (p + length text) (e ∷ fs) (piled t e fs) z (open_diag prefix (outline_of t))
    tree_open (leaf tag typ content) p e f fs z text rest h at le end = record {
      loose = z;
      is = leaf_step (diag_style prefix) (diag_drawing prefix) false w (diag_draws prefix false w) tag typ content p f (e ∷ fs) 0 z text rest h at le
          (ready_before p e fs 0 z (omega (arith, tree_length (leaf tag typ content) text h)));
    }
    tree_open (node tag ts) p e f fs z text rest h at le end =
        let long : p + 8 ≤ length w = omega (arith, within_at w p text rest le at, tree_length (node tag ts) text h) in
        opens tag ts p e f fs z text rest h at le end (trees_open ts (p + 8) (p + 8 + length h.0) f (e ∷ fs) z h.0 (h.1.pad ++ rest) h.2
        (content_at_text w p (raw_with tag Structure h.0) text rest h.1 at) long refl)

    trees_open : (ts : Trees) (p e f : ℕ) (fs : List ℕ) (z : Bool) (text rest : List ℕ) → AreTreeTexts ts text → drop p w ≡ text ++ rest → p ≤ length w
        → p + length text ≡ e → Writes (more_all ts f) f p e (e ∷ fs) (e ∷ fs) z (open_all prefix (outlines_of ts))
    trees_open no_trees p e f fs z text rest h at le end =
        let same : p ≡ e = omega (arith, ap length h) in
        record { loose = z; is = ap (λ (m : ℕ). left f m (e ∷ fs) 0 z) same }
    trees_open (tree t ts) p e f fs z text rest h at le end =
        let a = h.0 in
        let b = h.1 in
        let size-is : length text ≡ length a + length b = ap length h.2 ∙ length-append a b in
        let here : drop p w ≡ a ++ (b ++ rest) = at ∙ ap (λ (s : List ℕ). s ++ rest) h.2 ∙ append_assoc a b rest in
        let first = tree_open t p e (more_all ts f) fs z a (b ++ rest) h.3 here le (omega arith) in
        let second = joins t (more_all ts f) f (p + length a) e fs first.loose (open_all prefix (outlines_of ts))
        (λ gs.
        trees_open ts (p + length a) e f gs first.loose b rest h.4 (next_at w p a (b ++ rest) here) (within_at w p a (b ++ rest) le here) (omega arith)) in
        record {
          loose = second.loose;
          is = first.is ∙ ap (λ (r : List ℕ). open_diag prefix (outline_of t) ++ r) second.is ∙ sym (append_assoc (open_diag prefix (outline_of t))
              (open_all prefix (outlines_of ts) ++ late (outline_of t)) _);
        }

  -- an empty message ends where its first item is due
  empty_message : (tag : ℕ) → IsTreeText (node tag no_trees) w → hostile prefix false (length w) (trace false w) ≡ mark prefix tag Structure None ++ codes "ERR"
  unfolding hostile after
  empty_message tag h =
      let at : drop 0 w ≡ w ++ [] = sym (append-nil w) in
      let item = item_at_text w 0 (raw_with tag Structure h.0) w [] (omega arith) at h.1 in
      let none : length_at (entry_at w 0).header 0 ≡ 0 = entry_length w 0 ∙ sym item.len ∙ ap length h.2 in
      let long : length w ≡ 8 = node_length tag no_trees w h ∙ ap (λ (s : List ℕ). 8 + length s) h.2 in
      let reads = read_structure w 0 (ap type_of (sym item.typ)) (omega (arith, item.there)) in
      let goes : after false (place 0 [] 0 false) Structure (length_at (entry_at w 0).header 0) ≡ place 8 [] 1 true =
      rw (none, (ready_root 0 0 false).left) refl in
      let first = (turn_reads (diag_style prefix) false w (length w) (place 0 [] 0 false) Structure (ready_root 0 0 false) reads).0 in
      let second = (turn_unreadable (diag_style prefix) false w 7 (place 8 [] 1 true) (ready_root 8 1 true) (read_short w 8 (omega arith))).0 in
      sym (text_start (diag_style prefix) false w) ∙ first ∙ rw (goes, entry_tag w 0, ← item.tag) (ap (λ (r : List ℕ). mark prefix tag Structure None ++ r)
      (ap (λ (n : ℕ). text_from (diag_style prefix) false w n (place 8 [] 1 true)) long ∙ second))

  -- any other is closed at its end
  open_message : (tag : ℕ) (t : Tree) (ts : Trees) → IsTreeText (node tag (tree t ts)) w → hostile prefix false (length w) (trace false w)
      ≡ open_diag prefix (outline_of (node tag (tree t ts)))
  unfolding hostile left diag_drawing
  open_message tag t ts h =
      let all = tree t ts in
      let n = turns (node tag all) w (suc (length w)) h (omega arith) in
      let at : drop 0 w ≡ w ++ [] = sym (append-nil w) in
      let first = node_step (diag_style prefix) (diag_drawing prefix) false w (diag_draws prefix false w) tag all 0 (more_all all n.left) [] 0 false w [] h
      (filled t ts h.0 h.2) at (omega arith) (ready_root 0 0 false) in
      let second = trees_open all (0 + 8) (0 + 8 + length h.0) n.left [] false h.0 (h.1.pad ++ []) h.2
      (content_at_text w 0 (raw_with tag Structure h.0) w [] h.1 at) (omega (arith, node_length tag all w h)) refl in
      rw (
        ← text_start (diag_style prefix) false w,
        n.is,
        first,
        second.is,
        (turn_over (diag_style prefix) false w n.left (0 + 8 + length h.0) 0 second.loose).0,
      ) refl

-- the diagnostic of a well-formed message is a text of its outline
pub shown_message : (prefix : List ℕ) (closed : Bool) (w : List ℕ) (t : Tree) → IsTreeText t w → IsStructure t
    → hostile prefix closed (length w) (trace closed w) ≡ shown prefix closed (outline_of t)
shown_message prefix true w t h root = message_text prefix true w t h root (λ e. cc)
shown_message prefix false w (leaf tag typ content) h root = absurd root
shown_message prefix false w (node tag no_trees) h root = empty_message prefix w tag h
shown_message prefix false w (node tag (tree t ts)) h root = open_message prefix w tag t ts h
