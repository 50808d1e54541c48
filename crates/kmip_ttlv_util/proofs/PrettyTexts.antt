-- The readable text of bytes and of a well-formed message.
use Rattle.std.proofs.Common.{◌≡◌, ◌≢◌, ℕ, suc, ◌+◌, ◌<◌, Bool, true, List, [], ◌∷◌, ◌++◌, length, take, drop, get_or, Option, refl, sym, ap, ◌∙◌, append-nil}
use Rattle.std.proofs.Common.{take-append-drop}
use Rattle.std.proofs.lemmas.{List.take_more, List.length-reverse, Grind.flat_map-append}
use Rattle.kmip_ttlv_types.specs.{declared.typ.TtlvType.TtlvType, declared.typ.TtlvType.TheVariants.Structure, Places.length_at}
use Rattle.kmip_ttlv_types.specs.Trees.{Tree, Trees, leaf, node, no_trees, tree}
use Rattle.kmip_ttlv_util.specs.{declared.item.Item.Item, WalkPlaces.has_end, Entries.entry_at, Walks.IsItem, declared.walk.Walk.Walk}
use Rattle.kmip_ttlv_util.specs.Pretty.{two_digits, hex_bytes, data_shown, pretty_line, pretty, pretty_all, warning, pretty_style, IsPrinted, IsPretty}
use Rattle.std.specs.Prelude.{reverse}
use Rattle.kmip_ttlv_util.proofs.Walked.{Drawing, Draws, drawn, drawn_all, message_determined, leaf_not}

-- one byte more
pub hex_more : (xs : List ℕ) (i : ℕ) → i < length xs → hex_bytes (take (i + 1) xs) ≡ hex_bytes (take i xs) ++ two_digits (get_or xs i 0)
unfolding hex_bytes
hex_more xs i lt = rw (take_more xs i 0 lt) (flat_map-append two_digits (take i xs) (get_or xs i 0 ∷ []))

-- no bytes, no digits
pub hex_none : [] ≡ hex_bytes []
unfolding hex_bytes
hex_none = refl

-- the digits before a byte, the byte's, and those after it
pub hex_parts : (xs : List ℕ) (i : ℕ) → i < length xs → (hex_bytes (take i xs) ++ two_digits (get_or xs i 0)) ++ hex_bytes (drop (i + 1) xs) ≡ hex_bytes xs
unfolding hex_bytes
hex_parts xs i lt =
    ap (λ (s : List ℕ). s ++ hex_bytes (drop (i + 1) xs)) (sym (hex_more xs i lt)) ∙ sym (flat_map-append two_digits (take (i + 1) xs) (drop (i + 1) xs))
    ∙ ap hex_bytes (take-append-drop (i + 1) xs)

module _ (names : ℕ → Option (List ℕ)) where
  -- a line of a structure shows no content
  same_line : (depth tag : ℕ) (typ : TtlvType) (b c : List ℕ) → (typ ≢ Structure → b ≡ c)
      → pretty_line names depth tag typ b ≡ pretty_line names depth tag typ c
  unfolding pretty_line data_shown
  same_line depth tag Structure b c e = refl
  same_line depth tag typ b c e = ap (pretty_line names depth tag typ) (e (λ h. cc))

  -- the line of an item, with the warning, is what the style writes for its entry
  pub item_line : {A : Type 0} {bytes : List ℕ} {depth : ℕ} {i : Item} (closed : Bool) (w : Walk A) → depth ≡ w.endless + length w.ends.items
      → IsItem bytes w.pos i → pretty_line names depth i.tag i.typ i.content.now ++ warning closed i.typ i.length
      ≡ (pretty_style names closed bytes []).item (w.endless + length (reverse w.ends.items)) w.pos (entry_at bytes w.pos) i.typ
  item_line {i = i} closed w deep item = rw (deep, length-reverse, ← item.len, ← item.tag)
      (ap (λ (s : List ℕ). s ++ warning closed i.typ i.length) (same_line _ _ _ _ _ item.content))

  -- ---- a well-formed message

  -- a leaf has no warning
  no_warning : (closed : Bool) (typ : TtlvType) (n : ℕ) → typ ≢ Structure → warning closed typ n ≡ []
  unfolding warning
  no_warning closed Structure n ne = absurd (ne refl)
  no_warning closed typ n ne = refl

  -- nor has a structure with its own end
  closed_warning : (closed : Bool) (n : ℕ) → has_end closed n ≡ true → warning closed Structure n ≡ []
  unfolding warning
  closed_warning closed n own = rw own refl

  -- what a readable text has for leaves and for openings of structures
  pretty_drawing : Drawing
  pretty_drawing = record {
    of_leaf = λ depth tag typ content. pretty_line names depth tag typ content;
    of_node =
        λ depth tag. pretty_line names depth tag Structure [];
  }

  -- the style writes that
  pretty_draws : (closed : Bool) (w wording : List ℕ) → Draws (pretty_style names closed w wording) pretty_drawing closed w
  unfolding pretty_drawing
  pretty_draws closed w wording = record {
    leafs = λ depth p tag typ content h.
        let none = no_warning closed typ (length_at (entry_at w p).header 0) (leaf_not typ content h.valid) in
        rw (h.tag_is, h.content_is, none) (append-nil (pretty_line names depth tag typ content));
    nodes = λ depth p tag h.
        let n = length_at (entry_at w p).header 0 in
        rw (h.tag_is, closed_warning closed n h.own, same_line depth tag Structure (take n (drop (p + 8) w)) [] (λ ne. absurd (ne refl)))
        (append-nil (pretty_line names depth tag Structure []));
  }

  mutual
    unfolding pretty_drawing

    drawn_pretty : (depth : ℕ) (t : Tree) → drawn pretty_drawing [] depth t ≡ pretty names depth t
    drawn_pretty depth (leaf tag typ content) = refl
    drawn_pretty depth (node tag below) = rw (drawn_pretties (suc depth) below, append-nil) refl

    drawn_pretties : (depth : ℕ) (ts : Trees) → drawn_all pretty_drawing [] depth ts ≡ pretty_all names depth ts
    drawn_pretties depth no_trees = refl
    drawn_pretties depth (tree t ts) = rw (drawn_pretty depth t, drawn_pretties depth ts) refl

  -- the text of a well-formed message is its lines
  pub message_pretty : (closed : Bool) (w text : List ℕ) → IsPrinted names closed w text → IsPretty names closed w text
  message_pretty closed w text (wording, is) t h root none = is ∙ message_determined (pretty_style names closed w wording) pretty_drawing closed w
      (pretty_draws closed w wording) t h root none ∙ drawn_pretty 0 t
