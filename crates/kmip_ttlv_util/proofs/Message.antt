-- The diagnostic of a well-formed message.
use Rattle.std.proofs.Common.{◌≡◌, ℕ, suc, ◌+◌, ◌-◌, ◌<◌, ◌^◌, Bool, true, false, List, [], ◌∷◌, ◌++◌, length, get_or, None, refl, sym, ap, subst, ◌∙◌, arith}
use Rattle.std.proofs.Common.{inl, inr}
use Rattle.std.specs.{Prelude.◌↔◌, Int.w32, Int.from_be_bytes}
use Rattle.std.proofs.lemmas.List.{get_or_append_left, get_or-append_right, get_or_past}
use Rattle.std.proofs.lemmas.Bool.{cases_lt}
use Rattle.kmip_ttlv_types.specs.{declared.typ.TtlvType.TtlvType, declared.typ.TtlvType.TheVariants.Structure, declared.typ.TtlvType.TheVariants.Enumeration}
use Rattle.kmip_ttlv_types.specs.{Items.Raw, Items.IsTextOf, Leaves.is_valid}
use Rattle.kmip_ttlv_types.specs.Trees.{Tree, Trees, leaf, node, no_trees, tree, IsTreeText, AreTreeTexts, HasNoEmpty, IsStructure}
use Rattle.kmip_ttlv_util.specs.Outlines.{IsShown, IsOutline, AreOutlines, value_of, outline_of, outlines_of, mark, diag, diag_all}
use Rattle.kmip_ttlv_util.specs.{Traces.trace, Diagnostics.diag_style, Diagnostics.hostile, declared.item.Item.Item, PrintResults.IsExact, Walks.IsItem}
use Rattle.kmip_ttlv_util.specs.Entries.{entry_at, detail_value, detail_of}
use Rattle.kmip_ttlv_util.proofs.{Unique.diag_one, Entries.shown_enumeration}
use Rattle.kmip_ttlv_types.proofs.PlaceLemmas.{raw_with, header_of}
use Rattle.kmip_ttlv_util.proofs.Walked.{Drawing, Draws, drawn, drawn_all, message_determined, leaf_not}

-- what is kept of a leaf is its value in the outline
shown_is : (typ : TtlvType) (content : List ℕ) → is_valid typ content ≡ true → detail_value typ (detail_of typ content) ≡ value_of typ content
shown_is Enumeration content valid = shown_enumeration content valid
shown_is typ content valid = refl

-- ---- the text

-- an item's mark is what the style writes for its entry
pub item_mark : {prefix given bytes : List ℕ} {p : ℕ} {i : Item} → given ≡ prefix → IsItem bytes p i
    → mark given i.tag i.typ i.value ≡ (diag_style prefix).item 0 p (entry_at bytes p) i.typ
item_mark same item = rw (same, item.tag, item.value) refl

-- what a diagnostic has for leaves and for openings of structures
unfoldable pub diag_drawing : List ℕ → Drawing
diag_drawing prefix = record {
  of_leaf = λ depth tag typ content. mark prefix tag typ (value_of typ content);
  of_node =
      λ depth tag. mark prefix tag Structure None;
}

-- its style writes that
pub diag_draws : (prefix : List ℕ) (closed : Bool) (w : List ℕ) → Draws (diag_style prefix) (diag_drawing prefix) closed w
unfolding diag_drawing
diag_draws prefix closed w = record {
  leafs = λ depth p tag typ content h. let value-is : detail_value typ (entry_at w p).detail ≡ value_of typ content = ap (detail_value typ) h.detail_is
      ∙ shown_is typ content h.valid in rw (h.tag_is, value-is) refl;
  nodes = λ depth p tag h. rw h.tag_is refl;
}

mutual
  unfolding diag_drawing

  -- which is the text of the outline
  drawn_diag : (prefix : List ℕ) (depth : ℕ) (t : Tree) → drawn (diag_drawing prefix) (93 ∷ []) depth t ≡ diag prefix (outline_of t)
  drawn_diag prefix depth (leaf tag typ content) = refl
  drawn_diag prefix depth (node tag below) = rw (drawn_diags prefix (suc depth) below) refl

  -- and of several outlines
  drawn_diags : (prefix : List ℕ) (depth : ℕ) (ts : Trees) → drawn_all (diag_drawing prefix) (93 ∷ []) depth ts ≡ diag_all prefix (outlines_of ts)
  drawn_diags prefix depth no_trees = refl
  drawn_diags prefix depth (tree t ts) = rw (drawn_diag prefix depth t, drawn_diags prefix depth ts) refl

-- the diagnostic of a well-formed message is that of its outline
pub message_text : (prefix : List ℕ) (closed : Bool) (w : List ℕ) (t : Tree) → IsTreeText t w → IsStructure t → (closed ≡ false → HasNoEmpty t)
    → hostile prefix closed (length w) (trace closed w) ≡ diag prefix (outline_of t)
unfolding hostile
message_text prefix closed w t h root none = message_determined (diag_style prefix) (diag_drawing prefix) closed w (diag_draws prefix closed w) t h root none
    ∙ drawn_diag prefix 0 t

-- ---- the outline of bytes

abbrev AreBytes : List ℕ → Type 0
AreBytes bs = (i : ℕ) → get_or bs i 0 < 256

-- a beginning of bytes is bytes
bytes_left : (xs ys : List ℕ) → AreBytes (xs ++ ys) → AreBytes xs
bytes_left xs ys all i = elim (cases_lt i (length xs)) [
  | inl lt ↦ omega (arith, all i, get_or_append_left xs ys 0 i lt)
  | inr le ↦ omega (arith, get_or_past xs i 0 le)
]

-- and so is what follows
bytes_right : (xs ys : List ℕ) → AreBytes (xs ++ ys) → AreBytes ys
bytes_right xs ys all i =
    let j : length xs + i - length xs ≡ i = omega arith in
    let e = rw j at (get_or-append_right xs ys (length xs) (length xs + i) 0 refl (omega arith)) in
    omega (arith, all (length xs + i), e)

-- an item's content is bytes
content_bytes : (x : Raw) (text : List ℕ) → IsTextOf x text → AreBytes text → AreBytes x.content
content_bytes x text t all = bytes_left x.content t.pad (bytes_right (header_of x) (x.content ++ t.pad) (subst AreBytes t.parts all))

-- four bytes are below 2^32
value_small : (content : List ℕ) → AreBytes content → from_be_bytes w32 content < 2 ^ 32
value_small content all = omega (arith, all 0, all 1, all 2, all 3)

-- what is kept of a leaf fits an outline
shown_fits : (typ : TtlvType) (content : List ℕ) → is_valid typ content ≡ true → AreBytes content → IsShown typ (value_of typ content)
shown_fits Structure content valid all = leaf_not Structure content valid refl
shown_fits Enumeration content valid all = value_small content all
shown_fits typ content valid all = tt

mutual
  -- a message's outline is an outline
  is_outline : (t : Tree) (text : List ℕ) → IsTreeText t text → AreBytes text → IsOutline (outline_of t)
  is_outline (leaf tag typ content) text h all = (h.1.tag_fits, shown_fits typ content h.0 (content_bytes (raw_with tag typ content) text h.1 all))
  is_outline (node tag ts) text h all = (h.1.tag_fits, are_outlines ts h.0 h.2 (content_bytes (raw_with tag Structure h.0) text h.1 all))

  -- and so are those in it
  are_outlines : (ts : Trees) (text : List ℕ) → AreTreeTexts ts text → AreBytes text → AreOutlines (outlines_of ts)
  are_outlines no_trees text h all = tt
  are_outlines (tree t ts) text h all =
      let both : AreBytes (h.0 ++ h.1) = subst AreBytes h.2 all in
      (is_outline t h.0 h.3 (bytes_left h.0 h.1 both), are_outlines ts h.1 h.4 (bytes_right h.0 h.1 both))

-- the diagnostic is that of one outline and of no other
pub exact : (prefix : List ℕ) (closed : Bool) (w text : List ℕ) → AreBytes w → text ≡ hostile prefix closed (length w) (trace closed w)
    → IsExact prefix closed w text
exact prefix closed w text all is t h root none =
    let e : text ≡ diag prefix (outline_of t) = is ∙ message_text prefix closed w t h root none in
    record {
      is = e;
      only = λ o io. ((λ f. diag_one prefix o (outline_of t) io (is_outline t w h all) (sym f ∙ e)), (λ f. e ∙ ap (diag prefix) (sym f)));
    }

-- if every number is below 256, the list is bytes
pub each_byte : (bs : List ℕ) → ((i : ℕ) → i < length bs → get_or bs i 0 < 256) → AreBytes bs
each_byte bs each i = elim (cases_lt i (length bs)) [ inl lt ↦ each i lt | inr le ↦ omega (arith, get_or_past bs i 0 le) ]

-- two messages' diagnostics
pub determine_outlines : (prefix : List ℕ) (closed : Bool) (a b : List ℕ) (t u : Tree) → AreBytes a → AreBytes b → IsTreeText t a → IsTreeText u b
    → IsStructure t
    → IsStructure u → (closed ≡ false → HasNoEmpty t) → (closed ≡ false → HasNoEmpty u)
    → (hostile prefix closed (length a) (trace closed a) ≡ hostile prefix closed (length b) (trace closed b)) ↔ (outline_of t ≡ outline_of u)
determine_outlines prefix closed a b t u bytes-a bytes-b text-a text-b root-t root-u none-t none-u =
    let one = message_text prefix closed a t text-a root-t none-t in
    let two = message_text prefix closed b u text-b root-u none-u in (
      (λ e. diag_one prefix (outline_of t) (outline_of u) (is_outline t a text-a bytes-a) (is_outline u b text-b bytes-b) (sym one ∙ e ∙ two)),
      (λ e. one ∙ ap (diag prefix) e ∙ sym two),
    )
