-- What is read back of a whole message's diagnostic.
use Rattle.std.proofs.Common.{◌≡◌, inl, inr, ℕ, ◌+◌, ◌-◌, ◌<◌, true, List, [], ◌++◌, length, get_or, refl, subst, arith}
use Rattle.std.proofs.lemmas.List.{get_or_append_left, get_or-append_right, get_or_past}
use Rattle.std.proofs.lemmas.Bool.{cases_lt}
use Rattle.kmip_ttlv_types.specs.{declared.typ.TtlvType.TtlvType, declared.typ.TtlvType.TheVariants.Structure, declared.typ.TtlvType.TheVariants.Enumeration}
use Rattle.kmip_ttlv_types.specs.{Digits.six_digits, Items.Raw, Items.IsTextOf, Items.header, Leaves.is_valid}
use Rattle.kmip_ttlv_types.specs.Trees.{Tree, Trees, leaf, node, no_trees, tree, IsTreeText, AreTreeTexts, IsStructure}
use Rattle.kmip_ttlv_util.specs.Outlines.{Outline, Outlines, leaf_outline, node_outline, no_outlines, outline, IsShown, IsOutline, AreOutlines}
use Rattle.kmip_ttlv_util.specs.{Outlines.value_of, Outlines.outline_of, Outlines.outlines_of, Outlines.diag, CheckedDiagnostics.ShowsMessage}
use Rattle.kmip_ttlv_util.specs.ReadBack.{AllBegin, AllsBegin, IsNode}
use Rattle.kmip_ttlv_names.specs.{NameTables.names_of, declared.standard.TheConstants.STANDARD_TAGS}
use Rattle.kmip_ttlv_c.specs.Calls.{IsReadBackAs, ShowsRedacted}

mutual
  -- every tag begins with no digits
  all_begin : (o : Outline) → AllBegin [] o
  all_begin (leaf_outline tag typ value) = (six_digits tag, refl)
  all_begin (node_outline tag below) = ((six_digits tag, refl), alls_begin below)

  alls_begin : (os : Outlines) → AllsBegin [] os
  alls_begin no_outlines = tt
  alls_begin (outline o os) = (all_begin o, alls_begin os)

-- the outline of a structure is one
is_node : (t : Tree) → IsStructure t → IsNode (outline_of t)
is_node (leaf tag typ content) root = absurd root
is_node (node tag below) root = tt

abbrev AreBytes : List ℕ → Type 0
AreBytes bs = (i : ℕ) → get_or bs i 0 < 256

-- a beginning of bytes is bytes
bytes_left : (xs ys : List ℕ) → AreBytes (xs ++ ys) → AreBytes xs
bytes_left xs ys all i = elim (cases_lt i (length xs)) [
  | inl lt ↦ omega (arith, all i, get_or_append_left xs ys 0 i lt)
  | inr le ↦ omega (arith, get_or_past xs i 0 le)
]

-- and so is what follows
bytes_right : (xs ys : List ℕ) → AreBytes (xs ++ ys) → AreBytes ys
bytes_right xs ys all i =
    let j : length xs + i - length xs ≡ i = omega arith in
    let e = rw j at (get_or-append_right xs ys (length xs) (length xs + i) 0 refl (omega arith)) in
    omega (arith, all (length xs + i), e)

-- the content of an item is bytes
content_bytes : (x : Raw) (text : List ℕ) → IsTextOf x text → AreBytes text → AreBytes x.content
content_bytes x text t all = bytes_left x.content t.pad (bytes_right (header x.tag x.typ (length x.content)) (x.content ++ t.pad) (subst AreBytes t.parts all))

-- what is shown of a leaf fits
shown_fits : (typ : TtlvType) (content : List ℕ) → is_valid typ content ≡ true → AreBytes content → IsShown typ (value_of typ content)
shown_fits Structure content valid all = cc
shown_fits Enumeration content valid all = omega (arith, all 0, all 1, all 2, all 3)
shown_fits typ content valid all = tt

mutual
  -- tags have three bytes, and values four
  is_outline : (t : Tree) (text : List ℕ) → IsTreeText t text → AreBytes text → IsOutline (outline_of t)
  is_outline (leaf tag typ content) text h all =
      (h.1.tag_fits, shown_fits typ content h.0 (content_bytes record { tag = tag; typ = typ; content = content } text h.1 all))
  is_outline (node tag ts) text h all =
      (h.1.tag_fits, are_outlines ts h.0 h.2 (content_bytes record { tag = tag; typ = Structure; content = h.0 } text h.1 all))

  are_outlines : (ts : Trees) (text : List ℕ) → AreTreeTexts ts text → AreBytes text → AreOutlines (outlines_of ts)
  are_outlines no_trees text h all = tt
  are_outlines (tree t ts) text h all =
      let both : AreBytes (h.0 ++ h.1) = subst AreBytes h.2 all in
      (is_outline t h.0 h.3 (bytes_left h.0 h.1 both), are_outlines ts h.1 h.4 (bytes_right h.0 h.1 both))

-- a whole message's diagnostic is read back as its redacted lines
pub shows_redacted : (bytes diagnostic text : List ℕ) → AreBytes bytes → ShowsMessage [] true bytes diagnostic
    → IsReadBackAs (names_of STANDARD_TAGS.now) [] diagnostic text → ShowsRedacted bytes text
shows_redacted bytes diagnostic text all shows read =
    let o = outline_of shows.message in
    let of_outline : IsReadBackAs (names_of STANDARD_TAGS.now) [] (diag [] o) text =
    subst (λ (d : List ℕ). IsReadBackAs (names_of STANDARD_TAGS.now) [] d text) shows.outline read in
    record {
      message = shows.message;
      whole = shows.whole;
      root = shows.root;
      read = of_outline;
      lines = (of_outline.redacted o (is_outline shows.message bytes shows.whole all) (is_node shows.message shows.root) (all_begin o) refl).0;
    }
