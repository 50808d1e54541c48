-- Entries at offsets.
use Rattle.std.proofs.Common.{Bor, ◌≡◌, ◌≢◌, ℕ, ◌+◌, ◌<◌, ◌≤◌, Bool, true, false, ◌&&◌, cond, leb, List, length, take, drop, get_or, Option, Some, None, refl}
use Rattle.std.proofs.Common.{sym, ap, subst, ◌∙◌, arith, add-zero}
use Rattle.std.specs.Int.{w32, from_be_bytes}
use Rattle.std.proofs.lemmas.List.{get_or-take, get_or-drop, length-take-le, length-drop}
use Rattle.std.proofs.lemmas.Bool.{le-leb, lt-leb}
use Rattle.kmip_ttlv_types.specs.{declared.typ.TtlvType.TtlvType, declared.typ.TtlvType.TheVariants.Structure, declared.typ.TtlvType.TheVariants.Enumeration}
use Rattle.kmip_ttlv_types.specs.{Leaves.is_valid, ItemTypes.type_of}
use Rattle.kmip_ttlv_types.specs.Places.{tag_at, code_at, length_at, size}
use Rattle.kmip_ttlv_util.specs.Entries.{Detail, detail_of, detail_at, entry_at, is_fine, extent, type_if, type_read, detail_value}
use Rattle.kmip_ttlv_util.specs.Walks.{IsItem}

module _ (w : List ℕ) (p : ℕ) where
  cell : (i : ℕ) → i < 8 → get_or (take 8 (drop p w)) i 0 ≡ get_or w (p + i) 0
  cell i lt = get_or-take 8 (drop p w) i 0 lt ∙ get_or-drop p w i 0

  -- an entry's tag, code and length are those at its offset
  pub entry_tag : tag_at (entry_at w p).header 0 ≡ tag_at w p
  unfolding entry_at
  entry_tag = rw (cell 0 (omega arith), cell 1 (omega arith), cell 2 (omega arith), add-zero) refl

  -- its code
  pub entry_code : code_at (entry_at w p).header 0 ≡ code_at w p
  unfolding entry_at
  entry_code = cell 3 (omega arith)

  -- its length
  pub entry_length : length_at (entry_at w p).header 0 ≡ length_at w p
  unfolding entry_at
  entry_length = rw (cell 4 (omega arith), cell 5 (omega arith), cell 6 (omega arith), cell 7 (omega arith)) refl

-- an entry takes at least the eight bytes of its header
pub extent_least : (t : TtlvType) (n : ℕ) → 8 ≤ extent t n
extent_least Structure n = omega arith
extent_least typ n = omega arith

-- a leaf's entry takes all of it
pub extent_leaf : (t : TtlvType) (n : ℕ) → t ≢ Structure → extent t n ≡ size t n
extent_leaf Structure n ne = absurd (ne refl)
extent_leaf typ n ne = refl

-- what is kept shows whether content is valid
fine_is : (t : TtlvType) (n : ℕ) (content : List ℕ) → t ≢ Structure → length content ≡ n → is_fine t n (detail_of t content) ≡ is_valid t content
fine_is Structure n content ne len = absurd (ne refl)
fine_is typ n content ne len = subst (λ (m : ℕ). is_fine typ m (detail_of typ content) ≡ is_valid typ content) len refl

-- a value is kept only of an enumeration
shown_none : (t : TtlvType) (d : Detail) → t ≢ Enumeration → detail_value t d ≡ None
shown_none Enumeration d ne = absurd (ne refl)
shown_none typ d ne = refl

-- a valid enumeration's value is kept
pub shown_enumeration : (content : List ℕ) → is_valid Enumeration content ≡ true → detail_value Enumeration (detail_of Enumeration content) ≡ Some
    (from_be_bytes w32 content)
shown_enumeration content valid = rw valid refl

-- a type is read if its bytes are there and its content is valid
test_true : (a b : ℕ) (c : Bool) (t : TtlvType) → a ≤ b → c ≡ true → cond (leb a b && c) (Some t) None ≡ Some t
test_true a b c t le e = rw (le-leb a b le, e) refl

-- not if bytes are missing
test_order : (a b : ℕ) (c : Bool) (t : TtlvType) → b < a → cond (leb a b && c) (Some t) None ≡ None
test_order a b c t lt = rw (lt-leb a b lt) refl

-- not if content is invalid
test_false : (b c : Bool) (t : TtlvType) → c ≡ false → cond (b && c) (Some t) None ≡ None
test_false true c t e = rw e refl
test_false false c t e = refl

module _ (w : List ℕ) (p : ℕ) where
  -- the type's code decides
  read_at : (o : Option TtlvType) → type_of (code_at w p) ≡ o → type_read (length w) p (entry_at w p) ≡ type_if (length w) p (entry_at w p) o
  unfolding type_read
  read_at o e = ap (type_if (length w) p (entry_at w p)) (ap type_of (entry_code w p) ∙ e)

  -- an entry of unknown type is not read
  pub read_none : type_of (code_at w p) ≡ None → type_read (length w) p (entry_at w p) ≡ None
  read_none e = read_at None e

  -- nor one without its header
  pub read_short : length w < p + 8 → type_read (length w) p (entry_at w p) ≡ None
  read_short lt = by (type_of (code_at w p)) refl
    where
      by : (o : Option TtlvType) → type_of (code_at w p) ≡ o → type_read (length w) p (entry_at w p) ≡ None
      by None e = read_at None e
      by (Some t) e = read_at (Some t) e ∙ test_order (p + extent t (length_at (entry_at w p).header 0)) (length w) _ t
          (omega (arith, extent_least t (length_at (entry_at w p).header 0)))

  -- nor one whose content isn't all there
  pub read_missing : (t : TtlvType) (n : ℕ) → type_of (code_at w p) ≡ Some t → t ≢ Structure → n ≡ length_at w p → length w < p + size t n
      → type_read (length w) p (entry_at w p) ≡ None
  read_missing t n code-is ne len lt =
      let same : extent t (length_at (entry_at w p).header 0) ≡ size t n = ap (extent t) (entry_length w p ∙ sym len) ∙ extent_leaf t n ne in
      read_at (Some t) code-is ∙ test_order (p + extent t (length_at (entry_at w p).header 0)) (length w) _ t (omega arith)

  -- what is kept of content that is there
  pub detail_here : (t : TtlvType) (n : ℕ) → type_of (code_at w p) ≡ Some t → n ≡ length_at w p → p + size t n ≤ length w
      → (entry_at w p).detail ≡ detail_of t (take n (drop (p + 8) w))
  unfolding entry_at
  detail_here t n code-is len le =
      let here : p + size t (length_at w p) ≤ length w = subst (λ (m : ℕ). p + size t m ≤ length w) len le in
      ap (detail_at w p) code-is ∙ rw (le-leb (p + size t (length_at w p)) (length w) here) (ap (λ (m : ℕ). detail_of t (take m (drop (p + 8) w))) (sym len))

  -- what is kept shows whether that content is valid
  fine_here : (t : TtlvType) (n : ℕ) → type_of (code_at w p) ≡ Some t → t ≢ Structure → n ≡ length_at w p → p + size t n ≤ length w
      → is_fine t (length_at (entry_at w p).header 0) (entry_at w p).detail ≡ is_valid t (take n (drop (p + 8) w))
  fine_here t n code-is ne len le =
      let long : n ≤ length (drop (p + 8) w) = omega (arith, length-drop (p + 8) w) in
      ap (is_fine t (length_at (entry_at w p).header 0)) (detail_here t n code-is len le)
      ∙ fine_is t (length_at (entry_at w p).header 0) (take n (drop (p + 8) w)) ne (length-take-le n (drop (p + 8) w) long ∙ len ∙ sym (entry_length w p))

  -- an entry with invalid content is not read
  pub read_invalid : (t : TtlvType) (n : ℕ) → type_of (code_at w p) ≡ Some t → t ≢ Structure → n ≡ length_at w p → p + size t n ≤ length w
      → is_valid t (take n (drop (p + 8) w)) ≡ false → type_read (length w) p (entry_at w p) ≡ None
  read_invalid t n code-is ne len le bad = read_at (Some t) code-is ∙ test_false _ _ t (fine_here t n code-is ne len le ∙ bad)

  -- a leaf with valid content that is all there is read
  pub read_leaf : (t : TtlvType) (n : ℕ) → type_of (code_at w p) ≡ Some t → t ≢ Structure → n ≡ length_at w p → p + size t n ≤ length w
      → is_valid t (take n (drop (p + 8) w)) ≡ true → type_read (length w) p (entry_at w p) ≡ Some t
  read_leaf t n code-is ne len le good =
      let same : extent t (length_at (entry_at w p).header 0) ≡ size t n = ap (extent t) (entry_length w p ∙ sym len) ∙ extent_leaf t n ne in
      read_at (Some t) code-is ∙ test_true (p + extent t (length_at (entry_at w p).header 0)) (length w) _ t (omega arith)
      (fine_here t n code-is ne len le ∙ good)

  -- a structure is read if its header is there
  pub read_structure : type_of (code_at w p) ≡ Some Structure → p + 8 ≤ length w → type_read (length w) p (entry_at w p) ≡ Some Structure
  read_structure code-is le = read_at (Some Structure) code-is ∙ test_true (p + 8) (length w) true Structure le refl

  -- the item of a structure
  pub item_structure : (tag n : ℕ) (t : TtlvType) (b : Bor (List ℕ)) → t ≡ Structure → type_of (code_at w p) ≡ Some t → p + 8 ≤ length w → tag ≡ tag_at w p
      → n ≡ length_at w p → IsItem w p record { tag = tag; typ = t; length = n; value = None; content = b; next = p + 8 }
  item_structure tag n t b is code-is le tag-is len = record {
    typ = read_structure (code-is ∙ ap Some is) le ∙ ap Some (sym is);
    tag = tag-is ∙ sym (entry_tag w p);
    len = len ∙ sym (entry_length w p);
    value = sym (shown_none t (entry_at w p).detail (λ h. let k : Structure ≡ Enumeration = sym is ∙ h in cc));
    next = ap (λ (u : TtlvType). p + extent u n) (sym is);
    within = le;
    content = λ ne. absurd (ne is);
    valid = λ ne. absurd (ne is);
  }

  -- the item of a leaf, with the value of an enumeration
  pub item_leaf : (tag n next : ℕ) (t : TtlvType) (b : Bor (List ℕ)) (v : Option ℕ) → type_of (code_at w p) ≡ Some t → t ≢ Structure → tag ≡ tag_at w p
      → n ≡ length_at w p → b.now ≡ take n (drop (p + 8) w) → next ≡ p + size t n → next ≤ length w → is_valid t b.now ≡ true
      → v ≡ detail_value t (detail_of t b.now) → IsItem w p record { tag = tag; typ = t; length = n; value = v; content = b; next = next }
  item_leaf tag n next t b v code-is ne tag-is len content-is next-is within good detail_value-is =
      let le : p + size t n ≤ length w = omega arith in
      record {
        typ = read_leaf t n code-is ne len le (ap (is_valid t) (sym content-is) ∙ good);
        tag = tag-is ∙ sym (entry_tag w p);
        len = len ∙ sym (entry_length w p);
        value = rw (detail_value-is, content-is, ← detail_here t n code-is len le) refl;
        next = next-is ∙ ap (λ (m : ℕ). p + m) (sym (extent_leaf t n ne));
        within = within;
        content = λ _. content-is;
        valid = λ _. good;
      }
