-- Canonical bytes encode their trees.
use Rattle.std.proofs.Common.{◌≡◌, ℕ, true, List, [], ◌∷◌, length, Some, refl, sym, ap, subst, ◌∙◌, arith}
use Rattle.std.specs.List.{AllByRecursion}
use Rattle.std.proofs.lemmas.List.{length-append}
use Rattle.kmip_ttlv_types.specs.{declared.typ.TtlvType.TtlvType, Leaves.is_valid, Items.IsTextOf, declared.typ.TtlvType.TheVariants.Structure}
use Rattle.kmip_ttlv_types.specs.Trees.{Tree, leaf, node, Trees, no_trees, tree, bytes, bytes_below, bytes_all, raw_of, leaf_bytes, node_bytes, Fits, FitsBelow}
use Rattle.kmip_ttlv_types.specs.Trees.{IsTreeText, AreTreeTexts}
use Rattle.kmip_ttlv_ser.specs.{declared.pending.PendingTag.TheVariants.Nothing, Sizes.FitsAfter}
use Rattle.kmip_ttlv_parts.specs.ReadingLaws.{CanonicalIsText, ReadingTrees, WrittenIsWellFormed}
use Rattle.kmip_ttlv_parts.specs.Texts.{Utf8}
use Rattle.kmip_ttlv_parts.proofs.Made.{AllMade, AreMade, IsContent, IsMade, items_made, text_of_tree}
use Rattle.kmip_ttlv_parts.proofs.{Roots.begins_alone, TreeTexts.padding_of_trees_is_free}

-- such a content is valid
valid_of : (typ : TtlvType) (content : List ℕ) → IsContent Utf8 typ content → is_valid typ content ≡ true
valid_of Structure content h = h
valid_of typ content h = h

-- and conversely
content_of : (typ : TtlvType) (content : List ℕ) → is_valid typ content ≡ true → IsContent Utf8 typ content
content_of Structure content h = h
content_of typ content h = h

-- the canonical bytes of a tree that fits encode it
mutual
  made_text : (t : Tree) → IsMade Utf8 t → Fits t → IsTreeText t (bytes t)
  made_text (leaf tag typ content) m f = (valid_of typ content m.1, text_of_tree Utf8 (leaf tag typ content) m f)
  made_text (node tag below) m f = (bytes_below below, text_of_tree Utf8 (node tag below) m f, made_texts below m.1 f.1)

  made_texts : (ts : Trees) → AreMade Utf8 ts → FitsBelow ts → AreTreeTexts ts (bytes_below ts)
  made_texts no_trees m f = refl
  made_texts (tree t ts) m f = (bytes t, bytes_below ts, refl, made_text t m.0 f.0, made_texts ts m.1 f.1)

-- the canonical bytes of each tree of a list encode it
each_text : (ts : List Tree) → AllMade Utf8 ts → AllByRecursion Fits ts → AllByRecursion (λ t. IsTreeText t (bytes t)) ts
each_text [] m f = tt
each_text (t ∷ ts) m f = (made_text t m.0 f.0, each_text ts m.1 f.1)

pub written_is_well_formed : WrittenIsWellFormed
written_is_well_formed v n written ts w is utf8 =
    let same : w.trees ≡ ts = let k : Some w.trees ≡ Some ts = sym w.are ∙ is in cc in
    let fit : FitsAfter n ts = subst (FitsAfter n) same w.fit in
    (each_text ts (items_made Utf8 v Nothing ts utf8 tt is) fit.each, w.bytes_are ∙ ap bytes_all same)

-- ---- trees that have an encoding

-- canonical bytes are as long as any encoding
leaf_length : (tag : ℕ) (typ : TtlvType) (content a : List ℕ) → IsContent Utf8 typ content → IsTextOf record { tag = tag; typ = typ; content = content } a
    → length (leaf_bytes tag typ content) ≡ length a
leaf_length tag typ content a m t =
    let p = text_of_tree Utf8 (leaf tag typ content) (t.tag_fits, m) t.length_fits in
    omega (arith, ap length p.parts, ap length t.parts, length-append content p.pad, length-append content t.pad, p.pad_length, t.pad_length)

node_length : (tag : ℕ) (content c a : List ℕ) → length content ≡ length c → IsTextOf record { tag = tag; typ = Structure; content = c } a
    → length (node_bytes tag content) ≡ length a
unfolding node_bytes
node_length tag content c a e t = omega (arith, e, ap length t.parts, length-append c t.pad, t.pad_length)

-- a tree that has an encoding is made of what fits, and its canonical bytes are as long
record HasCanonical (t : Tree) (a : List ℕ) : Type 0 where
  made : IsMade Utf8 t
  fits : Fits t
  long : length (bytes t) ≡ length a

record HaveCanonical (ts : Trees) (a : List ℕ) : Type 0 where
  made : AreMade Utf8 ts
  fits : FitsBelow ts
  long : length (bytes_below ts) ≡ length a

mutual
  canonical_of : (t : Tree) (a : List ℕ) → IsTreeText t a → HasCanonical t a
  canonical_of (leaf tag typ content) a h =
      let m = content_of typ content h.0 in
      record { made = (h.1.tag_fits, m); fits = h.1.length_fits; long = leaf_length tag typ content a m h.1 }
  canonical_of (node tag below) a h =
      let k = canonical_below below h.0 h.2 in
      record { made = (h.1.tag_fits, k.made); fits = (rw k.long h.1.length_fits, k.fits); long = node_length tag (bytes_below below) h.0 a k.long h.1 }

  canonical_below : (ts : Trees) (a : List ℕ) → AreTreeTexts ts a → HaveCanonical ts a
  canonical_below no_trees a h = record { made = tt; fits = tt; long = sym (ap length h) }
  canonical_below (tree t ts) a h =
      let k = canonical_of t h.0 h.3 in
      let l = canonical_below ts h.1 h.4 in
      let long : length (bytes_below (tree t ts)) ≡ length a =
      omega (arith, ap length h.2, length-append h.0 h.1, length-append (bytes t) (bytes_below ts), k.long, l.long) in
      record { made = (k.made, l.made); fits = (k.fits, l.fits); long = long }

pub canonical_is_text : CanonicalIsText
canonical_is_text t a h = let k = canonical_of t a h in (made_text t k.made k.fits, k.long)

pub reading_trees : ReadingTrees
reading_trees s t a after v root h =
    let k = canonical_of t a h in
    let free = padding_of_trees_is_free s t a (bytes t) after [] v h (made_text t k.made k.fits) in
    let alone = begins_alone s (raw_of t) (bytes t) [] v root (text_of_tree Utf8 t k.made k.fits) in
    (λ g. alone.0 (free.0 g), λ r. free.1 (alone.1 r))
