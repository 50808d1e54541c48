-- A message is read back from its line.
use Rattle.std.proofs.Common.{◌≡◌, ◌∙◌, inl, inr, ◌⊎◌, ℕ, suc, ◌+◌, ◌-◌, ◌%◌, ℤ, pos, ◌<◌, ◌≤◌, ◌^◌, ◌==◌, Bool, true, false, List, ◌∷◌, length}
use Rattle.std.proofs.Common.{if◌then◌else◌, Option, Some, None, option_map}
use Rattle.std.proofs.Common.{option_and_then, Ok, refl, ap, sym, arith, length-append}
use Rattle.std.specs.{Prelude.nat_lt, Prelude.nat_le, Prelude.unsigned_abs, Prelude.codes, Prelude.unwrap_or, Option.ok_or, Result.result_ok}
use Rattle.std.specs.Int.{w32, w64, to_be_bytes, from_be_bytes, bytes_high_first, cast_signed}
use Rattle.std.proofs.lemmas.{Bool.ltb-true, Bool.leb-true, Bool.lt-ltb, Bool.le-ltb, Bool.le-leb, Bool.cases_lt, Bool.eqb-true, Nat.be_bytes_4, Nat.be_bytes_8}
use Rattle.hex.specs.Hex.{encode_with, encode_upper, upper_digits, decode_sized}
use Rattle.hex.proofs.HexLemmas.{IsDigits-upper_digits, decode_of-encode_upper, decode_pairs-encode_with}
use Rattle.serde_json.specs.Data.{Data, number, string, array, object, no_members, member, depth}
use Rattle.serde_json.specs.Read.{max_depth}
use Rattle.kmip_ttlv_json.specs.Spellings.{data_text}
use Rattle.kmip_ttlv_types.specs.{declared.typ.TtlvType.TtlvType, Leaves.is_valid}
use Rattle.kmip_ttlv_types.specs.declared.typ.TtlvType.TheVariants.{Structure, Integer, LongInteger, Enumeration, Boolean, TextString, DateTime, Interval}
use Rattle.kmip_ttlv_types.proofs.PlaceLemmas.{raw_with, text_length}
use Rattle.kmip_ttlv_types.specs.Trees.{Tree, Trees, leaf, node, no_trees, bytes, bytes_below, IsTreeText, AreTreeTexts, IsStructure}
use Rattle.kmip_ttlv_items.specs.{declared.found.FoundItem.FoundItem, FoundItems.Lists}
use Rattle.kmip_ttlv_items.proofs.Spans.{leaf_not}
use Rattle.kmip_ttlv_write.specs.GivenItems.{lines, lines_below}
use Rattle.kmip_ttlv_write.proofs.Opens.{leaf_len, node_len, padding_is}
use Rattle.kmip_words.specs.{Words.word_of, Words.tag_word, Words.number_of, Words.mask_of, Dates.date_text, Dates.date_of}
use Rattle.kmip_ttlv_json.specs.declared.print.Style.{Style}
use Rattle.kmip_ttlv_json.specs.declared.print.Style.TheVariants.{Digits, Names}
use Rattle.kmip_ttlv_json.specs.declared.print.Shown.TheVariants.{All}
use Rattle.kmip_ttlv_json.specs.declared.seen.Whole.{Whole}
use Rattle.kmip_ttlv_json.specs.Masks.{mask_text}
use Rattle.kmip_ttlv_json.specs.Jsons.{type_word, hex_text, is_true, num_of, exact_num, has_words, value_number, plain_json, worded_json, value_json, tag_text}
use Rattle.kmip_ttlv_json.specs.Jsons.{item_json, tree_json, trees_json}
use Rattle.kmip_ttlv_json.specs.JsonTrees.{whole_num, integer_of, long_of, interval_of}
use Rattle.kmip_ttlv_json.specs.JsonTrees.{tag_or_word, digits_or_word, boolean_bytes, tag_in, type_in, content_in, valid_in, leaf_in, node_of, typed_in}
use Rattle.kmip_ttlv_json.specs.JsonTrees.{tagged_in, tree_of, below_of}
use Rattle.kmip_ttlv_json.specs.JsonTrees.{trees_of}
use Rattle.kmip_ttlv_json.specs.{declared.failure.BadMember.TheVariants.Value, Laws.no_secrets, Readings.Stands, Readings.is_node}
use Rattle.kmip_ttlv_json.proofs.{Found.tree_plain, ReadBack.tree_back, ReadBack.text_back, ReadingBack.structure_fits}
use Rattle.kmip_ttlv_json.proofs.Wordings.{no_digits, word_begins, tag_is_word, tag_reads, value_reads, mask_reads, date_reads}
use Rattle.kmip_ttlv_json.proofs.TreeTexts.{ArePlain, AllPlain, plain_both, tag_plain}
use Rattle.kmip_ttlv_types.specs.Trees as trees

-- ---- the members of an item

sized : (tag : ℕ) → decode_sized (encode_upper (bytes_high_first 3 tag)) 3 ≡ Ok (bytes_high_first 3 tag)
unfolding encode_with
sized tag = decode_pairs-encode_with upper_digits IsDigits-upper_digits 0 (bytes_high_first 3 tag) (tag_plain tag)

digits_return : (tag : ℕ) → tag < 2 ^ 24 → tag_in (string (hex_text (bytes_high_first 3 tag))) ≡ Some tag
digits_return tag lt =
    let same : from_be_bytes w32 (0 ∷ bytes_high_first 3 tag) ≡ tag = omega (arith, lt) in
    ap (λ r. option_map (λ s. from_be_bytes w32 (0 ∷ s)) (result_ok r)) (sized tag) ∙ ap Some same

tag_returns : (style : Style) (tag : ℕ) → tag < 2 ^ 24 → tag_in (string (tag_text style tag)) ≡ Some tag
tag_returns Digits tag lt = digits_return tag lt
tag_returns Names tag lt = by (tag_word tag) refl
  where
    by : (o : Option (List ℕ)) → tag_word tag ≡ o → tag_in (string (unwrap_or o (hex_text (bytes_high_first 3 tag)))) ≡ Some tag
    by None e = digits_return tag lt
    by (Some w) e = ap (tag_or_word w) (no_digits w (word_begins w (tag_is_word tag w e))) ∙ tag_reads tag w lt e

type_returns : (typ : TtlvType) → type_in (string (type_word typ)) ≡ Some typ
type_returns Structure = refl
type_returns typ = refl

-- an item with its type, and a Structure without it
typed_returns : (style : Style) (tag : ℕ) (typ : TtlvType) (v : Data) → tag < 2 ^ 24
    → tree_of (object (member (codes "tag") (string (tag_text style tag))
    (member (codes "type") (string (type_word typ)) (member (codes "value") v no_members))))
    ≡ typed_in tag (Some typ) v (below_of v)
typed_returns style tag typ v lt = ap (λ o. tagged_in o (type_in (string (type_word typ))) v (below_of v)) (tag_returns style tag lt)
    ∙ ap (λ o. typed_in tag o v (below_of v)) (type_returns typ)

item_returns : (style : Style) (tag : ℕ) (typ : TtlvType) (v : Data) → tag < 2 ^ 24
    → tree_of (item_json style tag typ v) ≡ typed_in tag (Some typ) v (below_of v)
item_returns Names tag Structure v lt = ap (λ o. tagged_in o (Some Structure) v (below_of v)) (tag_returns Names tag lt)
item_returns Digits tag typ v lt = typed_returns Digits tag typ v lt
item_returns Names tag typ v lt = typed_returns Names tag typ v lt

number_bit : (n : ℕ) → n < 2 → (if nat_lt 0 n then 1 else 0) ≡ n
number_bit n lt = grind arith

both_true : (a b : Bool) → (if a then b else false) ≡ true → (a ≡ true) × (b ≡ true)
both_true true b e = (refl, e)
both_true false b e = absurd (cc)

boolean_returns : (content : List ℕ) → is_valid Boolean content ≡ true → ArePlain content → boolean_bytes (is_true content) ≡ content
boolean_returns content good plain =
    let k = both_true (length content == 8) (nat_lt (from_be_bytes w64 content) 2) good in
    ap (to_be_bytes w64) (number_bit (from_be_bytes w64 content) (ltb-true _ 2 k.1))
    ∙ be_bytes_8 content (from_be_bytes w64 content) (eqb-true (length content) 8 k.0) plain refl

-- ---- values

plain_returns : (tag : ℕ) (typ : TtlvType) (content : List ℕ) → is_valid typ content ≡ true → ArePlain content
    → content_in tag typ (plain_json typ content) ≡ Some content
plain_returns tag Structure content good plain = absurd (leaf_not Structure content good refl)
plain_returns tag Boolean content good plain = ap Some (boolean_returns content good plain)
plain_returns tag TextString content good plain = refl
plain_returns tag typ content good plain = ap result_ok (decode_of-encode_upper content plain)

-- the 32 or 64 bits of a number with its sign, and those of an Interval
integer_back : (m : ℕ) → m < 2 ^ 32 → option_and_then (λ w. integer_of w.minus w.size) (whole_num (num_of (cast_signed w32 m))) ≡ Some m
integer_back m small = by (cases_lt m (2 ^ 31))
  where
    by : (m < 2 ^ 31) ⊎ (2 ^ 31 ≤ m) → option_and_then (λ w. integer_of w.minus w.size) (whole_num (num_of (cast_signed w32 m))) ≡ Some m
    by (inl lt) = rw (lt-ltb m (2 ^ 31) lt) (rw (lt-ltb m (2 ^ 31) lt) refl)
    by (inr le) =
        let size : suc (2 ^ 32 - suc m) ≡ 2 ^ 32 - m = omega (arith, small) in
        let some : 0 < suc (2 ^ 32 - suc m) = omega arith in
        let most : suc (2 ^ 32 - suc m) ≤ 2 ^ 31 = omega (arith, le, small) in
        let back : 2 ^ 32 - suc (2 ^ 32 - suc m) ≡ m = omega (arith, small) in
        rw (le-ltb m (2 ^ 31) le) (rw (lt-ltb 0 (suc (2 ^ 32 - suc m)) some, le-leb (suc (2 ^ 32 - suc m)) (2 ^ 31) most) (ap Some back))

long_back : (m : ℕ) → m < 2 ^ 64 → unsigned_abs (cast_signed w64 m) ≤ 2 ^ 52
    → option_and_then (λ w. long_of w.minus w.size) (whole_num (num_of (cast_signed w64 m))) ≡ Some m
long_back m small = by (cases_lt m (2 ^ 63))
  where
    by : (m < 2 ^ 63) ⊎ (2 ^ 63 ≤ m) → unsigned_abs (cast_signed w64 m) ≤ 2 ^ 52
        → option_and_then (λ w. long_of w.minus w.size) (whole_num (num_of (cast_signed w64 m))) ≡ Some m
    by (inl lt) = rw (lt-ltb m (2 ^ 63) lt) (λ exact. rw (le-ltb (2 ^ 52) m exact) refl)
    by (inr le) = rw (le-ltb m (2 ^ 63) le) (λ exact.
        let back : (2 ^ 64 - suc (2 ^ 64 - suc m)) % 2 ^ 64 ≡ m = omega (arith, small) in
        rw (le-ltb (2 ^ 52) (suc (2 ^ 64 - suc m)) exact) (ap Some back))

interval_back : (m : ℕ) → m < 2 ^ 32 → option_and_then (λ w. interval_of w.minus w.size) (whole_num (num_of (pos m))) ≡ Some m
interval_back m small = rw (lt-ltb m (2 ^ 32) small) refl

-- the number that words stand for
four_return : (content : List ℕ) → length content ≡ 4 → ArePlain content → (o : Option ℕ) → o ≡ Some (from_be_bytes w32 content)
    → option_map (to_be_bytes w32) o ≡ Some content
four_return content four plain o is = ap (option_map (to_be_bytes w32)) is ∙ ap Some (be_bytes_4 content (from_be_bytes w32 content) four plain refl)

eight_return : (content : List ℕ) → length content ≡ 8 → ArePlain content → (o : Option ℕ) → o ≡ Some (from_be_bytes w64 content)
    → option_map (to_be_bytes w64) o ≡ Some content
eight_return content eight plain o is = ap (option_map (to_be_bytes w64)) is ∙ ap Some (be_bytes_8 content (from_be_bytes w64 content) eight plain refl)

enumeration_returns : (tag : ℕ) (content : List ℕ) → length content ≡ 4 → ArePlain content → (o : Option (List ℕ))
    → word_of tag (from_be_bytes w32 content) ≡ o → content_in tag Enumeration (worded_json o None Enumeration content) ≡ Some content
enumeration_returns tag content four plain None e = ap result_ok (decode_of-encode_upper content plain)
enumeration_returns tag content four plain (Some w) e =
    let r = value_reads tag (from_be_bytes w32 content) w e in
    ap (digits_or_word tag Enumeration w) (no_digits w (word_begins w r.0)) ∙ four_return content four plain (number_of tag w) r.1

mapped : (f : ℕ → List ℕ) (g : Whole → Option ℕ) (o : Option Whole) → option_and_then (λ w. option_map f (g w)) o ≡ option_map f (option_and_then g o)
mapped f g None = refl
mapped f g (Some w) = refl

-- a number, if it is small
exact_returns : (tag : ℕ) (typ : TtlvType) (content : List ℕ) (z : ℤ)
    → (unsigned_abs z ≤ 2 ^ 52 → content_in tag typ (number (num_of z)) ≡ Some content)
    → content_in tag typ (plain_json typ content) ≡ Some content
    → content_in tag typ (worded_json None (exact_num z) typ content) ≡ Some content
exact_returns tag typ content z exact plain = by (nat_le (unsigned_abs z) (2 ^ 52)) (leb-true (unsigned_abs z) (2 ^ 52))
  where
    by : (b : Bool) → (b ≡ true → unsigned_abs z ≤ 2 ^ 52)
        → content_in tag typ (worded_json None (if b then Some (num_of z) else None) typ content) ≡ Some content
    by true small = exact (small refl)
    by false small = plain

four_small : (content : List ℕ) → ArePlain content → from_be_bytes w32 content < 2 ^ 32
four_small content plain = omega (arith, plain 0, plain 1, plain 2, plain 3)

eight_small : (content : List ℕ) → ArePlain content → from_be_bytes w64 content < 2 ^ 64
eight_small content plain = omega (arith, plain 0, plain 1, plain 2, plain 3, plain 4, plain 5, plain 6, plain 7)

integer_returns : (tag : ℕ) (content : List ℕ) → length content ≡ 4 → ArePlain content → (o : Option (List ℕ))
    → mask_text tag 124 (from_be_bytes w32 content) ≡ o
    → content_in tag Integer (worded_json o (value_number tag Integer content) Integer content) ≡ Some content
integer_returns tag content four plain None e = by (has_words tag)
  where
    by : (b : Bool)
        → content_in tag Integer (worded_json None (if b then None else exact_num (cast_signed w32 (from_be_bytes w32 content))) Integer content) ≡ Some content
    by true = ap result_ok (decode_of-encode_upper content plain)
    by false =
        let m = from_be_bytes w32 content in
        exact_returns tag Integer content (cast_signed w32 m)
        (λ exact. mapped (to_be_bytes w32) (λ w. integer_of w.minus w.size) (whole_num (num_of (cast_signed w32 m)))
        ∙ four_return content four plain _ (integer_back m (four_small content plain))) (ap result_ok (decode_of-encode_upper content plain))
integer_returns tag content four plain (Some w) e =
    let r = mask_reads tag 124 (from_be_bytes w32 content) w e in
    ap (digits_or_word tag Integer w) r.1 ∙ four_return content four plain (mask_of tag 124 w) r.0

long_returns : (tag : ℕ) (content : List ℕ) → length content ≡ 8 → ArePlain content
    → content_in tag LongInteger (worded_json None (value_number tag LongInteger content) LongInteger content) ≡ Some content
long_returns tag content eight plain =
    let m = from_be_bytes w64 content in
    exact_returns tag LongInteger content (cast_signed w64 m)
    (λ exact. mapped (to_be_bytes w64) (λ w. long_of w.minus w.size) (whole_num (num_of (cast_signed w64 m)))
    ∙ eight_return content eight plain _ (long_back m (eight_small content plain) exact)) (ap result_ok (decode_of-encode_upper content plain))

interval_returns : (tag : ℕ) (content : List ℕ) → length content ≡ 4 → ArePlain content
    → content_in tag Interval (worded_json None (value_number tag Interval content) Interval content) ≡ Some content
interval_returns tag content four plain =
    let m = from_be_bytes w32 content in
    exact_returns tag Interval content (pos m) (λ exact. mapped (to_be_bytes w32) (λ w. interval_of w.minus w.size) (whole_num (num_of (pos m)))
    ∙ four_return content four plain _ (interval_back m (four_small content plain))) (ap result_ok (decode_of-encode_upper content plain))

date_returns : (tag : ℕ) (content : List ℕ) → length content ≡ 8 → ArePlain content → (o : Option (List ℕ))
    → date_text (from_be_bytes w64 content) ≡ o → content_in tag DateTime (worded_json o None DateTime content) ≡ Some content
date_returns tag content eight plain None e = ap result_ok (decode_of-encode_upper content plain)
date_returns tag content eight plain (Some w) e =
    let r = date_reads (from_be_bytes w64 content) w e in
    ap (digits_or_word tag DateTime w) r.1 ∙ eight_return content eight plain (date_of w) r.0

content_returns : (style : Style) (tag : ℕ) (typ : TtlvType) (content : List ℕ) → is_valid typ content ≡ true → ArePlain content
    → content_in tag typ (value_json style All tag typ content) ≡ Some content
content_returns Names tag Enumeration content good plain =
    enumeration_returns tag content (eqb-true (length content) 4 good) plain (word_of tag (from_be_bytes w32 content)) refl
content_returns Names tag Integer content good plain =
    integer_returns tag content (eqb-true (length content) 4 good) plain (mask_text tag 124 (from_be_bytes w32 content)) refl
content_returns Names tag DateTime content good plain =
    date_returns tag content (eqb-true (length content) 8 good) plain (date_text (from_be_bytes w64 content)) refl
content_returns Names tag LongInteger content good plain = long_returns tag content (eqb-true (length content) 8 good) plain
content_returns Names tag Interval content good plain = interval_returns tag content (eqb-true (length content) 4 good) plain
content_returns Digits tag typ content good plain = plain_returns tag typ content good plain
content_returns Names tag typ content good plain = plain_returns tag typ content good plain

leaf_returns : (style : Style) (tag : ℕ) (typ : TtlvType) (content : List ℕ) → is_valid typ content ≡ true → ArePlain content
    → leaf_in tag typ (value_json style All tag typ content) ≡ Ok (leaf tag typ content)
leaf_returns style tag typ content good plain =
    ap (λ o. ok_or (option_map (leaf tag typ) (option_and_then (valid_in typ) o)) Value) (content_returns style tag typ content good plain)
    ∙ ap (λ b. ok_or (option_map (leaf tag typ) (if b then Some content else None)) Value) good

-- it is a leaf of that type
typed_is : (tag : ℕ) (typ : TtlvType) (content : List ℕ) (v : Data) → is_valid typ content ≡ true
    → typed_in tag (Some typ) v (below_of v) ≡ leaf_in tag typ v
typed_is tag Structure content v good = absurd (leaf_not Structure content good refl)
typed_is tag typ content v good = refl

typed_leaf : (style : Style) (tag : ℕ) (typ : TtlvType) (content : List ℕ) → is_valid typ content ≡ true → ArePlain content
    → typed_in tag (Some typ) (value_json style All tag typ content) (below_of (value_json style All tag typ content)) ≡ Ok (leaf tag typ content)
typed_leaf style tag typ content good plain =
    typed_is tag typ content (value_json style All tag typ content) good ∙ leaf_returns style tag typ content good plain

-- ---- trees

module _ (style : Style) where
  mutual
    pub tree_returns : (d : ℕ) (t : Tree) (text : List ℕ) → IsTreeText t text → AllPlain (lines d t) → tree_of (tree_json style no_secrets All t) ≡ Ok t
    tree_returns d (leaf tag typ content) text h plain =
        item_returns style tag typ (value_json style All tag typ content) h.1.tag_fits ∙ typed_leaf style tag typ content h.0 plain.0
    tree_returns d (node tag below) text h plain =
        item_returns style tag Structure (array (trees_json style no_secrets All below)) h.1.tag_fits
        ∙ ap (node_of tag) (trees_return (suc d) below h.0 h.2 plain.1)

    trees_return : (d : ℕ) (ts : Trees) (text : List ℕ) → AreTreeTexts ts text → AllPlain (lines_below d ts)
        → trees_of (trees_json style no_secrets All ts) ≡ Ok ts
    trees_return d no_trees text h plain = refl
    trees_return d (trees.tree t ts) text h plain =
        let p = plain_both (lines d t) (lines_below d ts) plain in
        rw (tree_returns d t h.0 h.3 p.0, trees_return d ts h.1 h.4 p.1) refl

-- ---- messages

-- canonical bytes are as many as those of any encoding
mutual
  len_of : (t : Tree) (text : List ℕ) → IsTreeText t text → length (bytes t) ≡ length text
  len_of (leaf tag typ content) text h =
      leaf_len tag typ content ∙ ap (λ (n : ℕ). 8 + length content + n) (sym (padding_is typ (length content) (leaf_not typ content h.0)))
      ∙ sym (text_length (raw_with tag typ content) text h.1)
  len_of (node tag below) text h =
      omega (arith, node_len tag (bytes_below below), lens_of below h.0 h.2, text_length (raw_with tag Structure h.0) text h.1)

  lens_of : (ts : Trees) (text : List ℕ) → AreTreeTexts ts text → length (bytes_below ts) ≡ length text
  lens_of no_trees text h = ap length (sym h)
  lens_of (trees.tree t ts) text h =
      omega (arith, length-append (bytes t) (bytes_below ts), len_of t h.0 h.3, lens_of ts h.1 h.4, ap length h.2, length-append h.0 h.1)

-- a structure's encoding is short
structure_short : (t : Tree) (text : List ℕ) → IsTreeText t text → IsStructure t → length text < 2 ^ 32 + 8
structure_short (leaf tag typ content) text h root = absurd root
structure_short (node tag below) text h root = omega (arith, h.1.length_fits, text_length (raw_with tag Structure h.0) text h.1)

structure_is : (t : Tree) → IsStructure t → is_node t ≡ true
structure_is (leaf tag typ content) root = absurd root
structure_is (node tag below) root = refl

pub stands_back : (style : Style) (w : List ℕ) (xs : List FoundItem) → ArePlain w → (h : Lists w xs)
    → depth (tree_json style no_secrets All h.message) ≤ max_depth
    → Stands (data_text (tree_json style no_secrets All h.message)) h.message
stands_back style w xs plain h deep =
    let t = h.message in
    let len : length (bytes t) < 2 ^ 32 + 8 = omega (arith, structure_short t w h.text h.root, len_of t w h.text) in
    record {
      reads = record {
        json = _;
        parsed = text_back _ (tree_back style no_secrets All t) deep;
        is = tree_returns style 0 t w h.text (tree_plain w plain xs h);
      };
      root = h.root;
      fits = (structure_fits t (structure_is t h.root) len).1;
    }
