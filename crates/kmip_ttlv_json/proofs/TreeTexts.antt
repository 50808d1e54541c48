-- The text that is printed item by item is that of the tree.
use Rattle.std.proofs.Common.{◌≡◌, ◌≢◌, ◌∙◌, ℕ, zero, suc, ◌+◌, ◌-◌, ◌<◌, ◌≤◌, ◌==◌, Bool, true, false, not, List, [], ◌∷◌, ◌++◌, get_or}
use Rattle.std.proofs.Common.{if◌then◌else◌, Option, Some, None, refl, sym, ap, ap₂, arith, append_assoc, append-nil}
use Rattle.std.specs.{Prelude.codes, Prelude.unwrap_or, Int.bytes_high_first}
use Rattle.std.proofs.{Math.Bool.and-false, Math.Bool.and-true}
use Rattle.std.proofs.lemmas.Bool.{lt-ltb, le-ltb, ltb-true, ltb-false, ne_eqb, eq-eqb}
use Rattle.hex.specs.Hex.{encode_upper}
use Rattle.json.specs.Print.{escape_byte, quoted}
use Rattle.serde_json.specs.Data.{Num, Data, string, no_members, member}
use Rattle.serde_json.specs.Written.{comma_if}
use Rattle.kmip_ttlv_types.specs.{declared.typ.TtlvType.TtlvType, ItemTypes.code}
use Rattle.kmip_ttlv_types.specs.declared.typ.TtlvType.TheVariants.{Structure, Boolean, TextString, ByteString}
use Rattle.kmip_ttlv_types.specs.Trees.{Tree, Trees, leaf, node, no_trees, tree, IsTreeText, AreTreeTexts}
use Rattle.kmip_ttlv_items.proofs.Spans.{leaf_not}
use Rattle.kmip_ttlv_write.specs.GivenItems.{Line, lines, lines_below}
use Rattle.kmip_ttlv_json.specs.declared.print.Spot.{Spot}
use Rattle.kmip_ttlv_json.specs.declared.print.Shown.{Shown}
use Rattle.kmip_words.specs.Words.{tag_word}
use Rattle.kmip_ttlv_json.specs.declared.print.Style.{Style}
use Rattle.kmip_ttlv_json.specs.declared.print.Style.TheVariants.{Digits, Names}
use Rattle.kmip_ttlv_json.specs.Spellings.{spelled, data_text, items_text, members_text}
use Rattle.kmip_ttlv_json.specs.Jsons.{type_word, hex_text, is_true, is_hidden, words_for, number_for, plain_json, worded_json, value_json, tag_text}
use Rattle.kmip_ttlv_json.specs.Jsons.{typed_members, item_json}
use Rattle.kmip_ttlv_json.specs.Jsons.{within, tree_json, trees_json}
use Rattle.kmip_ttlv_json.specs.Parts.{closes, is_inside, spot_after, gap, type_part, opening, digits_text, plain_text, worded_text, value_text, value_part}
use Rattle.kmip_ttlv_json.specs.Parts.{item_part, kind, parts, spot_behind, first_spot}
use Rattle.kmip_ttlv_json.proofs.Escapes.{AreLow, low_from, spelled_low, digits_low, escape_digits}
use Rattle.kmip_ttlv_json.proofs.Wordings.{spelled_word, tag_is_word}

abbrev pub ArePlain : List ℕ → Type 0
ArePlain xs = (k : ℕ) → get_or xs k 0 < 256

pub kind_code : (typ : TtlvType) → kind (code typ) ≡ typ
kind_code Structure = refl
kind_code typ = refl

-- ---- one item

-- what stands between the digits of the tag and the value
word_low : (typ : TtlvType) → AreLow (type_word typ)
word_low Structure = low_from (codes "Structure") refl
word_low typ = low_from (type_word typ) refl

word_is : (typ : TtlvType) (s : List ℕ) → 44 ∷ (quoted (codes "type") ++ 58 ∷ (quoted (type_word typ) ++ s))
    ≡ codes ",\"type\":\"" ++ (type_word typ ++ 34 ∷ s)
unfolding escape_byte
word_is Structure s = refl
word_is typ s = refl

typed : (typ : TtlvType) (value : Data) → (codes "\",\"type\":\"" ++ (type_word typ ++ codes "\",\"value\":")) ++ (data_text value ++ 125 ∷ [])
    ≡ 34 ∷ members_text true (member (codes "type") (string (type_word typ)) (member (codes "value") value no_members))
unfolding escape_byte
typed typ value =
    let s = data_text value ++ 125 ∷ [] in
    let rest = codes ",\"value\":" ++ s in
    let front : (codes "\",\"type\":\"" ++ (type_word typ ++ codes "\",\"value\":")) ++ s ≡ codes "\",\"type\":\"" ++ (type_word typ ++ 34 ∷ rest) =
    simp append_assoc in
    front ∙ ap (λ (t : List ℕ). 34 ∷ t) (sym (word_is typ rest))
    ∙ ap (λ (t : List ℕ). 34 ∷ 44 ∷ (quoted (codes "type") ++ 58 ∷ (t ++ rest))) (sym (spelled_low (type_word typ) (word_low typ)))

pub tag_plain : (tag : ℕ) → ArePlain (bytes_high_first 3 tag)
tag_plain tag zero = omega arith
tag_plain tag (suc zero) = omega arith
tag_plain tag (suc (suc zero)) = omega arith
tag_plain tag (suc (suc (suc k))) = omega arith

spelled_hex : (content s : List ℕ) → ArePlain content → spelled (hex_text content) ++ s ≡ 34 ∷ 48 ∷ 120 ∷ (encode_upper content ++ 34 ∷ s)
unfolding escape_byte
spelled_hex content s plain =
    ap (λ (t : List ℕ). t ++ s) (spelled_low (hex_text content) (omega arith, (omega arith, digits_low content plain)))
    ∙ ap (λ (t : List ℕ). 34 ∷ 48 ∷ 120 ∷ ((t ++ 34 ∷ []) ++ s)) (escape_digits content plain)
    ∙ ap (λ (t : List ℕ). 34 ∷ 48 ∷ 120 ∷ t) (append_assoc (encode_upper content) (34 ∷ []) s)

-- a tag in JSON
tag_spelled : (style : Style) (tag : ℕ) (s : List ℕ) → spelled (tag_text style tag) ++ s ≡ 34 ∷ (tag_text style tag ++ 34 ∷ s)
tag_spelled Digits tag s = spelled_hex (bytes_high_first 3 tag) s (tag_plain tag)
tag_spelled Names tag s = by (tag_word tag) refl
  where
    by : (o : Option (List ℕ)) → tag_word tag ≡ o
        → spelled (unwrap_or o (hex_text (bytes_high_first 3 tag))) ++ s ≡ 34 ∷ (unwrap_or o (hex_text (bytes_high_first 3 tag)) ++ 34 ∷ s)
    by None e = spelled_hex (bytes_high_first 3 tag) s (tag_plain tag)
    by (Some w) e =
        ap (λ (t : List ℕ). t ++ s) (spelled_word w (tag_is_word tag w e)) ∙ ap (λ (t : List ℕ). 34 ∷ t) (append_assoc w (34 ∷ []) s)

-- the members of an item behind its tag, with its end
members_are : (style : Style) (typ : TtlvType) (value : Data)
    → type_part style typ ++ (data_text value ++ 125 ∷ []) ≡ 34 ∷ members_text true (typed_members style typ value)
unfolding escape_byte
members_are Names Structure value = refl
members_are Digits typ value = typed typ value
members_are Names typ value = typed typ value

-- an item with any value
item_is : (style : Style) (tag : ℕ) (typ : TtlvType) (value : Data)
    → opening style tag typ ++ (data_text value ++ 125 ∷ []) ≡ data_text (item_json style tag typ value)
unfolding opening escape_byte
item_is style tag typ value =
    let s = data_text value ++ 125 ∷ [] in
    let text = tag_text style tag in
    let front : opening style tag typ ++ s ≡ codes "{\"tag\":\"" ++ (text ++ (type_part style typ ++ s)) = simp append_assoc in
    front ∙ ap (λ (t : List ℕ). codes "{\"tag\":\"" ++ (text ++ t)) (members_are style typ value)
    ∙ ap (λ (t : List ℕ). codes "{\"tag\":" ++ t) (sym (tag_spelled style tag (members_text true (typed_members style typ value))))

number_is : (content : List ℕ) → ArePlain content → digits_text (codes "\"0x") content ≡ spelled (hex_text content)
number_is content plain = sym (sym (append-nil _) ∙ spelled_hex content [] plain)

bytes_are : (content : List ℕ) → ArePlain content → digits_text (codes "\"") content ≡ spelled (encode_upper content)
bytes_are content plain =
    sym (spelled_low (encode_upper content) (digits_low content plain) ∙ ap (λ (t : List ℕ). 34 ∷ (t ++ 34 ∷ [])) (escape_digits content plain))

-- a value without words
plain_is : (typ : TtlvType) (content : List ℕ) → ArePlain content → plain_text typ content ≡ data_text (plain_json typ content)
plain_is Boolean content plain = by (is_true content)
  where
    by : (b : Bool) → (if b then codes "true" else codes "false") ≡ data_text (Data.boolean b)
    by true = refl
    by false = refl
plain_is TextString content plain = refl
plain_is ByteString content plain = bytes_are content plain
plain_is typ content plain = number_is content plain

worded_is : (o : Option (List ℕ)) (n : Option Num) (typ : TtlvType) (content : List ℕ) → ArePlain content
    → worded_text o n typ content ≡ data_text (worded_json o n typ content)
worded_is None None typ content plain = plain_is typ content plain
worded_is None (Some num) typ content plain = refl
worded_is (Some words) n typ content plain = refl

-- the value of a leaf
text_is : (style : Style) (shown : Shown) (tag : ℕ) (typ : TtlvType) (content : List ℕ) → ArePlain content
    → value_text style shown tag typ content ≡ data_text (value_json style shown tag typ content)
text_is style shown tag typ content plain = by (is_hidden shown typ)
  where
    by : (b : Bool) → (if b then codes "null" else worded_text (words_for style tag typ content) (number_for style tag typ content) typ content)
        ≡ data_text (if b then Data.null else worded_json (words_for style tag typ content) (number_for style tag typ content) typ content)
    by true = refl
    by false = worded_is (words_for style tag typ content) (number_for style tag typ content) typ content plain

value_is : (style : Style) (shown : Shown) (tag : ℕ) (typ : TtlvType) (content : List ℕ) → typ ≢ Structure → ArePlain content
    → value_part style shown tag typ content ≡ data_text (value_json style shown tag typ content) ++ 125 ∷ []
value_is style shown tag Structure content ne plain = absurd (ne refl)
value_is style shown tag typ content ne plain = ap (λ (t : List ℕ). t ++ 125 ∷ []) (text_is style shown tag typ content plain)

-- ---- items behind one another

abbrev spot : ℕ → Bool → Option ℕ → Spot
spot d b s = record { depth = d; first = b; secret = s }

-- the first of them is in at most so many structures
abbrev IsLow : ℕ → List Line → Type 0
IsLow d [] = Unit {0}
IsLow d (l ∷ ls) = l.depth ≤ d

low_below : (d : ℕ) (ts : Trees) (r : List Line) → IsLow d r → IsLow (suc d) (lines_below (suc d) ts ++ r)
low_below d no_trees [] h = tt
low_below d no_trees (l ∷ ls) h = omega (arith, h)
low_below d (tree (leaf tag typ content) ts) r h = omega arith
low_below d (tree (node tag below) ts) r h = omega arith

-- their contents are bytes
abbrev pub AllPlain : List Line → Type 0
AllPlain [] = Unit {0}
AllPlain (l ∷ ls) = ArePlain l.content × AllPlain ls

pub plain_both : (xs ys : List Line) → AllPlain (xs ++ ys) → AllPlain xs × AllPlain ys
plain_both [] ys h = (tt, h)
plain_both (x ∷ xs) ys h = let k = plain_both xs ys h.1 in ((h.0, k.0), k.1)

inside_less : (s : Option ℕ) (d k : ℕ) → is_inside s d ≡ false → k ≤ d → is_inside s k ≡ false
inside_less None d k h le = refl
inside_less (Some a) d k h le = le-ltb a k (omega (arith, ltb-false a d h, le))

module _ (style : Style) (secrets : ℕ → Bool) (shown : Shown) where
  -- items with the ends of all structures that are open
  abbrev flat : Spot → List Line → List ℕ
  flat s [] = closes s.depth
  flat s (l ∷ ls) = item_part style secrets shown s l.depth l.tag (kind l.code) l.content ++ flat (spot_after secrets s l.depth l.tag (kind l.code)) ls

  pub flat_is : (s : Spot) (ls : List Line) → parts style secrets shown s ls ++ closes (spot_behind secrets s ls).depth ≡ flat s ls
  flat_is s [] = refl
  flat_is s (l ∷ ls) = rw append_assoc (ap (λ (x : List ℕ). item_part style secrets shown s l.depth l.tag (kind l.code) l.content ++ x)
      (flat_is (spot_after secrets s l.depth l.tag (kind l.code)) ls))

  -- a structure ends in front of an item that is not in it
  close_one : (d : ℕ) (b : Bool) (s : Option ℕ) (r : List Line) → IsLow d r → flat (spot (suc d) b s) r ≡ 93 ∷ 125 ∷ flat (spot d false s) r
  close_one d b s [] low = refl
  close_one d b s (l ∷ ls) low =
      let more : suc d - l.depth ≡ suc (d - l.depth) = omega (arith, low) in
      let other : (suc d == l.depth) ≡ false = ne_eqb (suc d) l.depth (λ e. omega (arith, e, low)) in
      rw (more, other, and-false b) refl

  -- where an item is in no secret one, it doesn't matter which was the last
  swap : (d : ℕ) (b : Bool) (s t : Option ℕ) (r : List Line) → IsLow d r → is_inside s d ≡ false → is_inside t d ≡ false
      → flat (spot d b s) r ≡ flat (spot d b t) r
  swap d b s t [] low u v = refl
  swap d b s t (l ∷ ls) low u v = rw (inside_less s d l.depth u low, inside_less t d l.depth v low) refl

  -- which secret item is open behind an item
  abbrev secret_behind : Option ℕ → ℕ → ℕ → Option ℕ
  secret_behind s d tag = if is_inside s d then s else if secrets tag then Some d else None

  secret_same : (s : Option ℕ) (d tag : ℕ) (b : Bool) (r : List Line) → IsLow d r → flat (spot d b (secret_behind s d tag)) r ≡ flat (spot d b s) r
  secret_same s d tag b r low = by (is_inside s d) (secrets tag) refl
    where
      by : (i k : Bool) → is_inside s d ≡ i → flat (spot d b (if i then s else if k then Some d else None)) r ≡ flat (spot d b s) r
      by true k e = refl
      by false true e = swap d b (Some d) s r low (le-ltb d d (omega arith)) e
      by false false e = swap d b None s r low refl e

  -- what is shown of what is in a structure
  hidden_below : (s : Option ℕ) (d tag : ℕ) → within shown (is_inside (secret_behind s d tag) (suc d))
      ≡ within (within shown (is_inside s d)) (secrets tag)
  hidden_below s d tag = by s (is_inside s d) (secrets tag) refl
    where
      by : (o : Option ℕ) (i k : Bool) → is_inside o d ≡ i → within shown (is_inside (if i then o else if k then Some d else None) (suc d))
          ≡ within (within shown i) k
      by None true k e = absurd (cc)
      by (Some a) true true e = ap (within shown) (lt-ltb a (suc d) (omega (arith, ltb-true a d e)))
      by (Some a) true false e = ap (within shown) (lt-ltb a (suc d) (omega (arith, ltb-true a d e)))
      by o false true e = ap (within shown) (lt-ltb d (suc d) (omega arith))
      by o false false e = refl

  gap_is : (d : ℕ) (b : Bool) (s : Option ℕ) → gap (spot d b s) d ≡ comma_if (not b)
  gap_is d b s =
      let none : d - d ≡ 0 = omega arith in
      rw (none, eq-eqb d d refl, and-true b) refl

  mutual
    tree_flat : (d : ℕ) (b : Bool) (s : Option ℕ) (t : Tree) (text : List ℕ) (r : List Line) → IsTreeText t text → AllPlain (lines d t) → IsLow d r
        → flat (spot d b s) (lines d t ++ r)
        ≡ comma_if (not b) ++ (data_text (tree_json style secrets (within shown (is_inside s d)) t) ++ flat (spot d false s) r)
    tree_flat d b s (leaf tag typ content) text r h plain low =
        let ne = leaf_not typ content h.0 in
        let hid = within (within shown (is_inside s d)) (secrets tag) in
        let v = value_json style hid tag typ content in
        let own : opening style tag typ ++ value_part style hid tag typ content ≡ data_text (item_json style tag typ v) =
        ap (λ (x : List ℕ). opening style tag typ ++ x) (value_is style hid tag typ content ne plain.0) ∙ item_is style tag typ v in
        let after : flat (spot_after secrets (spot d b s) d tag typ) r ≡ flat (spot d false s) r = leaf_after typ ne ∙ secret_same s d tag false r low in
        ap (λ (k : TtlvType). item_part style secrets shown (spot d b s) d tag k content ++ flat (spot_after secrets (spot d b s) d tag k) r) (kind_code typ)
        ∙ ap₂ (λ (x y : List ℕ). (x ++ (opening style tag typ ++ value_part style hid tag typ content)) ++ y) (gap_is d b s) after
        ∙ ap (λ (x : List ℕ). (comma_if (not b) ++ x) ++ flat (spot d false s) r) own
        ∙ append_assoc (comma_if (not b)) (data_text (item_json style tag typ v)) (flat (spot d false s) r)
      where
        leaf_after : (k : TtlvType) → k ≢ Structure → flat (spot_after secrets (spot d b s) d tag k) r ≡ flat (spot d false (secret_behind s d tag)) r
        leaf_after Structure ne = absurd (ne refl)
        leaf_after typ ne = refl
    tree_flat d b s (node tag below) text r h plain low =
        let u = secret_behind s d tag in
        let hid = within (within shown (is_inside s d)) (secrets tag) in
        let inner = trees_json style secrets hid below in
        let rest = flat (spot d false s) r in
        let one_more : d + 1 ≡ suc d = omega arith in
        let deep = ap (λ (n : ℕ). flat (spot n true u) (lines_below (suc d) below ++ r)) one_more in
        let all : flat (spot (d + 1) true u) (lines_below (suc d) below ++ r) ≡ items_text false inner ++ 125 ∷ rest =
        deep ∙ trees_flat d true u below h.0 r h.2 plain.1 low
        ∙ ap (λ (k : Shown). items_text false (trees_json style secrets k below) ++ 125 ∷ flat (spot d false u) r) (hidden_below s d tag)
        ∙ ap (λ (x : List ℕ). items_text false inner ++ 125 ∷ x) (secret_same s d tag false r low) in
        let own = item_is style tag Structure (Data.array inner) in
        ap₂ (λ (x y : List ℕ). (x ++ (opening style tag Structure ++ 91 ∷ [])) ++ y) (gap_is d b s) all
        ∙ simp append_assoc (simp append_assoc at (ap (λ (x : List ℕ). comma_if (not b) ++ (x ++ rest)) own))

    trees_flat : (d : ℕ) (b : Bool) (s : Option ℕ) (ts : Trees) (text : List ℕ) (r : List Line) → AreTreeTexts ts text → AllPlain (lines_below (suc d) ts)
        → IsLow d r
        → flat (spot (suc d) b s) (lines_below (suc d) ts ++ r)
        ≡ items_text (not b) (trees_json style secrets (within shown (is_inside s (suc d))) ts) ++ 125 ∷ flat (spot d false s) r
    trees_flat d b s no_trees text r h plain low = close_one d b s r low
    trees_flat d b s (tree t ts) text r h plain low =
        let k = plain_both (lines (suc d) t) (lines_below (suc d) ts) plain in
        let hid = within shown (is_inside s (suc d)) in
        let more = lines_below (suc d) ts ++ r in
        let one = data_text (tree_json style secrets hid t) in
        ap (flat (spot (suc d) b s)) (append_assoc (lines (suc d) t) (lines_below (suc d) ts) r)
        ∙ tree_flat (suc d) b s t h.0 more h.3 k.0 (low_below d ts r low)
        ∙ ap (λ (x : List ℕ). comma_if (not b) ++ (one ++ x)) (trees_flat d false s ts h.1 r h.4 k.1 low) ∙ simp append_assoc

  -- a whole message
  pub message_flat : (t : Tree) (text : List ℕ) → IsTreeText t text → AllPlain (lines 0 t) → parts style secrets shown first_spot (lines 0 t) ++ closes
      (spot_behind secrets first_spot (lines 0 t)).depth ≡ data_text (tree_json style secrets shown t)
  message_flat t text h plain =
      flat_is first_spot (lines 0 t) ∙ ap (flat first_spot) (sym (append-nil (lines 0 t))) ∙ tree_flat 0 true None t text [] h plain tt
      ∙ append-nil _
