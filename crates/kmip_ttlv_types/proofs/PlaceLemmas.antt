-- What is at an offset, and the items that split bytes.
use Rattle.std.proofs.Common.{◌≡◌, ℕ, true, false, ◌&&◌, ltb, zero, suc, ◌+◌, ◌-◌, ◌^◌, ◌<◌, ◌≤◌, List, [], ◌∷◌, ◌++◌, length, get_or, take, drop, Some, refl}
use Rattle.std.proofs.Common.{sym, ap, ◌∙◌, append_assoc, arith, add-zero}
use Rattle.std.proofs.{lemmas.Bool.lt-ltb, lemmas.Bool.ltb-true, Math.Seq.take-add, lemmas.Nat.be_bytes_4, lemmas.Nat.from_be_bytes-to_be_bytes_4}
use Rattle.std.specs.Int.{w32, to_be_bytes, from_be_bytes}
use Rattle.std.proofs.lemmas.List.{take_at, drop_at, length-append, length-drop, get_or-drop, drop-drop, length-take-le, append-nil}
use Rattle.kmip_ttlv_types.specs.ItemTypes.{code, padding, type_of}
use Rattle.kmip_ttlv_types.specs.Items.{IsTextOf, Raw, Splits, header}
use Rattle.kmip_ttlv_types.specs.Places.{ItemAt, ItemsAt, all_below, is_plain, length_at, size, tag_at}
use Rattle.kmip_ttlv_types.specs.declared.typ.TtlvType.{TtlvType}
use Rattle.kmip_ttlv_types.specs.declared.typ.TtlvType.TheVariants.{BigInteger, Boolean, ByteString, DateTime, Enumeration, Integer, Interval, LongInteger}
use Rattle.kmip_ttlv_types.specs.declared.typ.TtlvType.TheVariants.{Structure, TextString}

-- an item's header
abbrev pub header_of : Raw → List ℕ
header_of x = header x.tag x.typ (length x.content)

-- what is at an offset is what the rest of the bytes begins with
at_rest : (w : List ℕ) (p i : ℕ) (r : List ℕ) → drop p w ≡ r → get_or w (p + i) 0 ≡ get_or r i 0
at_rest w p i r e = sym (get_or-drop p w i 0) ∙ ap (λ (s : List ℕ). get_or s i 0) e

-- an encoding of an item is as long as its size
pub text_length : (x : Raw) (text : List ℕ) → IsTextOf x text → length text ≡ size x.typ (length x.content)
text_length x text t = ap length t.parts ∙ omega (arith, length-append x.content t.pad, t.pad_length)

-- a number from the four bytes that encode it
number_read : (a b c d n : ℕ) → n < 2 ^ 32 → a ≡ get_or (to_be_bytes w32 n) 0 0 → b ≡ get_or (to_be_bytes w32 n) 1 0 → c ≡ get_or (to_be_bytes w32 n) 2 0
    → d ≡ get_or (to_be_bytes w32 n) 3 0 → from_be_bytes w32 (a ∷ b ∷ c ∷ d ∷ []) ≡ n
number_read a b c d n lt ea eb ec ed = rw (ea, eb, ec, ed) (from_be_bytes-to_be_bytes_4 n lt)

-- a tag's top byte is zero
no_top_byte : (n : ℕ) → n < 2 ^ 24 → 0 ≡ get_or (to_be_bytes w32 n) 0 0
no_top_byte n lt = omega arith

-- content follows the header
content_read : (w : List ℕ) (p n : ℕ) (h content pad rest : List ℕ) → drop p w ≡ (h ++ content ++ pad) ++ rest → length h ≡ 8 → length content ≡ n
    → take n (drop (p + 8) w) ≡ content
content_read w p n h content pad rest e eight len =
    let grouped : (h ++ content ++ pad) ++ rest ≡ h ++ (content ++ (pad ++ rest)) = simp append_assoc in
    let shifted : drop (p + 8) w ≡ content ++ (pad ++ rest) = sym (drop-drop 8 p w) ∙ ap (drop 8) (e ∙ grouped)
    ∙ drop_at h (content ++ (pad ++ rest)) 8 eight in
    rw shifted (take_at content (pad ++ rest) n len)

-- one byte more
plain_both : (a : ℕ) (bs : List ℕ) → a < 256 → all_below bs ≡ true → all_below (a ∷ bs) ≡ true
plain_both a bs lt e = rw (lt-ltb a 256 lt) e

-- one byte and the others
plain_split : (a : ℕ) (bs : List ℕ) → all_below (a ∷ bs) ≡ true → (a < 256) × (all_below bs ≡ true)
plain_split a bs e = elim (ltb a 256) as (λ t. ltb a 256 ≡ t → (t && all_below bs) ≡ true → (a < 256) × (all_below bs ≡ true)) [
  | true ↦ λ t h. (ltb-true _ _ t, h)
  | false ↦ λ t h. absurd cc
] refl e

-- a code is a byte
code_fits : (t : TtlvType) → code t < 256
code_fits Structure = omega arith
code_fits Integer = omega arith
code_fits LongInteger = omega arith
code_fits BigInteger = omega arith
code_fits Enumeration = omega arith
code_fits Boolean = omega arith
code_fits TextString = omega arith
code_fits ByteString = omega arith
code_fits DateTime = omega arith
code_fits Interval = omega arith

-- eight bytes
plain_eight : (a b c d e f g h : ℕ) → a < 256 → b < 256 → c < 256 → d < 256 → e < 256 → f < 256 → g < 256 → h < 256
    → all_below (a ∷ b ∷ c ∷ d ∷ e ∷ f ∷ g ∷ h ∷ []) ≡ true
plain_eight a b c d e f g h ka kb kc kd ke kf kg kh = plain_both a (b ∷ c ∷ d ∷ e ∷ f ∷ g ∷ h ∷ []) ka
    (plain_both b (c ∷ d ∷ e ∷ f ∷ g ∷ h ∷ []) kb
    (plain_both c (d ∷ e ∷ f ∷ g ∷ h ∷ []) kc
    (plain_both d (e ∷ f ∷ g ∷ h ∷ []) kd
    (plain_both e (f ∷ g ∷ h ∷ []) ke (plain_both f (g ∷ h ∷ []) kf (plain_both g (h ∷ []) kg (plain_both h [] kh refl)))))))

-- the header of an encoding is bytes
plain_text : (w : List ℕ) (p : ℕ) (x : Raw) → get_or w p 0 ≡ get_or (header_of x) 0 0 → get_or w (p + 1) 0 ≡ get_or (header_of x) 1 0
    → get_or w (p + 2) 0 ≡ get_or (header_of x) 2 0 → get_or w (p + 3) 0 ≡ get_or (header_of x) 3 0 → get_or w (p + 4) 0 ≡ get_or (header_of x) 4 0
    → get_or w (p + 5) 0 ≡ get_or (header_of x) 5 0 → get_or w (p + 6) 0 ≡ get_or (header_of x) 6 0 → get_or w (p + 7) 0 ≡ get_or (header_of x) 7 0
    → is_plain w p ≡ true
plain_text w p x a b c d e f g h = plain_eight (get_or w p 0) (get_or w (p + 1) 0) (get_or w (p + 2) 0) (get_or w (p + 3) 0) (get_or w (p + 4) 0)
    (get_or w (p + 5) 0) (get_or w (p + 6) 0) (get_or w (p + 7) 0) (omega arith) (omega arith) (omega arith) (omega (arith, code_fits x.typ)) (omega arith)
    (omega arith) (omega arith) (omega arith)

-- the eight bytes, from the test
record Plain (w : List ℕ) (p : ℕ) : Type 0 where
  b0 : get_or w p 0 < 256
  b1 : get_or w (p + 1) 0 < 256
  b2 : get_or w (p + 2) 0 < 256
  b4 : get_or w (p + 4) 0 < 256
  b5 : get_or w (p + 5) 0 < 256
  b6 : get_or w (p + 6) 0 < 256
  b7 : get_or w (p + 7) 0 < 256

-- each of the eight is a byte
plain_is : (w : List ℕ) (p : ℕ) → is_plain w p ≡ true → Plain w p
plain_is w p e =
    let k0 = plain_split (get_or w p 0) (get_or w (p + 1) 0 ∷ get_or w (p + 2) 0 ∷ get_or w (p + 3) 0 ∷ get_or w (p + 4) 0 ∷ get_or w (p + 5) 0 ∷ get_or w
    (p + 6) 0 ∷ get_or w (p + 7) 0 ∷ []) e in
    let k1 = plain_split (get_or w (p + 1) 0) (get_or w (p + 2) 0 ∷ get_or w (p + 3) 0 ∷ get_or w (p + 4) 0 ∷ get_or w (p + 5) 0 ∷ get_or w (p + 6) 0 ∷ get_or w
    (p + 7) 0 ∷ []) k0.1 in
    let k2 = plain_split (get_or w (p + 2) 0) (get_or w (p + 3) 0 ∷ get_or w (p + 4) 0 ∷ get_or w (p + 5) 0 ∷ get_or w (p + 6) 0 ∷ get_or w (p + 7) 0 ∷ []) k1.1
    in
    let k3 = plain_split (get_or w (p + 3) 0) (get_or w (p + 4) 0 ∷ get_or w (p + 5) 0 ∷ get_or w (p + 6) 0 ∷ get_or w (p + 7) 0 ∷ []) k2.1 in
    let k4 = plain_split (get_or w (p + 4) 0) (get_or w (p + 5) 0 ∷ get_or w (p + 6) 0 ∷ get_or w (p + 7) 0 ∷ []) k3.1 in
    let k5 = plain_split (get_or w (p + 5) 0) (get_or w (p + 6) 0 ∷ get_or w (p + 7) 0 ∷ []) k4.1 in
    let k6 = plain_split (get_or w (p + 6) 0) (get_or w (p + 7) 0 ∷ []) k5.1 in
    let k7 = plain_split (get_or w (p + 7) 0) [] k6.1 in
    record { b0 = k0.0; b1 = k1.0; b2 = k2.0; b4 = k4.0; b5 = k5.0; b6 = k6.0; b7 = k7.0 }

-- the bytes of a list are below 256 at every offset
pub plain_bytes : (w : List ℕ) (p : ℕ) → ((i : ℕ) → get_or w i 0 < 256) → is_plain w p ≡ true
plain_bytes w p fits = plain_eight (get_or w p 0) (get_or w (p + 1) 0) (get_or w (p + 2) 0) (get_or w (p + 3) 0) (get_or w (p + 4) 0) (get_or w (p + 5) 0)
    (get_or w (p + 6) 0) (get_or w (p + 7) 0) (fits p) (fits (p + 1)) (fits (p + 2)) (fits (p + 3)) (fits (p + 4)) (fits (p + 5)) (fits (p + 6)) (fits (p + 7))

-- the item whose encoding is at an offset is there
pub item_at_text : (w : List ℕ) (p : ℕ) (x : Raw) (text rest : List ℕ) → p ≤ length w → drop p w ≡ text ++ rest → IsTextOf x text → ItemAt w p x
item_at_text w p x text rest le e t =
    let r : drop p w ≡ (header_of x ++ x.content ++ t.pad) ++ rest = e ∙ ap (λ (s : List ℕ). s ++ rest) t.parts in
    let at = λ (i : ℕ). at_rest w p i _ r in
    let tag-is : tag_at w p ≡ x.tag = number_read 0 _ _ _ x.tag (omega (arith, t.tag_fits)) (no_top_byte x.tag t.tag_fits) (rw add-zero at (at 0))
    (at 1) (at 2) in
    let len-is : length_at w p ≡ length x.content = number_read _ _ _ _ (length x.content) t.length_fits (at 4) (at 5) (at 6) (at 7) in
    record {
      plain = plain_text w p x (rw add-zero at (at 0)) (at 1) (at 2) (at 3) (at 4) (at 5) (at 6) (at 7);
      tag = sym tag-is;
      typ = sym (at 3);
      len = sym len-is;
      content = rw len-is (sym (content_read w p (length x.content) (header_of x) x.content t.pad rest r refl refl));
      there = rw len-is (omega (arith, text_length x text t, length-append text rest, ap length e, length-drop p w));
    }

-- items whose encodings follow one another from an offset on are there
pub items_at_splits : (w : List ℕ) (p e : ℕ) (xs : List Raw) (back : List ℕ) (bytes : List ℕ) → p ≤ length w → drop p w ≡ bytes ++ back → p + length bytes ≡ e
    → Splits xs bytes → ItemsAt w p e xs
items_at_splits w p e [] back bytes le at len s = omega (arith, ap length s, len)
items_at_splits w p e (x ∷ xs) back bytes le at len s =
    let text = s.0 in
    let rest = s.1 in
    let t = s.2 in
    let here : drop p w ≡ text ++ (rest ++ back) = at ∙ ap (λ (b : List ℕ). b ++ back) s.3 ∙ append_assoc text rest back in
    let item = item_at_text w p x text (rest ++ back) le here t in
    let n-is : length text ≡ size x.typ (length_at w p) = text_length x text t ∙ ap (size x.typ) item.len in
    let next : drop (p + size x.typ (length_at w p)) w ≡ rest ++ back = sym (drop-drop (size x.typ (length_at w p)) p w)
    ∙ ap (drop (size x.typ (length_at w p))) here ∙ drop_at text (rest ++ back) (size x.typ (length_at w p)) n-is in (
      item,
      items_at_splits w (p + size x.typ (length_at w p)) e xs back rest item.there next (omega (arith, ap length s.3, length-append text rest, n-is, len))
          s.4,
    )

-- the first eight cells
pub eight : (d : List ℕ) → 8 ≤ length d → take 8 d ≡ get_or d 0 0 ∷ get_or d 1 0 ∷ get_or d 2 0 ∷ get_or d 3 0 ∷ get_or d 4 0 ∷ get_or d 5 0 ∷ get_or d 6 0 ∷
    get_or d 7 0 ∷ []
eight [] le = absurd (omega arith)
eight (a ∷ []) le = absurd (omega arith)
eight (a ∷ b ∷ []) le = absurd (omega arith)
eight (a ∷ b ∷ c ∷ []) le = absurd (omega arith)
eight (a ∷ b ∷ c ∷ d ∷ []) le = absurd (omega arith)
eight (a ∷ b ∷ c ∷ d ∷ e ∷ []) le = absurd (omega arith)
eight (a ∷ b ∷ c ∷ d ∷ e ∷ f ∷ []) le = absurd (omega arith)
eight (a ∷ b ∷ c ∷ d ∷ e ∷ f ∷ g ∷ []) le = absurd (omega arith)
eight (a ∷ b ∷ c ∷ d ∷ e ∷ f ∷ g ∷ h ∷ r) le = refl

four_fit : (a b c d : ℕ) → a < 256 → b < 256 → c < 256 → d < 256 → (i : ℕ) → get_or (a ∷ b ∷ c ∷ d ∷ []) i 0 < 256
four_fit a b c d ha hb hc hd zero = ha
four_fit a b c d ha hb hc hd (suc zero) = hb
four_fit a b c d ha hb hc hd (suc (suc zero)) = hc
four_fit a b c d ha hb hc hd (suc (suc (suc zero))) = hd
four_fit a b c d ha hb hc hd (suc (suc (suc (suc i)))) = omega arith

cells_of_header : (x : Raw) (a b c t d e f g : ℕ) → to_be_bytes w32 x.tag ≡ 0 ∷ a ∷ b ∷ c ∷ [] → code x.typ ≡ t
    → to_be_bytes w32 (length x.content) ≡ d ∷ e ∷ f ∷ g ∷ [] → header_of x ≡ a ∷ b ∷ c ∷ t ∷ d ∷ e ∷ f ∷ g ∷ []
cells_of_header x a b c t d e f g h k l =
    ap (λ (s : List ℕ). drop 1 s ++ code x.typ ∷ to_be_bytes w32 (length x.content)) h ∙ ap (λ (s : List ℕ). a ∷ b ∷ c ∷ code x.typ ∷ s) l
    ∙ ap (λ (n : ℕ). a ∷ b ∷ c ∷ n ∷ d ∷ e ∷ f ∷ g ∷ []) k

-- in order, and within the bytes
pub items_in_order : (w : List ℕ) (p e : ℕ) (xs : List Raw) → p ≤ length w → ItemsAt w p e xs → (p ≤ e) × (e ≤ length w)
items_in_order w p e [] le items = (omega (arith, items), omega (arith, items))
items_in_order w p e (x ∷ xs) le items =
    let k = items_in_order w (p + size x.typ (length_at w p)) e xs items.0.there items.1 in
    (omega (arith, k.0), k.1)

abbrev pub raw_with : ℕ → TtlvType → List ℕ → Raw
raw_with t y c = record { tag = t; typ = y; content = c }

-- conversely: items that are there split the bytes, if these are below 256
module _ (w : List ℕ) where
  header_at_item : (p : ℕ) (x : Raw) → ItemAt w p x → take 8 (drop p w) ≡ header_of x
  header_at_item p x item =
      let k = plain_is w p item.plain in
      let long : 8 ≤ length (drop p w) = omega (arith, item.there, length-drop p w) in
      let tag-bytes = be_bytes_4 (0 ∷ get_or w p 0 ∷ get_or w (p + 1) 0 ∷ get_or w (p + 2) 0 ∷ []) x.tag refl (four_fit _ _ _ _ (omega arith) k.b0 k.b1 k.b2)
      item.tag in
      let len-bytes = be_bytes_4 (get_or w (p + 4) 0 ∷ get_or w (p + 5) 0 ∷ get_or w (p + 6) 0 ∷ get_or w (p + 7) 0 ∷ []) (length x.content) refl
      (four_fit _ _ _ _ k.b4 k.b5 k.b6 k.b7) item.len in
      let cells = cells_of_header x (get_or w p 0) (get_or w (p + 1) 0) (get_or w (p + 2) 0) (get_or w (p + 3) 0) (get_or w (p + 4) 0) (get_or w (p + 5) 0)
      (get_or w (p + 6) 0) (get_or w (p + 7) 0) tag-bytes item.typ len-bytes in
      eight (drop p w) long ∙ rw (
        get_or-drop p w 0 0,
        add-zero,
        get_or-drop p w 1 0,
        get_or-drop p w 2 0,
        get_or-drop p w 3 0,
        get_or-drop p w 4 0,
        get_or-drop p w 5 0,
        get_or-drop p w 6 0,
        get_or-drop p w 7 0,
      ) (sym cells)

  pub text_at_item : (p : ℕ) (x : Raw) → ItemAt w p x → IsTextOf x (take (size x.typ (length_at w p)) (drop p w))
  text_at_item p x item =
      let k = plain_is w p item.plain in
      let n = length_at w p in
      let d = drop p w in
      let parts-1 : take (8 + n + padding x.typ n) d ≡ take (8 + n) d ++ take (padding x.typ n) (drop (8 + n) d) = take-add (8 + n) (padding x.typ n) d in
      let parts-2 : take (8 + n) d ≡ take 8 d ++ take n (drop 8 d) = take-add 8 n d in
      let content-is : take n (drop 8 d) ≡ x.content = ap (take n) (drop-drop 8 p w) ∙ sym item.content in
      record {
        tag_fits = omega (arith, item.tag, k.b0, k.b1, k.b2);
        length_fits = omega (arith, item.len, k.b4, k.b5, k.b6, k.b7);
        pad = take (padding x.typ n) (drop (8 + n) d);
        pad_length = length-take-le (padding x.typ n) (drop (8 + n) d) (omega (arith, item.there, length-drop (8 + n) d, length-drop p w))
            ∙ ap (padding x.typ) (sym item.len);
        parts = parts-1 ∙ ap (λ (s : List ℕ). s ++ take (padding x.typ n) (drop (8 + n) d)) (parts-2 ∙ ap (λ (s : List ℕ). take 8 d ++ s) content-is
            ∙ ap (λ (s : List ℕ). s ++ x.content) (header_at_item p x item));
      }

  pub splits_items_at : (p e : ℕ) (xs : List Raw) → p ≤ length w → ItemsAt w p e xs → Splits xs (take (e - p) (drop p w))
  splits_items_at p e [] le items = let k : e - p ≡ 0 = omega (arith, items) in rw k refl
  splits_items_at p e (x ∷ xs) le items =
      let s = size x.typ (length_at w p) in
      let k = items_in_order w (p + s) e xs items.0.there items.1 in
      let sum : e - p ≡ s + (e - (p + s)) = omega (arith, k.0) in (
        take s (drop p w),
        take (e - (p + s)) (drop (p + s) w),
        text_at_item p x items.0,
        ap (λ (n : ℕ). take n (drop p w)) sum
            ∙ take-add s (e - (p + s)) (drop p w) ∙ ap (λ (r : List ℕ). take s (drop p w) ++ take (e - (p + s)) r) (drop-drop s p w),
        splits_items_at (p + s) e xs items.0.there items.1,
      )

-- at most one list of items is from one offset to another
pub type_of-code : (t : TtlvType) → type_of (code t) ≡ Some t
type_of-code Structure = refl
type_of-code Integer = refl
type_of-code LongInteger = refl
type_of-code BigInteger = refl
type_of-code Enumeration = refl
type_of-code Boolean = refl
type_of-code TextString = refl
type_of-code ByteString = refl
type_of-code DateTime = refl
type_of-code Interval = refl

pub code_one : (a b : TtlvType) → code a ≡ code b → a ≡ b
code_one a b e =
    let both : type_of (code a) ≡ type_of (code b) = ap type_of e in
    let ka = type_of-code a in
    let kb = type_of-code b in
    cc

same_raw : (m n : ℕ) (t u : TtlvType) (c d : List ℕ) → m ≡ n → t ≡ u → c ≡ d → raw_with m t c ≡ raw_with n u d
same_raw m n t u c d e f g = cc

pub item_one : (w : List ℕ) (p : ℕ) (x y : Raw) → ItemAt w p x → ItemAt w p y → x ≡ y
item_one w p x y a b = same_raw x.tag y.tag x.typ y.typ x.content y.content (a.tag ∙ sym b.tag) (code_one x.typ y.typ (a.typ ∙ sym b.typ)) (a.content
    ∙ sym b.content)

items_one : (w : List ℕ) (p e : ℕ) (xs ys : List Raw) → p ≤ length w → ItemsAt w p e xs → ItemsAt w p e ys → xs ≡ ys
items_one w p e [] [] le a b = refl
items_one w p e [] (y ∷ ys) le a b = absurd (omega (arith, a, (items_in_order w (p + size y.typ (length_at w p)) e ys b.0.there b.1).0))
items_one w p e (x ∷ xs) [] le a b = absurd (omega (arith, b, (items_in_order w (p + size x.typ (length_at w p)) e xs a.0.there a.1).0))
items_one w p e (x ∷ xs) (y ∷ ys) le a b =
    let heads = item_one w p x y a.0 b.0 in
    let rest : ItemsAt w (p + size x.typ (length_at w p)) e ys = rw heads b.1 in
    let tails = items_one w (p + size x.typ (length_at w p)) e xs ys a.0.there a.1 rest in
    cc

-- at most one list splits the bytes
pub splits_one : (bytes : List ℕ) (xs ys : List Raw) → Splits xs bytes → Splits ys bytes → xs ≡ ys
splits_one bytes xs ys a b = items_one bytes 0 (length bytes) xs ys (omega arith)
    (items_at_splits bytes 0 (length bytes) xs [] bytes (omega arith) (sym (append-nil bytes)) (omega arith) a)
    (items_at_splits bytes 0 (length bytes) ys [] bytes (omega arith) (sym (append-nil bytes)) (omega arith) b)
