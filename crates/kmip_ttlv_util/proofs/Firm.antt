-- Texts that trimming leaves alone, whatever follows them, and the trimmed end of a line.
use Rattle.std.proofs.Common.{◌≡◌, ◌≢◌, ◌⊎◌, inl, inr, ℕ, zero, suc, ◌-◌, ◌<◌, Bool, true, false, ◌&&◌, cond, eqb, List, [], ◌∷◌, ◌++◌, length, take, replicate}
use Rattle.std.proofs.Common.{Option, Some, None, refl, sym, ap, subst, ◌∙◌, arith, append-nil}
use Rattle.std.specs.Prelude.{codes, ◌^◌, IfSome, nat_le}
use Rattle.std.specs.{Borrow.Bor, Option.option_map, Char.is_whitespace, Fmt.decimal}
use Rattle.kmip_ttlv_util.specs.{TagNames.named, Pending.pending_text, Pending.last_text, declared.indentation.Indentation.Indentation}
use Rattle.kmip_ttlv_util.specs.{declared.indentation.Indentation.TheVariants.Full, declared.indentation.Indentation.TheVariants.Bounded, Outlines.hex_upper}
use Rattle.std.specs.Str.{IsUtf8, IsAscii, is_utf8, chars, drop_trailing_whitespace, trim_end, encode_utf8_all}
use Rattle.std.proofs.lemmas.Str.{IsUtf8-append, IsUtf8-from_ascii, IsUtf8-from_is_utf8, IsUtf8-nil, chars-append, chars-IsAscii, chars-nil, length-le-encodes}
use lib.Utf8.{encode}
use Rattle.std.proofs.lemmas.{Bool.ne_eqb, Str.Ascii.IsAscii-nil, Str.Ascii.IsAscii-cons, Fmt.IsAscii-decimal}
use Rattle.kmip_ttlv_types.specs.{declared.typ.TtlvType.TtlvType, declared.typ.TtlvType.TheVariants.Structure, TypeTexts.type_text}
use Rattle.kmip_ttlv_util.specs.Lines.{at_least, hex_padded, indent, tag_named, part_of, depth_mark, bounded_part, indented}
use Rattle.kmip_ttlv_util.proofs.Trimmed.{AllVisible, ascii_one, Ends, ends_behind, keeps, last_visible, hex_visible}

-- a text that ends with a visible character
abbrev pub Solid : List ℕ → Type 0
Solid t = Ends t × IsUtf8 t

-- or is empty
abbrev pub IsFirm : List ℕ → Type 0
IsFirm t = (t ≡ []) ⊎ Solid t

-- a firm text is UTF-8
pub firm_utf8 : (t : List ℕ) → IsFirm t → IsUtf8 t
firm_utf8 t (inl e) = subst IsUtf8 (sym e) IsUtf8-nil
firm_utf8 t (inr f) = f.1

-- and an empty text stays empty
pub firm_keeps : (q more : List ℕ) → IsFirm q → trim_end (q ++ more) ≡ q ++ trim_end more
firm_keeps q more (inl e) = rw e refl
firm_keeps q more (inr f) = keeps q more f.0 f.1

-- nothing is left of an empty text
pub trim_nil : trim_end [] ≡ []
unfolding trim_end
trim_nil = ap (λ (s : List ℕ). encode_utf8_all (drop_trailing_whitespace s)) chars-nil

-- a trailing line feed is dropped
drop_feed : (xs : List ℕ) → drop_trailing_whitespace (xs ++ (10 ∷ [])) ≡ drop_trailing_whitespace xs
drop_feed [] = refl
drop_feed (x ∷ xs) = ap (λ (r : List ℕ). cond (is_whitespace x && eqb (length r) 0) [] (x ∷ r)) (drop_feed xs)

-- a space before a text, unless it is empty
abbrev spaced : List ℕ → List ℕ
spaced [] = []
spaced (c ∷ s) = 32 ∷ c ∷ s

spaced_some : (s : List ℕ) → length s ≢ 0 → spaced s ≡ 32 ∷ s
spaced_some [] some = absurd (some refl)
spaced_some (c ∷ s) some = refl

-- the same for characters
drop_spaced : (d : List ℕ) → encode_utf8_all (cond (true && eqb (length d) 0) [] (32 ∷ d)) ≡ spaced (encode_utf8_all d)
unfolding encode
drop_spaced [] = refl
drop_spaced (c ∷ d) =
    let some : length (encode_utf8_all (c ∷ d)) ≢ 0 = λ h. omega (arith, h, length-le-encodes (c ∷ d)) in
    rw (ne_eqb (suc (length d)) 0 (omega arith)) (sym (spaced_some (encode_utf8_all (c ∷ d)) some))

-- a text between a space and a line feed
trim_spaced : (v : List ℕ) → IsUtf8 v → trim_end (32 ∷ (v ++ (10 ∷ []))) ≡ spaced (trim_end v)
unfolding trim_end
trim_spaced v utf8 =
    let space : IsAscii (32 ∷ []) = ascii_one 32 (omega arith) in
    let feed : IsAscii (10 ∷ []) = ascii_one 10 (omega arith) in
    rw (chars-append (32 ∷ []) (v ++ (10 ∷ [])) (IsUtf8-from_ascii (32 ∷ []) space), chars-IsAscii (32 ∷ []) space, chars-append v (10 ∷ []) utf8)
    (rw (chars-IsAscii (10 ∷ []) feed, drop_feed (chars v)) (drop_spaced (drop_trailing_whitespace (chars v))))

-- what follows `Data:`
last_spaced : (s : List ℕ) → codes ", Data:" ++ spaced s ≡ last_text true s
last_spaced [] = refl
last_spaced (c ∷ s) = refl

-- `, Data:` ends with a visible character
colon_ends : Ends (codes ", Data:")
colon_ends = record { front = codes ", Data"; last = 58; is = refl; visible = record { above = omega arith; below = omega arith } }

colon_utf8 : IsUtf8 (codes ", Data:")
unfolding is_utf8 chars encode
colon_utf8 = IsUtf8-from_is_utf8 (codes ", Data:") refl

-- the end of a line, trimmed
pub trim_pending : (q : List ℕ) (pending : Bool) (shown : List ℕ) → IsFirm q → IsUtf8 shown
    → trim_end (q ++ pending_text pending shown) ≡ q ++ last_text pending (trim_end shown)
trim_pending q false shown firm utf8 = rw (firm_keeps q [] firm, trim_nil) refl
trim_pending q true shown firm utf8 = firm_keeps q (codes ", Data: " ++ (shown ++ (10 ∷ []))) firm
    ∙ ap (λ (s : List ℕ). q ++ s) (keeps (codes ", Data:") (32 ∷ (shown ++ (10 ∷ []))) colon_ends colon_utf8 ∙ rw (trim_spaced shown utf8)
    (last_spaced (trim_end shown)))

-- the pending end of a line, if there is one
pub is_pending : (pending : Bool) (shown : List ℕ) → pending ≡ true → codes ", Data: " ++ (shown ++ (10 ∷ [])) ≡ pending_text pending shown
is_pending true shown e = refl
is_pending false shown e = absurd cc

pub is_bare : (pending : Bool) (s trimmed : List ℕ) → pending ≡ true → s ≡ trimmed → length s ≡ 0 → codes ", Data:" ≡ last_text pending trimmed
is_bare true [] trimmed e same none = rw (← same) refl
is_bare true (c ∷ s) trimmed e same none = absurd (omega (arith, none))
is_bare false s trimmed e same none = absurd cc

pub is_last : (pending : Bool) (s trimmed : List ℕ) → pending ≡ true → s ≡ trimmed → length s ≢ 0 → codes ", Data: " ++ s ≡ last_text pending trimmed
is_last true [] trimmed e same some = absurd (some refl)
is_last true (c ∷ s) trimmed e same some = rw (← same) refl
is_last false s trimmed e same some = absurd cc

-- the pending end of a line is UTF-8
pub pending_utf8 : (pending : Bool) (shown : List ℕ) → IsUtf8 shown → IsUtf8 (pending_text pending shown)
unfolding is_utf8 chars encode
pending_utf8 false shown utf8 = IsUtf8-nil
pending_utf8 true shown utf8 = IsUtf8-append (codes ", Data: ") (shown ++ (10 ∷ [])) (IsUtf8-from_is_utf8 (codes ", Data: ") refl)
    (IsUtf8-append shown (10 ∷ []) utf8 (IsUtf8-from_is_utf8 (10 ∷ []) refl))

-- trimming leaves a firm text alone
pub firm_trimmed : (q : List ℕ) → IsFirm q → trim_end q ≡ q
firm_trimmed q firm = ap trim_end (sym (append-nil q)) ∙ firm_keeps q [] firm ∙ ap (λ (s : List ℕ). q ++ s) trim_nil ∙ append-nil q

-- ---- the beginnings of lines

-- a text after another
pub solid_behind : (xs t : List ℕ) → IsUtf8 xs → Solid t → Solid (xs ++ t)
solid_behind xs t utf8 s = (ends_behind xs t s.0, IsUtf8-append xs t utf8 s.1)

-- visible characters are ASCII
visible_ascii : (ds : List ℕ) → AllVisible ds → IsAscii ds
visible_ascii [] all = IsAscii-nil
visible_ascii (d ∷ ds) all = IsAscii-cons d ds all.0.below (visible_ascii ds all.1)

-- so one or more of them are a solid text
seen : (d : ℕ) (ds : List ℕ) → AllVisible (d ∷ ds) → Solid (d ∷ ds)
seen d ds all = (last_visible d ds all, IsUtf8-from_ascii (d ∷ ds) (visible_ascii (d ∷ ds) all))

zeros_visible : (k : ℕ) (ds : List ℕ) → AllVisible ds → AllVisible (replicate k 48 ++ ds)
zeros_visible zero ds all = all
zeros_visible (suc k) ds all = (record { above = omega arith; below = omega arith }, zeros_visible k ds all)

-- a tag's digits
hex_solid : (least n : ℕ) → Solid (hex_padded least n)
unfolding at_least
hex_solid least n = seen 48 _ (
  record { above = omega arith; below = omega arith },
  (record { above = omega arith; below = omega arith }, zeros_visible (least - length (hex_upper n)) (hex_upper n) (hex_visible n)),
)

-- after a name
tag_solid : (least : ℕ) (name : Option (Bor (List ℕ))) (tag : ℕ) → IfSome name (λ s. IsUtf8 s.now) → Solid (tag_named least (option_map (λ s. s.now) name) tag)
unfolding is_utf8 chars encode
tag_solid least None tag text = hex_solid least tag
tag_solid least (Some name) tag text = solid_behind name.now _ text (solid_behind (codes " (") _ (IsUtf8-from_is_utf8 (codes " (") refl)
    (solid_behind (hex_padded least tag) (codes ")") ((hex_solid least tag).1) (seen 41 [] (record { above = omega arith; below = omega arith }, tt))))

indent_ascii : (depth : ℕ) → IsAscii (indent depth)
indent_ascii zero = IsAscii-nil
indent_ascii (suc d) = IsAscii-cons 32 (32 ∷ indent d) (omega arith) (IsAscii-cons 32 (indent d) (omega arith) (indent_ascii d))

module _ (names : ℕ → Option (List ℕ)) (tag : ℕ) (solid : (least : ℕ) → Solid (tag_named least (names tag) tag)) where
  -- a line up to its tag
  part_solid : (least depth : ℕ) → Solid (part_of least names depth tag)
  unfolding is_utf8 chars encode
  part_solid least depth = solid_behind (indent depth) _ (IsUtf8-from_ascii (indent depth) (indent_ascii depth))
      (solid_behind (codes "Tag: ") _ (IsUtf8-from_is_utf8 (codes "Tag: ") refl) (solid least))

  mark_utf8 : (depth : ℕ) → depth < 2 ^ 64 → IsUtf8 (depth_mark depth)
  unfolding is_utf8 chars encode depth_mark
  mark_utf8 depth small =
      IsUtf8-append (indent 64) _ (IsUtf8-from_ascii (indent 64) (indent_ascii 64)) (IsUtf8-append (codes "[") _ (IsUtf8-from_is_utf8 (codes "[") refl)
      (IsUtf8-append (decimal depth) (codes "] ") (IsUtf8-from_ascii (decimal depth) (IsAscii-decimal depth small))
      (IsUtf8-from_is_utf8 (codes "] ") refl)))

  either_solid : (b : Bool) (s t : List ℕ) → Solid s → Solid t → Solid (cond b s t)
  either_solid true s t p q = p
  either_solid false s t p q = q

  pub beginning_solid : (indentation : Indentation) (depth : ℕ) → depth < 2 ^ 64 → Solid (indented indentation names depth tag)
  unfolding bounded_part
  beginning_solid Full depth small = part_solid 4 depth
  beginning_solid Bounded depth small = either_solid _ _ _ (part_solid 6 depth) (solid_behind (depth_mark depth) _ (mark_utf8 depth small) (part_solid 6 0))

-- a type
typed : (words : List ℕ) → words ≡ take (length words - 1) words ++ (41 ∷ []) → is_utf8 words ≡ true → Solid words
typed words is text = (
  record { front = take (length words - 1) words; last = 41; is = is; visible = record { above = omega arith; below = omega arith } },
  IsUtf8-from_is_utf8 words text,
)

type_solid : (typ : TtlvType) → Solid (codes ", Type: " ++ type_text typ)
unfolding is_utf8 chars encode
type_solid Structure = typed (codes ", Type: " ++ type_text Structure) refl refl
type_solid typ = typed (codes ", Type: " ++ type_text typ) refl refl

-- names that agree on a tag give its line the same beginning
pub same_beginning : (names names' : ℕ → Option (List ℕ)) (indentation : Indentation) (depth tag : ℕ) → names tag ≡ names' tag
    → indented indentation names depth tag ≡ indented indentation names' depth tag
unfolding bounded_part
same_beginning names names' Full depth tag same = ap (λ (o : Option (List ℕ)). indent depth ++ (codes "Tag: " ++ tag_named 4 o tag)) same
same_beginning names names' Bounded depth tag same = ap (λ (o : Option (List ℕ)). cond (nat_le depth 64) (indent depth ++ (codes "Tag: " ++ tag_named 6 o tag))
    (depth_mark depth ++ (indent 0 ++ (codes "Tag: " ++ tag_named 6 o tag)))) same

-- a line up to its tag
pub record Begun (beginning : ℕ → ℕ → List ℕ) (depth tag : ℕ) (text : List ℕ) : Type 0 where
  pub is : text ≡ beginning depth tag
  pub solid : Solid text

-- with the name that was found
pub begun : (indentation : Indentation) (names : ℕ → Option (List ℕ)) (name : Option (Bor (List ℕ))) (depth tag : ℕ) → depth < 2 ^ 64
    → named name tag ≡ names tag → IfSome name (λ s. IsUtf8 s.now)
    → Begun (indented indentation names) depth tag (indented indentation (named name) depth tag)
begun indentation names name depth tag small same text = record {
  is = same_beginning (named name) names indentation depth tag same;
  solid = beginning_solid (named name) tag (λ least. tag_solid least name tag text) indentation depth small;
}

-- and up to its type
pub typed_solid : {text : List ℕ} (typ : TtlvType) → Solid text → Solid (text ++ (codes ", Type: " ++ type_text typ))
typed_solid {text} typ solid = solid_behind text _ solid.1 (type_solid typ)
