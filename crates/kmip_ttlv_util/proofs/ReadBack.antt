-- A diagnostic is read back as its outline's lines.
use Rattle.std.proofs.Common.{◌≡◌, ◌≢◌, ℕ, suc, ◌+◌, ◌*◌, ◌/◌, ◌%◌, ◌<◌, ◌≤◌, ◌^◌, Bool, true, false, not, ◌&&◌, eqb, ltb, List, [], ◌∷◌, ◌++◌, length, take}
use Rattle.std.proofs.Common.{drop, Option, Some, None, refl, sym, ap, subst, ◌∙◌, arith, append_assoc, append-nil, length-append, ◌⊎◌, inl, inr}
use Rattle.std.specs.List.{AllByRecursion, prefix_len, position_or_len}
use Rattle.std.specs.{Char.digit_value, Char.is_digit, Fmt.digit_glyph, Str.Parse.digits_value, Str.Parse.without_leading_plus}
use Rattle.std.proofs.lemmas.{Fmt.digits_is_IsNumeral, List.take_at, List.drop_at}
use Rattle.std.proofs.lemmas.Bool.{lt-ltb, le-ltb, le-leb, lt-leb, ne_eqb, and_right}
use Rattle.kmip_ttlv_types.specs.declared.typ.TtlvType.{TtlvType, TheVariants.Structure, TheVariants.Enumeration}
use Rattle.kmip_ttlv_types.specs.Names.{tag_of, number, numeral, without_0x, all_digits}
use Rattle.kmip_ttlv_types.specs.Digits.{six_digits}
use Rattle.kmip_ttlv_util.specs.Outlines.{Outline, Outlines, leaf_outline, node_outline, no_outlines, outline, IsShown, IsOutline, AreOutlines, hex_upper}
use Rattle.kmip_ttlv_util.specs.Outlines.{stripped, value_text, mark, diag, diag_all}
use Rattle.kmip_ttlv_util.specs.{Letters.letter, Letters.is_hex, Lines.line}
use Rattle.kmip_ttlv_util.specs.Undiag.{reads_on, value_step, data_step, tag_step, digits_step, step, undiag_from, undiag_lines}
use Rattle.kmip_ttlv_util.specs.ReadBack.{lines_all, shown, lines, HasPrefix, AllBegin, AllsBegin}
use Rattle.kmip_ttlv_util.proofs.{Texts.stripped_some, Reading.text_at, Reading.part_read, HexDigits.glyph_cases, Letters.letter_back}
use Rattle.kmip_ttlv_util.proofs.Unique.{AllDigits, hex_digits, glyph_digit, six_each}

-- a number has at least one digit
pub hex_some : (n : ℕ) → n < 2 ^ 32 → 0 < length (hex_upper n)
hex_some n small = (digits_is_IsNumeral 16 true (omega arith) (omega arith) n (omega arith)).0.0

module _ (beginning : ℕ → ℕ → List ℕ) where
  -- how far a test holds
  span : (q : ℕ → Bool) (ds s : List ℕ) (c : ℕ) → AllByRecursion (λ d. q d ≡ true) ds → q c ≡ false → prefix_len q (ds ++ (c ∷ s)) ≡ length ds
  span q [] s c all e = rw e refl
  span q (d ∷ ds) s c all e = let k = span q ds s c all.1 e in rw all.0 (omega (arith, k))

  -- ---- the six digits are the tag

  -- a digit's value
  glyph_value : (d : ℕ) → d < 16 → digit_value (digit_glyph true d) ≡ d
  glyph_value d small = glyph_cases (λ c. digit_value c ≡ d) d (λ lt. rw (le-ltb (48 + d) 48 (omega arith), lt-ltb (48 + d) 58 (omega arith)) (omega arith))
      (λ le. rw (le-ltb (55 + d) 48 (omega arith), le-ltb (55 + d) 58 (omega arith), le-ltb (55 + d) 65 (omega arith), lt-ltb (55 + d) 91 (omega arith))
      (omega arith))

  -- a digit is not below `0`
  glyph_low : (d : ℕ) → d < 16 → 48 ≤ digit_glyph true d
  glyph_low d small = glyph_cases (λ c. 48 ≤ c) d (λ lt. omega arith) (λ le. omega arith)

  -- a digit is hexadecimal
  glyph_hex : (d : ℕ) → d < 16 → is_hex (digit_glyph true d) ≡ true
  glyph_hex d small = glyph_cases (λ c. is_hex c ≡ true) d (λ lt. rw (le-leb 48 (48 + d) (omega arith), le-leb (48 + d) 57 (omega arith)) refl)
      (λ le. rw (le-leb 48 (55 + d) (omega arith), lt-leb (55 + d) 57 (omega arith), le-leb 65 (55 + d) (omega arith), le-leb (55 + d) 70 (omega arith)) refl)

  abbrev AllHex : List ℕ → Type 0
  AllHex ds = AllByRecursion (λ d. is_hex d ≡ true) ds

  -- six digits are hexadecimal
  six_hex : (n : ℕ) → AllHex (six_digits n)
  six_hex n = six_each _ glyph_hex n

  -- six digits are the tag
  six_value : (n : ℕ) → n < 2 ^ 24 → digits_value 16 (six_digits n) ≡ n
  unfolding six_digits
  six_value n small =
      let a : n ≡ 16 * (n / 16) + n % 16 = omega arith in
      let b : n / 16 ≡ 16 * (n / 256) + n / 16 % 16 = omega arith in
      let c : n / 256 ≡ 16 * (n / 4096) + n / 256 % 16 = omega arith in
      let d : n / 4096 ≡ 16 * (n / 65536) + n / 4096 % 16 = omega arith in
      let e : n / 65536 ≡ 16 * (n / 1048576) + n / 65536 % 16 = omega arith in
      let f : n / 1048576 % 16 ≡ n / 1048576 = omega arith in
      rw (glyph_value (n / 1048576 % 16) (omega arith), glyph_value (n / 65536 % 16) (omega arith), glyph_value (n / 4096 % 16) (omega arith))
      (rw (glyph_value (n / 256 % 16) (omega arith), glyph_value (n / 16 % 16) (omega arith), glyph_value (n % 16) (omega arith)) (omega arith))

  -- a digit's value is below sixteen
  glyph_is : (d : ℕ) → d < 16 → is_digit (digit_glyph true d) 16 ≡ true
  glyph_is d small = rw (glyph_value d small, lt-ltb d 16 small) refl

  -- two tests that hold
  both_true : (a b : Bool) → a ≡ true → b ≡ true → (a && b) ≡ true
  both_true a b e f = rw (e, f) refl

  -- six digits' values are
  six_all_digits : (n : ℕ) → all_digits 16 (six_digits n) ≡ true
  unfolding six_digits
  six_all_digits n = both_true _ _ (glyph_is (n / 1048576 % 16) (omega arith)) (both_true _ _ (glyph_is (n / 65536 % 16) (omega arith))
      (both_true _ _ (glyph_is (n / 4096 % 16) (omega arith)) (both_true _ _ (glyph_is (n / 256 % 16) (omega arith))
      (both_true _ _ (glyph_is (n / 16 % 16) (omega arith)) (both_true _ _ (glyph_is (n % 16) (omega arith)) refl)))))

  -- digits are a numeral
  numeral_is : (ds : List ℕ) (n : ℕ) → 0 < length ds → all_digits 16 ds ≡ true → digits_value 16 ds ≡ n → n < 2 ^ 24 → numeral ds ≡ Some n
  numeral_is ds n some all is small = rw (lt-ltb 0 (length ds) some, all, is, lt-ltb n (2 ^ 32) (omega arith)) refl

  -- digits are the name of a tag
  named : (a b n : ℕ) (ds : List ℕ) → a ≢ 43 → b ≢ 120 → all_digits 16 (a ∷ b ∷ ds) ≡ true → digits_value 16 (a ∷ b ∷ ds) ≡ n → n < 2 ^ 24
      → tag_of (48 ∷ 120 ∷ a ∷ b ∷ ds) ≡ Some n
  unfolding tag_of number
  named a b n ds plus x all is small =
      let plain : without_0x (a ∷ b ∷ ds) ≡ a ∷ b ∷ ds = rw (ne_eqb b 120 x, and_right (eqb a 48) false refl) refl in
      let bare : without_leading_plus (a ∷ b ∷ ds) ≡ a ∷ b ∷ ds = rw (ne_eqb a 43 plus) refl in
      rw (plain, bare, numeral_is (a ∷ b ∷ ds) n (omega arith) all is small, lt-ltb n (2 ^ 24) small) refl

  -- a digit is no other character
  glyph_ne : (d x : ℕ) → d < 16 → (x < 48) ⊎ (70 < x) → digit_glyph true d ≢ x
  glyph_ne d x small out e =
      let g = glyph_digit d small in
      let low = glyph_low d small in
      elim out [ inl h ↦ omega (arith, e, h, low) | inr h ↦ omega (arith, e, h, g.0) ]

  -- six digits are the name of their tag
  pub six_tag : (n : ℕ) → n < 2 ^ 24 → tag_of (48 ∷ 120 ∷ six_digits n) ≡ Some n
  unfolding six_digits
  six_tag n small = named (digit_glyph true (n / 1048576 % 16)) (digit_glyph true (n / 65536 % 16)) n _
      (glyph_ne (n / 1048576 % 16) 43 (omega arith) (inl (omega arith))) (glyph_ne (n / 65536 % 16) 120 (omega arith) (inr (omega arith))) (six_all_digits n)
      (six_value n small) small

  -- ---- one part

  -- a digit is no `]`
  hex_ne : (d : ℕ) → is_hex d ≡ true → d ≢ 93
  hex_ne d h e = let k : is_hex 93 ≡ true = ap is_hex (sym e) ∙ h in cc

  -- a step over digits and a letter
  step_digits : (prefix : List ℕ) (depth : ℕ) (ds s : List ℕ) (c : ℕ) → AllHex ds → is_hex c ≡ false → c ≢ 93
      → step beginning prefix depth (ds ++ (c ∷ s)) ≡ tag_step beginning depth (c ∷ s) (tag_of (48 ∷ 120 ∷ (prefix ++ ds)))
  unfolding step
  step_digits prefix depth [] s c all none ne = rw (ne_eqb c 93 ne, none) refl
  step_digits prefix depth (d ∷ ds) s c all none ne =
      rw (ne_eqb d 93 (hex_ne d all.0)) (ap (digits_step beginning prefix depth (d ∷ (ds ++ (c ∷ s)))) (span is_hex (d ∷ ds) s c all none)
      ∙ rw (drop_at (d ∷ ds) (c ∷ s) (length (d ∷ ds)) refl, take_at (d ∷ ds) (c ∷ s) (length (d ∷ ds)) refl) refl)

  -- a letter is no digit and no `]`
  letter_no : (t : TtlvType) → (is_hex (letter t) ≡ false) × (letter t ≢ 93)
  letter_no Structure = (refl, λ e. omega (arith, e))
  letter_no typ = (refl, λ e. omega (arith, e))

  -- the tag's digits begin with the prefix
  pub record Starts (prefix : List ℕ) (tag : ℕ) : Type 0 where
    pub rest : List ℕ
    pub is : six_digits tag ≡ prefix ++ rest
    pub cut : stripped prefix (six_digits tag) ≡ rest

  -- what is left of the six digits
  starts : (prefix : List ℕ) (tag : ℕ) → HasPrefix prefix (six_digits tag) → Starts prefix tag
  starts prefix tag b =
      let back : drop (length prefix) (six_digits tag) ≡ b.0 = ap (drop (length prefix)) b.1 ∙ drop_at prefix b.0 (length prefix) refl in
      let whole : six_digits tag ≡ prefix ++ drop (length prefix) (six_digits tag) = b.1 ∙ ap (λ (r : List ℕ). prefix ++ r) (sym back) in
      record { rest = b.0; is = b.1; cut = sym (stripped_some prefix (six_digits tag) (length prefix) refl whole) ∙ back }

  -- what follows digits is digits
  all_right : (xs ys : List ℕ) → AllHex (xs ++ ys) → AllHex ys
  all_right [] ys all = all
  all_right (x ∷ xs) ys all = all_right xs ys all.1

  -- a step over a mark
  mark_step : (prefix : List ℕ) (depth tag : ℕ) (typ : TtlvType) (v : Option ℕ) (s : List ℕ) → tag < 2 ^ 24 → Starts prefix tag
      → step beginning prefix depth (mark prefix tag typ v ++ s) ≡ data_step beginning depth tag typ (value_text v ++ s)
  unfolding mark
  mark_step prefix depth tag typ v s small st =
      let all : AllHex st.rest = all_right prefix st.rest (subst AllHex st.is (six_hex tag)) in
      let out = letter_no typ in
      rw (append_assoc, st.cut, step_digits prefix depth st.rest (value_text v ++ s) (letter typ) all out.0 out.1, ← st.is, six_tag tag small, letter_back typ)
      refl

  -- an enumeration's value
  not_colon : (ds : List ℕ) → AllDigits ds → AllByRecursion (λ d. not (eqb d 58) ≡ true) ds
  not_colon [] all = tt
  not_colon (d ∷ ds) all = (rw (ne_eqb d 58 all.0.1) refl, not_colon ds all.1)

  -- a value that was found
  chosen : (depth tag : ℕ) (xs : List ℕ) (n : ℕ) (ds s : List ℕ) → ltb 0 n ≡ true → ltb n (length xs) ≡ true → take n xs ≡ ds → drop (n + 1) xs ≡ s
      → value_step beginning depth tag xs n ≡ reads_on (line beginning depth tag Enumeration ds) depth s
  chosen depth tag xs n ds s a b front back = rw (a, b, front, back) refl

  -- a step over an enumeration's value
  value_back : (depth tag : ℕ) (ds s : List ℕ) → 0 < length ds → AllDigits ds → data_step beginning depth tag Enumeration ((ds ++ (58 ∷ [])) ++ s) ≡ reads_on
      (line beginning depth tag Enumeration ds) depth s
  value_back depth tag [] s some all = absurd (omega arith)
  value_back depth tag (d ∷ ds) s some all =
      let xs = (d ∷ ds) ++ (58 ∷ s) in
      let at : position_or_len (λ b. eqb b 58) xs ≡ length (d ∷ ds) = span (λ b. not (eqb b 58)) (d ∷ ds) s 58 (not_colon (d ∷ ds) all) refl in
      let front : take (length (d ∷ ds)) xs ≡ d ∷ ds = take_at (d ∷ ds) (58 ∷ s) (length (d ∷ ds)) refl in
      let back : drop (length (d ∷ ds) + 1) xs ≡ s = ap (drop (length (d ∷ ds) + 1)) (sym (append_assoc (d ∷ ds) (58 ∷ []) s))
      ∙ drop_at ((d ∷ ds) ++ (58 ∷ [])) s (length (d ∷ ds) + 1) (length-append (d ∷ ds) (58 ∷ [])) in
      let a : ltb 0 (length (d ∷ ds)) ≡ true = lt-ltb 0 (length (d ∷ ds)) some in
      let b : ltb (length (d ∷ ds)) (length xs) ≡ true = lt-ltb (length (d ∷ ds)) (length xs) (omega (arith, length-append (d ∷ ds) (58 ∷ s))) in
      ap (data_step beginning depth tag Enumeration) (append_assoc (d ∷ ds) (58 ∷ []) s) ∙ ap (value_step beginning depth tag xs) at
      ∙ chosen depth tag xs (length (d ∷ ds)) (d ∷ ds) s a b front back

  -- ---- outlines

  -- a step over a leaf
  leaf_data : (depth tag : ℕ) (typ : TtlvType) (v : Option ℕ) (c : ℕ) (s : List ℕ) → IsShown typ v → data_step beginning depth tag typ (value_text v ++ (c ∷ s))
      ≡ reads_on (line beginning depth tag typ (shown typ v)) depth (c ∷ s)
  leaf_data depth tag Structure v c s k = absurd k
  leaf_data depth tag Enumeration None c s k = absurd k
  leaf_data depth tag Enumeration (Some n) c s k = value_back depth tag (hex_upper n) (c ∷ s) (hex_some n k) (hex_digits n)
  leaf_data depth tag typ None c s k = refl
  leaf_data depth tag typ (Some n) c s k = absurd k

  -- a `]` goes up a level
  close_goes : (prefix : List ℕ) (depth : ℕ) (s : List ℕ) → step beginning prefix (suc depth) (93 ∷ s) ≡ reads_on [] depth s
  unfolding step
  close_goes prefix depth s = refl

  -- an opening goes down a level
  open_goes : (prefix : List ℕ) (depth tag : ℕ) (s : List ℕ) → 0 < length s → tag < 2 ^ 24 → Starts prefix tag
      → step beginning prefix depth (mark prefix tag Structure None ++ s) ≡ reads_on (line beginning depth tag Structure []) (suc depth) s
  open_goes prefix depth tag [] some small st = absurd (omega arith)
  open_goes prefix depth tag (c ∷ s) some small st = mark_step prefix depth tag Structure None (c ∷ s) small st

  -- a leaf stays on its level
  leaf_goes : (prefix : List ℕ) (depth tag : ℕ) (typ : TtlvType) (v : Option ℕ) (s : List ℕ) → 0 < length s → tag < 2 ^ 24 → Starts prefix tag → IsShown typ v
      → step beginning prefix depth (mark prefix tag typ v ++ s) ≡ reads_on (line beginning depth tag typ (shown typ v)) depth s
  leaf_goes prefix depth tag typ v [] some small st k = absurd (omega arith)
  leaf_goes prefix depth tag typ v (c ∷ s) some small st k = mark_step prefix depth tag typ v (c ∷ s) small st ∙ leaf_data depth tag typ v c s k

  -- a leaf is followed by a character
  abbrev Followed : Outline → List ℕ → Type 0
  Followed (leaf_outline tag typ v) s = 0 < length s
  Followed (node_outline tag below) s = Unit {0}

  followed : (o : Outline) (s : List ℕ) → 0 < length s → Followed o s
  followed (leaf_outline tag typ v) s some = some
  followed (node_outline tag below) s some = tt

  mutual
    read_back : (o : Outline) (prefix : List ℕ) (depth : ℕ) (s : List ℕ) → Followed o s → IsOutline o → AllBegin prefix o
        → text_at beginning prefix depth (diag prefix o ++ s) ≡ lines beginning depth o ++ text_at beginning prefix depth s
    read_back (leaf_outline tag typ v) prefix depth s some io st =
        part_read beginning prefix depth _ (leaf_goes prefix depth tag typ v s some io.0 (starts prefix tag st) io.1)
    read_back (node_outline tag below) prefix depth s some io st =
        let rest = diag_all prefix below ++ (93 ∷ s) in
        let regroup : diag prefix (node_outline tag below) ++ s ≡ mark prefix tag Structure None ++ rest = simp append_assoc in
        let opens = open_goes prefix depth tag rest (omega (arith, length-append (diag_all prefix below) (93 ∷ s))) io.0 (starts prefix tag st.0) in
        let shuts = part_read beginning prefix (suc depth) _ (close_goes prefix depth s) in
        rw (regroup, part_read beginning prefix depth _ opens, backs below prefix (suc depth) (93 ∷ s) (omega arith) io.1 st.1, shuts)
        (sym (append_assoc (line beginning depth tag Structure []) _ _))

    backs : (os : Outlines) (prefix : List ℕ) (depth : ℕ) (s : List ℕ) → 0 < length s → AreOutlines os → AllsBegin prefix os
        → text_at beginning prefix depth (diag_all prefix os ++ s) ≡ lines_all beginning depth os ++ text_at beginning prefix depth s
    backs no_outlines prefix depth s some io st = refl
    backs (outline o os) prefix depth s some io st =
        let first = read_back o prefix depth (diag_all prefix os ++ s) (followed o _ (omega (arith, length-append (diag_all prefix os) s))) io.0 st.0 in
        rw (append_assoc (diag prefix o) (diag_all prefix os) s, first, backs os prefix depth s some io.1 st.1)
        (sym (append_assoc (lines beginning depth o) _ _))

  -- nothing is left of an empty text
  text_none : (prefix : List ℕ) → text_at beginning prefix 0 [] ≡ []
  unfolding undiag_from step
  text_none prefix = refl

  -- a message's diagnostic is read back as its outline's lines
  pub undiag_message : (tag : ℕ) (below : Outlines) (prefix : List ℕ) → IsOutline (node_outline tag below) → AllBegin prefix (node_outline tag below)
      → undiag_lines beginning prefix (diag prefix (node_outline tag below)) ≡ lines beginning 0 (node_outline tag below)
  unfolding undiag_lines
  undiag_message tag below prefix io st =
      ap (text_at beginning prefix 0) (sym (append-nil (diag prefix (node_outline tag below)))) ∙ read_back (node_outline tag below) prefix 0 [] tt io st
      ∙ ap (λ (r : List ℕ). lines beginning 0 (node_outline tag below) ++ r) (text_none prefix) ∙ append-nil (lines beginning 0 (node_outline tag below))
