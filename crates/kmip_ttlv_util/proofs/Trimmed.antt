-- Lines trimmed at the end: after a visible last character, trimming drops only the line feed.
use Rattle.std.proofs.Common.{◌≡◌, ◌≢◌, ℕ, zero, suc, ◌-◌, ◌<◌, ◌≤◌, Bool, true, false, ◌&&◌, cond, eqb, List, [], ◌∷◌, ◌++◌, length, get_or, Option, Some}
use Rattle.std.proofs.Common.{None, refl, sym, ap, subst, ◌∙◌, arith, append_assoc, append-nil, length-append, String}
use Rattle.std.specs.Prelude.{codes, Result, Ok, Err, IfOk, string_bytes}
use Rattle.std.specs.{List.AllByRecursion, Char.is_whitespace, Fmt.digit_glyph}
use Rattle.std.specs.Str.{IsUtf8, IsAscii, chars, drop_trailing_whitespace, trim_end, encode_utf8_all}
use Rattle.std.proofs.lemmas.Str.{IsUtf8-take, IsCharBoundary-before_ascii, chars-append, chars-IsAscii, encodes-chars, encodes-append}
use Rattle.std.proofs.lemmas.Bool.{ne_eqb, lt-ltb, le-ltb}
use Rattle.std.proofs.lemmas.List.{take_at, get_or-append_right}
use Rattle.kmip_ttlv_types.specs.declared.typ.TtlvType.{TtlvType, TheVariants.Structure, TheVariants.Enumeration}
use Rattle.kmip_ttlv_util.specs.Outlines.{Outline, Outlines, leaf_outline, node_outline, no_outlines, outline, IsShown, IsOutline, AreOutlines, diag, hex_upper}
use Rattle.kmip_ttlv_util.specs.Lines.{tag_part, typ_part, line, hidden}
use Rattle.kmip_ttlv_util.specs.ReadBack.{shown, lines, AllBegin, IsNode, NoneEmpty, AllNoneEmpty, IsReadBack, lines_all}
use Rattle.kmip_ttlv_util.specs.Undiag.{undiag, undiag_lines}
use Rattle.kmip_ttlv_util.proofs.{ReadBack.undiag_message, ReadBack.hex_some, HexDigits.glyph_cases, Unique.hex_each}

-- ---- a visible character before a line feed

-- a visible ASCII character of the range that lines end with
pub record Visible (c : ℕ) : Type 0 where
  pub above : 33 ≤ c
  pub below : c < 128

-- a visible character is no white space
pub visible_dark : (c : ℕ) → Visible c → is_whitespace c ≡ false
visible_dark c v =
    rw (le-ltb c 14 (omega arith), lt-ltb 8 c (omega arith), ne_eqb c 32 (omega arith), ne_eqb c 133 (omega arith), ne_eqb c 160 (omega arith))
    (rw (ne_eqb c 5760 (omega arith), le-ltb 8191 c (omega arith), ne_eqb c 8232 (omega arith), ne_eqb c 8233 (omega arith))
    (rw (ne_eqb c 8239 (omega arith), ne_eqb c 8287 (omega arith), ne_eqb c 12288 (omega arith)) refl))

-- a character that others follow is kept
pub stays_on : (b : Bool) (n z : ℕ) (rest : List ℕ) → n ≢ 0 → cond (b && eqb n 0) [] (z ∷ rest) ≡ z ∷ rest
stays_on true n z rest ne = rw (ne_eqb n 0 ne) refl
stays_on false n z rest ne = refl

-- one ASCII character
pub ascii_one : (c : ℕ) → c < 128 → IsAscii (c ∷ [])
ascii_one c lt zero = lt
ascii_one c lt (suc i) = omega arith

-- what precedes an ASCII character is UTF-8
pub front_utf8 : (xs : List ℕ) (c : ℕ) (ys : List ℕ) → IsUtf8 (xs ++ (c ∷ ys)) → c < 128 → IsUtf8 xs
front_utf8 xs c ys utf8 lt =
    let bs = xs ++ (c ∷ ys) in
    let none : length xs - length xs ≡ 0 = omega arith in
    let is : get_or bs (length xs) 0 ≡ c = get_or-append_right xs (c ∷ ys) (length xs) (length xs) 0 refl (omega arith)
    ∙ ap (λ (n : ℕ). get_or (c ∷ ys) n 0) none in
    let cell : get_or bs (length xs) 0 < 128 = omega (arith, is) in
    subst IsUtf8 (take_at xs (c ∷ ys) (length xs) refl)
    (IsUtf8-take bs (length xs) utf8 (IsCharBoundary-before_ascii bs (length xs) (omega (arith, length-append xs (c ∷ ys))) cell))

-- ---- how lines end

-- a text ends with a visible character
pub record Ends (text : List ℕ) : Type 0 where
  pub front : List ℕ
  pub last : ℕ
  pub is : text ≡ front ++ (last ∷ [])
  pub visible : Visible last

-- a text after another
pub ends_behind : (xs text : List ℕ) → Ends text → Ends (xs ++ text)
ends_behind xs text e = record {
  front = xs ++ e.front;
  last = e.last;
  is = ap (λ (s : List ℕ). xs ++ s) e.is ∙ sym (append_assoc xs e.front (e.last ∷ []));
  visible = e.visible;
}

abbrev pub AllVisible : List ℕ → Type 0
AllVisible cs = AllByRecursion Visible cs

-- a digit is visible
glyph_visible : (d : ℕ) → d < 16 → Visible (digit_glyph true d)
glyph_visible d small =
    glyph_cases Visible d (λ lt. record { above = omega arith; below = omega arith }) (λ le. record { above = omega arith; below = omega arith })

-- digits are visible
pub hex_visible : (n : ℕ) → AllVisible (hex_upper n)
hex_visible n = hex_each Visible glyph_visible n

-- a visible character stays, with everything before it
drop_keeps : (zs : List ℕ) (c : ℕ) (ys : List ℕ) → Visible c → drop_trailing_whitespace (zs ++ (c ∷ ys)) ≡ zs ++ (c ∷ drop_trailing_whitespace ys)
drop_keeps [] c ys v = rw (visible_dark c v) refl
drop_keeps (z ∷ zs) c ys v =
    let k = drop_keeps zs c ys v in
    let some : length (drop_trailing_whitespace (zs ++ (c ∷ ys))) ≢ 0 =
    λ h. omega (arith, h, ap length k, length-append zs (c ∷ drop_trailing_whitespace ys)) in
    stays_on (is_whitespace z) (length (drop_trailing_whitespace (zs ++ (c ∷ ys)))) z (drop_trailing_whitespace (zs ++ (c ∷ ys))) some
    ∙ ap (λ (r : List ℕ). z ∷ r) k

-- trimming leaves what ends with a visible character
pub keeps : (q more : List ℕ) → Ends q → IsUtf8 q → trim_end (q ++ more) ≡ q ++ trim_end more
unfolding trim_end
keeps q more e utf8 =
    let c = e.last in
    let front : IsUtf8 e.front = front_utf8 e.front c [] (subst IsUtf8 e.is utf8) e.visible.below in
    let spelt : chars q ≡ chars e.front ++ (c ∷ []) =
    rw (e.is, chars-append e.front (c ∷ []) front, chars-IsAscii (c ∷ []) (ascii_one c e.visible.below)) refl in
    rw (chars-append q more utf8, spelt, append_assoc, drop_keeps (chars e.front) c (chars more) e.visible, ← append_assoc (chars e.front) (c ∷ []))
    (rw (← spelt, encodes-append, encodes-chars q utf8) refl)

-- a list of visible characters ends with one
pub last_visible : (d : ℕ) (ds : List ℕ) → AllVisible (d ∷ ds) → Ends (d ∷ ds)
last_visible d [] all = record { front = []; last = d; is = refl; visible = all.0 }
last_visible d (e ∷ ds) all = ends_behind (d ∷ []) (e ∷ ds) (last_visible e ds all.1)

-- if it is not empty
some_visible : (ds : List ℕ) → 0 < length ds → AllVisible ds → Ends ds
some_visible [] some all = absurd (omega arith)
some_visible (d ∷ ds) some all = last_visible d ds all

-- the mark of a hidden value
hidden_ends : Ends hidden
hidden_ends = record { front = codes "<redacted"; last = 62; is = refl; visible = record { above = omega arith; below = omega arith } }

-- what a line shows
shown_ends : (typ : TtlvType) (v : Option ℕ) → IsShown typ v → Ends (shown typ v)
shown_ends Structure v k = absurd k
shown_ends Enumeration None k = absurd k
shown_ends Enumeration (Some n) k = some_visible (hex_upper n) (hex_some n k) (hex_visible n)
shown_ends typ None k = hidden_ends
shown_ends typ (Some n) k = absurd k

-- trimming a line feed leaves nothing
trim_feed : trim_end (10 ∷ []) ≡ []
unfolding trim_end
trim_feed = ap (λ (s : List ℕ). encode_utf8_all (drop_trailing_whitespace s)) (chars-IsAscii (10 ∷ []) (ascii_one 10 (omega arith)))

-- a text ends with a visible character and a line feed
record EndsLine (text : List ℕ) : Type 0 where
  front : List ℕ
  is : text ≡ front ++ (10 ∷ [])
  ends : Ends front

-- a line after other text
line_behind : (xs text : List ℕ) → EndsLine text → EndsLine (xs ++ text)
line_behind xs text e = record {
  front = xs ++ e.front;
  is = ap (λ (s : List ℕ). xs ++ s) e.is ∙ sym (append_assoc xs e.front (10 ∷ []));
  ends = ends_behind xs e.front e.ends;
}

module _ (beginning : ℕ → ℕ → List ℕ) where
  line_ends : (depth tag : ℕ) (typ : TtlvType) (text : List ℕ) → Ends text → EndsLine (line beginning depth tag typ text)
  unfolding line
  line_ends depth tag typ text e =
      line_behind (typ_part beginning depth tag typ) _ (line_behind (codes ", Data: ") _ record { front = text; is = refl; ends = e })

  mutual
    lines_end : (depth : ℕ) (o : Outline) → IsOutline o → NoneEmpty o → EndsLine (lines beginning depth o)
    lines_end depth (leaf_outline tag typ v) io none = line_ends depth tag typ (shown typ v) (shown_ends typ v io.1)
    lines_end depth (node_outline tag no_outlines) io none = absurd none
    lines_end depth (node_outline tag (outline o os)) io none = line_behind (line beginning depth tag Structure []) _
        (all_end (suc depth) (lines beginning (suc depth) o) os (lines_end (suc depth) o io.1.0 none.0) io.1.1 none.1)

    all_end : (depth : ℕ) (text : List ℕ) (os : Outlines) → EndsLine text → AreOutlines os → AllNoneEmpty os → EndsLine (text ++ lines_all beginning depth os)
    all_end depth text no_outlines e ios nones = subst EndsLine (sym (append-nil text)) e
    all_end depth text (outline p os) e ios nones =
        line_behind text _ (all_end depth (lines beginning depth p) os (lines_end depth p ios.0 nones.0) ios.1 nones.1)

  -- trimming and a line feed give the lines back
  trimmed_line : (text : List ℕ) → IsUtf8 text → EndsLine text → trim_end text ++ (10 ∷ []) ≡ text
  trimmed_line text utf8 e = ap (λ (s : List ℕ). trim_end s ++ (10 ∷ [])) e.is
      ∙ ap (λ (s : List ℕ). s ++ (10 ∷ [])) (keeps e.front (10 ∷ []) e.ends (front_utf8 e.front 10 [] (subst IsUtf8 e.is utf8) (omega arith))
      ∙ ap (λ (s : List ℕ). e.front ++ s) trim_feed ∙ append-nil e.front) ∙ sym e.is

  -- what is read back of an outline's diagnostic
  redacted_lines : (prefix text answer : List ℕ) → answer ≡ trim_end (undiag_lines beginning prefix text) → IsUtf8 (undiag_lines beginning prefix text)
      → (o : Outline) → IsOutline o → IsNode o → AllBegin prefix o → text ≡ diag prefix o → (answer ≡ trim_end (lines beginning 0 o))
      × (NoneEmpty o → answer ++ (10 ∷ []) ≡ lines beginning 0 o)
  redacted_lines prefix text answer is utf8 (leaf_outline tag typ v) io root begins e = absurd root
  redacted_lines prefix text answer is utf8 (node_outline tag below) io root begins e =
      let whole : undiag_lines beginning prefix text ≡ lines beginning 0 (node_outline tag below) = ap (undiag_lines beginning prefix) e
      ∙ undiag_message beginning tag below prefix io begins in
      let trims : answer ≡ trim_end (lines beginning 0 (node_outline tag below)) = is ∙ ap trim_end whole in (
        trims,
        λ none. ap (λ (s : List ℕ). s ++ (10 ∷ [])) trims ∙ trimmed_line (lines beginning 0 (node_outline tag below)) (subst IsUtf8 whole utf8)
            (lines_end 0 (node_outline tag below) io none),
      )

module _ (names : ℕ → Option (List ℕ)) where
  -- with names for tags
  redacted : (prefix text answer : List ℕ) → answer ≡ undiag names prefix text → IsUtf8 (undiag_lines (tag_part names) prefix text)
      → IsReadBack names prefix text answer
  unfolding undiag
  redacted prefix text answer is utf8 = redacted_lines (tag_part names) prefix text answer is utf8

  -- so is what a call returns
  pub redacted_ok : {A E : Type 0} (prefix given text : List ℕ) (r : Result (String A) E) → given ≡ prefix
      → IfOk r (λ x. string_bytes x ≡ undiag names given text) → IfOk r (λ _. IsUtf8 (undiag_lines (tag_part names) given text))
      → IfOk r (λ x. IsReadBack names prefix text (string_bytes x))
  redacted_ok prefix given text (Ok x) same is utf8 = redacted prefix text (string_bytes x) (is ∙ ap (λ (p : List ℕ). undiag names p text) same)
      (subst (λ (p : List ℕ). IsUtf8 (undiag_lines (tag_part names) p text)) same utf8)
  redacted_ok prefix given text (Err e) same is utf8 = tt
