-- A JSON string as it is printed is read back, and passed over by the lexer.
use Rattle.std.proofs.Common.{◌≡◌, ◌∙◌, inl, inr, ◌⊎◌, ℕ, ◌+◌, ◌*◌, ◌/◌, ◌%◌, ◌<◌, ◌≤◌, ◌&&◌, Bool, true, false, cond, if◌then◌else◌}
use Rattle.std.proofs.Common.{List, [], ◌∷◌, ◌++◌, Option, Some, None, refl, sym, ap, ap₂, subst, arith, append_assoc, append-nil}
use Rattle.std.specs.Prelude.{flat_map, nat_lt, option_and_then}
use Rattle.std.specs.Char.{digit_char, digit_value, is_digit}
use Rattle.std.specs.Str.{chars, is_utf8}
use Rattle.std.proofs.lemmas.Bool.{cases_eq, cases_lt, ne_eqb, lt-ltb, le-ltb, lt-leb}
use Rattle.std.proofs.lemmas.Str.{IsUtf8-from_is_utf8, encodes-chars, encode_ascii, digit_value-digit_char}
use Rattle.std.proofs.Math.Bool.{and-false}
use lib.Utf8.{encode, encodes}
use Rattle.json.specs.Text.{content, plain, after_high, prepend, code_unit, short_escape, is_high_surrogate, is_low_surrogate}
use Rattle.json.specs.Word.{is_operator, is_space}
use Rattle.json.specs.Lex.{Lexeme, Mode, lex, lex_byte, between, in_string, operator, space, other, token, string_token}
use Rattle.json.specs.Token.{string}
use Rattle.json.specs.Print.{escape_byte, escape, quoted}
use Rattle.json.proofs.Printed.Strings.{escape_byte_plain, content-escape, lex-escape}
use Rattle.kmip_ttlv_json.specs.Spellings.{by_number, is_late_control, char_text, chars_text, spelled}
use Rattle.kmip_ttlv_json.proofs.Escapes.{plain_char}

-- what both readers make of a text in a string: the bytes that it stands for, and no end of the string
record Passes (text bytes : List ℕ) : Type 0 where
  read : (r : List ℕ) → content plain (text ++ r) ≡ prepend bytes (content plain r)
  lexed : (r : List ℕ) → lex in_string (text ++ r) ≡ lex in_string r

pass : {text bytes : List ℕ} → ((r : List ℕ) → content plain (text ++ r) ≡ prepend bytes (content plain r))
    → ((r : List ℕ) → lex in_string (text ++ r) ≡ lex in_string r) → Passes text bytes
pass read lexed = record { read = read; lexed = lexed }

nothing_passes : Passes [] []
nothing_passes = record { read = λ r. by (content plain r); lexed = λ r. refl }
  where
    by : (o : Option (List ℕ)) → o ≡ prepend [] o
    by None = refl
    by (Some s) = refl

prepend_both : (x y : List ℕ) (o : Option (List ℕ)) → prepend x (prepend y o) ≡ prepend (x ++ y) o
prepend_both x y None = refl
prepend_both x y (Some s) = ap Some (sym (append_assoc x y s))

both_pass : {a b x y : List ℕ} → Passes a x → Passes b y → Passes (a ++ b) (x ++ y)
both_pass {a = a} {b = b} {x = x} {y = y} p q = record {
  read = λ r. ap (content plain) (append_assoc a b r) ∙ p.read (b ++ r) ∙ ap (prepend x) (q.read r) ∙ prepend_both x y (content plain r);
  lexed = λ r. ap (lex in_string) (append_assoc a b r) ∙ p.lexed (b ++ r) ∙ q.lexed r;
}

stays_inside : (o s : Bool) (x : ℕ) (r : List ℕ) (k : Mode → List Lexeme) → lex_byte in_string (cond o operator (cond s space other)) x r k ≡ k in_string
stays_inside true s x r k = refl
stays_inside false true x r k = refl
stays_inside false false x r k = refl

skips : (x : ℕ) (r : List ℕ) → (x ≡ 34 → ⊥) → (x ≡ 92 → ⊥) → lex in_string (x ∷ r) ≡ lex in_string r
unfolding lex
skips x r q b = rw (ne_eqb x 34 q, ne_eqb x 92 b) (stays_inside (is_operator x) (is_space x) x r (λ m. lex m r))

-- ---- a character by its number

-- a hexadecimal digit is no quote and no backslash
digit_inside : (d : ℕ) → d < 16 → (digit_char d ≡ 34 → ⊥) × (digit_char d ≡ 92 → ⊥)
digit_inside d lt = elim (cases_lt d 10) [
  | inl low ↦
      let is : digit_char d ≡ 48 + d = ap (λ (b : Bool). cond b (48 + d) (87 + d)) (lt-ltb d 10 low) in
      (λ e. omega (arith, low, sym is ∙ e), λ e. omega (arith, low, sym is ∙ e))
  | inr high ↦
      let is : digit_char d ≡ 87 + d = ap (λ (b : Bool). cond b (48 + d) (87 + d)) (le-ltb d 10 high) in
      (λ e. omega (arith, high, sym is ∙ e), λ e. omega (arith, high, sym is ∙ e))
]

-- two zeros and two digits are a number below 256
unit_is : (n : ℕ) → n < 256 → code_unit 48 48 (digit_char (n / 16)) (digit_char (n % 16)) ≡ Some n
unfolding code_unit
unit_is n lt =
    let unit = λ (a b : Bool) (x y : ℕ).
    cond (is_digit 48 16 && is_digit 48 16 && a && b) (Some (digit_value 48 * 4096 + digit_value 48 * 256 + x * 16 + y)) None in
    let whole : digit_value 48 * 4096 + digit_value 48 * 256 + n / 16 * 16 + n % 16 ≡ n = omega arith in
    ap₂ (λ (x y : ℕ). unit (nat_lt x 16) (nat_lt y 16) x y) (digit_value-digit_char (n / 16) (omega (arith, lt)))
    (digit_value-digit_char (n % 16) (omega arith))
    ∙ ap₂ (λ (a b : Bool). unit a b (n / 16) (n % 16)) (lt-ltb (n / 16) 16 (omega (arith, lt))) (lt-ltb (n % 16) 16 (omega arith)) ∙ ap Some whole

number_passes : (n : ℕ) → n < 256 → Passes (by_number n) (encode n)
unfolding content lex
number_passes n lt =
    let h = digit_inside (n / 16) (omega (arith, lt)) in
    let l = digit_inside (n % 16) (omega arith) in
    pass (λ r. ap (λ (o : Option ℕ). option_and_then (λ u. cond (is_high_surrogate u) (content (after_high u) r)
    (cond (is_low_surrogate u) None (prepend (encode u) (content plain r)))) o) (unit_is n lt)
    ∙ rw (lt-leb 55296 n (omega (arith, lt)), lt-leb 56320 n (omega (arith, lt))) refl)
    (λ r. skips (digit_char (n / 16)) _ h.0 h.1 ∙ skips (digit_char (n % 16)) r l.0 l.1)

-- ---- one byte

abbrev BytePasses : ℕ → Type 0
BytePasses x = Passes (escape_byte x) (x ∷ [])

quote : BytePasses 34
unfolding escape_byte content lex short_escape
quote = pass (λ r. refl) (λ r. refl)

backslash : BytePasses 92
unfolding escape_byte content lex short_escape
backslash = pass (λ r. refl) (λ r. refl)

backspace : BytePasses 8
unfolding escape_byte content lex short_escape
backspace = pass (λ r. refl) (λ r. refl)

tab : BytePasses 9
unfolding escape_byte content lex short_escape
tab = pass (λ r. refl) (λ r. refl)

line_feed : BytePasses 10
unfolding escape_byte content lex short_escape
line_feed = pass (λ r. refl) (λ r. refl)

form_feed : BytePasses 12
unfolding escape_byte content lex short_escape
form_feed = pass (λ r. refl) (λ r. refl)

carriage_return : BytePasses 13
unfolding escape_byte content lex short_escape
carriage_return = pass (λ r. refl) (λ r. refl)

plain_passes : (x : ℕ) → (x ≡ 34 → ⊥) → (x ≡ 92 → ⊥) → 32 ≤ x → BytePasses x
unfolding content
plain_passes x q b l =
    let same = escape_byte_plain x q b l in
    pass (λ r. rw (same, ne_eqb x 34 q, ne_eqb x 92 b, le-ltb x 32 l)) (λ r. rw same (skips x r q b))

control_passes : (x : ℕ) → x < 32 → (x ≡ 8 → ⊥) → (x ≡ 9 → ⊥) → (x ≡ 10 → ⊥) → (x ≡ 12 → ⊥) → (x ≡ 13 → ⊥) → BytePasses x
unfolding escape_byte
control_passes x lt b t n f r =
    let is : escape_byte x ≡ by_number x = rw (
      ne_eqb x 34 (λ e. omega (arith, lt, e)),
      ne_eqb x 92 (λ e. omega (arith, lt, e)),
      ne_eqb x 8 b,
      ne_eqb x 12 f,
      ne_eqb x 10 n,
      ne_eqb x 13 r,
      ne_eqb x 9 t,
      lt-ltb x 32 lt,
    ) in
    subst (λ (s : List ℕ). Passes s (x ∷ [])) (sym is)
    (subst (Passes (by_number x)) (encode_ascii x (omega (arith, lt))) (number_passes x (omega (arith, lt))))

unless : (x y : ℕ) → BytePasses y → ((x ≡ y → ⊥) → BytePasses x) → BytePasses x
unless x y p more = elim (cases_eq x y) [ inl e ↦ subst BytePasses (sym e) p | inr ne ↦ more ne ]

byte_passes : (x : ℕ) → BytePasses x
byte_passes x = unless x 34 quote (λ q. unless x 92 backslash (λ s. elim (cases_lt x 32) [
  | inl lt ↦ unless x 8 backspace (λ b. unless x 9 tab (λ t. unless x 10 line_feed (λ n. unless x 12 form_feed (λ f. unless x 13 carriage_return
      (λ r. control_passes x lt b t n f r)))))
  | inr l ↦ plain_passes x q s l
]))

bytes_pass : (bytes : List ℕ) → Passes (escape bytes) bytes
bytes_pass [] = nothing_passes
bytes_pass (x ∷ bytes) = both_pass (byte_passes x) (bytes_pass bytes)

-- ---- one character

late_passes : (c : ℕ) → 126 < c → c < 160 → Passes (char_text c) (encode c)
unfolding char_text
late_passes c low high = rw (lt-ltb 126 c low, lt-ltb c 160 high) (number_passes c (omega (arith, high)))

char_passes : (c : ℕ) → Passes (char_text c) (encode c)
char_passes c = go (cases_lt 126 c) (cases_lt c 160)
  where
    other : is_late_control c ≡ false → Passes (char_text c) (encode c)
    other e = subst (λ t. Passes t (encode c)) (plain_char c e) (bytes_pass (encode c))

    go : (126 < c) ⊎ (c ≤ 126) → (c < 160) ⊎ (160 ≤ c) → Passes (char_text c) (encode c)
    go (inl low) (inl high) = late_passes c low high
    go (inl low) (inr le) = other (ap (λ b. nat_lt 126 c && b) (le-ltb c 160 le) ∙ and-false (nat_lt 126 c))
    go (inr le) h = other (ap (λ b. b && nat_lt c 160) (le-ltb 126 c le))

all_pass : (cs : List ℕ) → Passes (flat_map char_text cs) (encodes cs)
all_pass [] = nothing_passes
all_pass (c ∷ cs) = both_pass (char_passes c) (all_pass cs)

-- ---- a string

content_back : (s r : List ℕ) → content plain (chars_text s ++ 34 ∷ r) ≡ Some s
unfolding content
content_back s r = by (is_utf8 s) refl
  where
    by : (b : Bool) → is_utf8 s ≡ b → content plain ((if b then flat_map char_text (chars s) else escape s) ++ 34 ∷ r) ≡ Some s
    by true e = (all_pass (chars s)).read (34 ∷ r) ∙ ap Some (append-nil (encodes (chars s)) ∙ encodes-chars s (IsUtf8-from_is_utf8 s e))
    by false e = content-escape s r

passed_over : (s r : List ℕ) → lex in_string (chars_text s ++ 34 ∷ r) ≡ lex between r
unfolding lex
passed_over s r = by (is_utf8 s)
  where
    by : (b : Bool) → lex in_string ((if b then flat_map char_text (chars s) else escape s) ++ 34 ∷ r) ≡ lex between r
    by true = (all_pass (chars s)).lexed (34 ∷ r)
    by false = lex-escape s r

pub lex-spelled : (s r : List ℕ) → lex between (spelled s ++ r) ≡ token (string s) ∷ lex between r
unfolding lex
lex-spelled s r =
    ap (λ l. lex between (34 ∷ l)) (append_assoc (chars_text s) (34 ∷ []) r)
    ∙ ap₂ (λ o l. token (string_token o) ∷ l) (content_back s r) (passed_over s r)

pub lex-quoted : (s r : List ℕ) → lex between (quoted s ++ r) ≡ token (string s) ∷ lex between r
unfolding lex
lex-quoted s r =
    ap (λ l. lex between (34 ∷ l)) (append_assoc (escape s) (34 ∷ []) r)
    ∙ ap₂ (λ o l. token (string_token o) ∷ l) (content-escape s r) (lex-escape s r)
