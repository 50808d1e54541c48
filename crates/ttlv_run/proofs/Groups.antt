-- Digits decode group by group: the bytes of a whole group, and then those of the rest.
use Rattle.std.proofs.Common.{◌≡◌, ℕ, zero, suc, ◌+◌, ◌-◌, ◌*◌, ◌/◌, ◌%◌, ◌<◌, ◌≤◌, true, false, Bool, if◌then◌else◌, List, [], ◌∷◌, ◌++◌, length, take, drop}
use Rattle.std.proofs.Common.{slice_index, Option, None, Some, Result, Ok, Err, refl, sym, ap, subst, ◌∙◌, arith, ◌⊎◌, inl, inr}
use Rattle.std.specs.{Io.KnownBytes.prepend_known, Result.result_ok}
use Rattle.std.proofs.lemmas.List.{append-nil, append_assoc, length-append, take_all, take-append-drop, get_or-append_right, length-drop, length-take-le}
use Rattle.std.proofs.lemmas.Bool.{lt-ltb}
use Rattle.std.specs.Prelude.{replicate, ◌==◌, ◌&&◌, IfOk, IfSome}
use Rattle.hex.specs.Hex.{hex_digit_value, digit_or_error, decode_pairs, ◌>>=◌}
use Rattle.hex.specs.declared.error.FromHexError.{FromHexError}
use Rattle.hex.proofs.HexLemmas.{decode_of-even}
use Rattle.base64.specs.{declared.decode.DecodeError.DecodeError, declared.engine.general_purpose.GeneralPurpose.GeneralPurpose, Tables.is_inverse}
use Rattle.base64.specs.{Rfc4648.encode_symbols, Rfc4648.padding_len}
use Rattle.base64.specs.Decode.{or_else, symbol_error, group_error, groups_error, groups_bytes, groups_before_last, lone_error, decode_outcome, decode_group}
use Rattle.base64.specs.Engines.{standard, url_safe, url_safe_no_pad}
use Rattle.base64.specs.GeneralPurpose.{decode_of, decoded_of, encode_of, IsBytes, IsDecodedInto, IsStrict, IsConsistent}
use Rattle.base64.proofs.{Canonical.take_groups, RoundTrip.groups_encoded, RoundTrip.length-encode_symbols, Streams.decoded_of-groups, Streams.decoded_of-nil}
use Rattle.base64.proofs.{Tables.encode-decode_table, Tables.are_tables_inverse}
use Rattle.base64.proofs.EngineFacts.{decode_of-encode_of, decode_of_strict, front_bytes}
use Rattle.ttlv_run.specs.Inputs.{answer_of, has_padding, url_alphabet, decode_digits, decode_form, width}
use Rattle.ttlv_run.specs.declared.form.Form.{Form}
use Rattle.ttlv_run.specs.declared.form.Form.TheVariants.{Base64Text, Base64UrlText, ArmouredText}
use Rattle.hex.specs.Hex as hex

-- the bytes of a group in front of those of a rest, where both are known
abbrev pub behind : Option (List ℕ) → Option (List ℕ) → Option (List ℕ)
behind None rest = None
behind (Some x) rest = prepend_known x rest

-- ---- hexadecimal

-- a byte in front of others, where both are known
abbrev both : Option ℕ → Option ℕ → Option ℕ
both None low = None
both (Some high) None = None
both (Some high) (Some low) = Some (high * 16 + low)

abbrev in_front : Option ℕ → Option (List ℕ) → Option (List ℕ)
in_front None rest = None
in_front (Some b) None = None
in_front (Some b) (Some bytes) = Some (b ∷ bytes)

-- the bytes of pairs, wherever these begin
unfoldable pub pairs : List ℕ → Option (List ℕ)
pairs [] = Some []
pairs (digit ∷ []) = None
pairs (high ∷ low ∷ rest) = in_front (both (hex_digit_value high) (hex_digit_value low)) (pairs rest)

pair_answer : (h l i : ℕ) (v w : Option ℕ) (r : Result (List ℕ) FromHexError)
    → answer_of ((digit_or_error h i v >>= λ a. digit_or_error l (i + 1) w >>= λ b. Ok (a * 16 + b)) >>= λ byte. r >>= λ bytes. Ok (byte ∷ bytes))
    ≡ in_front (both v w) (answer_of r)
pair_answer h l i None w r = refl
pair_answer h l i (Some a) None r = refl
pair_answer h l i (Some a) (Some b) (Ok bytes) = refl
pair_answer h l i (Some a) (Some b) (Err e) = refl

pairs_answer : (i : ℕ) (s : List ℕ) → answer_of (decode_pairs i s) ≡ pairs s
unfolding decode_pairs pairs
pairs_answer i [] = refl
pairs_answer i (digit ∷ []) = refl
pairs_answer i (high ∷ low ∷ rest) =
    pair_answer high low i (hex_digit_value high) (hex_digit_value low) (decode_pairs (i + 2) rest)
    ∙ ap (in_front (both (hex_digit_value high) (hex_digit_value low))) (pairs_answer (i + 2) rest)

in_front_none : (b : Option ℕ) → in_front b None ≡ None
in_front_none None = refl
in_front_none (Some b) = refl

odd_none : (s : List ℕ) → length s % 2 ≡ 1 → pairs s ≡ None
unfolding pairs
odd_none [] odd = absurd (omega (arith, odd))
odd_none (digit ∷ []) odd = refl
odd_none (high ∷ low ∷ rest) odd =
    ap (in_front (both (hex_digit_value high) (hex_digit_value low))) (odd_none rest (omega (arith, odd)))
    ∙ in_front_none (both (hex_digit_value high) (hex_digit_value low))

hex_by_length : (s : List ℕ) (n : ℕ) → length s % 2 ≡ n → n < 2 → answer_of (hex.decode_of s) ≡ pairs s
hex_by_length s zero even small = ap answer_of (decode_of-even s even) ∙ pairs_answer 0 s
hex_by_length s (suc zero) odd small = rw odd (sym (odd_none s odd))
hex_by_length s (suc (suc n)) odd small = absurd (omega (arith, small))

hex_pairs : (s : List ℕ) → answer_of (hex.decode_of s) ≡ pairs s
hex_pairs s = hex_by_length s (length s % 2) refl (omega arith)

pair_in_front : (b : Option ℕ) (rest : Option (List ℕ)) → in_front b rest ≡ behind (in_front b (Some [])) rest
pair_in_front None rest = refl
pair_in_front (Some b) None = refl
pair_in_front (Some b) (Some bytes) = refl

hex_group : (high low : ℕ) (rest : List ℕ) → pairs (high ∷ low ∷ rest) ≡ behind (pairs (high ∷ low ∷ [])) (pairs rest)
unfolding pairs
hex_group high low rest = pair_in_front (both (hex_digit_value high) (hex_digit_value low)) (pairs rest)

some_same : {x y : List ℕ} → ◌≡◌ {A = Option (List ℕ)} (Some x) (Some y) → x ≡ y
some_same same = cc same

one_byte : (b : Option ℕ) (x : List ℕ) → in_front b (Some []) ≡ Some x → length x ≡ 1
one_byte None x is = cc is
one_byte (Some b) x is = sym (ap (λ (t : List ℕ). length t) (some_same is))

pair_long : (high low : ℕ) (x : List ℕ) → pairs (high ∷ low ∷ []) ≡ Some x → length x ≡ 1
unfolding pairs
pair_long high low x is = one_byte (both (hex_digit_value high) (hex_digit_value low)) x is

-- ---- base64

or_front : (x y : Option DecodeError) → or_else x y ≡ None → x ≡ None
or_front None y none = refl
or_front (Some e) y none = none

or_behind : (x y : Option DecodeError) → or_else x y ≡ None → y ≡ None
or_behind None y none = none
or_behind (Some e) y none = cc none

-- where the first groups have no error, the first has none
first_group : (dec s : List ℕ) (k : ℕ) → groups_error dec s (suc k) ≡ None → groups_error dec s 1 ≡ None
unfolding groups_error
first_group dec s zero none = none
first_group dec s (suc k) none = first_group dec s k (or_front (groups_error dec s (suc k)) (group_error dec s (4 * suc k)) none)

symbol_small : (enc dec s : List ℕ) (i : ℕ) → is_inverse enc dec ≡ true → slice_index s i < 256 → symbol_error dec s i ≡ None
    → slice_index dec (slice_index s i) < 64
symbol_small enc dec s i inv byte none = elim (encode-decode_table enc dec inv (slice_index s i) byte) [
  | inl bad ↦ cc (rw bad at none)
  | inr good ↦ good.0
]

three_are_bytes : (a b c : ℕ) → a < 256 → b < 256 → c < 256 → IsBytes (a ∷ b ∷ c ∷ [])
three_are_bytes a b c x y z zero = x
three_are_bytes a b c x y z (suc zero) = y
three_are_bytes a b c x y z (suc (suc zero)) = z
three_are_bytes a b c x y z (suc (suc (suc i))) = omega arith

group_is_bytes : (m0 m1 m2 m3 : ℕ) → m0 < 64 → m1 < 64 → m2 < 64 → m3 < 64 → IsBytes (decode_group m0 m1 m2 m3)
group_is_bytes m0 m1 m2 m3 l0 l1 l2 l3 = three_are_bytes _ _ _ (omega arith) (omega arith) (omega arith)

-- a first group without an error is three bytes
first_is_bytes : (enc dec s : List ℕ) → is_inverse enc dec ≡ true → IsBytes s → groups_error dec s 1 ≡ None → IsBytes (groups_bytes dec s 1)
    × (length (groups_bytes dec s 1) ≡ 3)
unfolding groups_error groups_bytes
first_is_bytes enc dec s inv bytes none =
    let rest1 = or_behind (symbol_error dec s 0) (or_else (symbol_error dec s 1) (or_else (symbol_error dec s 2) (symbol_error dec s 3))) none in
    let rest2 = or_behind (symbol_error dec s 1) (or_else (symbol_error dec s 2) (symbol_error dec s 3)) rest1 in
    let l0 = symbol_small enc dec s 0 inv (bytes 0) (or_front _ _ none) in
    let l1 = symbol_small enc dec s 1 inv (bytes 1) (or_front _ _ rest1) in
    let l2 = symbol_small enc dec s 2 inv (bytes 2) (or_front _ _ rest2) in
    let l3 = symbol_small enc dec s 3 inv (bytes 3) (or_behind (symbol_error dec s 2) _ rest2) in
    (group_is_bytes _ _ _ _ l0 l1 l2 l3, refl)

no_padding : (padded : Bool) (n pad : ℕ) → n ≡ 0 → (if padded then replicate n pad else []) ≡ []
no_padding true n pad none = rw none refl
no_padding false n pad none = refl

outcome_none : (error : Option DecodeError) (bytes b : List ℕ) → decode_outcome error bytes ≡ Ok b → error ≡ None
outcome_none None bytes b ok = refl
outcome_none (Some e) bytes b ok = cc ok

answered : {T E : Type 0} (r : Result T E) → answer_of r ≡ result_ok r
answered (Ok x) = refl
answered (Err e) = refl

error_none : {T E : Type 0} (r : Result T E) (x : T) → answer_of r ≡ Some x → r ≡ Ok x
error_none (Ok y) x is = cc is
error_none (Err f) x is = cc is

-- the bytes of a whole group, unless it has an error
abbrev pub found : Option DecodeError → List ℕ → Option (List ℕ)
found None x = Some x
found (Some f) x = None

module _ (e : GeneralPurpose) where
  abbrev pub enc : List ℕ
  enc = e.encode_table

  abbrev pub dec : List ℕ
  dec = e.decode_table

  abbrev pads : List ℕ → List ℕ
  pads x = if e.config.encode_padding then replicate (padding_len (length x)) e.padding.value else []

  inverse : is_inverse enc dec ≡ true
  inverse = are_tables_inverse enc dec e.padding.value e.tables

  -- what a group of four digits is where more digits follow
  abbrev pub whole_group : List ℕ → Option (List ℕ)
  whole_group g = found (groups_error dec g 1) (groups_bytes dec g 1)

  of_is : (s : List ℕ) → decoded_of e s ≡ answer_of (decode_of e s)
  unfolding decoded_of
  of_is s = sym (answered (decode_of e s))

  -- a group without an error, in front of a digit
  group_in_front : (a b c d x : ℕ) (rest : List ℕ) → groups_error dec (a ∷ b ∷ c ∷ d ∷ []) 1 ≡ None
      → answer_of (decode_of e (a ∷ b ∷ c ∷ d ∷ x ∷ rest)) ≡ prepend_known (groups_bytes dec (a ∷ b ∷ c ∷ d ∷ []) 1) (answer_of (decode_of e (x ∷ rest)))
  unfolding groups_error groups_bytes
  group_in_front a b c d x rest none =
      let s : List ℕ = a ∷ b ∷ c ∷ d ∷ x ∷ rest in
      let step = decoded_of-groups e s [] 1 (omega arith) none in
      sym (of_is s) ∙ ap (decoded_of e) (sym (append-nil s)) ∙ step
      ∙ ap (λ (t : List ℕ). prepend_known (groups_bytes dec (a ∷ b ∷ c ∷ d ∷ []) 1) (decoded_of e t)) (append-nil (x ∷ rest))
      ∙ ap (prepend_known (groups_bytes dec (a ∷ b ∷ c ∷ d ∷ []) 1)) (of_is (x ∷ rest))

  same_group : (a b c d x : ℕ) (rest : List ℕ) → groups_error dec (a ∷ b ∷ c ∷ d ∷ []) 1 ≡ groups_error dec (a ∷ b ∷ c ∷ d ∷ x ∷ rest) 1
  unfolding groups_error
  same_group a b c d x rest = refl

  -- and one with an error
  group_wrong : (a b c d x : ℕ) (rest : List ℕ) (f : DecodeError) → groups_error dec (a ∷ b ∷ c ∷ d ∷ []) 1 ≡ Some f
      → (r : Result (List ℕ) DecodeError) → decode_of e (a ∷ b ∷ c ∷ d ∷ x ∷ rest) ≡ r → answer_of r ≡ None
  group_wrong a b c d x rest f wrong (Err g) is = refl
  group_wrong a b c d x rest f wrong (Ok bytes) is =
      let s : List ℕ = a ∷ b ∷ c ∷ d ∷ x ∷ rest in
      let none = outcome_none _ _ bytes is in
      let groups : groups_error dec s (groups_before_last (length s)) ≡ None = or_front _ _ (or_behind (lone_error dec e.padding.value s) _ none) in
      let count : groups_before_last (length s) ≡ suc (length rest / 4) = omega arith in
      let one : groups_error dec s 1 ≡ None = first_group dec s (length rest / 4) (subst (λ (n : ℕ). groups_error dec s n ≡ None) count groups) in
      cc (sym wrong ∙ same_group a b c d x rest ∙ one)

  behind_four : (a b c d x : ℕ) (rest : List ℕ) (r : Option DecodeError) → groups_error dec (a ∷ b ∷ c ∷ d ∷ []) 1 ≡ r
      → answer_of (decode_of e (a ∷ b ∷ c ∷ d ∷ x ∷ rest)) ≡ behind (found r (groups_bytes dec (a ∷ b ∷ c ∷ d ∷ []) 1)) (answer_of (decode_of e (x ∷ rest)))
  behind_four a b c d x rest None is = group_in_front a b c d x rest is
  behind_four a b c d x rest (Some f) is = group_wrong a b c d x rest f is (decode_of e (a ∷ b ∷ c ∷ d ∷ x ∷ rest)) refl

  module _ (strict : IsStrict e) (consistent : IsConsistent e) (g : List ℕ) (four : length g ≡ 4) (bytes : IsBytes g) where
    -- a whole group is these bytes by itself
    four_whole : (r : Option DecodeError) (x : List ℕ) → groups_error dec g 1 ≡ r → found r (groups_bytes dec g 1) ≡ Some x → (decode_of e g ≡ Ok x)
        × (length x ≡ 3)
    four_whole (Some f) x is found = cc found
    four_whole None x is found =
        let made : groups_bytes dec g 1 ≡ x = some_same found in
        let three = first_is_bytes enc dec g inverse bytes is in
        let front : take (4 * 1) g ≡ encode_symbols enc (groups_bytes dec g 1) = take_groups enc dec g 1 inverse bytes (omega (arith, four)) is in
        let none : pads (groups_bytes dec g 1) ≡ [] = no_padding e.config.encode_padding (padding_len (length (groups_bytes dec g 1))) e.padding.value
        (rw three.1 refl) in
        let all : g ≡ encode_of e (groups_bytes dec g 1) =
        sym (take_all (4 * 1) g (omega (arith, four))) ∙ front ∙ sym (append-nil (encode_symbols enc (groups_bytes dec g 1)))
        ∙ ap (λ (t : List ℕ). encode_symbols enc (groups_bytes dec g 1) ++ t) (sym none) in (
          ap (decode_of e) all ∙ decode_of-encode_of e (groups_bytes dec g 1) consistent three.0 ∙ ap (λ (t : List ℕ). Ok t) made,
          sym (ap (λ (t : List ℕ). length t) made) ∙ three.1,
        )

    -- where it is three bytes, it is a whole group
    four_known : (x : List ℕ) → IsBytes x → 3 ≤ length x → decode_of e g ≡ Ok x → whole_group g ≡ Some x
    four_known x are least ok =
        let is : g ≡ encode_symbols enc x ++ pads x = decode_of_strict e g x strict bytes ok in
        let three : length x ≡ 3 = omega (
          arith,
          four,
          ap (λ (t : List ℕ). length t) is,
          length-append (encode_symbols enc x) (pads x),
          length-encode_symbols enc x,
          least,
        ) in
        let groups = groups_encoded enc dec x (pads x) e.padding.value 1 e.tables are (omega (arith, three)) in
        ap whole_group is ∙ ap (λ (r : Option DecodeError). found r (groups_bytes dec (encode_symbols enc x ++ pads x) 1)) groups.0
        ∙ ap (λ (t : List ℕ). Some t) (groups.1 ∙ take_all (3 * 1) x (omega (arith, three)))

-- ---- either

-- what a whole group of digits is where more digits follow
abbrev pub group_of : Form → List ℕ → Option (List ℕ)
group_of Base64Text g = whole_group standard g
group_of Base64UrlText g = whole_group url_safe g
group_of ArmouredText g = whole_group standard g
group_of form g = pairs g

hex_behind : (g rest : List ℕ) → length g ≡ 2 → answer_of (hex.decode_of (g ++ rest)) ≡ behind (pairs g) (answer_of (hex.decode_of rest))
hex_behind (high ∷ low ∷ []) rest two =
    hex_pairs (high ∷ low ∷ rest) ∙ hex_group high low rest ∙ ap (behind (pairs (high ∷ low ∷ []))) (sym (hex_pairs rest))
hex_behind g rest two = absurd (omega (arith, two))

-- four digits
record Four (g : List ℕ) : Type 0 where
  a : ℕ
  b : ℕ
  c : ℕ
  d : ℕ
  are : g ≡ a ∷ b ∷ c ∷ d ∷ []

four_of : (g : List ℕ) → length g ≡ 4 → Four g
four_of (a ∷ b ∷ c ∷ d ∷ []) four = record { a = a; b = b; c = c; d = d; are = refl }
four_of g four = absurd (omega (arith, four))

base64_behind : (e : GeneralPurpose) (g : List ℕ) (x : ℕ) (rest : List ℕ) → length g ≡ 4 → answer_of (decode_of e (g ++ x ∷ rest)) ≡ behind (whole_group e g)
    (answer_of (decode_of e (x ∷ rest)))
base64_behind e g x rest four =
    let f = four_of g four in
    subst (λ (t : List ℕ). answer_of (decode_of e (t ++ x ∷ rest)) ≡ behind (whole_group e t) (answer_of (decode_of e (x ∷ rest)))) (sym f.are)
    (behind_four e f.a f.b f.c f.d x rest (groups_error e.decode_table (f.a ∷ f.b ∷ f.c ∷ f.d ∷ []) 1) refl)

-- with padding at the end or without
padding_behind : (g : List ℕ) (x : ℕ) (rest : List ℕ) → has_padding (g ++ x ∷ rest) ≡ has_padding (x ∷ rest)
padding_behind g x rest =
    let last : length (g ++ x ∷ rest) - 1 ≡ length g + length rest = omega (arith, length-append g (x ∷ rest)) in
    let some : 0 < length (g ++ x ∷ rest) = omega (arith, length-append g (x ∷ rest)) in
    let same : length g + length rest - length g ≡ length (x ∷ rest) - 1 = omega arith in
    ap (λ (b : Bool). b && slice_index (g ++ x ∷ rest) (length (g ++ x ∷ rest) - 1) == 61) (lt-ltb 0 (length (g ++ x ∷ rest)) some)
    ∙ ap (λ (n : ℕ). slice_index (g ++ x ∷ rest) n == 61) last
    ∙ ap (λ (n : ℕ). n == 61) (get_or-append_right g (x ∷ rest) (length g) (length g + length rest) 0 refl (omega arith) ∙ ap (slice_index (x ∷ rest)) same)
    ∙ sym (ap (λ (b : Bool). b && slice_index (x ∷ rest) (length (x ∷ rest) - 1) == 61) (lt-ltb 0 (length (x ∷ rest)) (omega arith)))

url_behind : (g : List ℕ) (x : ℕ) (rest : List ℕ) → length g ≡ 4 → decode_form Base64UrlText (g ++ x ∷ rest) ≡ behind (whole_group url_safe g)
    (decode_form Base64UrlText (x ∷ rest))
url_behind g x rest four = ap (λ (p : Bool). decode_digits (url_alphabet p) (g ++ x ∷ rest)) (padding_behind g x rest) ∙ by (has_padding (x ∷ rest))
  where
    by : (p : Bool) → decode_digits (url_alphabet p) (g ++ x ∷ rest) ≡ behind (whole_group url_safe g) (decode_digits (url_alphabet p) (x ∷ rest))
    by true = base64_behind url_safe g x rest four
    by false = base64_behind url_safe_no_pad g x rest four

-- digits of a group, in front of one more
pub behind_group : (form : Form) (g : List ℕ) (x : ℕ) (rest : List ℕ) → length g ≡ width form → decode_form form (g ++ x ∷ rest) ≡ behind (group_of form g)
    (decode_form form (x ∷ rest))
behind_group Base64Text g x rest four = base64_behind standard g x rest four
behind_group Base64UrlText g x rest four = url_behind g x rest four
behind_group ArmouredText g x rest four = base64_behind standard g x rest four
behind_group form g x rest two = hex_behind g (x ∷ rest) two

-- what digits of a group are, with more behind them, they are by themselves
hex_whole : (g x : List ℕ) → length g ≡ 2 → pairs g ≡ Some x → (answer_of (hex.decode_of g) ≡ Some x) × (length x + 1 ≡ 2)
hex_whole (high ∷ low ∷ []) x two is = (hex_pairs (high ∷ low ∷ []) ∙ is, omega (arith, pair_long high low x is))
hex_whole g x two is = absurd (omega (arith, two))

base64_whole : (e : GeneralPurpose) → IsStrict e → IsConsistent e → (g x : List ℕ) → length g ≡ 4 → IsBytes g → whole_group e g ≡ Some x
    → (answer_of (decode_of e g) ≡ Some x) × (length x + 1 ≡ 4)
base64_whole e strict consistent g x four bytes is =
    let w = four_whole e strict consistent g four bytes (groups_error e.decode_table g 1) x refl is in
    (ap answer_of w.0, omega (arith, w.1))

url_whole : (p : Bool) (g x : List ℕ) → length g ≡ 4 → IsBytes g → whole_group url_safe g ≡ Some x → (decode_digits (url_alphabet p) g ≡ Some x)
    × (length x + 1 ≡ 4)
url_whole true g x four bytes is = base64_whole url_safe (refl, refl) refl g x four bytes is
url_whole false g x four bytes is = base64_whole url_safe_no_pad (refl, refl) refl g x four bytes is

whole_decodes : (form : Form) (g x : List ℕ) → length g ≡ width form → IsBytes g → group_of form g ≡ Some x → (decode_form form g ≡ Some x)
    × (length x + 1 ≡ width form)
whole_decodes Base64Text g x four bytes is = base64_whole standard (refl, refl) refl g x four bytes is
whole_decodes Base64UrlText g x four bytes is = url_whole (has_padding g) g x four bytes is
whole_decodes ArmouredText g x four bytes is = base64_whole standard (refl, refl) refl g x four bytes is
whole_decodes form g x two bytes is = hex_whole g x two is

-- so are the other way round as many bytes as a group can be
base64_known : (e : GeneralPurpose) → IsStrict e → IsConsistent e → (g x : List ℕ) → length g ≡ 4 → IsBytes g → IsBytes x → 4 ≤ length x + 1
    → answer_of (decode_of e g) ≡ Some x → whole_group e g ≡ Some x
base64_known e strict consistent g x four bytes are least is = four_known e strict consistent g four bytes x are (omega (arith, least))
    (error_none (decode_of e g) x is)

url_known : (p : Bool) (g x : List ℕ) → length g ≡ 4 → IsBytes g → IsBytes x → 4 ≤ length x + 1 → decode_digits (url_alphabet p) g ≡ Some x
    → whole_group url_safe g ≡ Some x
url_known true g x four bytes are least is = base64_known url_safe (refl, refl) refl g x four bytes are least is
url_known false g x four bytes are least is = base64_known url_safe_no_pad (refl, refl) refl g x four bytes are least is

pub group_known : (form : Form) (g x : List ℕ) → length g ≡ width form → IsBytes g → IsBytes x → width form ≤ length x + 1 → decode_form form g ≡ Some x
    → group_of form g ≡ Some x
group_known Base64Text g x four bytes are least is = base64_known standard (refl, refl) refl g x four bytes are least is
group_known Base64UrlText g x four bytes are least is = url_known (has_padding g) g x four bytes are least is
group_known ArmouredText g x four bytes are least is = base64_known standard (refl, refl) refl g x four bytes are least is
group_known form g x two bytes are least is = sym (hex_pairs g) ∙ is

-- and less is none
pub no_group : (form : Form) (g : List ℕ) → length g ≡ width form → IsBytes g → ((x : List ℕ) → decode_form form g ≡ Some x → length x + 1 < width form)
    → group_of form g ≡ None
no_group form g long bytes less = by (group_of form g) refl
  where
    by : (o : Option (List ℕ)) → group_of form g ≡ o → o ≡ None
    by None is = refl
    by (Some x) is =
        let w = whole_decodes form g x long bytes is in
        absurd (omega (arith, less x w.0, w.1))

-- no digits are no bytes
base64_nothing : (e : GeneralPurpose) → answer_of (decode_of e []) ≡ Some []
base64_nothing e = sym (of_is e []) ∙ decoded_of-nil e

pub nothing : (form : Form) → decode_form form [] ≡ Some []
unfolding pairs
nothing Base64Text = base64_nothing standard
nothing Base64UrlText = base64_nothing url_safe_no_pad
nothing ArmouredText = base64_nothing standard
nothing form = hex_pairs []

-- a whole group in front of any digits
pub group_then : (form : Form) (g x : List ℕ) → length g ≡ width form → IsBytes g → group_of form g ≡ Some x → (rest : List ℕ)
    → decode_form form (g ++ rest) ≡ prepend_known x (decode_form form rest)
group_then form g x long bytes is [] =
    ap (decode_form form) (append-nil g) ∙ (whole_decodes form g x long bytes is).0 ∙ ap (λ (t : List ℕ). Some t) (sym (append-nil x))
    ∙ ap (prepend_known x) (sym (nothing form))
group_then form g x long bytes is (b ∷ rest) = behind_group form g b rest long ∙ ap (λ (o : Option (List ℕ)). behind o (decode_form form (b ∷ rest))) is

-- ---- whole groups

two_or_four : (form : Form) → (width form ≡ 2) ⊎ (width form ≡ 4)
two_or_four Base64Text = inr refl
two_or_four Base64UrlText = inr refl
two_or_four ArmouredText = inr refl
two_or_four form = inl refl

by_width : (form : Form) (P : ℕ → Type 0) → P 2 → P 4 → P (width form)
by_width form P two four = elim (two_or_four form) [
  | inl is ↦ subst P (sym is) two
  | inr is ↦ subst P (sym is) four
]

pub least_group : (form : Form) (n : ℕ) → 0 < n → n % width form ≡ 0 → width form ≤ n
least_group form n = by_width form (λ (w : ℕ). 0 < n → n % w ≡ 0 → w ≤ n) (λ some whole. omega (arith, some, whole)) (λ some whole. omega (arith, some, whole))

pub more_whole : (form : Form) (n : ℕ) → n % width form ≡ 0 → (n + width form) % width form ≡ 0
more_whole form n = by_width form (λ (w : ℕ). n % w ≡ 0 → (n + w) % w ≡ 0) (λ whole. omega (arith, whole)) (λ whole. omega (arith, whole))

less_whole : (form : Form) (n : ℕ) → width form ≤ n → n % width form ≡ 0 → (n - width form) % width form ≡ 0
less_whole form n = by_width form (λ (w : ℕ). w ≤ n → n % w ≡ 0 → (n - w) % w ≡ 0) (λ le whole. omega (arith, le, whole)) (λ le whole. omega (arith, le, whole))

pub some_width : (form : Form) → 0 < width form
some_width form = by_width form (λ (w : ℕ). 0 < w) (omega arith) (omega arith)

-- the bytes of whole groups in front of digits are in front of the bytes of all
prepend_parts : (x all : List ℕ) (o : Option (List ℕ)) → prepend_known x o ≡ Some all → (xs : List ℕ) × (o ≡ Some xs) × (all ≡ x ++ xs)
prepend_parts x all None e = cc e
prepend_parts x all (Some xs) e = (xs, refl, sym (some_same e))

behind_parts : (o r : Option (List ℕ)) (all : List ℕ) → behind o r ≡ Some all → (x : List ℕ) × (o ≡ Some x)
behind_parts None r all e = cc e
behind_parts (Some x) r all e = (x, refl)

-- a group in front of a digit, where all are bytes
first_known : (form : Form) (g s all : List ℕ) → length g ≡ width form → 0 < length s → decode_form form (g ++ s) ≡ Some all → (x : List ℕ)
    × (group_of form g ≡ Some x)
first_known form g [] all long some is = absurd (omega (arith, some))
first_known form g (b ∷ rest) all long some is = behind_parts (group_of form g) (decode_form form (b ∷ rest)) all (sym (behind_group form g b rest long) ∙ is)

back_bytes : (a b : List ℕ) → IsBytes (a ++ b) → IsBytes b
back_bytes [] b bytes = bytes
back_bytes (x ∷ a) b bytes = back_bytes a b (λ i. bytes (suc i))

-- a group more in front
front_step : (form : Form) (g r t front all x : List ℕ) → length g ≡ width form → IsBytes g → group_of form g ≡ Some x
    → decode_form form (g ++ r) ≡ Some front
    → decode_form form (g ++ (r ++ t)) ≡ Some all
    → ((fs xs : List ℕ) → decode_form form r ≡ Some fs → decode_form form (r ++ t) ≡ Some xs → (more : List ℕ) × (xs ≡ fs ++ more))
    → (more : List ℕ) × (all ≡ front ++ more)
front_step form g r t front all x long bytes is whole of_all on =
    let here = prepend_parts x front (decode_form form r) (sym (group_then form g x long bytes is r) ∙ whole) in
    let there = prepend_parts x all (decode_form form (r ++ t)) (sym (group_then form g x long bytes is (r ++ t)) ∙ of_all) in
    let more = on here.0 there.0 here.1 there.1 in
    (more.0, there.2 ∙ ap (λ (u : List ℕ). x ++ u) more.1 ∙ sym (append_assoc x here.0 more.0) ∙ ap (λ (u : List ℕ). u ++ more.0) (sym here.2))

-- the digits of a text in groups: the first, and the rest
record Split (form : Form) (s : List ℕ) : Type 0 where
  g : List ℕ
  r : List ℕ
  are : s ≡ g ++ r
  long : length g ≡ width form
  whole : length r % width form ≡ 0
  less : length r < length s

split_of : (form : Form) (s : List ℕ) → 0 < length s → length s % width form ≡ 0 → Split form s
split_of form s some whole =
    let least = least_group form (length s) some whole in
    let left = length-drop (width form) s in
    record {
      g = take (width form) s;
      r = drop (width form) s;
      are = sym (take-append-drop (width form) s);
      long = length-take-le (width form) s least;
      whole = subst (λ (k : ℕ). k % width form ≡ 0) (sym left) (less_whole form (length s) least whole);
      less = omega (arith, left, least, some_width form);
    }

pub digits_behind : (form : Form) (n : ℕ) (s t front all : List ℕ) → length s ≤ n → length s % width form ≡ 0 → IsBytes s → decode_form form s ≡ Some front
    → decode_form form (s ++ t) ≡ Some all
    → (more : List ℕ) × (all ≡ front ++ more)
digits_behind form n s [] front all le whole bytes is of_all = ([], some_same (sym of_all ∙ ap (decode_form form) (append-nil s) ∙ is) ∙ sym (append-nil front))
digits_behind form n [] (b ∷ t) front all le whole bytes is of_all = (all, ap (λ (x : List ℕ). x ++ all) (some_same (sym (nothing form) ∙ is)))
digits_behind form zero (c ∷ s) (b ∷ t) front all le whole bytes is of_all = absurd (omega (arith, le))
digits_behind form (suc n) (c ∷ s) (b ∷ t) front all le whole bytes is of_all =
    let p = split_of form (c ∷ s) (omega arith) whole in
    let parts : IsBytes (p.g ++ p.r) = subst IsBytes p.are bytes in
    let over : decode_form form (p.g ++ (p.r ++ b ∷ t)) ≡ Some all = sym (ap (λ (u : List ℕ). decode_form form (u ++ b ∷ t)) p.are
    ∙ ap (decode_form form) (append_assoc p.g p.r (b ∷ t))) ∙ of_all in
    let first = first_known form p.g (p.r ++ b ∷ t) all p.long (omega (arith, length-append p.r (b ∷ t))) over in
    front_step form p.g p.r (b ∷ t) front all first.0 p.long (front_bytes p.g p.r parts) first.1 (sym (ap (decode_form form) p.are) ∙ is) over
    (λ fs xs here there. digits_behind form n p.r (b ∷ t) fs xs (omega (arith, p.less, le)) p.whole (back_bytes p.g p.r parts) here there)

-- a call of base64 decodes to as many bytes as there is room for
pub decoded_within : (e : GeneralPurpose) (g old new : List ℕ) (r : Result ℕ DecodeError) → length new ≡ length old
    → IfOk r (λ n. IsDecodedInto e g n old new) → IfSome (result_ok r) (λ n. n ≤ length new)
decoded_within e g old new (Err f) len ok = tt
decoded_within e g old new (Ok n) len ok = omega (arith, len, ok.2)

-- ---- runs of whole groups

-- so many bytes are whole groups of so many digits
abbrev pub AreWhole : Form → ℕ → ℕ → Type 0
AreWhole form digits bytes = bytes ≡ digits / width form * (width form - 1)

rest_whole : (form : Form) (digits x xs first : ℕ) → AreWhole form (width form + digits) x → x ≡ first + xs → first + 1 ≡ width form → AreWhole form digits xs
rest_whole form digits x xs first = by_width form
    (λ (w : ℕ). x ≡ (w + digits) / w * (w - 1) → x ≡ first + xs → first + 1 ≡ w → xs ≡ digits / w * (w - 1))
    (λ a b c. omega (arith, a, b, c)) (λ a b c. omega (arith, a, b, c))

one_whole : (form : Form) (digits x : ℕ) → digits ≡ width form → AreWhole form digits x → width form ≤ x + 1
one_whole form digits x = by_width form (λ (w : ℕ). digits ≡ w → x ≡ digits / w * (w - 1) → w ≤ x + 1)
    (λ a b. omega (arith, a, b)) (λ a b. omega (arith, a, b))

pub both_whole : (form : Form) (a b : ℕ) → a % width form ≡ 0 → b % width form ≡ 0 → (a + b) % width form ≡ 0
both_whole form a b = by_width form (λ (w : ℕ). a % w ≡ 0 → b % w ≡ 0 → (a + b) % w ≡ 0) (λ x y. omega (arith, x, y)) (λ x y. omega (arith, x, y))

pub prepended : (x y : List ℕ) (o : Option (List ℕ)) → prepend_known (x ++ y) o ≡ prepend_known x (prepend_known y o)
prepended x y None = refl
prepended x y (Some z) = ap Some (append_assoc x y z)

pub nothing_in_front : (o : Option (List ℕ)) → o ≡ prepend_known [] o
nothing_in_front None = refl
nothing_in_front (Some x) = refl

-- the first group of a run, and the others
run_step : (form : Form) (g r x rest : List ℕ) → length g ≡ width form → IsBytes (g ++ r) → IsBytes x → AreWhole form (length (g ++ r)) (length x)
    → decode_form form (g ++ r) ≡ Some x
    → ((xs : List ℕ) → 0 < length r → IsBytes xs → AreWhole form (length r) (length xs) → decode_form form r ≡ Some xs
    → decode_form form (r ++ rest) ≡ prepend_known xs (decode_form form rest))
    → decode_form form ((g ++ r) ++ rest) ≡ prepend_known x (decode_form form rest)
run_step form g [] x rest long bytes are whole is on =
    let alone : g ++ [] ≡ g = append-nil g in
    let known = group_known form g x long (front_bytes g [] bytes) are
    (one_whole form (length (g ++ [])) (length x) (omega (arith, long, length-append g [])) whole) (sym (ap (decode_form form) alone) ∙ is) in
    ap (λ (t : List ℕ). decode_form form (t ++ rest)) alone ∙ group_then form g x long (front_bytes g [] bytes) known rest
run_step form g (b ∷ r) x rest long bytes are whole is on =
    let plain = front_bytes g (b ∷ r) bytes in
    let first = first_known form g (b ∷ r) x long (omega arith) is in
    let parts = prepend_parts first.0 x (decode_form form (b ∷ r)) (sym (group_then form g first.0 long plain first.1 (b ∷ r)) ∙ is) in
    let other = on parts.0 (omega arith) (back_bytes first.0 parts.0 (subst IsBytes parts.2 are))
    (rest_whole form (length (b ∷ r)) (length x) (length parts.0) (length first.0)
    (subst (λ (n : ℕ). AreWhole form n (length x)) (omega (arith, long, length-append g (b ∷ r))) whole)
    (ap (λ (t : List ℕ). length t) parts.2 ∙ length-append first.0 parts.0) (whole_decodes form g first.0 long plain first.1).1) parts.1 in
    ap (decode_form form) (append_assoc g (b ∷ r) rest) ∙ group_then form g first.0 long plain first.1 ((b ∷ r) ++ rest)
    ∙ ap (prepend_known first.0) other ∙ sym (prepended first.0 parts.0 (decode_form form rest))
    ∙ ap (λ (t : List ℕ). prepend_known t (decode_form form rest)) (sym parts.2)

-- a run that is as many bytes as it can be is these in front of any digits
pub run_decodes : (form : Form) (n : ℕ) (s x rest : List ℕ) → length s ≤ n → length s % width form ≡ 0 → IsBytes s → IsBytes x
    → AreWhole form (length s) (length x) → decode_form form s ≡ Some x → decode_form form (s ++ rest) ≡ prepend_known x (decode_form form rest)
run_decodes form n [] x rest le groups bytes are whole is =
    subst (λ (y : List ℕ). decode_form form rest ≡ prepend_known y (decode_form form rest)) (some_same (sym (nothing form) ∙ is))
    (nothing_in_front (decode_form form rest))
run_decodes form zero (c ∷ s) x rest le groups bytes are whole is = absurd (omega (arith, le))
run_decodes form (suc n) (c ∷ s) x rest le groups bytes are whole is =
    let p = split_of form (c ∷ s) (omega arith) groups in
    let all : IsBytes (p.g ++ p.r) = subst IsBytes p.are bytes in
    ap (λ (t : List ℕ). decode_form form (t ++ rest)) p.are
    ∙ run_step form p.g p.r x rest p.long all are (subst (λ (t : List ℕ). AreWhole form (length t) (length x)) p.are whole)
    (sym (ap (decode_form form) p.are) ∙ is)
    (λ xs some plain whole_xs known. run_decodes form n p.r xs rest (omega (arith, p.less, le)) p.whole (back_bytes p.g p.r all) plain whole_xs known)

-- the digits of whole groups
pub whole_digits : (form : Form) (n : ℕ) → ((n / width form * width form) % width form ≡ 0) × (n / width form * width form ≤ n)
whole_digits form n = by_width form (λ (w : ℕ). ((n / w * w) % w ≡ 0) × (n / w * w ≤ n)) (omega arith, omega arith) (omega arith, omega arith)
