-- Numbers that std parses.
use Rattle.std.proofs.Common.{rules, ◌≡◌, ◌≢◌, ℕ, ◌<◌, ◌^◌, Bool, true, false, ◌==◌, List, [], ◌∷◌, length, get_or, Result, Ok, Err}
use Rattle.std.proofs.Common.{if◌then◌else◌, Some, None, refl, sym, ap, Decides}
use Rattle.std.specs.Str.{all_ascii_digits}
use Rattle.std.specs.{Result.result_ok, Str.Parse.digits_value, Str.Parse.ParsesUnsigned}
use Rattle.std.proofs.lemmas.Bool.{eqb-true}
use Rattle.std.proofs.lemmas.Bool.Decides.{Decides-and, Decides-ltb}
use Rattle.std.proofs.lemmas.Str.Parse.{IsNumeralModel, numerals_by_value, parse_plain}
use Rattle.kmip_ttlv_xml.specs.Decimals.{is_size, size_of, signed, whole_of}

abbrev AreDigits : List ℕ → Type 0
AreDigits ds = all_ascii_digits ds ≡ true

own : IsNumeralModel AreDigits (digits_value 10)
own = numerals_by_value AreDigits (search rules)

is_decides : (ds : List ℕ) → Decides (is_size ds) (AreDigits ds × ((0 < length ds) × (digits_value 10 ds < 2 ^ 64)))
is_decides ds = Decides-and _ _ (λ e. e, λ e. e) (Decides-and _ _ (Decides-ltb 0 (length ds)) (Decides-ltb (digits_value 10 ds) (2 ^ 64)))

-- a number that is chosen, and one that isn't
picked : (b : Bool) (n x : ℕ) {P : Type 0} → Decides b P → P → x ≡ n → (if b then Some n else None) ≡ Some x
picked true n x d p e = ap (λ m. Some m) (sym e)
picked false n x d p e = let f : false ≡ true = d.1 p in absurd cc

unpicked : (b : Bool) (n : ℕ) {P : Type 0} → Decides b P → (P → ⊥) → (if b then Some n else None) ≡ None
unpicked true n d never = absurd (never (d.0 refl))
unpicked false n d never = refl

first_not : (ds : List ℕ) → ((rest : List ℕ) → ds ≢ 43 ∷ rest) → get_or ds 0 0 ≢ 43
first_not [] h e = absurd cc
first_not (c ∷ cs) h e = h cs (ap (λ x. x ∷ cs) e)

-- what is parsed without a plus sign is the size
pub parsed : {E : Type 0} (ds : List ℕ) (r : Result ℕ E) → ParsesUnsigned 64 10 ds r → ((rest : List ℕ) → ds ≢ 43 ∷ rest) → result_ok r ≡ size_of ds
parsed {E} ds (Ok x) h no_plus =
    let k = parse_plain own {E = E} 64 ds (Ok x) h (first_not ds no_plus) in
    sym (picked (is_size ds) (digits_value 10 ds) x (is_decides ds) (k.0.0, (k.0.1, k.0.2)) k.1)
parsed {E} ds (Err e) h no_plus =
    let never = parse_plain own {E = E} 64 ds (Err e) h (first_not ds no_plus) in
    sym (unpicked (is_size ds) (digits_value 10 ds) (is_decides ds) (λ p. never (p.0, p.1.0, p.1.1)))

-- a text without a minus sign
pub without_minus : (s : List ℕ) → ((rest : List ℕ) → s ≢ 45 ∷ rest) → signed false (size_of s) ≡ whole_of s
without_minus [] h = refl
without_minus (c ∷ cs) h = by (c == 45) refl
  where
    by : (b : Bool) → (c == 45) ≡ b → signed false (size_of (c ∷ cs)) ≡ (if b then signed true (size_of cs) else signed false (size_of (c ∷ cs)))
    by true e = absurd (h cs (ap (λ x. x ∷ cs) (eqb-true c 45 e)))
    by false e = refl
