-- The number of hexadecimal digits, read one by one.
use Rattle.std.proofs.Common.{◌≡◌, ℕ, zero, suc, ◌+◌, ◌*◌, ◌^◌, ◌<◌, ◌≤◌, List, [], ◌∷◌, Bool, true, false, ◌&&◌, ltb, Some, None, length, take, get_or, refl}
use Rattle.std.proofs.Common.{Decides, arith}
use Rattle.std.specs.Char.{digit_value}
use Rattle.std.specs.Str.Parse.{AllDigits, IsNumeral, digits_value}
use Rattle.std.proofs.lemmas.{Bool.Decides.Decides-and, Bool.Decides.Decides-ltb, Int.Digits.digits_more, Int.Digits.digits_value_more}
use Rattle.std.proofs.lemmas.{Str.Parse.digits_value-take-le}
use Rattle.kmip_ttlv_types.specs.Names.{all_digits, numeral}

digits_decides : (ds : List ℕ) → Decides (all_digits 16 ds) (AllDigits 16 ds)
digits_decides [] = (λ _. tt, λ _. refl)
digits_decides (c ∷ cs) = Decides-and _ _ (Decides-ltb (digit_value c) 16) (digits_decides cs)

is_decides : (ds : List ℕ) → Decides (ltb 0 (length ds) && all_digits 16 ds && ltb (digits_value 16 ds) (2 ^ 32)) (IsNumeral 16 ds
    × (digits_value 16 ds < 2 ^ 32))
is_decides ds = Decides-and _ _ (Decides-and _ _ (Decides-ltb 0 (length ds)) (digits_decides ds)) (Decides-ltb (digits_value 16 ds) (2 ^ 32))

when_not : (b : Bool) {P : Type 0} → Decides b P → (P → ⊥) → b ≡ false
when_not true d never = absurd (never (d.0 refl))
when_not false d never = refl

-- digits whose number is small are a numeral
pub is_numeral : (ds : List ℕ) → IsNumeral 16 ds → digits_value 16 ds < 2 ^ 32 → Some (digits_value 16 ds) ≡ numeral ds
is_numeral ds each small = let yes = (is_decides ds).1 (each, small) in rw yes refl

pub is_none : (ds : List ℕ) → (IsNumeral 16 ds → digits_value 16 ds < 2 ^ 32 → ⊥) → None ≡ numeral ds
is_none ds never = let out = when_not _ (is_decides ds) (λ h. never h.0 h.1) in rw out refl

digit_at : (ds : List ℕ) (i : ℕ) → AllDigits 16 ds → i < length ds → digit_value (get_or ds i 0) < 16
digit_at [] i each lt = absurd (omega (arith, lt))
digit_at (c ∷ cs) zero each lt = each.0
digit_at (c ∷ cs) (suc i) each lt = digit_at cs i each.1 (omega (arith, lt))

-- a byte that is no digit
pub other_byte : (ds : List ℕ) (i : ℕ) → i < length ds → 16 ≤ digit_value (get_or ds i 0) → None ≡ numeral ds
other_byte ds i lt other = is_none ds (λ each small. absurd (omega (arith, other, digit_at ds i each.1 lt)))

-- a beginning of digits after which no digit may follow
pub too_far : (ds : List ℕ) (i : ℕ) → i < length ds → 2 ^ 28 ≤ digits_value 16 (take i ds) → None ≡ numeral ds
too_far ds i lt far = is_none ds (λ each small.
    absurd (omega (arith, far, small, digits_value_more 16 ds i lt, digits_value-take-le 16 ds (i + 1) (omega arith))))

-- one more digit
pub more_digits : (ds : List ℕ) (i value digit : ℕ) → i < length ds → digit < 16 → (digit < 16 → digit ≡ digit_value (get_or ds i 0))
    → value ≡ digits_value 16 (take i ds) → AllDigits 16 (take i ds)
    → (value * 16 + digit ≡ digits_value 16 (take (i + 1) ds)) × AllDigits 16 (take (i + 1) ds)
more_digits ds i value digit lt small same is each =
    let d = same small in
    (omega (arith, is, d, digits_value_more 16 ds i lt), digits_more 16 ds i lt each (omega (arith, small, d)))
