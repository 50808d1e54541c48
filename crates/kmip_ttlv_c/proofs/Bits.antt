-- The names of a mask's bits, one after the other.
use Rattle.std.proofs.Common.{◌≡◌, ℕ, suc, ◌+◌, ◌-◌, ◌*◌, ◌/◌, ◌%◌, ◌^◌, ◌<◌, ◌==◌, List, [], Option, ap, sym, ◌∙◌, arith, add-one}
use Rattle.std.proofs.Math.Nat.{two-pow-succ}
use Rattle.kmip_ttlv_c.specs.NameTexts.{joined, set_name, bits_joined, mask_text}

next_power : (n : ℕ) → 2 ^ (n + 1) ≡ 2 ^ n * 2
next_power n = omega (arith, ap (λ (k : ℕ). 2 ^ k) (add-one n), two-pow-succ n)

-- those of all bits
pub first_bit : (names : ℕ → Option (List ℕ)) (mask : ℕ) (text : List ℕ) → text ≡ [] → bits_joined names (32 - 0) (2 ^ 0) mask text ≡ mask_text names mask
unfolding mask_text
first_bit names mask text is = ap (λ (t : List ℕ). bits_joined names 32 1 mask t) is

-- those of the bits from a place on are the name of its bit and those of the bits above
pub next_bit : (names : ℕ → Option (List ℕ)) (place rest : ℕ) (text more : List ℕ) → place < 32
    → more ≡ joined text (set_name names (2 ^ place) (rest % 2 == 1))
    → bits_joined names (32 - (place + 1)) (2 ^ (place + 1)) (rest / 2) more ≡ bits_joined names (32 - place) (2 ^ place) rest text
unfolding bits_joined
next_bit names place rest text more lt is =
    let left : 32 - place ≡ suc (32 - (place + 1)) = omega arith in
    ap (λ (bit : ℕ). bits_joined names (32 - (place + 1)) bit (rest / 2) more) (next_power place)
    ∙ ap (λ (t : List ℕ). bits_joined names (32 - (place + 1)) (2 ^ place * 2) (rest / 2) t) is
    ∙ ap (λ (n : ℕ). bits_joined names n (2 ^ place) rest text) (sym left)

-- behind the last there are none
pub last_bit : (names : ℕ → Option (List ℕ)) (left bit rest : ℕ) (text : List ℕ) → left ≡ 0 → bits_joined names left bit rest text ≡ text
unfolding bits_joined
last_bit names left bit rest text is = ap (λ (n : ℕ). bits_joined names n bit rest text) is
