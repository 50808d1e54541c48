-- One more option of an interface.
use Rattle.std.proofs.Common.{◌≡◌, ◌∙◌, ℕ, ◌+◌, ◌-◌, ◌*◌, ◌/◌, ◌<◌, Bool, List, drop, Option, Some, None, refl, add-one, ap, arith}
use Rattle.std.specs.Prelude.{unwrap_or}
use Rattle.ttlv_packets.specs.Numbers.{number16}
use Rattle.ttlv_packets.specs.Files.{decided, resolution}

resolution_on : (big : Bool) (n m : ℕ) (s : List ℕ) → n ≡ m + 1
    → resolution big n s ≡ unwrap_or (decided big s) (resolution big m (drop (4 + (number16 big s 2 + 3) / 4 * 4) s))
unfolding resolution
resolution_on big n m s e = rw (e, add-one m) refl

-- the first option decides
pub resolution_found : (big : Bool) (n d : ℕ) (s : List ℕ) → 0 < n → decided big s ≡ Some d → resolution big n s ≡ d
resolution_found big n d s some e =
    let p : n ≡ n - 1 + 1 = omega arith in
    resolution_on big n (n - 1) s p ∙ ap (λ (o : Option ℕ). unwrap_or o (resolution big (n - 1) (drop (4 + (number16 big s 2 + 3) / 4 * 4) s))) e

-- or one behind it
pub resolution_behind :
    (big : Bool) (n : ℕ) (s : List ℕ) → 0 < n → decided big s ≡ None
    → resolution big n s ≡ resolution big (n - 1) (drop (4 + (number16 big s 2 + 3) / 4 * 4) s)
resolution_behind big n s some e =
    let p : n ≡ n - 1 + 1 = omega arith in
    resolution_on big n (n - 1) s p ∙ ap (λ (o : Option ℕ). unwrap_or o (resolution big (n - 1) (drop (4 + (number16 big s 2 + 3) / 4 * 4) s))) e

pub resolution_none : (big : Bool) (n : ℕ) (s : List ℕ) → n ≡ 0 → resolution big n s ≡ 6
unfolding resolution
resolution_none big n s e = rw e refl
