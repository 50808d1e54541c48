-- Numbers and the bytes that they are written as.
use Rattle.std.proofs.Common.{ℕ, zero, suc, ◌<◌, List, ◌∷◌, get_or, arith}

front_zero : (bs : List ℕ) → ((i : ℕ) → get_or bs i 0 < 256) → (i : ℕ) → get_or (0 ∷ bs) i 0 < 256
front_zero bs byte zero = omega arith
front_zero bs byte (suc i) = byte i
