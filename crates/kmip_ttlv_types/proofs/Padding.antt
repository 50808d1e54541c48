-- Bytes that extend others to a multiple of eight.
use Rattle.std.proofs.Common.{◌≡◌, ℕ, ◌+◌, ◌<◌, List, ◌++◌, length, take, replicate, ap, ◌∙◌, arith, length-append}
use Rattle.std.proofs.lemmas.List.{take-replicate, length-replicate}
use Rattle.kmip_ttlv_types.specs.{ItemTypes.pad_len, Primitives.sign_byte, Primitives.sign_extended}

-- a front of eight equal bytes is the padding
pub take-eight : (n len b : ℕ) → n ≡ pad_len len → n < 8 → take n (replicate 8 b) ≡ replicate (pad_len len) b
take-eight n len b is small = take-replicate n 8 b (omega (arith, small)) ∙ ap (λ (m : ℕ). replicate m b) is

pub length-sign_extended : (bytes : List ℕ) → length (sign_extended bytes) ≡ pad_len (length bytes) + length bytes
unfolding sign_extended
length-sign_extended bytes = length-append (replicate (pad_len (length bytes)) (sign_byte bytes)) bytes
    ∙ ap (λ n. n + length bytes) (length-replicate (pad_len (length bytes)) (sign_byte bytes))

-- sign bytes and the bytes
pub signs_before : (bytes : List ℕ) (n s : ℕ) → n ≡ pad_len (length bytes) → n < 8 → s ≡ sign_byte bytes → take n (replicate 8 s) ++ bytes ≡ sign_extended bytes
unfolding sign_extended
signs_before bytes n s is small sign = ap (λ (l : List ℕ). l ++ bytes) (take-eight n (length bytes) s is small ∙ ap (replicate (pad_len (length bytes))) sign)
