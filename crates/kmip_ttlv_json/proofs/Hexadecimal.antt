-- Two ways to write bytes in hexadecimal are one.
use Rattle.std.proofs.Common.{◌≡◌, ℕ, zero, suc, ◌/◌, ◌%◌, ◌<◌, true, List, [], ◌∷◌, get_or, refl, ap, arith}
use Rattle.std.specs.{Prelude.slice_index, Fmt.digit_glyph}
use Rattle.hex.specs.Hex.{upper_digits, encode_with, encode_upper}
use Rattle.kmip_ttlv_util.specs.Pretty.{hex_bytes}

-- a digit
pub glyph : (d : ℕ) → d < 16 → slice_index upper_digits d ≡ digit_glyph true d
glyph zero lt = refl
glyph (suc zero) lt = refl
glyph (suc (suc zero)) lt = refl
glyph (suc (suc (suc zero))) lt = refl
glyph (suc (suc (suc (suc zero)))) lt = refl
glyph (suc (suc (suc (suc (suc zero))))) lt = refl
glyph (suc (suc (suc (suc (suc (suc zero)))))) lt = refl
glyph (suc (suc (suc (suc (suc (suc (suc zero))))))) lt = refl
glyph (suc (suc (suc (suc (suc (suc (suc (suc zero)))))))) lt = refl
glyph (suc (suc (suc (suc (suc (suc (suc (suc (suc zero))))))))) lt = refl
glyph (suc (suc (suc (suc (suc (suc (suc (suc (suc (suc zero)))))))))) lt = refl
glyph (suc (suc (suc (suc (suc (suc (suc (suc (suc (suc (suc zero))))))))))) lt = refl
glyph (suc (suc (suc (suc (suc (suc (suc (suc (suc (suc (suc (suc zero)))))))))))) lt = refl
glyph (suc (suc (suc (suc (suc (suc (suc (suc (suc (suc (suc (suc (suc zero))))))))))))) lt = refl
glyph (suc (suc (suc (suc (suc (suc (suc (suc (suc (suc (suc (suc (suc (suc zero)))))))))))))) lt = refl
glyph (suc (suc (suc (suc (suc (suc (suc (suc (suc (suc (suc (suc (suc (suc (suc zero))))))))))))))) lt = refl
glyph (suc (suc (suc (suc (suc (suc (suc (suc (suc (suc (suc (suc (suc (suc (suc (suc d)))))))))))))))) lt = absurd (omega arith)

pub hex_upper : (bytes : List ℕ) → ((k : ℕ) → get_or bytes k 0 < 256) → hex_bytes bytes ≡ encode_upper bytes
unfolding hex_bytes encode_with
hex_upper [] plain = refl
hex_upper (b ∷ bytes) plain =
    let small : b < 256 = plain 0 in
    rw (glyph (b / 16) (omega arith), glyph (b % 16) (omega arith))
    (ap (λ (s : List ℕ). digit_glyph true (b / 16) ∷ digit_glyph true (b % 16) ∷ s) (hex_upper bytes (λ k. plain (suc k))))
