-- How many bytes characters take.
use Rattle.std.proofs.Common.{◌≡◌, ℕ, ◌+◌, ◌≤◌, List, ◌∷◌, ◌++◌, length, take, drop, sym, ap, ◌∙◌, arith}
use Rattle.std.specs.Prelude.{encode_utf8, encode_utf8_all}
use Rattle.std.specs.Str.{chars, IsUtf8}
use Rattle.std.specs.Char.{len_utf8}
use Rattle.std.proofs.lemmas.List.{length-append, take-append-drop}
use Rattle.std.proofs.lemmas.Str.{length-encode, encodes-append, encodes-chars}

pub length_encodes_cons : (c : ℕ) (cs : List ℕ) → length (encode_utf8_all (c ∷ cs)) ≡ len_utf8 c + length (encode_utf8_all cs)
length_encodes_cons c cs = length-append (encode_utf8 c) (encode_utf8_all cs) ∙ ap (λ (n : ℕ). n + length (encode_utf8_all cs)) (length-encode c)

-- a front takes no more than all
pub length_encodes_take : (n : ℕ) (cs : List ℕ) → length (encode_utf8_all (take n cs)) ≤ length (encode_utf8_all cs)
length_encodes_take n cs =
    let whole : encode_utf8_all cs ≡ encode_utf8_all (take n cs) ++ encode_utf8_all (drop n cs) =
    ap encode_utf8_all (sym (take-append-drop n cs)) ∙ encodes-append (take n cs) (drop n cs) in
    omega (arith, ap length whole, length-append (encode_utf8_all (take n cs)) (encode_utf8_all (drop n cs)))

pub all_bytes : (text cs : List ℕ) (size : ℕ) → IsUtf8 text → cs ≡ chars text → size ≡ length text → length (encode_utf8_all cs) ≤ size
all_bytes text cs size utf8 is len = omega (arith, len, ap length (ap encode_utf8_all is ∙ encodes-chars text utf8))
