-- Values that are escaped character by character.
use Rattle.std.proofs.Common.{◌≡◌, ℕ, List, [], ◌∷◌, ◌++◌, sym, ap, ◌∙◌, append-nil, append_assoc}
use Rattle.std.specs.Prelude.{encode_utf8_all}
use Rattle.std.proofs.lemmas.Str.{encodes-append}
use Rattle.plain_xml.specs.Forms.{spelled}
use Rattle.plain_xml.specs.Writings.{spelling_of, escaped}

escaped_more : (ys : List ℕ) (y : ℕ) → escaped (ys ++ y ∷ []) ≡ escaped ys ++ spelled (spelling_of y)
escaped_more [] y = append-nil (spelled (spelling_of y))
escaped_more (x ∷ ys) y =
    ap (λ s. spelled (spelling_of x) ++ s) (escaped_more ys y) ∙ sym (append_assoc (spelled (spelling_of x)) (escaped ys) (spelled (spelling_of y)))

-- one character more behind others
pub one_more : (front old new ys : List ℕ) (y : ℕ) → old ≡ front ++ encode_utf8_all (escaped ys) → new ≡ old ++ encode_utf8_all (spelled (spelling_of y))
    → new ≡ front ++ encode_utf8_all (escaped (ys ++ y ∷ []))
one_more front old new ys y so is =
    is ∙ ap (λ s. s ++ encode_utf8_all (spelled (spelling_of y))) so
    ∙ append_assoc front (encode_utf8_all (escaped ys)) (encode_utf8_all (spelled (spelling_of y)))
    ∙ ap (λ s. front ++ s) (sym (encodes-append (escaped ys) (spelled (spelling_of y))) ∙ ap encode_utf8_all (sym (escaped_more ys y)))
