-- A line without its line feed.
use Rattle.std.proofs.Common.{◌≡◌, ◌-◌, ℕ, List, [], ◌∷◌, ◌++◌, length, take, arith, ap, ◌∙◌, length-append}
use Rattle.std.proofs.Math.Seq.{take-append_seam}

pub before_feed : (line text : List ℕ) → line ≡ text ++ 10 ∷ [] → take (length line - 1) line ≡ text
before_feed line text is =
    let n : length line - 1 ≡ length text = omega (arith, ap length is, length-append text (10 ∷ [])) in
    ap (λ (k : ℕ). take k line) n ∙ ap (λ (l : List ℕ). take (length text) l) is ∙ take-append_seam text (10 ∷ [])
