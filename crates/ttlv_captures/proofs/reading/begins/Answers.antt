use Rattle.std.proofs.Common.{◌≡◌, ◌∙◌, ℕ, ◌<◌, false, List, [], length, drop, drop-cons, sym, ap, refl}
use Rattle.std.specs.Prelude.{bytes_eq}
use Rattle.ttlv_captures.specs.Notations.{first_token, bytes_of}
use Rattle.ttlv_captures.specs.declared.token.Token.{Token}
use Rattle.ttlv_captures.proofs.Tokens.{tokens_none}
use Rattle.ttlv_captures.proofs.reading.begins.Goals as goal

-- no bytes aren't some
nil_differs : (s : List ℕ) (i : ℕ) → i < length s → bytes_eq [] (drop i s) ≡ false
nil_differs s i lt = rw (drop-cons s i 0) refl

pub returns-in_default : goal.returns-in_default
returns-in_default c =
    let n = c.args.notation in
    let l = c.loop-byte in
    let bytes = c.args.bytes.now in
    let rest = drop l.byte-index bytes in
    let none = tokens_none n (length rest) (drop l.at c.args.text.now)
    (ap (first_token n) (sym c.behind.ensures.is) ∙ sym c.first_token.ensures.is ∙ c.in_default.is) in
    sym (l.invariant.1 ∙ ap (λ (ts : List Token). bytes_eq (bytes_of ts) rest) none ∙ nil_differs bytes l.byte-index c.loop-byte-test.true)
