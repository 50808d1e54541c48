use Rattle.std.proofs.Common.{◌≡◌, ◌∙◌, drop, Some, sym, ap, arith, rules}
use Rattle.ttlv_captures.specs.Notations.{first_token, widths}
use Rattle.ttlv_captures.proofs.Tokens.{tokens_none, bytes_step, widths_step}
use Rattle.ttlv_captures.proofs.reading.read.Goals as goal

pub returns-in_default-clause-taken : goal.returns-in_default-clause-taken
returns-in_default-clause-taken g c =
    let rest = sym c.behind.ensures.is in
    let none = tokens_none c.args.notation c.tokens.left (drop c.tokens.taken c.args.text.now)
    (ap (first_token c.args.notation) rest ∙ sym c.first_token.ensures.is ∙ c.in_default.is) in
    omega (arith, ap widths none, c.tokens.invariant.widths)

pub tokens-preserved : goal.tokens-preserved
tokens-preserved g c =
    let n = c.args.notation in
    let l = c.tokens in
    let t = c.in-Some.token in
    let first : first_token n (drop l.taken c.args.text.now) ≡ Some t =
    ap (first_token n) (sym c.behind.ensures.is) ∙ sym c.first_token.ensures.is ∙ c.in-Some.is in
    let items = c.in_ok-push.ensures.items in
    let bytes = bytes_step n l.left l.taken c.args.text.now l.bytes.items _ t c.tokens-test.true first l.invariant.bytes in
    record {
      within = search rules;
      onward = search rules;
      bytes = rw items bytes;
      widths = widths_step n l.left l.taken _ c.args.text.now t c.tokens-test.true first l.invariant.widths;
    }
