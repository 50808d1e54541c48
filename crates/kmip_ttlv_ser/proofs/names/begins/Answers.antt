use Rattle.std.proofs.Common.{◌≡◌, length, take, ◌∙◌, arith, subst}
use Rattle.std.proofs.lemmas.List.{take_all}
use Rattle.kmip_ttlv_ser.proofs.Prefixes.{begun, differs_at}
use Rattle.kmip_ttlv_ser.proofs.names.begins.Goals as goal

pub returns-then-bytes-at : goal.returns-then-bytes-at
returns-then-bytes-at c =
    differs_at c.args.prefix.now c.args.bytes.now c.loop-at.at (omega (arith, c.loop-at-test.true)) c.if-bytes-at.true

pub returns : goal.returns
returns c =
    let p = c.args.prefix.now in
    let i = c.loop-at.invariant in
    let end : c.loop-at.at ≡ length p = omega (arith, c.loop-at-test.false, i.0) in
    begun p c.args.bytes.now (subst (λ k. take k c.args.bytes.now ≡ take k p) end i.2 ∙ take_all (length p) p (omega arith))
