use Rattle.std.proofs.Common.{◌≡◌, ◌∙◌, sym, ap, arith, ◌<◌, ◌+◌, ◌-◌, ◌*◌, ◌/◌, ℕ, drop}
use Rattle.ttlv_packets.specs.Files.{resolution}
use Rattle.ttlv_packets.specs.Numbers.{number16}
use Rattle.ttlv_packets.proofs.Options.{resolution_found, resolution_behind, resolution_none}
use Rattle.ttlv_packets.proofs.file.resolution.Goals as goal

pub returns-in-Some : goal.returns-in-Some
returns-in-Some c =
    let some : 0 < c.options.left = c.options-test.true in
    sym (c.options.invariant ∙ resolution_found c.args.big c.options.left _ c.options.rest.now some (sym c.decided.ensures ∙ c.in-Some.is))

pub options-preserved : goal.options-preserved
options-preserved c =
    let some : 0 < c.options.left = c.options-test.true in
    let s = c.options.rest.now in
    let on = resolution_behind c.args.big c.options.left s some (sym c.decided.ensures ∙ c.in_default.is) in
    let rest : drop (4 + (number16 c.args.big s 2 + 3) / 4 * 4) s ≡ c.behind-rest.result.now =
    ap (λ (k : ℕ). drop (4 + (k + 3) / 4 * 4) s) (sym c.number16.ensures.is) ∙ sym c.behind-rest.ensures.is in
    c.options.invariant ∙ on ∙ ap (resolution c.args.big (c.options.left - 1)) rest

pub returns : goal.returns
returns c = let e : c.options.left ≡ 0 = omega (arith, c.options-test.false) in
    sym (c.options.invariant ∙ resolution_none c.args.big c.options.left c.options.rest.now e)
