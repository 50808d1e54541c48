use Rattle.std.proofs.Common.{◌≤◌, ◌++◌, ◌∷◌, List, ℕ, length, ap, sym, ◌∙◌, arith}
use Rattle.kmip_ttlv_types.specs.Names.{tag_of}
use Rattle.kmip_ttlv_util.proofs.undiag.tag_of.Goals as goal

pub returns-in-Some : goal.returns-in-Some
returns-in-Some g c =
    let few : length c.args.digits.now ≤ 8 = omega (arith, c.in-Some.ensures.few) in
    sym c.in-Some.ensures.tag ∙ ap (λ (s : List ℕ). tag_of (48 ∷ 120 ∷ (c.args.prefix.now.text.now ++ s))) (sym (c.requires.number few))
