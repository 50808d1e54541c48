use Rattle.std.proofs.Common.{◌∙◌}
use Rattle.kmip_ttlv_util.proofs.Texts.{stripped_some, stripped_none}
use Rattle.kmip_ttlv_util.proofs.diagnostic.strip.Goals as goal

pub returns-in-Some : goal.returns-in-Some
returns-in-Some c =
    let h = c.in-Some.ensures.cases in
    h.2 ∙ stripped_some c.args.prefix.now c.args.text.now h.0 h.1.0 h.1.1

pub returns-in-None : goal.returns-in-None
returns-in-None c = stripped_none c.args.prefix.now c.args.text.now c.in-None.ensures.cases
