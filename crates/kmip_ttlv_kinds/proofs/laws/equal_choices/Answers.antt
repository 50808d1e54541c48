use Rattle.kmip_ttlv_kinds.proofs.laws.equal_choices.Goals as goal

pub returns : goal.returns
returns g c = g.C.Choice.chosen.rules.same
