use Rattle.std.proofs.Common.{rules, [], ◌∙◌}
use Rattle.kmip_ttlv_base.specs.Builds.{within, unfinished}
use Rattle.kmip_ttlv_base.proofs.Building.{built}
use Rattle.kmip_ttlv_base.proofs.build.data_of.Goals as goal

pub returns : goal.returns
returns g c = c.first.ensures ∙ built (g.T.Serialize.stated c.args.value.now) (unfinished c.visit.new.visitor)
    (c.in_ok-visit.ensures.received (within [] []) (search rules))
