use Rattle.std.proofs.Common.{length, rules, ◌<◌}
use Rattle.kmip_operations.proofs.Knowing.{all_known, grows_same, grows_too, one_more}
use Rattle.kmip_operations.proofs.about.About.attributes.Goals as goal

pub loop-attribute-init : goal.loop-attribute-init
loop-attribute-init g c = (tt, grows_same c.args.self.now)

pub loop-attribute-preserved : goal.loop-attribute-preserved
loop-attribute-preserved g c =
    let within : c.loop-attribute.attribute-index < length c.args.attributes.now = search rules in (
      one_more c.args.attributes.now c.loop-attribute.attribute-index c.attribute-item.result within c.attribute-item.is c.in_ok-attribute.ensures.grows
          c.loop-attribute.invariant.0 c.in_ok-attribute.ensures.known,
      grows_too c.loop-attribute.invariant.1 c.in_ok-attribute.ensures.grows,
    )

pub returns-clause-known : goal.returns-clause-known
returns-clause-known g c =
    all_known c.args.attributes.now c.loop-attribute.attribute-index c.loop-attribute.self (search rules) c.loop-attribute.invariant.0
