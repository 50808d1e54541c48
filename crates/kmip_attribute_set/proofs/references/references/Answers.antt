use Rattle.std.proofs.Common.{arith}
use Rattle.kmip_attribute_set.proofs.Referring.{refers, refers_on}
use Rattle.kmip_attribute_set.proofs.references.references.Goals as goal

pub loop-name-preserved : goal.loop-name-preserved
loop-name-preserved g c =
    refers_on c.args.names.now c.loop-name.name-index _ c.loop-name.list c.in_ok-list.list c.in-Some.tag c.loop-name.invariant c.loop-name-test.true
    c.in_ok-list.ensures c.in-Some.ensures

pub returns : goal.returns
returns g c =
    refers _ c.args.names.now c.loop-name.name-index c.loop-name.list c.to_tags.result c.loop-name.invariant (omega arith) c.to_tags.ensures
