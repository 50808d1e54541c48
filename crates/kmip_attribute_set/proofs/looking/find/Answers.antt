use Rattle.kmip_attribute_set.proofs.Seeking.{found, not_found, seeks_on}
use Rattle.kmip_attribute_set.proofs.looking.find.Goals as goal

pub returns-then-is_named : goal.returns-then-is_named
returns-then-is_named g c =
    found c.args.name.now c.args.attributes.now c.loop-attribute.left.now c.in-Some.rest.now c.in-Some.attribute.now c.is_named.result
    c.loop-attribute.invariant c.in-Some.ensures.cases.0 c.is_named.ensures c.if-is_named.true

pub loop-attribute-preserved : goal.loop-attribute-preserved
loop-attribute-preserved g c =
    seeks_on c.args.name.now c.args.attributes.now c.loop-attribute.left.now c.in-Some.rest.now c.in-Some.attribute.now c.is_named.result
    c.loop-attribute.invariant c.in-Some.ensures.cases.0 c.is_named.ensures c.if-is_named.false

pub returns : goal.returns
returns g c = not_found c.args.name.now c.args.attributes.now c.loop-attribute.left.now c.loop-attribute.invariant c.in_default.ensures.cases
