use Rattle.kmip_attribute_set.proofs.Seeking.{lacks, lacks_none, lacks_on}
use Rattle.kmip_attribute_set.proofs.tags.first_untagged.Goals as goal

pub returns-then-not-has_tag : goal.returns-then-not-has_tag
returns-then-not-has_tag g c =
    lacks c.args.list.now c.loop-attribute.left.now c.in-Some.rest.now c.in-Some.attribute.now c.has_tag.result c.loop-attribute.invariant
    c.in-Some.ensures.cases.0 c.has_tag.ensures c.if-not-has_tag.true

pub loop-attribute-preserved : goal.loop-attribute-preserved
loop-attribute-preserved g c =
    lacks_on c.args.list.now c.loop-attribute.left.now c.in-Some.rest.now c.in-Some.attribute.now c.has_tag.result c.loop-attribute.invariant
    c.in-Some.ensures.cases.0 c.has_tag.ensures c.if-not-has_tag.false

pub returns : goal.returns
returns g c = lacks_none c.args.list.now c.loop-attribute.left.now c.loop-attribute.invariant c.in_default.ensures.cases
