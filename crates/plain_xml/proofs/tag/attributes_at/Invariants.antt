use Rattle.std.proofs.Common.{◌≡◌, [], length, map}
use Rattle.plain_xml.specs.Faults.{steps}
use Rattle.plain_xml.specs.Elements.{attribute_view}
use Rattle.plain_xml.specs.Tags.{next_attribute}
use Rattle.plain_xml.proofs.tag.attributes_at.Given as goal

abbrev pub invariant-attributes : goal.invariant-attributes
invariant-attributes g l = steps next_attribute [] l.text ≡ steps next_attribute (map attribute_view l.attributes.items) l.rest

abbrev pub decreases-attributes : goal.decreases-attributes
decreases-attributes g l = length l.rest
