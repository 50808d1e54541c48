use Rattle.std.proofs.Common.{◌≡◌, length, map}
use Rattle.plain_xml.specs.Elements.{attribute_view}
use Rattle.plain_xml.specs.Tags.{has_name}
use Rattle.plain_xml.proofs.tag.has_name.Given as goal

abbrev pub invariant-attributes : goal.invariant-attributes
invariant-attributes g l = has_name (map attribute_view l.attributes) l.name ≡ has_name (map attribute_view l.rest) l.name

abbrev pub decreases-attributes : goal.decreases-attributes
decreases-attributes g l = length l.rest
