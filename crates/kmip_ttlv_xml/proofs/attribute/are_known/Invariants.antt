use Rattle.std.proofs.Common.{◌≡◌, length, map}
use Rattle.plain_xml.specs.Elements.{attribute_view}
use Rattle.kmip_ttlv_xml.specs.XmlItems.{are_known}
use Rattle.kmip_ttlv_xml.proofs.attribute.are_known.Given as goal

abbrev pub invariant-attributes : goal.invariant-attributes
invariant-attributes g l = are_known (map attribute_view l.attributes) ≡ are_known (map attribute_view l.rest)

abbrev pub decreases-attributes : goal.decreases-attributes
decreases-attributes g l = length l.rest
