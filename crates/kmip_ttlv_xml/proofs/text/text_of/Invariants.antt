use Rattle.std.proofs.Common.{length}
use Rattle.std.specs.List.{AllByRecursion}
use Rattle.kmip_ttlv_json.specs.Printings.{IsThere}
use Rattle.kmip_ttlv_xml.proofs.text.text_of.Given as goal

abbrev pub invariant-items : goal.invariant-items
invariant-items g l = AllByRecursion (IsThere l.message) l.rest

abbrev pub decreases-items : goal.decreases-items
decreases-items g l = length l.rest
