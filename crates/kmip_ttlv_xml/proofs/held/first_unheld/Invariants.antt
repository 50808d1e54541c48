use Rattle.std.proofs.Common.{◌≡◌, length}
use Rattle.std.specs.List.{AllByRecursion}
use Rattle.kmip_ttlv_json.specs.Printings.{IsThere}
use Rattle.kmip_ttlv_xml.specs.XmlWritings.{first_unheld}
use Rattle.kmip_ttlv_xml.proofs.held.first_unheld.Given as goal

abbrev pub invariant-items : goal.invariant-items
invariant-items g l = record {
  there : AllByRecursion (IsThere l.message) l.rest;
  same : first_unheld l.message l.items ≡ first_unheld l.message l.rest;
}

abbrev pub decreases-items : goal.decreases-items
decreases-items g l = length l.rest
