use Rattle.std.proofs.Common.{◌≡◌}
use Rattle.std.specs.List.{AllByRecursion}
use Rattle.kmip_ttlv_items.specs.Stepping.{Met, left}
use Rattle.kmip_ttlv_json.specs.Printings.{IsThere}
use Rattle.kmip_ttlv_xml.proofs.write.items_of.Given as goal

abbrev pub invariant-items : goal.invariant-items
invariant-items g l = record {
  bytes : l.walk.bytes.now ≡ l.message;
  met : Met l.walk l.found.items;
  there : AllByRecursion (IsThere l.message) l.found.items;
}

abbrev pub decreases-items : goal.decreases-items
decreases-items g l = left l.walk
