use Rattle.std.proofs.Common.{◌≡◌, map, take}
use Rattle.kmip_ttlv_xml.specs.GivenElements.{moved_view, AreGiven}
use Rattle.kmip_ttlv_xml.proofs.given.given_of.Given as goal

abbrev pub invariant-loop-element : goal.invariant-loop-element
invariant-loop-element g l = record {
  index : l.index ≡ l.element-index;
  given : AreGiven (take l.element-index (map (moved_view l.around) l.elements)) l.given.items.items l.given.lent.items;
}
