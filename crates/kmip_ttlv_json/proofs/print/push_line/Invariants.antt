use Rattle.std.proofs.Common.{◌≡◌, List}
use Rattle.kmip_ttlv_items.specs.{declared.found.FoundItem.FoundItem, Stepping.Met, Stepping.left}
use Rattle.kmip_ttlv_json.specs.Parts.{parts, spot_behind, first_spot}
use Rattle.kmip_ttlv_json.specs.Printings.{style_of, secrets_of, shown_of, has_line}
use Rattle.kmip_ttlv_json.proofs.Found.{found_lines}
use Rattle.kmip_ttlv_json.proofs.print.push_line.Given as goal

abbrev pub invariant-items : goal.invariant-items
invariant-items g l = record {
  bytes : l.walk.bytes.now ≡ l.message;
  printed_lines : (found : List FoundItem)
      × Met l.walk found
      × (l.spot ≡ spot_behind (secrets_of l.hiding (has_line l.secrets)) first_spot (found_lines l.message found))
      × g.S.TextSink.adds l.fn.out
      (parts (style_of l.words) (secrets_of l.hiding (has_line l.secrets)) (shown_of l.hiding) first_spot (found_lines l.message found)) l.out;
}

abbrev pub decreases-items : goal.decreases-items
decreases-items g l = left l.walk
