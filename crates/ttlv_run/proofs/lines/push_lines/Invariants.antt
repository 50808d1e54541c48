use Rattle.std.proofs.Common.{◌≡◌, List}
use Rattle.kmip_ttlv_items.specs.{declared.found.FoundItem.FoundItem, Stepping.Met, Stepping.left}
use Rattle.ttlv_run.specs.Texts.{names_of, no_reach, reach_all, lines_from}
use Rattle.ttlv_run.proofs.lines.push_lines.Given as goal

abbrev pub invariant-items : goal.invariant-items
invariant-items g l = record {
  bytes : l.walk.bytes.now ≡ l.message;
  reported : (found : List FoundItem)
      × Met l.walk found
      × (l.reach ≡ reach_all (names_of l.names) l.look l.message no_reach found)
      × g.S.TextSink.adds l.fn.out (lines_from (names_of l.names) l.look l.at l.message no_reach found) l.out;
}

abbrev pub decreases-items : goal.decreases-items
decreases-items g l = left l.walk
