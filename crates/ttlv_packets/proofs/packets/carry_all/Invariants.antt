use Rattle.std.proofs.Common.{◌≡◌, ◌≤◌, ◌-◌, length}
use Rattle.ttlv_packets.specs.Captures.{Carries}
use Rattle.ttlv_packets.proofs.packets.carry_all.Given as goal

abbrev pub invariant-streams : goal.invariant-streams
invariant-streams g l = record {
  within : l.at ≤ length l.places;
  end : l.packets.end ≡ l.fn.packets.end;
  carries : Carries l.capture l.places l.at l.packets.bytes.items l.packets.messages.items;
}

abbrev pub decreases-streams : goal.decreases-streams
decreases-streams g l = length l.places - l.at
