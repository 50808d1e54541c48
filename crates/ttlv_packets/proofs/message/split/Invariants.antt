use Rattle.std.proofs.Common.{◌≡◌, ◌<◌, ◌≤◌, ◌+◌, ◌-◌, ℕ, length}
use Rattle.ttlv_packets.specs.Streams.{giver}
use Rattle.ttlv_packets.specs.Messages.{Splits}
use Rattle.ttlv_packets.specs.declared.place.TheConstants.{FIRST}
use Rattle.ttlv_packets.proofs.message.split.Given as goal

abbrev pub invariant-messages : goal.invariant-messages
invariant-messages g l = record {
  within : l.at ≤ length l.bytes;
  some : 0 < length l.rest;
  later : (q : ℕ) → FIRST + l.at ≤ q → giver q l.run ≡ giver q l.rest;
  splits : Splits l.bytes l.start l.run l.fn.messages.items l.at l.messages.items;
}

abbrev pub decreases-messages : goal.decreases-messages
decreases-messages g l = length l.bytes - l.at
