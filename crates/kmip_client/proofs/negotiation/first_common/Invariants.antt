-- What is left leads to the same, and gets shorter.
use Rattle.std.specs.Prelude.{length}
use Rattle.kmip_client.proofs.Versions.{Leads}
use Rattle.kmip_client.proofs.negotiation.first_common.Given as goal

abbrev pub invariant-loop-first : goal.invariant-loop-first
invariant-loop-first l = Leads l.left l.own l.theirs

abbrev pub decreases-loop-first : goal.decreases-loop-first
decreases-loop-first l = length l.left
