-- What is left decides, and gets shorter.
use Rattle.std.specs.Prelude.{◌↔◌, length}
use Rattle.kmip_client.specs.Negotiation.{Has}
use Rattle.kmip_client.proofs.negotiation.is_among.Given as goal

abbrev pub invariant-loop-first : goal.invariant-loop-first
invariant-loop-first l = Has l.version l.versions ↔ Has l.version l.left

abbrev pub decreases-loop-first : goal.decreases-loop-first
decreases-loop-first l = length l.left
