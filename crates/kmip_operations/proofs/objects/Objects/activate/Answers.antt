use Rattle.std.proofs.Common.{refl}
use Rattle.kmip_operations.proofs.Stepping.{took_now}
use Rattle.kmip_operations.proofs.objects.Objects.activate.Goals as goal

pub returns : goal.returns
returns g c = record { done = c.in_ok-done.done; payload_is = refl; took = took_now _ c.args.now _ _ _ _ c.ranges.now c.in_ok-done.ensures }
