use Rattle.std.proofs.Common.{refl, sym}
use Rattle.kmip_operations.proofs.Stepping.{took_now}
use Rattle.kmip_operations.proofs.objects.Objects.revoke.Goals as goal

pub returns : goal.returns
returns g c = (
  c.in-Some.step,
  sym c.in-Some.ensures,
  record { done = c.in_ok-done.done; payload_is = refl; took = took_now _ c.args.now _ _ _ _ c.ranges.now c.in_ok-done.ensures },
)
