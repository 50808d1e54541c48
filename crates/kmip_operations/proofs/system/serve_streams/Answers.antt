use Rattle.std.proofs.Common.{refl}
use Rattle.kmip_operations.proofs.system.serve_streams.Goals as goal

pub returns : goal.returns
returns g c = record { first = _; last = _; from = refl; to = refl; serves = c.serve.ensures }
