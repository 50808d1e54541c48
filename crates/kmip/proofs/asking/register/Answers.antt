use Rattle.std.proofs.Common.{Ok, Err, refl}
use Rattle.kmip.proofs.asking.register.Goals as goal

pub returns-in-Ok : goal.returns-in-Ok
returns-in-Ok g c = record { outcome = Ok c.in-Ok.kept; returns = c.in-Ok.ensures; given = refl }

pub returns-in-Err : goal.returns-in-Err
returns-in-Err g c = record { outcome = Err c.in-Err.failure; returns = c.in-Err.ensures; given = refl }
