use Rattle.std.proofs.Common.{Ok, Err, refl}
use Rattle.kmip_client.proofs.client.Client.get_attributes.Goals as goal

pub returns-in-Ok-clause-gets : goal.returns-in-Ok-clause-gets
returns-in-Ok-clause-gets g c = record { outcome = Ok c.in-Ok.done; calls = c.in-Ok.ensures.calls; takes = c.taken.ensures }

pub returns-in-Err-clause-gets : goal.returns-in-Err-clause-gets
returns-in-Err-clause-gets g c = record { outcome = Err c.in-Err.failure; calls = c.in-Err.ensures.calls; takes = refl }
