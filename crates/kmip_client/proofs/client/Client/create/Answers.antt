use Rattle.std.proofs.Common.{inl, inr, refl}
use Rattle.kmip_client.proofs.Asked.{called}
use Rattle.kmip_client.proofs.client.Client.create.Goals as goal

pub returns-in-Create-clause-calls : goal.returns-in-Create-clause-calls
returns-in-Create-clause-calls g c = called c.in-Ok.asked c.in-Ok.ensures c.in-Ok-ask.ensures.asks c.in-Create.is

pub returns-in_default : goal.returns-in_default
returns-in_default g c = record {
  calls = inr (inl (record {
    payload = c.in-Ok-ask.payload;
    came = record { asked = c.in-Ok.asked; is_asked = c.in-Ok.ensures; asks = c.in-Ok-ask.ensures.asks };
    is_other = λ x e. c.in_default.not-Create x e;
    failure = refl;
  }));
  version = c.in-Ok-ask.ensures.version;
}

pub returns-in-Err-ask-clause-calls : goal.returns-in-Err-ask-clause-calls
returns-in-Err-ask-clause-calls g c = inl (record { asked = c.in-Ok.asked; is_asked = c.in-Ok.ensures; asks = c.in-Err-ask.ensures.asks })

pub returns-in-Err-clause-calls : goal.returns-in-Err-clause-calls
returns-in-Err-clause-calls g c = inr (inr (c.in-Err.ensures, refl))
