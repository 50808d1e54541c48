use Rattle.std.proofs.Common.{inr, inl, refl, rules}
use Rattle.kmip_client.proofs.client.Client.activate.Goals as goal

pub returns-in-Ok : goal.returns-in-Ok
returns-in-Ok g c = record {
  calls = inr (inl (record {
    payload = c.in-Ok.other;
    came = record { asked = c.in_ok-asked.asked; is_asked = c.in_ok-asked.ensures; asks = c.in-Ok.ensures.asks };
    is_other = search rules;
    failure = refl;
  }));
  version = c.in-Ok.ensures.version;
}
