use Rattle.std.proofs.Common.{inl, inr, refl, rules}
use Rattle.kmip_client.proofs.Asked.{called}
use Rattle.kmip_client.proofs.client.Client.discover_versions.Goals as goal

pub returns-in-Ok-DiscoverVersions-clause-calls : goal.returns-in-Ok-DiscoverVersions-clause-calls
returns-in-Ok-DiscoverVersions-clause-calls g c =
    called c.in_ok-asked.asked c.in_ok-asked.ensures c.in-Ok-DiscoverVersions.ensures.asks c.in-Ok-DiscoverVersions.field-0-is

pub returns-in-Err-clause-calls : goal.returns-in-Err-clause-calls
returns-in-Err-clause-calls g c = inl (record { asked = c.in_ok-asked.asked; is_asked = c.in_ok-asked.ensures; asks = c.in-Err.ensures.asks })

pub returns-in-Ok : goal.returns-in-Ok
returns-in-Ok g c = record {
  calls = inr (inl (record {
    payload = c.in-Ok.other;
    came = record { asked = c.in_ok-asked.asked; is_asked = c.in_ok-asked.ensures; asks = c.in-Ok.ensures.asks };
    is_other = search rules;
    failure = refl;
  }));
  version = c.in-Ok.ensures.version;
}
