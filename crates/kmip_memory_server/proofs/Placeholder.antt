-- The ID Placeholder from before doesn't matter for what Create does.
use Rattle.std.proofs.Common.{ℕ, List, Option}
use Rattle.kmip_responses.specs.declared.response_payload.ResponsePayload.{ResponsePayload}
use Rattle.kmip_responses.specs.declared.response_payload.ResponsePayload.TheVariants as responses
use Rattle.kmip_operations.specs.Effects.{Creates}
use Rattle.kmip_operations.specs.declared.about.About.{About}
use Rattle.kmip_operations.specs.declared.objects.Objects.{Objects}

pub creates_again : {K A : Type 0} (about : About K) (key : List ℕ) (old : Objects K) (last : Option ℕ) (payload : ResponsePayload A) (new : Objects K)
    → Creates about key (record old { last = last }) payload new → Creates about key old payload new
creates_again about key old last (responses.Create made) new c = record {
  object = c.object;
  about_is = c.about_is;
  material = c.material;
  id = c.id;
  comes = c.comes;
  name_is = c.name_is;
  last = c.last;
}
creates_again about key old last _ new c = elim c [ ]
