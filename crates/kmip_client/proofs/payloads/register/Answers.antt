use Rattle.std.proofs.Common.{ap, refl}
use Rattle.kmip_client.proofs.Tagging.{kept_by}
use Rattle.kmip_client.proofs.payloads.register.Goals as goal

pub returns : goal.returns
returns g c = kept_by _ c.args.version c.args.key_block c.args.attributes c.in_ok-request.ensures (record {
  symmetric = refl;
  template = c.template.ensures;
  by_tag = c.in_ok-attributes_by_tag.ensures;
  object = ap (λ k. k.key_block) c.in_ok-symmetric_key.ensures;
  certificate = refl;
  public = refl;
  private = refl;
  split = refl;
  no_template = refl;
  secret = refl;
  opaque = refl;
  storage = refl;
})
