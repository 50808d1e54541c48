use mir.Val.{SFits}
use Rattle.std.proofs.Common.{rules, ◌<◌, ◌^◌, ◌∙◌, ap, arith, pos, w32}
use Rattle.std.proofs.lemmas.Int.{to_z-of_z}
use Rattle.kmip_server.proofs.messages.response.Goals as goal

pub returns-clause-is : goal.returns-clause-is
returns-clause-is g c = record {
  header = record {
    version_is = c.new-header.ensures.version;
    nonce = c.new-header.ensures.nonce;
    password = c.new-header.ensures.password;
    attestation = c.new-header.ensures.attestation;
    client = c.new-header.ensures.client;
    server = c.new-header.ensures.server;
  };
  counted = λ few.
      let fits : c.len.result < 2 ^ 31 = omega arith in
      let within : SFits w32 c.count.result = search rules in
      to_z-of_z w32 c.count.result within ∙ c.count.ensures fits ∙ ap pos c.len.ensures;
}
