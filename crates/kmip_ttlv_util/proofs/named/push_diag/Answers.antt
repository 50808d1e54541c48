use Rattle.std.proofs.Common.{refl, arith}
use Rattle.kmip_ttlv_util.proofs.Message.{exact}
use Rattle.kmip_ttlv_util.proofs.named.push_diag.Goals as goal

pub returns-clause-exact : goal.returns-clause-exact
returns-clause-exact g c = exact c.args.prefix.now c.args.closed c.args.bytes.now _ (λ i. omega (arith, c.type_inv.bytes i)) refl
