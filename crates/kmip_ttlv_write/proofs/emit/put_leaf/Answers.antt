use Rattle.std.proofs.Common.{arith, take}
use Rattle.kmip_ttlv_write.proofs.Emitting.{leaf_put}
use Rattle.kmip_ttlv_write.proofs.emit.put_leaf.Goals as goal

pub returns-clause-front : goal.returns-clause-front
returns-clause-front c =
    leaf_put c.args.tag c.args.typ c.args.content.now (take c.args.at c.args.out.now) _ _ _ _ c.put_header-begun.ensures.front c.put-filled.ensures.front
    c.put_zeros.ensures.front (omega arith)
