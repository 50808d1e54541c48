use Rattle.std.proofs.Common.{Some, refl, arith}
use Rattle.kmip_ttlv_ser.specs.{declared.pending.PendingTag.TheVariants.Nothing, Singles.from, Waiting.filled}
use Rattle.kmip_ttlv_ser.proofs.Filling.{written_as}
use Rattle.kmip_ttlv_ser.proofs.single.in_one_pass.Goals as goal

pub returns : goal.returns
returns g c =
    written_as (g.T.Serialize.stated c.args.value.now) c.new.ensures.empty
    (c.in-Ok.ensures.received (Some (from (filled c.new.result) Nothing 0)) refl) (omega (arith, c.len.ensures.value, c.if-len-gt4294967295.false))
