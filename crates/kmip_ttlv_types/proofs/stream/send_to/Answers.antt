use Rattle.std.proofs.Common.{◌-◌, length, drop, arith, subst, length-drop, length-take}
use Rattle.std.specs.Io.KnownBytes.{Appends}
use Rattle.std.proofs.KnownBytes.{Appends-trans}
use Rattle.kmip_ttlv_types.proofs.Taken.{take-slice_end}
use Rattle.kmip_ttlv_types.proofs.stream.send_to.Goals as goal

pub loop-sent-preserved : goal.loop-sent-preserved
loop-sent-preserved g c =
    let inv = c.loop-sent.invariant in
    let written = c.in-Ok.ensures in
    let all = c.args.bytes.now in
    let sent = c.loop-sent.sent in (
      omega (arith, written.bound, length-drop sent all, length-take (length all - sent) (drop sent all)),
      subst (Appends _ _) (take-slice_end all sent c.in-Ok.n) (Appends-trans _ _ _ _ _ inv.1 written.ok),
    )
