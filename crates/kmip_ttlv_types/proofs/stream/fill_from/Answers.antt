use Rattle.std.proofs.Common.{◌≡◌, ◌+◌, arith, take, length, length-take, refl}
use Rattle.std.proofs.KnownBytes.{Consumes-kept}
use Rattle.kmip_ttlv_types.proofs.Taken.{Consumes-more, IsShort-at_end}
use Rattle.kmip_ttlv_types.proofs.stream.fill_from.Goals as goal

pub returns-in-Ok-eq0 : goal.returns-in-Ok-eq0
returns-in-Ok-eq0 g c =
    let inv = c.loop-filled.invariant in
    let read = c.in-Ok-eq0.ensures in
    let none : c.in-Ok-eq0.field-0 ≡ 0 = c.in-Ok-eq0.field-0-test in
    let all = Consumes-more _ _ _ c.loop-filled.buf c.read_at.new.buf c.loop-filled.filled c.in-Ok-eq0.field-0 read.front inv.2 read.ok in
    let same : length c.read_at.new.buf ≡ length c.loop-filled.buf = c.read_at.auto.buf in
    let long = length-take (c.loop-filled.filled + c.in-Ok-eq0.field-0) c.read_at.new.buf in
    (IsShort-at_end _ _ _ _ all (read.end none) (omega (arith, long)), record { bytes = _; within = omega (arith, long); consumes = all })

pub loop-filled-preserved : goal.loop-filled-preserved
loop-filled-preserved g c =
    let inv = c.loop-filled.invariant in
    let read = c.in-Ok.ensures in
    let same : length c.read_at.new.buf ≡ length c.loop-filled.buf = c.read_at.auto.buf in
    (omega arith, read.fits, Consumes-more _ _ _ c.loop-filled.buf c.read_at.new.buf c.loop-filled.filled c.in-Ok.n read.front inv.2 read.ok)

pub returns-in-Err : goal.returns-in-Err
returns-in-Err g c =
    let inv = c.loop-filled.invariant in
    let same : length c.read_at.new.buf ≡ length c.loop-filled.buf = c.read_at.auto.buf in
    let long = length-take c.loop-filled.filled c.loop-filled.buf in (
      refl,
      record {
        bytes = take c.loop-filled.filled c.loop-filled.buf;
        within = omega (arith, long);
        consumes = Consumes-kept _ _ _ _ inv.2 c.in-Err.ensures.err;
      },
    )
