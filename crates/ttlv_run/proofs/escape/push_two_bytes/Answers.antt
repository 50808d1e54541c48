use Rattle.std.proofs.Common.{◌/◌, ◌%◌}
use Rattle.kmip_ttlv_util.proofs.Saying.{err_now, ok_then, err_then}
use Rattle.ttlv_run.specs.Escapes.{byte_hex}
use Rattle.ttlv_run.proofs.escape.push_two_bytes.Goals as goal

pub returns-in_err-push_byte_hex-clause-err : goal.returns-in_err-push_byte_hex-clause-err
returns-in_err-push_byte_hex-clause-err g c =
    err_now g.S.PlainSink.adds g.S.PlainSink.breaks _ _ _ _
    (g.met.S.PlainSink.breaks_first _ _ (byte_hex (c.args.value / 256 % 256)) (byte_hex (c.args.value % 256)) c.in_err-push_byte_hex.ensures.err)

pub returns-clause-ok : goal.returns-clause-ok
returns-clause-ok g c =
    ok_then g.S.PlainSink.adds g.S.PlainSink.breaks g.met.S.PlainSink.adds_both c.push_byte_hex-2.result _ _ _ (byte_hex (c.args.value / 256 % 256))
    (byte_hex (c.args.value % 256)) c.in_ok-push_byte_hex.ensures.ok c.push_byte_hex-2.ensures.ok

pub returns-clause-err : goal.returns-clause-err
returns-clause-err g c =
    err_then g.S.PlainSink.adds g.S.PlainSink.breaks g.met.S.PlainSink.breaks_second c.push_byte_hex-2.result _ _ _ (byte_hex (c.args.value / 256 % 256))
    (byte_hex (c.args.value % 256)) c.in_ok-push_byte_hex.ensures.ok c.push_byte_hex-2.ensures.err
