use Rattle.std.specs.Prelude.{codes}
use Rattle.kmip_ttlv_types.specs.declared.typ.TtlvType.TheVariants.{ByteString}
use Rattle.kmip_ttlv_util.specs.Pretty.{value_shown}
use Rattle.kmip_ttlv_util.proofs.Saying.{err_now, ok_then, err_then}
use Rattle.ttlv_run.proofs.bare.push_digits.Goals as goal

pub returns-in_err-push_str-clause-err : goal.returns-in_err-push_str-clause-err
returns-in_err-push_str-clause-err g c =
    err_now g.S.TextSink.adds g.S.TextSink.breaks _ _ _ _
    (g.met.S.TextSink.breaks_first _ _ (codes "0x") (value_shown ByteString c.args.content.now) c.in_err-push_str.ensures.err)

pub returns-clause-ok : goal.returns-clause-ok
returns-clause-ok g c =
    ok_then g.S.TextSink.adds g.S.TextSink.breaks g.met.S.TextSink.adds_both c.push_value.result _ _ _
    (codes "0x") (value_shown ByteString c.args.content.now) c.in_ok-push_str.ensures.ok c.push_value.ensures.ok

pub returns-clause-err : goal.returns-clause-err
returns-clause-err g c =
    err_then g.S.TextSink.adds g.S.TextSink.breaks g.met.S.TextSink.breaks_second c.push_value.result _ _ _
    (codes "0x") (value_shown ByteString c.args.content.now) c.in_ok-push_str.ensures.ok c.push_value.ensures.err
