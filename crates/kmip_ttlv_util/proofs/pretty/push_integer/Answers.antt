use Rattle.std.proofs.Common.{rules, ◌≡◌, ap}
use Rattle.std.specs.{Int.w32, Int.cast_signed, Fmt.signed_decimal}
use Rattle.kmip_ttlv_util.specs.Pretty.{bracketed}
use Rattle.kmip_ttlv_util.proofs.Saying.{err_now, does_same, does_then}
use Rattle.kmip_ttlv_util.proofs.pretty.push_integer.Goals as goal

pub returns-in_err-push_six-clause-err : goal.returns-in_err-push_six-clause-err
returns-in_err-push_six-clause-err g c =
    err_now g.S.TextSink.adds g.S.TextSink.breaks _ _ _ _ (g.met.S.TextSink.breaks_first _ _ _ _ (c.in_err-push_six.ensures.err))

pub returns : goal.returns
returns g c =
    let text : bracketed c.format.result.now ≡ bracketed (signed_decimal (cast_signed w32 c.args.n)) = ap bracketed (search rules) in
    let d = does_then g.met.S.TextSink.adds_both g.met.S.TextSink.breaks_second c.push_bracketed.result _ c.in_ok-push_six.ensures.ok
    (does_same record { ok = c.push_bracketed.ensures.ok; err = c.push_bracketed.ensures.err } text) in
    record { ok = d.ok; err = d.err }
