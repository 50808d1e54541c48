use Rattle.std.proofs.Common.{◌+◌, take, drop, get_or}
use Rattle.kmip_ttlv_util.specs.Pretty.{two_digits, hex_bytes}
use Rattle.kmip_ttlv_util.proofs.PrettyTexts.{hex_more, hex_none, hex_parts}
use Rattle.kmip_ttlv_util.proofs.Saying.{adds_same, err_front, begins_equal}
use Rattle.kmip_ttlv_util.proofs.pretty.push_bytes.Goals as goal

pub loop-byte-init : goal.loop-byte-init
loop-byte-init g c = adds_same g.S.TextSink.adds g.S.TextSink.breaks _ _ _ _ (g.met.S.TextSink.adds_none c.args.out.now) hex_none

pub loop-byte-preserved : goal.loop-byte-preserved
loop-byte-preserved g c = rw (hex_more c.args.content.now c.loop-byte.byte-index c.loop-byte-test.true)
    (g.met.S.TextSink.adds_both _ _ _ _ _ c.loop-byte.invariant c.in_ok-push_two.ensures.ok)

pub returns-in_err-push_two-clause-err : goal.returns-in_err-push_two-clause-err
returns-in_err-push_two-clause-err g c =
    let i = c.loop-byte.byte-index in
    let xs = c.args.content.now in
    let rest = hex_bytes (drop (i + 1) xs) in
    let more = g.met.S.TextSink.breaks_second _ _ _ (hex_bytes (take i xs)) (two_digits (get_or xs i 0)) c.loop-byte.invariant c.in_err-push_two.ensures.err in
    err_front g.met.S.TextSink.breaks_first _ (g.met.S.TextSink.breaks_first _ _ _ rest more) (begins_equal (hex_parts xs i c.loop-byte-test.true))
