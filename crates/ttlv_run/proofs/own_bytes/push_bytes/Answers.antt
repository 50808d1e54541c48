use Rattle.std.proofs.Common.{refl}
use Rattle.kmip_ttlv_items.specs.ItemWalks.{content_at}
use Rattle.kmip_ttlv_util.proofs.Saying.{breaks_same, ok_same, err_same, err_now, ok_then, err_then}
use Rattle.ttlv_run.proofs.Parts.{own_bytes_are}
use Rattle.ttlv_run.proofs.own_bytes.push_bytes.Goals as goal

pub returns-in_err-push_value-clause-err : goal.returns-in_err-push_value-clause-err
returns-in_err-push_value-clause-err g c =
    let bytes = c.args.bytes.now in
    let i = c.args.item.now in
    let same = own_bytes_are c.args.width bytes i _ (content_at bytes i.offset) c.header_of.ensures (λ leaf. refl) in
    err_now g.S.TextSink.adds g.S.TextSink.breaks _ _ _ _ (breaks_same g.S.TextSink.adds g.S.TextSink.breaks _ _ _ _
    (g.met.S.TextSink.breaks_first _ _ _ _ c.in_err-push_value.ensures.err) same)

pub returns-in_err-push_content_bytes-clause-err : goal.returns-in_err-push_content_bytes-clause-err
returns-in_err-push_content_bytes-clause-err g c =
    let same = own_bytes_are c.args.width c.args.bytes.now c.args.item.now _ _ c.header_of.ensures c.content_of.ensures in
    err_now g.S.TextSink.adds g.S.TextSink.breaks _ _ _ _ (breaks_same g.S.TextSink.adds g.S.TextSink.breaks _ _ _ _
    (g.met.S.TextSink.breaks_second _ _ _ _ _ c.in_ok-push_value.ensures.ok
    (g.met.S.TextSink.breaks_first _ _ _ _ c.in_err-push_content_bytes.ensures.err)) same)

pub returns : goal.returns
returns g c =
    let same = own_bytes_are c.args.width c.args.bytes.now c.args.item.now _ _ c.header_of.ensures c.content_of.ensures in
    record {
      ok = ok_same g.S.TextSink.adds g.S.TextSink.breaks c.push_str.result _ _ _ _
          (ok_then g.S.TextSink.adds g.S.TextSink.breaks g.met.S.TextSink.adds_both c.push_str.result _ _ _ _ _ c.in_ok-push_value.ensures.ok
          (ok_then g.S.TextSink.adds g.S.TextSink.breaks g.met.S.TextSink.adds_both c.push_str.result _ _ _ _ _ c.in_ok-push_content_bytes.ensures.ok
          c.push_str.ensures.ok)) same;
      err = err_same g.S.TextSink.adds g.S.TextSink.breaks c.push_str.result _ _ _ _
          (err_then g.S.TextSink.adds g.S.TextSink.breaks g.met.S.TextSink.breaks_second c.push_str.result _ _ _ _ _ c.in_ok-push_value.ensures.ok
          (err_then g.S.TextSink.adds g.S.TextSink.breaks g.met.S.TextSink.breaks_second c.push_str.result _ _ _ _ _ c.in_ok-push_content_bytes.ensures.ok
          c.push_str.ensures.err)) same;
    }
