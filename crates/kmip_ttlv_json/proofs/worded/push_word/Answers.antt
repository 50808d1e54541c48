use Rattle.std.proofs.Common.{sym}
use Rattle.std.specs.Prelude.{codes, ◌++◌}
use Rattle.kmip_ttlv_util.proofs.Saying.{breaks_same, err_now, ok_same, err_same, ok_then, err_then}
use Rattle.kmip_ttlv_json.proofs.Wordings.{spelled_word}
use Rattle.kmip_ttlv_json.proofs.worded.push_word.Goals as goal

pub returns-in_err-push_str-clause-err : goal.returns-in_err-push_str-clause-err
returns-in_err-push_str-clause-err g c = err_now g.S.TextSink.adds g.S.TextSink.breaks _ _ _ _ (breaks_same g.S.TextSink.adds g.S.TextSink.breaks _ _ _ _
    (g.met.S.TextSink.breaks_first _ _ (codes "\"") (c.args.word.now ++ codes "\"") c.in_err-push_str.ensures.err)
    (sym (spelled_word c.args.word.now c.requires)))

pub returns : goal.returns
returns g c =
    let same = sym (spelled_word c.args.word.now c.requires) in
    record {
      ok = ok_same g.S.TextSink.adds g.S.TextSink.breaks c.push_word_end.result _ _ _ _
          (ok_then g.S.TextSink.adds g.S.TextSink.breaks g.met.S.TextSink.adds_both c.push_word_end.result _ _ _ (codes "\"") _
          c.in_ok-push_str.ensures.ok c.push_word_end.ensures.ok) same;
      err = err_same g.S.TextSink.adds g.S.TextSink.breaks c.push_word_end.result _ _ _ _
          (err_then g.S.TextSink.adds g.S.TextSink.breaks g.met.S.TextSink.breaks_second c.push_word_end.result _ _ _ (codes "\"") _
          c.in_ok-push_str.ensures.ok c.push_word_end.ensures.err) same;
    }
