use Rattle.std.proofs.Common.{◌∙◌, [], ap}
use Rattle.std.specs.Str.{is_utf8}
use Rattle.std.proofs.lemmas.Str.{IsUtf8-string_bytes, is_utf8-from_IsUtf8}
use Rattle.kmip_ttlv_util.proofs.Saying.{err_now}
use Rattle.kmip_ttlv_json.proofs.worded.push_integer.Goals as goal

-- out of memory: nothing was added yet
pub returns-in_err-text-clause-err : goal.returns-in_err-text-clause-err
returns-in_err-text-clause-err g c = err_now g.S.TextSink.adds g.S.TextSink.breaks _ _ _ _
    (g.met.S.TextSink.breaks_first _ _ [] _ (g.met.S.TextSink.breaks_after _ _ [] (g.met.S.TextSink.adds_none c.args.out.now)))

pub push_quoted-requires : goal.push_quoted-requires
push_quoted-requires g c = ap is_utf8 c.as_bytes.ensures.value ∙ is_utf8-from_IsUtf8 _ (IsUtf8-string_bytes c.in-Some.text)
