use Rattle.std.proofs.Common.{rules, ◌≡◌, ◌∙◌, ◌++◌, subst, sym}
use Rattle.std.specs.Str.{IsUtf8}
use Rattle.kmip_ttlv_util.specs.{Pieces.SomeText, TagNames.name_in}
use Rattle.ttlv_run.specs.{Backs.ReadsFront, Texts.line_back}
use Rattle.ttlv_run.proofs.BackLines.{lined_behind, no_text_any, last_no_text, last_broken, last_more}
use Rattle.ttlv_run.proofs.Printing.{err_holds}
use Rattle.ttlv_run.proofs.back.print_back.Goals as goal

-- a line that ends with a line feed is no text
pub returns-in_default-clause-ok : goal.returns-in_default-clause-ok
returns-in_default-clause-ok g c =
    let w = c.in_ok-reached.ensures.ok in
    record { text = w.text; is = no_text_any c.args.base w.is c.in_default.is; holds = w.holds }

-- the last line is no text
pub returns-in_default-from_utf8-clause-ok : goal.returns-in_default-from_utf8-clause-ok
returns-in_default-from_utf8-clause-ok g c =
    let w = c.in_ok-reached.ensures.ok in
    let lined = lined_behind c.args.base w.is c.in-Behind.is in
    record { text = w.text; is = last_no_text lined.0 lined.1 c.behind-rest.ensures (search rules) (search rules); holds = w.holds }

-- the sink failed in the last line, or memory ran out there
pub returns-in_err-fault-clause-err : goal.returns-in_err-fault-clause-err
returns-in_err-fault-clause-err g c =
    let w = c.in_ok-reached.ensures.ok in
    let lined = lined_behind c.args.base w.is c.in-Behind.is in
    let here = line_back (name_in c.args.names.now) c.args.prefix.now c.in-Ok.text.now in
    let same : c.in-Ok.text.now ≡ c.behind-rest.result.now = search rules in
    let text : IsUtf8 c.behind-rest.result.now = search rules in
    let broken : SomeText (ReadsFront (name_in c.args.names.now) c.args.prefix.now c.args.bytes.now c.args.last)
    (λ t. g.S.TextSink.breaks c.args.out.now t c.push_back.new.out) = record {
      text = w.text ++ here;
      is = last_broken lined.0 lined.1 (same ∙ c.behind-rest.ensures) (search rules) (subst IsUtf8 (sym same) text);
      holds = g.met.S.TextSink.breaks_second _ _ _ w.text here w.holds c.in_err-fault.ensures.broken;
    } in
    err_holds _ _ broken

-- all lines
pub returns-clause-ok : goal.returns-clause-ok
returns-clause-ok g c =
    let w = c.in_ok-reached.ensures.ok in
    let lined = lined_behind c.args.base w.is c.in-Behind.is in
    let here = line_back (name_in c.args.names.now) c.args.prefix.now c.in-Ok.text.now in
    let same : c.in-Ok.text.now ≡ c.behind-rest.result.now = search rules in
    let text : IsUtf8 c.behind-rest.result.now = search rules in
    record {
      text = w.text ++ here;
      is = last_more lined.0 lined.1 (same ∙ c.behind-rest.ensures) (search rules) (subst IsUtf8 (sym same) text) _ c.in_ok-fault.ensures.fault c.or.ensures;
      holds = g.met.S.TextSink.adds_both _ _ _ w.text here w.holds c.in_ok-fault.ensures.text;
    }
