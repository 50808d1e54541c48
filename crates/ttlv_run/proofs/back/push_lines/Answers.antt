use Rattle.std.proofs.Common.{rules, ◌++◌, false, []}
use Rattle.kmip_ttlv_util.specs.{Pieces.SomeText, TagNames.name_in}
use Rattle.ttlv_run.specs.{Backs.ReadsFront, Texts.line_back}
use Rattle.ttlv_run.proofs.BackLines.{lined_none, line_more, line_broken, line_no_text}
use Rattle.ttlv_run.proofs.Printing.{err_holds}
use Rattle.ttlv_run.proofs.back.push_lines.Goals as goal

pub lines-init : goal.lines-init
lines-init g c = record { text = []; is = lined_none; holds = g.met.S.TextSink.adds_none c.args.out.now }

-- a line is no text
pub returns-in_default-from_utf8-clause-ok : goal.returns-in_default-from_utf8-clause-ok
returns-in_default-from_utf8-clause-ok g c =
    let w = c.lines.invariant in
    record { text = w.text; is = line_no_text w.is c.in-Some.ensures (search rules); holds = w.holds }

-- the sink failed in a line, or memory ran out there
pub returns-in_err-fault-clause-err : goal.returns-in_err-fault-clause-err
returns-in_err-fault-clause-err g c =
    let w = c.lines.invariant in
    let here = line_back (name_in c.args.names.now) c.args.prefix.now c.in-Ok.text.now in
    let broken : SomeText (ReadsFront (name_in c.args.names.now) c.args.prefix.now c.args.bytes.now false)
    (λ t. g.S.TextSink.breaks c.args.out.now t c.push_back.new.out) = record {
      text = w.text ++ here;
      is = line_broken w.is c.in-Some.ensures (search rules) (search rules);
      holds = g.met.S.TextSink.breaks_second _ _ _ w.text here w.holds c.in_err-fault.ensures.broken;
    } in
    err_holds _ _ broken

pub lines-preserved : goal.lines-preserved
lines-preserved g c =
    let w = c.lines.invariant in
    let here = line_back (name_in c.args.names.now) c.args.prefix.now c.in-Ok.text.now in
    record {
      text = w.text ++ here;
      is = line_more w.is c.in-Some.ensures (search rules) (search rules) _ c.in_ok-fault.ensures.fault c.or-found.ensures;
      holds = g.met.S.TextSink.adds_both _ _ _ w.text here w.holds c.in_ok-fault.ensures.text;
    }
