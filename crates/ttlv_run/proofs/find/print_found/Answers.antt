use Rattle.std.proofs.Common.{◌≡◌, ◌∙◌, List, ℕ, [], ◌++◌, refl, sym, ap, subst, append_assoc}
use Rattle.std.proofs.lemmas.Result.{err_from_is_err_and}
use Rattle.kmip_ttlv_types.specs.Held.{held}
use Rattle.kmip_ttlv_types.proofs.Held.{gets_none, gets_both}
use Rattle.kmip_ttlv_util.specs.Pieces.{SomeText}
use Rattle.ttlv_captures.specs.declared.search.Capture.{Capture}
use Rattle.ttlv_run.specs.{declared.job.Look.Look, Texts.Names}
use Rattle.ttlv_run.specs.declared.run_error.RunError.TheVariants.{NoMemory}
use Rattle.ttlv_run.specs.{Finds.place_line, Finds.Shows, Finds.IsPrinted, Finds.IsPrintedFront, Reasons.PrintsFront, Texts.names_of}
use Rattle.ttlv_run.proofs.Appending.{prints_behind, memory_ended}
use Rattle.ttlv_run.proofs.Finding.{prints_one}
use Rattle.ttlv_run.proofs.find.print_found.Goals as goal

-- the lines behind the line of the place
found_of : {A : Type 0} (names : Names) (look : Look) (c : Capture A) (head lines : List ℕ) → head ≡ place_line c.offset c.written.notation
    → Shows names look c.written.message.items lines
    → IsPrinted names look c (head ++ lines)
found_of names look c head lines is prints = record { lines = lines; prints = prints; is = ap (λ (s : List ℕ). s ++ lines) is }

-- memory ran out in front of it
pub returns-in_err-line-clause-err : goal.returns-in_err-line-clause-err
returns-in_err-line-clause-err g c =
    let y = err_from_is_err_and c.from_residual.result c.from_residual.ensures.1 in
    let names = names_of c.args.names.now in
    let whole = c.requires.whole in
    let one = prints_one whole.1 names c.args.look in
    let capture = c.args.capture.now in
    let all = place_line capture.offset capture.written.notation ++ one.0 in
    let has = held g.W.Sink.emitted g.W.Sink.room c.args.output.now in
    let broken : SomeText (IsPrintedFront names c.args.look capture) (PrintsFront NoMemory has has) = record {
      text = [];
      is = (all, found_of names c.args.look capture _ one.0 refl one.1);
      holds = memory_ended [] (gets_none has);
    } in
    rw (y.1, y.2) broken

-- the output failed in the line
pub returns-in_err-send-clause-err : goal.returns-in_err-send-clause-err
returns-in_err-send-clause-err g c =
    let y = err_from_is_err_and c.from_residual-in_err-send.result c.from_residual-in_err-send.ensures.1 in
    let names = names_of c.args.names.now in
    let whole = c.requires.whole in
    let one = prints_one whole.1 names c.args.look in
    let capture = c.args.capture.now in
    let head = c.as_bytes.result.now in
    let is : head ≡ place_line capture.offset capture.written.notation = c.as_bytes.ensures.value ∙ c.in_ok-line.ensures in
    let broken : SomeText (IsPrintedFront names c.args.look capture)
    (PrintsFront c.in_err-send.field-0.0 (held g.W.Sink.emitted g.W.Sink.room c.args.output.now)
    (held g.W.Sink.emitted g.W.Sink.room c.send.new.output)) = record {
      text = head;
      is = (one.0, found_of names c.args.look capture head one.0 is one.1);
      holds = c.in_err-send.ensures.err;
    } in
    rw (y.1, y.2) broken

-- or behind it
pub returns-in_err-print_items-clause-err : goal.returns-in_err-print_items-clause-err
returns-in_err-print_items-clause-err g c =
    let y = err_from_is_err_and c.from_residual-in_err-print_items.result c.from_residual-in_err-print_items.ensures.1 in
    let names = names_of c.args.names.now in
    let look = c.args.look in
    let capture = c.args.capture.now in
    let head = c.as_bytes.result.now in
    let is : head ≡ place_line capture.offset capture.written.notation = c.as_bytes.ensures.value ∙ c.in_ok-line.ensures in
    let failed = c.in_err-print_items.ensures.err in
    let all = subst (λ (b : List ℕ). Shows names look b (failed.text ++ failed.is.0)) c.as_slice-message.ensures.value failed.is.1 in
    let broken : SomeText (IsPrintedFront names look capture)
    (PrintsFront c.in_err-print_items.field-0.0 (held g.W.Sink.emitted g.W.Sink.room c.args.output.now)
    (held g.W.Sink.emitted g.W.Sink.room c.print_items.new.output)) = record {
      text = head ++ failed.text;
      is = (
        failed.is.0,
        subst (IsPrinted names look capture) (sym (append_assoc head failed.text failed.is.0))
            (found_of names look capture head (failed.text ++ failed.is.0) is all),
      );
      holds = prints_behind head failed.text c.in_ok-send.ensures.ok failed.holds;
    } in
    rw (y.1, y.2) broken

pub returns-clause-ok : goal.returns-clause-ok
returns-clause-ok g c =
    let names = names_of c.args.names.now in
    let look = c.args.look in
    let capture = c.args.capture.now in
    let head = c.as_bytes.result.now in
    let is : head ≡ place_line capture.offset capture.written.notation = c.as_bytes.ensures.value ∙ c.in_ok-line.ensures in
    let lines = c.in_ok-print_items.ensures.ok in
    record {
      text = head ++ lines.text;
      is = found_of names look capture head lines.text is (subst (λ (b : List ℕ). Shows names look b lines.text) c.as_slice-message.ensures.value lines.is);
      holds = gets_both head lines.text c.in_ok-send.ensures.ok lines.holds;
    }
