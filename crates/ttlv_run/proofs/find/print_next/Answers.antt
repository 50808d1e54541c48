use Rattle.std.proofs.Common.{[], ◌++◌, inl, inr, refl, subst}
use Rattle.std.proofs.lemmas.Result.{err_from_is_err_and}
use Rattle.kmip_ttlv_types.specs.Held.{held}
use Rattle.kmip_ttlv_types.proofs.Held.{gets_none}
use Rattle.ttlv_captures.specs.Searches.{Seeks, Finds}
use Rattle.ttlv_run.specs.declared.run_error.RunError.TheVariants.{NoMemory}
use Rattle.ttlv_run.specs.{Finds.FailsStep, Finds.GivesNext, Texts.names_of}
use Rattle.ttlv_run.proofs.Appending.{memory_ended}
use Rattle.ttlv_run.proofs.find.print_next.Goals as goal

pub returns-in_err-capture-clause-err : goal.returns-in_err-capture-clause-err
returns-in_err-capture-clause-err g c =
    let y = err_from_is_err_and c.from_residual.result c.from_residual.ensures.1 in
    let has = held g.W.Sink.emitted g.W.Sink.room c.args.output.now in
    let broken : FailsStep (names_of c.args.names.now) c.args.look c.args.search.now has has NoMemory =
    ([], inr (inr refl), inl refl, memory_ended [] (gets_none has)) in
    rw (y.1, y.2) broken

pub returns-in_err-print_found-in-Found-clause-err : goal.returns-in_err-print_found-in-Found-clause-err
returns-in_err-print_found-in-Found-clause-err g c =
    let y = err_from_is_err_and c.from_residual-in_err-print_found-in-Found.result c.from_residual-in_err-print_found-in-Found.ensures.1 in
    let names = names_of c.args.names.now in
    let old = c.args.search.now in
    let new = c.next.new.self in
    let capture = c.in-Found.capture in
    let finds : Finds old new capture = subst (Seeks old new) c.in-Found.is c.in_ok-capture.ensures.ok in
    let h = c.in_err-print_found-in-Found.ensures.err in
    let gives : GivesNext names c.args.look old.text.now old.offset new.offset (h.text ++ h.is.0) = record {
      offset = capture.offset;
      notation = capture.written.notation;
      message = capture.written.message.items;
      taken = capture.written.taken;
      stands = finds.stands;
      behind = finds.behind;
      found = h.is.1;
    } in
    let broken : FailsStep names c.args.look old (held g.W.Sink.emitted g.W.Sink.room c.args.output.now)
    (held g.W.Sink.emitted g.W.Sink.room c.print_found.new.output) c.in_err-print_found-in-Found.field-0.0 =
    (h.text, c.in_err-print_found-in-Found.ensures.why, inr (new.offset, h.is.0, gives), h.holds) in
    rw (y.1, y.2) broken
