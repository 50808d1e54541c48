use Rattle.std.proofs.Common.{◌∙◌, true, false, sym, ap}
use Rattle.ttlv_run.specs.{Files.no_file, Files.greater, Texts.names_of}
use Rattle.ttlv_run.proofs.Sequences.{done_more, done_last}
use Rattle.ttlv_run.proofs.files.run_files.Goals as goal

pub files-init : goal.files-init
files-init g c = no_file

pub files-preserved : goal.files-preserved
files-preserved g c =
    done_more _ (names_of c.args.names.now) c.args.asked _ _ c.args.files.now c.files.name-index _ _ _ c.files.status c.greater-status.result
    c.run_file-outcome.result false c.files.invariant c.files-test.true c.run_file-outcome.ensures
    (c.greater-status.ensures ∙ ap (greater c.files.status) c.status_in.ensures) (sym c.if-stops.false ∙ c.stops.ensures)

pub returns-then-stops : goal.returns-then-stops
returns-then-stops g c =
    done_last _ (names_of c.args.names.now) c.args.asked _ _ c.args.files.now c.files.name-index _ c.greater-status.result c.is_headed-headed.ensures
    (done_more _ (names_of c.args.names.now) c.args.asked _ _ c.args.files.now c.files.name-index _ _ _ c.files.status c.greater-status.result
    c.run_file-outcome.result true c.files.invariant c.files-test.true c.run_file-outcome.ensures
    (c.greater-status.ensures ∙ ap (greater c.files.status) c.status_in.ensures) (sym c.if-stops.true ∙ c.stops.ensures))
    c.files-test.true
