use Rattle.std.proofs.Common.{take, false}
use Rattle.kmip_ttlv_types.specs.Held.{held}
use Rattle.ttlv_run.specs.{Files.AllDone, Texts.names_of}
use Rattle.ttlv_run.proofs.files.run_files.Given as goal

abbrev pub invariant-files : goal.invariant-files
invariant-files g l =
    AllDone (record { opens = g.O.Opener.opens; left = g.O.Input.Source.left; can_fail = g.O.Input.Source.can_fail }) (names_of l.names) l.asked l.headed
    (record {
      opener = l.initial.opener;
      output = held g.W.Sink.emitted g.W.Sink.room l.initial.output;
      errors = held g.E.Sink.emitted g.E.Sink.room l.initial.errors;
    })
    (take l.name-index l.files)
    (record { opener = l.opener; output = held g.W.Sink.emitted g.W.Sink.room l.output; errors = held g.E.Sink.emitted g.E.Sink.room l.errors }) l.status
    false
