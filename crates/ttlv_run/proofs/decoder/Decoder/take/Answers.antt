use Rattle.std.proofs.Common.{sym, ap, ◌∙◌, refl}
use Rattle.ttlv_run.specs.Columns.{step}
use Rattle.ttlv_run.proofs.Decoders.{skipped_takes, counted_takes}
use Rattle.ttlv_run.proofs.decoder.Decoder.take.Goals as goal

pub returns-in-Counts-clause-made : goal.returns-in-Counts-clause-made
returns-in-Counts-clause-made c = λ s bytes rest next h.
    let is = ap (step c.args.self.now.form c.args.self.now.part c.args.b) (sym next) ∙ sym c.in-Counts.ensures in
    counted_takes c.count.new.self c.count.result h is c.count.ensures.made c.count.ensures.form c.count.ensures.part

pub returns-in-Skips-clause-made : goal.returns-in-Skips-clause-made
returns-in-Skips-clause-made c = λ s bytes rest next h.
    skipped_takes h (ap (step c.args.self.now.form c.args.self.now.part c.args.b) (sym next) ∙ sym c.in-Skips.ensures) refl refl refl refl
