use Rattle.std.proofs.Common.{◌-◌, Some, ap, refl}
use Rattle.std.specs.Prelude.{vec_len, vec_capacity}
use Rattle.kmip_ttlv_types.specs.Held.{held}
use Rattle.ttlv_run.specs.{Gathers.Gathered, Runs.streams, Texts.names_of}
use Rattle.ttlv_run.proofs.Gathering.{gathered}
use Rattle.ttlv_run.proofs.gather.gather.Goals as goal

pub returns : goal.returns
returns g c =
    let has = held g.W.Sink.emitted g.W.Sink.room in
    let of = held g.E.Sink.emitted g.E.Sink.room in
    let sink = c.print_asked-outcome.new.output.0 in
    let m : Gathered sink.items = record {
      old = record { pending = Some c.new.result.items; room = Some (vec_capacity c.new.result - vec_len c.new.result) };
      now = record { pending = Some sink.items; room = Some (vec_capacity sink - vec_len sink) };
      empty = ap Some c.new.ensures.items;
      holds = refl;
    } in
    gathered (names_of c.args.names.now) c.args.job.now c.args.product
    (streams g.R.Source.can_fail (g.R.Source.left c.args.input.now) (g.R.Source.left c.print_asked-outcome.new.input) (has c.args.output.now)
    (has c.send_made.new.output))
    m (of c.args.errors.now) (of c.print_asked-outcome.new.errors) (of c.send_made.new.errors) c.print_asked-outcome.result c.send_made.result
    c.print_asked-outcome.ensures c.send_made.ensures
