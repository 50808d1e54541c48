use Rattle.std.proofs.Common.{◌-◌, Some, ap, refl}
use Rattle.std.specs.Prelude.{vec_len, vec_capacity}
use Rattle.ttlv_run.specs.Gathers.{Gathered}
use Rattle.ttlv_run.proofs.compared.gather_file.Goals as goal

pub returns : goal.returns
returns g c =
    let sink = c.run_file-outcome.new.output.0 in
    let m : Gathered sink.items = record {
      old = record { pending = Some c.new.result.items; room = Some (vec_capacity c.new.result - vec_len c.new.result) };
      now = record { pending = Some sink.items; room = Some (vec_capacity sink - vec_len sink) };
      empty = ap Some c.new.ensures.items;
      holds = refl;
    } in
    record { memory = m; done = c.run_file-outcome.ensures }
