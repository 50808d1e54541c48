use Rattle.ttlv_run.proofs.run.run.Goals as goal

pub returns : goal.returns
returns g c = record { outcome = c.run_to_end.result; ended = c.run_to_end.ensures; status_is = c.status_in.ensures }
