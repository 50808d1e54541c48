use Rattle.std.proofs.Common.{refl}
use Rattle.ttlv_run.specs.Files.{opened, unheaded}
use Rattle.ttlv_run.proofs.files.run_file.Goals as goal

pub returns-in_default : goal.returns-in_default
returns-in_default g c = opened _ _ c.in-Some.ensures c.in_default.ensures.ok refl refl refl c.run_to_end.ensures

pub returns-in-Err : goal.returns-in-Err
returns-in-Err g c = unheaded _ _ c.in-Some.ensures c.in-Err.ensures.err refl c.report_error.ensures
