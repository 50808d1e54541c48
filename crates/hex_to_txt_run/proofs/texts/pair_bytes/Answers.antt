use Rattle.std.proofs.Common.{◌∙◌}
use Rattle.hex_to_txt_run.proofs.{PairItems.pair_written, PairItems.pair_fails, Failures.is_memory}
use Rattle.hex_to_txt_run.proofs.texts.pair_bytes.Goals as goal

pub returns-in-Ok : goal.returns-in-Ok
returns-in-Ok g c = pair_written _ _ _ _ c.in-Ok.ensures

pub unreachable-requires : goal.unreachable-requires
unreachable-requires g c = c.in_default.not-OutOfMemory (c.kind.ensures ∙ is_memory _ (pair_fails _ _ _ _ c.in-Err.ensures))
