use Rattle.std.proofs.Common.{refl}
use Rattle.ttlv_run.proofs.Decoders.{starts_reading}
use Rattle.ttlv_run.proofs.decoder.Decoder.new.Goals as goal

pub returns-clause-reading : goal.returns-clause-reading
returns-clause-reading c = starts_reading _ c.args.mark c.first_part.ensures refl refl refl refl
