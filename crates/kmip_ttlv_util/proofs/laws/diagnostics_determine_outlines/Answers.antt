use Rattle.kmip_ttlv_util.proofs.Message.{determine_outlines, each_byte}
use Rattle.kmip_ttlv_util.proofs.laws.diagnostics_determine_outlines.Goals as goal

pub returns : goal.returns
returns c = λ prefix closed a b t u bytes-a bytes-b. determine_outlines prefix closed a b t u (each_byte a bytes-a) (each_byte b bytes-b)
