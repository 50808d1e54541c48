use Rattle.kmip_ttlv_parts.proofs.DataTexts.{data_texts}
use Rattle.kmip_ttlv_parts.proofs.laws.texts_of_data_are_utf8.Goals as goal

pub returns : goal.returns
returns g c = data_texts
