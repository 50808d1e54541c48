use Rattle.kmip_ttlv_json.proofs.{Found.bytes_plain, Determining.determines_all}
use Rattle.kmip_ttlv_json.proofs.laws.a_line_determines_its_message.Goals as goal

pub returns : goal.returns
returns c style other a b xs ys p q h k same = determines_all style other a b xs ys (bytes_plain a p) (bytes_plain b q) h k same
