use Rattle.kmip_ttlv_json.proofs.{Found.bytes_plain, Returning.stands_back}
use Rattle.kmip_ttlv_json.proofs.laws.a_message_comes_back.Goals as goal

pub returns : goal.returns
returns c style bytes xs h = stands_back style bytes xs (bytes_plain bytes h)
