use Rattle.kmip_ttlv_json.specs.Jsons.{tree_json}
use Rattle.kmip_ttlv_json.proofs.ReadBack.{tree_back, text_back}
use Rattle.kmip_ttlv_json.proofs.laws.a_message_reads_back.Goals as goal

pub returns : goal.returns
returns c style secrets shown t = text_back (tree_json style secrets shown t) (tree_back style secrets shown t)
