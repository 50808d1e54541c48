use Rattle.ttlv_run.proofs.Chains.{piece, three}
use Rattle.ttlv_run.proofs.peers.push_end.Goals as goal

pub returns : goal.returns
returns g c =
    three _ _ _ _ _ _ _ c.in_ok-push_address.ensures c.in_ok-push_str.ensures.bytes (piece _ _ _ _ c.in_ok-push_str-2.ensures.bytes c.format.ensures.text)
