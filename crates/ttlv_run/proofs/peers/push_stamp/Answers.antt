use Rattle.ttlv_run.proofs.Chains.{piece, four}
use Rattle.ttlv_run.proofs.peers.push_stamp.Goals as goal

pub returns : goal.returns
returns g c =
    four _ _ _ _ _ _ _ _ _ c.in_ok-push_date.ensures.ok c.in_ok-push_str.ensures.bytes
    (piece _ _ _ _ c.in_ok-push_str-2.ensures.bytes c.format.ensures.text) c.in_ok-push_str-3.ensures.bytes
