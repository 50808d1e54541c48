use Rattle.ttlv_run.proofs.Chains.{three}
use Rattle.ttlv_run.proofs.peers.push_flow.Goals as goal

pub returns : goal.returns
returns g c =
    three _ _ _ _ _ _ _ c.in_ok-push_end.ensures c.in_ok-push_str.ensures.bytes c.in_ok-push_end-2.ensures
