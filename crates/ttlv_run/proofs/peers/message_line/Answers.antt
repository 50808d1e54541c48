use Rattle.ttlv_run.proofs.Chains.{five_from}
use Rattle.ttlv_run.specs.Peers.{message_line}
use Rattle.ttlv_run.proofs.peers.message_line.Goals as goal

pub returns : goal.returns
unfolding message_line
returns g c =
    five_from _ _ _ _ _ _ _ _ _ _ _ c.new-line.ensures.bytes c.in_ok-push_str.ensures.bytes c.in_ok-push_time.ensures
    c.in_ok-push_str-2.ensures.bytes c.in_ok-push_flow.ensures c.in_ok-push_str-3.ensures.bytes
