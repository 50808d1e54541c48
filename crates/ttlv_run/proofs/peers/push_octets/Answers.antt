use Rattle.ttlv_run.proofs.Chains.{piece, seven}
use Rattle.ttlv_run.proofs.peers.push_octets.Goals as goal

pub returns : goal.returns
returns g c =
    seven _ _ _ _ _ _ _ _ _ _ _ _ _ _ _ (piece _ _ _ _ c.in_ok-push_str.ensures.bytes c.format.ensures.text) c.in_ok-push_str-2.ensures.bytes
    (piece _ _ _ _ c.in_ok-push_str-3.ensures.bytes c.format-2.ensures.text) c.in_ok-push_str-4.ensures.bytes
    (piece _ _ _ _ c.in_ok-push_str-5.ensures.bytes c.format-3.ensures.text) c.in_ok-push_str-6.ensures.bytes
    (piece _ _ _ _ c.in_ok-push_str-7.ensures.bytes c.format-4.ensures.text)
