use Rattle.ttlv_run.proofs.Chains.{seven}
use Rattle.ttlv_run.proofs.peers.push_groups.Goals as goal

pub returns : goal.returns
returns g c =
    seven _ _ _ _ _ _ _ _ _ _ _ _ _ _ _ c.in_ok-push_word_hex.ensures.ok c.in_ok-push_str.ensures.bytes c.in_ok-push_word_hex-2.ensures.ok
    c.in_ok-push_str-2.ensures.bytes
    c.in_ok-push_word_hex-3.ensures.ok c.in_ok-push_str-3.ensures.bytes c.in_ok-push_word_hex-4.ensures.ok
