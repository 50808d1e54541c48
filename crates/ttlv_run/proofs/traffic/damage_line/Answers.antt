use Rattle.ttlv_run.specs.Traffic.{damage_line}
use Rattle.ttlv_run.proofs.Chains.{piece, four_from}
use Rattle.ttlv_run.proofs.traffic.damage_line.Goals as goal

pub returns : goal.returns
unfolding damage_line
returns g c =
    four_from _ _ _ _ _ _ _ _ _ c.new-line.ensures.bytes c.in_ok-push_text.ensures.ok c.in_ok-push_str.ensures.bytes
    (piece _ _ _ _ c.in_ok-push_str-2.ensures.bytes c.format.ensures.text) c.in_ok-push_str-3.ensures.bytes
