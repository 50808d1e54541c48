use Rattle.std.proofs.Common.{◌∙◌, ap}
use Rattle.ttlv_run.specs.{Escapes.escape, Traffic.gap_line}
use Rattle.ttlv_run.proofs.Chains.{piece, four_from}
use Rattle.ttlv_run.proofs.traffic.gap_line.Goals as goal

pub returns : goal.returns
unfolding gap_line
returns g c =
    four_from _ _ _ _ _ _ _ _ _ c.new-line.ensures.bytes
    (piece _ _ _ _ c.in_ok-push_text.ensures.ok (ap escape (c.as_str.ensures.value ∙ c.in_ok-stream.ensures))) c.in_ok-push_str.ensures.bytes
    (piece _ _ _ _ c.in_ok-push_str-2.ensures.bytes c.format.ensures.text) c.in_ok-push_str-3.ensures.bytes
