use Rattle.std.proofs.Common.{◌≡◌, false, sym, ◌∙◌}
use Rattle.ttlv_run.specs.Peers.{is_four}
use Rattle.ttlv_run.proofs.Chains.{five}
use Rattle.ttlv_run.proofs.peers.push_address.Goals as goal

pub returns : goal.returns
returns g c =
    let not_four : is_four c.args.address ≡ false = sym c.is_four.ensures ∙ c.if-is_four.false in
    rw not_four (five _ _ _ _ _ _ _ _ _ _ _ c.in_ok-push_str.ensures.bytes c.in_ok-push_groups.ensures
    c.in_ok-push_str-2.ensures.bytes c.in_ok-push_groups-2.ensures
    c.in_ok-push_str-3.ensures.bytes)
