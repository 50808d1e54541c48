use Rattle.std.proofs.Common.{◌<◌, length, map, rules, sym, ◌∙◌}
use Rattle.kmip_operations.specs.Listing.{saying_of}
use Rattle.kmip_operations.specs.Matching.{is_timely}
use Rattle.kmip_operations.proofs.Tested.{all_at_all, all_no, all_so_far}
use Rattle.kmip_operations.proofs.matching.are_timely.Goals as goal

pub returns-then-not-is_timely : goal.returns-then-not-is_timely
returns-then-not-is_timely g c =
    let within : c.loop-own.own-index < length c.args.owned.now = search rules in
    all_no (λ own. is_timely (map saying_of c.args.sought.now) (saying_of own)) c.args.owned.now
    c.loop-own.own-index c.own-item.result within c.own-item.is (sym c.is_timely.ensures ∙ c.if-not-is_timely.true)

pub loop-own-preserved : goal.loop-own-preserved
loop-own-preserved g c =
    let within : c.loop-own.own-index < length c.args.owned.now = search rules in
    all_so_far (λ own. is_timely (map saying_of c.args.sought.now) (saying_of own)) c.args.owned.now
    c.loop-own.own-index c.own-item.result within c.own-item.is c.loop-own.invariant (sym c.is_timely.ensures ∙ c.if-not-is_timely.false)

pub returns : goal.returns
returns g c =
    all_at_all (λ own. is_timely (map saying_of c.args.sought.now) (saying_of own)) c.args.owned.now
    c.loop-own.own-index (search rules) c.loop-own.invariant
