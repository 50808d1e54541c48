use Rattle.std.proofs.Common.{◌<◌, length, rules, sym, ◌∙◌}
use Rattle.std.specs.List.{list_any}
use Rattle.kmip_operations.specs.Listing.{saying_of}
use Rattle.kmip_operations.specs.Matching.{fits}
use Rattle.kmip_operations.proofs.Tested.{all_at_all, all_no, all_so_far}
use Rattle.kmip_operations.proofs.matching.has_all.Goals as goal

pub returns-then-not-has : goal.returns-then-not-has
returns-then-not-has g c =
    let within : c.loop-one.one-index < length c.args.sought.now = search rules in
    all_no (λ one. list_any (λ own. fits (saying_of one) (saying_of own)) c.args.owned.now) c.args.sought.now
    c.loop-one.one-index c.one-item.result within c.one-item.is (sym c.has.ensures ∙ c.if-not-has.true)

pub loop-one-preserved : goal.loop-one-preserved
loop-one-preserved g c =
    let within : c.loop-one.one-index < length c.args.sought.now = search rules in
    all_so_far (λ one. list_any (λ own. fits (saying_of one) (saying_of own)) c.args.owned.now) c.args.sought.now
    c.loop-one.one-index c.one-item.result within c.one-item.is c.loop-one.invariant (sym c.has.ensures ∙ c.if-not-has.false)

pub returns : goal.returns
returns g c =
    all_at_all (λ one. list_any (λ own. fits (saying_of one) (saying_of own)) c.args.owned.now) c.args.sought.now
    c.loop-one.one-index (search rules) c.loop-one.invariant
