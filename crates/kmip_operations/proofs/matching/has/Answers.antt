use Rattle.std.proofs.Common.{◌<◌, length, rules, sym, ◌∙◌}
use Rattle.kmip_operations.specs.Listing.{saying_of}
use Rattle.kmip_operations.specs.Matching.{fits}
use Rattle.kmip_operations.proofs.Tested.{any_yes, none_at_all, none_so_far}
use Rattle.kmip_operations.proofs.matching.has.Goals as goal

pub returns-then-fits : goal.returns-then-fits
returns-then-fits g c =
    let within : c.loop-own.own-index < length c.args.owned.now = search rules in
    any_yes (λ own. fits (saying_of c.args.one.now) (saying_of own)) c.args.owned.now
    c.loop-own.own-index c.own-item.result within c.own-item.is (sym c.fits.ensures ∙ c.if-fits.true)

pub loop-own-preserved : goal.loop-own-preserved
loop-own-preserved g c =
    let within : c.loop-own.own-index < length c.args.owned.now = search rules in
    none_so_far (λ own. fits (saying_of c.args.one.now) (saying_of own)) c.args.owned.now
    c.loop-own.own-index c.own-item.result within c.own-item.is c.loop-own.invariant (sym c.fits.ensures ∙ c.if-fits.false)

pub returns : goal.returns
returns g c =
    none_at_all (λ own. fits (saying_of c.args.one.now) (saying_of own)) c.args.owned.now
    c.loop-own.own-index (search rules) c.loop-own.invariant
