use Rattle.std.proofs.Common.{◌<◌, length, rules, sym, ◌∙◌}
use Rattle.kmip_operations.specs.Listing.{saying_of}
use Rattle.kmip_operations.specs.Matching.{date_under, is_up_to}
use Rattle.kmip_operations.proofs.Tested.{any_yes, none_at_all, none_so_far}
use Rattle.kmip_operations.proofs.matching.begins_by.Goals as goal

pub returns-then-is_begun : goal.returns-then-is_begun
returns-then-is_begun g c =
    let within : c.loop-one.one-index < length c.args.sought.now = search rules in
    any_yes (λ one. is_up_to c.args.date.0 (date_under c.args.name.now (saying_of one))) c.args.sought.now
    c.loop-one.one-index c.one-item.result within c.one-item.is (sym c.is_begun.ensures ∙ c.if-is_begun.true)

pub loop-one-preserved : goal.loop-one-preserved
loop-one-preserved g c =
    let within : c.loop-one.one-index < length c.args.sought.now = search rules in
    none_so_far (λ one. is_up_to c.args.date.0 (date_under c.args.name.now (saying_of one))) c.args.sought.now
    c.loop-one.one-index c.one-item.result within c.one-item.is c.loop-one.invariant (sym c.is_begun.ensures ∙ c.if-is_begun.false)

pub returns : goal.returns
returns g c =
    none_at_all (λ one. is_up_to c.args.date.0 (date_under c.args.name.now (saying_of one))) c.args.sought.now
    c.loop-one.one-index (search rules) c.loop-one.invariant
