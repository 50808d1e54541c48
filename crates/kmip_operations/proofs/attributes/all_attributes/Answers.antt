use Rattle.std.proofs.Common.{◌∙◌}
use Rattle.kmip_operations.specs.Listing.{own}
use Rattle.kmip_operations.proofs.Listed.{all_asked}
use Rattle.kmip_operations.proofs.attributes.all_attributes.Goals as goal

pub returns : goal.returns
returns g c =
    c.in_ok-attributes.ensures ∙ all_asked c.as_slice.result.now (own c.args.id c.args.object.now) (c.as_slice.ensures.value ∙ c.new-none.ensures.items)
