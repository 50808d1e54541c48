use Rattle.std.proofs.Common.{◌∙◌, ap, sym}
use Rattle.kmip_attribute_set.specs.Tags.{untagged}
use Rattle.kmip_attribute_set.proofs.Told.{tagged_reads, untagged_fails}
use Rattle.kmip_attribute_set.proofs.tags.AttributesTagged.to_tags.Goals as goal

pub returns-in-Some : goal.returns-in-Some
returns-in-Some g c = untagged_fails _ (ap untagged (sym c.as_slice.ensures.value) ∙ sym c.in-Some.ensures) c.not_tagged.ensures

pub returns-in-None : goal.returns-in-None
returns-in-None g c =
    tagged_reads _ c.read_again.result (ap untagged (sym c.as_slice.ensures.value) ∙ sym c.in-None.ensures) c.read_again.ensures
