use Rattle.std.proofs.Common.{refl}
use Rattle.kmip_attribute_set.proofs.Told.{names_items, no_memory}
use Rattle.kmip_attribute_set.proofs.tags.AttributesTagged.from_tags.Goals as goal

pub returns-in-Ok : goal.returns-in-Ok
returns-in-Ok g c = names_items _ _ c.in-Ok.raw c.convert.result (c.in-Ok.ensures _ refl) c.convert.ensures

pub returns-in-Err : goal.returns-in-Err
returns-in-Err g c = no_memory _ _ c.from.result c.from.ensures
