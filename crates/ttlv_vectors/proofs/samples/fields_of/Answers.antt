use Rattle.std.proofs.Common.{ap, ◌∙◌}
use Rattle.kmip_ttlv.specs.Values.{view}
use Rattle.kmip_ttlv_base.proofs.Views.{view-Struct, view-Structure}
use Rattle.ttlv_vectors.proofs.SingleData.{is_named}
use Rattle.ttlv_vectors.proofs.samples.fields_of.Goals as goal

pub returns-in-Struct : goal.returns-in-Struct
returns-in-Struct g c = is_named c.args.value.now _ _ (ap view c.in-Struct.is ∙ view-Struct _ _) c.requires

pub returns-in-Structure : goal.returns-in-Structure
returns-in-Structure g c = is_named c.args.value.now _ _ (ap view c.in-Structure.is ∙ view-Structure _ _) c.requires
