use Rattle.std.specs.Prelude.{OnOk}
use Rattle.kmip_ttlv_base.specs.Visits.{Receives}
use Rattle.kmip_attribute_set.proofs.Told.{structure_told, value_told}
use Rattle.kmip_attribute_set.proofs.tags.AttributeValueUnderTag.visit_under.Goals as goal

pub returns-in-Structure-clause-received : goal.returns-in-Structure-clause-received
returns-in-Structure-clause-received g c =
    structure_told _ (λ v. OnOk c.visit_under.result (Receives g.V.Visitor.knows g.V.Visitor.step v c.args.visitor.now c.visit_under.new.visitor))
    c.args.tag c.in-Structure.is c.visit_under.ensures.received

pub leaf_of-requires : goal.leaf_of-requires
leaf_of-requires g c = c.in_default.not-Structure

pub returns-in_default-clause-received : goal.returns-in_default-clause-received
returns-in_default-clause-received g c =
    value_told (λ v. OnOk c.tagged.result (Receives g.V.Visitor.knows g.V.Visitor.step v c.args.visitor.now c.tagged.new.visitor))
    (c.leaf_of.ensures _ c.args.tag) c.tagged.ensures.received
