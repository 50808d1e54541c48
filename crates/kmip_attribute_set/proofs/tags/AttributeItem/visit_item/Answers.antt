use Rattle.std.specs.Prelude.{OnOk}
use Rattle.kmip_ttlv_base.specs.Visits.{Receives}
use Rattle.kmip_attribute_set.proofs.Told.{tag_told}
use Rattle.kmip_attribute_set.proofs.tags.AttributeItem.visit_item.Goals as goal

pub returns-clause-received : goal.returns-clause-received
returns-clause-received g c =
    tag_told _ (λ v. OnOk c.visit_under.result (Receives g.V.Visitor.knows g.V.Visitor.step v c.args.visitor.now c.visit_under.new.visitor))
    c.args.self.now.value c.tag_of-tag.ensures c.visit_under.ensures.received
