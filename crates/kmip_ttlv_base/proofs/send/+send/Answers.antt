use Rattle.std.proofs.Common.{◌≡◌, ◌+◌, ◌∷◌, drop, OnOk, sym, ap, ◌∙◌, subst, arith}
use Rattle.std.proofs.lemmas.{List.drop_more, List.drop_all, Grind.common_steps}
use Rattle.kmip_ttlv_base.specs.declared.shape.Data.{the_lemmas}
use Rattle.kmip_ttlv_base.specs.Values.{view, views, seq_value, struct_value, tuple_variant_value}
use Rattle.kmip_ttlv_base.specs.Visits.{Receives, ReceivesEach, visited}
use Rattle.kmip_ttlv_types.specs.Digits.{tag_text}
use Rattle.kmip_ttlv_base.proofs.Views.{view-Seq, view-Struct, view-Structure, view-TupleVariant}
use Rattle.kmip_ttlv_base.proofs.send.+send.Goals as goal

pub send-send_group-requires-in-Struct : goal.send-send_group-requires-in-Struct
send-send_group-requires-in-Struct g t c κs within = (grind (the_lemmas, arith, common_steps) steps 9000000, within)

pub send-send_group-requires-in-Structure : goal.send-send_group-requires-in-Structure
send-send_group-requires-in-Structure g t c κs within = (grind (the_lemmas, arith, common_steps) steps 9000000, within)

pub send-send_group-requires-in-TupleVariant : goal.send-send_group-requires-in-TupleVariant
send-send_group-requires-in-TupleVariant g t c κs within = (grind (the_lemmas, arith, common_steps) steps 9000000, within)

pub send-returns-in-Seq-clause-received : goal.send-returns-in-Seq-clause-received
send-returns-in-Seq-clause-received g t c =
    let tells = Receives g.V.Visitor.knows g.V.Visitor.step in
    subst (λ v. OnOk c.send_group.result (tells v c.args.visitor.now c.send_group.new.visitor))
    (ap (λ vs. seq_value (views vs)) c.deref-in-Seq.ensures.value ∙ sym (ap view c.in-Seq.is ∙ view-Seq _))
    c.send_group.ensures.received

pub send-returns-in-Struct-clause-received : goal.send-returns-in-Struct-clause-received
send-returns-in-Struct-clause-received g t c =
    let tells = Receives g.V.Visitor.knows g.V.Visitor.step in
    let r = c.send_group-in-Struct.result in
    subst (λ v. OnOk r (tells v c.args.visitor.now c.send_group-in-Struct.new.visitor))
    (ap (λ vs. struct_value c.in-Struct.name.now (views vs)) c.deref-in-Struct.ensures.value
    ∙ sym (ap view c.in-Struct.is ∙ view-Struct _ _))
    c.send_group-in-Struct.ensures.received

pub send-returns-in-Structure-clause-received : goal.send-returns-in-Structure-clause-received
send-returns-in-Structure-clause-received g t c =
    let tells = Receives g.V.Visitor.knows g.V.Visitor.step in
    let r = c.send_group-in-Structure.result in
    subst (λ v. OnOk r (tells v c.args.visitor.now c.send_group-in-Structure.new.visitor))
    (ap (λ vs. struct_value (tag_text c.in-Structure.tag) (views vs)) c.deref-in-Structure.ensures.value
    ∙ sym (ap view c.in-Structure.is ∙ view-Structure _ _))
    c.send_group-in-Structure.ensures.received

pub send-returns-in-TupleVariant-clause-received : goal.send-returns-in-TupleVariant-clause-received
send-returns-in-TupleVariant-clause-received g t c =
    let tells = Receives g.V.Visitor.knows g.V.Visitor.step in
    let name = c.in-TupleVariant.name.now in
    let variant = c.in-TupleVariant.variant.now in
    let r = c.send_group-in-TupleVariant.result in
    subst (λ v. OnOk r (tells v c.args.visitor.now c.send_group-in-TupleVariant.new.visitor))
    (ap (λ vs. tuple_variant_value name variant (views vs)) c.deref-in-TupleVariant.ensures.value
    ∙ sym (ap view c.in-TupleVariant.is ∙ view-TupleVariant _ _ _))
    c.send_group-in-TupleVariant.ensures.received

pub send_each-loop-value-preserved : goal.send_each-loop-value-preserved
send_each-loop-value-preserved g t c =
    let tells = ReceivesEach g.V.Visitor.knows g.V.Visitor.step in
    let values = c.args.values.now in
    let i = c.loop-value.value-index in
    let here : drop i values ≡ c.value-item.result ∷ drop (i + 1) values =
    drop_more values i c.value-item.result (omega arith) ∙ ap (λ y. y ∷ drop (i + 1) values) (sym c.value-item.is) in
    λ new rest. c.loop-value.invariant new (subst (λ vs. tells (views vs) c.loop-value.visitor new) (sym here) (λ s k.
    rest (visited g.V.Visitor.step (view c.value-item.result) s) (c.in_ok-send.ensures.received s k)))

pub send_each-returns-clause-received : goal.send_each-returns-clause-received
send_each-returns-clause-received g t c =
    let tells = ReceivesEach g.V.Visitor.knows g.V.Visitor.step in
    let visitor = c.loop-value.visitor in
    c.loop-value.invariant visitor
    (subst (λ vs. tells (views vs) visitor visitor)
    (sym (drop_all c.loop-value.value-index c.args.values.now c.loop-value-test.false)) (λ s k. k))
