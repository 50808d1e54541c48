use Rattle.std.proofs.Common.{sym, ◌∙◌, refl}
use Rattle.kmip_ttlv_ser.specs.{declared.pending.PendingTag.TheVariants.Plain, Emits.state}
use Rattle.kmip_ttlv_ser.proofs.Sending.{wrote_unit, wrote_no_unit}
use Rattle.kmip_ttlv_ser.proofs.emitter.Emitter.put_unit_variant.Goals as goal

pub returns-in_default-number_of : goal.returns-in_default-number_of
returns-in_default-number_of g c = λ s h. wrote_no_unit c.args.name.now c.args.variant.now c.in-Some.tag h (sym c.take.ensures ∙ c.in-Some.is)
    (sym c.number_of.ensures ∙ c.in_default-number_of.is)

pub returns : goal.returns
returns g c = λ s h.
    wrote_unit c.args.name.now c.args.variant.now c.in-Some.tag c.in-Some-number_of.value h (sym c.take.ensures ∙ c.in-Some.is)
    (sym c.number_of.ensures ∙ c.in-Some-number_of.is)
    (c.put_four.ensures (state s.start s.bytes s.plan (Plain c.in-Some.tag)) record { gave = h.gave; plan_is = h.plan_is; pending_is = refl })
