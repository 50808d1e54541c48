use Rattle.std.proofs.Common.{ℕ, List, reverse, refl, ap, ap₂, ◌∙◌, arith}
use Rattle.kmip_ttlv_ser.specs.declared.{pending.PendingTag.TheVariants.Nothing, measurer.Open.Open}
use Rattle.kmip_ttlv_ser.specs.Measures.{going, from, known_by}
use Rattle.kmip_ttlv_ser.proofs.Failing.{fails_as, planned_as}
use Rattle.kmip_ttlv_ser.proofs.measurer.measure.Goals as goal

pub returns-in-Some : goal.returns-in-Some
returns-in-Some g c =
    fails_as (g.T.Serialize.stated c.args.value.now) c.args.place c.in-Some.encode_error (going c.visit.new.visitor) c.into_error.result (omega arith)
    (ap₂ (λ (a : List ℕ) (b : List Open). from c.args.place Nothing a (reverse b)) c.new.ensures.items c.new-2.ensures.items)
    (c.in_ok-visit.ensures.received _ refl ∙ ap (λ r. known_by r (going c.visit.new.visitor)) c.in-Some.is) c.into_error.ensures

pub returns : goal.returns
returns g c = planned_as (g.T.Serialize.stated c.args.value.now) c.args.place (going c.visit.new.visitor) (omega arith)
    (ap₂ (λ (a : List ℕ) (b : List Open). from c.args.place Nothing a (reverse b)) c.new.ensures.items c.new-2.ensures.items)
    (c.in_ok-visit.ensures.received _ refl ∙ ap (λ r. known_by r (going c.visit.new.visitor)) c.in_default.is)
