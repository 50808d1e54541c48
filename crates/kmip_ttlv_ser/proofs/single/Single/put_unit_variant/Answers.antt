use Rattle.std.proofs.Common.{◌≡◌, Some, OnOk, ap, sym, ◌∙◌, refl, subst}
use Rattle.kmip_ttlv_ser.specs.Singles.{writing, put}
use Rattle.kmip_ttlv_ser.proofs.Sending.{unit_items}
use Rattle.kmip_ttlv_ser.proofs.single.Single.put_unit_variant.Goals as goal

pub returns : goal.returns
returns c =
    subst (λ x. OnOk c.put_four.result (x ≡ Some (writing c.put_four.new.self))) (sym (ap (λ o. put o (writing c.args.self.now))
    (unit_items c.args.name.now c.args.variant.now c.in-Some.tag refl (sym c.take.ensures ∙ c.in-Some.is)
    (sym c.number_of.ensures ∙ c.in-Some-number_of.is)))) c.put_four.ensures
