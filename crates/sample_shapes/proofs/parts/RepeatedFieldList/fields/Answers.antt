use Rattle.std.proofs.Common.{◌≡◌, ◌+◌, suc, ap, refl, ◌∙◌, arith}
use Rattle.sample_shapes.specs.ManyFields.{many}
use Rattle.sample_shapes.proofs.parts.RepeatedFieldList.fields.Goals as goal

pub loop-i-preserved : goal.loop-i-preserved
loop-i-preserved g c =
    let next : suc c.loop-i._i ≡ c.loop-i._i + 1 = omega arith in
    (rw (c.in_ok-insert.ensures.items, c.name-name.ensures, c.in_ok-shape.ensures, c.loop-i.invariant) refl)
    ∙ ap (λ n. many g.N.Name.letters g.P.Part.part n g.L.FieldList.all) next
