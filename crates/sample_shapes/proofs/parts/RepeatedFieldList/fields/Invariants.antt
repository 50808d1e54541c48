use Rattle.std.proofs.Common.{◌≡◌}
use Rattle.kmip_ttlv_base.specs.Forms.{fields_of}
use Rattle.sample_shapes.specs.ManyFields.{many}
use Rattle.sample_shapes.proofs.parts.RepeatedFieldList.fields.Given as goal

abbrev pub invariant-loop-i : goal.invariant-loop-i
invariant-loop-i g l = fields_of l.fields.items ≡ many g.N.Name.letters g.P.Part.part l._i g.L.FieldList.all
