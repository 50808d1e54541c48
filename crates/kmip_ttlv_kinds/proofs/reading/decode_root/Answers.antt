use Rattle.std.proofs.Common.{ap, ◌∙◌, refl}
use Rattle.kmip_ttlv_types.specs.Digits.{tag_text}
use Rattle.kmip_ttlv_base.specs.Values.{struct_value}
use Rattle.kmip_ttlv_reader.specs.{Steps.◌>>=◌, Steps.gives, Outcomes.first_outcome, Outcomes.fields_outcome, Spots.structure_value}
use Rattle.kmip_ttlv_reader.proofs.{Loops.root_struct_is, Steps.failure_then}
use Rattle.kmip_ttlv_kinds.specs.Parts.{within}
use Rattle.kmip_ttlv_kinds.proofs.reading.decode_root.Goals as goal

pub returns-in-Ok : goal.returns-in-Ok
unfolding within
returns-in-Ok g c =
    let l = g.L.PartList in
    record {
      equals = (
        structure_value c.args.tag (within (λ x. l.values (g.T.FromParts.parts x))) c.in-Ok.structure,
        root_struct_is (tag_text c.args.tag) l.fields c.args.closed c.args.bytes.now
            ∙ ap (λ o. o >>= λ vs. gives (struct_value (tag_text c.args.tag) vs)) c.in-Ok.ensures.step,
        refl,
      );
    }

pub returns-in-Err : goal.returns-in-Err
returns-in-Err g c =
    let fields = g.L.PartList.fields in
    let first = first_outcome (tag_text c.args.tag) fields c.args.closed (fields_outcome fields) c.args.bytes.now in
    record {
      equals = rw (root_struct_is (tag_text c.args.tag) fields c.args.closed c.args.bytes.now)
          (c.error.ensures (first >>= λ vs. gives (struct_value (tag_text c.args.tag) vs)) (failure_then first _ _ c.in-Err.ensures.step));
    }
