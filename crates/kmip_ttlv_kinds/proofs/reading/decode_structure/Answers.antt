use Rattle.std.proofs.Common.{◌≡◌, arith}
use Rattle.kmip_ttlv_reader.specs.Spots.{structure_form, structure_value}
use Rattle.kmip_ttlv_reader.proofs.ResultLemmas.{result_found, result_stands, result_whole}
use Rattle.kmip_ttlv_kinds.specs.Parts.{within}
use Rattle.kmip_ttlv_kinds.proofs.reading.decode_structure.Goals as goal

pub returns-clause-found : goal.returns-clause-found
returns-clause-found g c =
    let l = g.L.PartList in
    result_found (structure_form c.args.tag l.fields c.args.closed) c.args.bytes.now
    (λ v x. v ≡ structure_value c.args.tag (within (λ y. l.values (g.T.FromParts.parts y))) x) c.decode_root.result (λ i. omega (arith, c.type_inv.bytes i))
    c.decode_root.ensures.equals

pub returns-clause-refused : goal.returns-clause-refused
returns-clause-refused g c =
    let l = g.L.PartList in
    result_stands (structure_form c.args.tag l.fields c.args.closed) c.args.bytes.now
    (λ v x. v ≡ structure_value c.args.tag (within (λ y. l.values (g.T.FromParts.parts y))) x) c.decode_root.result c.decode_root.ensures.equals

pub returns-clause-whole : goal.returns-clause-whole
returns-clause-whole g c =
    let l = g.L.PartList in
    result_whole (structure_form c.args.tag l.fields c.args.closed) c.args.bytes.now
    (λ v x. v ≡ structure_value c.args.tag (within (λ y. l.values (g.T.FromParts.parts y))) x) c.decode_root.result c.decode_root.ensures.equals
