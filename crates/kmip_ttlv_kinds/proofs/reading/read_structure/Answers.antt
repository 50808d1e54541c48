use Rattle.std.proofs.Common.{ap}
use Rattle.kmip_ttlv_types.specs.Digits.{tag_text}
use Rattle.kmip_ttlv_base.specs.Values.{struct_value}
use Rattle.kmip_ttlv_reader.specs.{Steps.mapped, Outcomes.struct_outcome, Outcomes.fields_outcome, Spots.at}
use Rattle.kmip_ttlv_reader.proofs.{Loops.struct_is, Steps.failure_then}
use Rattle.kmip_ttlv_kinds.proofs.reading.read_structure.Goals as goal

pub returns-in-Ok-clause-read : goal.returns-in-Ok-clause-read
returns-in-Ok-clause-read g c =
    let spot = c.args.cursor.now in
    rw (struct_is (tag_text c.args.tag) g.L.PartList.fields c.args.closed c.args.scope.now.bytes.now c.args.scope.now.owner spot.stored spot.pos
    c.args.scope.now.end) (ap (mapped (struct_value (tag_text c.args.tag))) c.in-Ok.ensures.read)

pub returns-in-Err-clause-read : goal.returns-in-Err-clause-read
returns-in-Err-clause-read g c =
    let spot = c.args.cursor.now in
    let whole = at (struct_outcome (tag_text c.args.tag) g.L.PartList.fields c.args.closed (fields_outcome g.L.PartList.fields)) c.args.scope.now spot in
    rw (struct_is (tag_text c.args.tag) g.L.PartList.fields c.args.closed c.args.scope.now.bytes.now c.args.scope.now.owner spot.stored spot.pos
    c.args.scope.now.end) (failure_then whole _ _ c.in-Err.ensures.read)
