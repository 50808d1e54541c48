use Rattle.std.proofs.Common.{◌+◌}
use Rattle.kmip_ttlv_types.specs.Places.{tag_at}
use Rattle.kmip_ttlv_reader.specs.Steps.{within}
use Rattle.kmip_ttlv_reader.specs.Outcomes.{all_outcome, fields_outcome, struct_outcome}
use Rattle.kmip_ttlv_reader.proofs.Steps.{failure_then}
use Rattle.kmip_ttlv_kinds.proofs.reading.read_whole.Goals as goal

pub returns-in-Err-clause-read : goal.returns-in-Err-clause-read
unfolding struct_outcome
returns-in-Err-clause-read g c =
    let b = c.args.scope.now.bytes.now in
    let pos = c.args.cursor.now.pos in
    let opens = rw c.pos-pos.ensures at c.in_ok-end.ensures.step in
    let all = all_outcome g.L.PartList.fields c.args.closed (fields_outcome g.L.PartList.fields) b (tag_at b pos) c.args.cursor.now.stored
    (pos + 8) c.in_ok-end.end in
    let read = rw (c.tag_at-owner.ensures, c.go_to.ensures, c.pos-pos.ensures) at c.in-Err.ensures.read in
    rw opens (failure_then (within (tag_at b pos) all) _ c.within.result (rw (c.tag_at-owner.ensures, c.pos-pos.ensures) at (c.within.ensures.list all read)))
