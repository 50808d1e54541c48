use Rattle.std.proofs.Common.{refl}
use Rattle.kmip_ttlv_base.specs.Forms.{seq}
use Rattle.kmip_ttlv_reader.specs.{Outcomes.outcome, Spots.field_there}
use Rattle.kmip_ttlv_reader.proofs.{Steps.failure_then, Structures.field_is}
use Rattle.kmip_ttlv_kinds.proofs.fields.read_several_field.Goals as goal

pub returns-in-Ok-clause-read : goal.returns-in-Ok-clause-read
returns-in-Ok-clause-read g c =
    let e = g.E.Element in
    let s = seq e.form in
    let there = rw (c.pos.ensures) at c.in-Ok.ensures.step in
    rw (
      field_is c.args.tag s (outcome s) c.args.scope.now.bytes.now c.args.scope.now.owner c.args.cursor.now.stored c.args.cursor.now.pos c.args.scope.now.end
          refl refl,
      there,
    ) c.read_sequence.ensures.read

pub returns-in-Err-clause-read : goal.returns-in-Err-clause-read
returns-in-Err-clause-read g c =
    let e = g.E.Element in
    let s = seq e.form in
    let not_there = rw (c.pos.ensures) at c.in-Err.ensures.step in
    rw (field_is c.args.tag s (outcome s) c.args.scope.now.bytes.now c.args.scope.now.owner c.args.cursor.now.stored c.args.cursor.now.pos c.args.scope.now.end
    refl refl) (failure_then (field_there c.args.tag c.args.scope.now.bytes.now c.args.scope.now.owner c.args.cursor.now.pos c.args.scope.now.end) _
    _ not_there)
