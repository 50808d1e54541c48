use Rattle.std.proofs.Common.{refl}
use Rattle.kmip_ttlv_base.specs.Forms.{enum}
use Rattle.kmip_ttlv_reader.specs.{Outcomes.outcome, Spots.field_there}
use Rattle.kmip_ttlv_reader.proofs.{Steps.failure_then, Structures.field_is}
use Rattle.kmip_ttlv_kinds.proofs.choices.OneOfPart.read.Goals as goal

pub returns-in-Ok-clause-read : goal.returns-in-Ok-clause-read
returns-in-Ok-clause-read g c =
    let s = enum g.C.Choice.chosen.own g.C.Choice.chosen.variants in
    let there = rw c.pos.ensures at c.in-Ok.ensures.step in
    rw (
      field_is g.row.TAG s (outcome s) c.args.scope.now.bytes.now c.args.scope.now.owner c.args.cursor.now.stored c.args.cursor.now.pos c.args.scope.now.end
          refl refl,
      there,
    ) c.read_choice.ensures.read

pub returns-in-Err-clause-read : goal.returns-in-Err-clause-read
returns-in-Err-clause-read g c =
    let s = enum g.C.Choice.chosen.own g.C.Choice.chosen.variants in
    let not_there = rw c.pos.ensures at c.in-Err.ensures.step in
    rw (field_is g.row.TAG s (outcome s) c.args.scope.now.bytes.now c.args.scope.now.owner c.args.cursor.now.stored c.args.cursor.now.pos c.args.scope.now.end
    refl refl) (failure_then (field_there g.row.TAG c.args.scope.now.bytes.now c.args.scope.now.owner c.args.cursor.now.pos c.args.scope.now.end) _
    _ not_there)
