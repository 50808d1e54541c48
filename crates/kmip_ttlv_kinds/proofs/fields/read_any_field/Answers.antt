use Rattle.std.proofs.Common.{ap, refl, ◌∙◌}
use Rattle.kmip_ttlv_base.specs.Forms.{option, seq}
use Rattle.kmip_ttlv_reader.specs.{Outcomes.outcome, Spots.optional_there, Steps.gives}
use Rattle.kmip_ttlv_reader.proofs.{Mapped.some_to, Steps.failure_then, Structures.optional_is}
use Rattle.kmip_ttlv_kinds.proofs.fields.read_any_field.Goals as goal

pub returns-in-Ok-true-clause-read : goal.returns-in-Ok-true-clause-read
unfolding outcome
returns-in-Ok-true-clause-read g c =
    let e = g.E.Element in
    let s = seq e.form in
    let there = rw (c.pos.ensures) at c.in-Ok-true.ensures.step ∙ ap gives c.in-Ok-true.field-0-test in
    rw (
      optional_is c.args.tag s (outcome (option s)) c.args.scope.now.bytes.now c.args.scope.now.owner c.args.cursor.now.stored c.args.cursor.now.pos
          c.args.scope.now.end,
      there,
    ) (some_to e.value c.read_sequence.new.cursor _ c.read_sequence.result c.read_sequence.ensures.some
    c.read_sequence.ensures.read)

pub returns-in-Ok-false-clause-read : goal.returns-in-Ok-false-clause-read
returns-in-Ok-false-clause-read g c =
    let s = seq g.E.Element.form in
    let absent = rw (c.pos.ensures) at c.in-Ok-false.ensures.step ∙ ap gives c.in-Ok-false.field-0-test in
    rw (
      optional_is c.args.tag s (outcome (option s)) c.args.scope.now.bytes.now c.args.scope.now.owner c.args.cursor.now.stored c.args.cursor.now.pos
          c.args.scope.now.end,
      absent,
      c.new.ensures.items,
    ) refl

pub returns-in-Err-clause-read : goal.returns-in-Err-clause-read
returns-in-Err-clause-read g c =
    let s = seq g.E.Element.form in
    let unknown = rw (c.pos.ensures) at c.in-Err.ensures.step in
    rw (optional_is c.args.tag s (outcome (option s)) c.args.scope.now.bytes.now c.args.scope.now.owner c.args.cursor.now.stored c.args.cursor.now.pos
    c.args.scope.now.end) (failure_then (optional_there c.args.tag c.args.scope.now.bytes.now c.args.cursor.now.pos c.args.scope.now.end) _ _ unknown)
