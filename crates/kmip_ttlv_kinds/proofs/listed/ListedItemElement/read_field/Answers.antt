use Rattle.std.specs.Prelude.{refl}
use Rattle.kmip_ttlv_types.specs.Digits.{tag_text}
use Rattle.kmip_ttlv_base.specs.Forms.{enum}
use Rattle.kmip_ttlv_reader.specs.{Outcomes.outcome, Spots.field_there}
use Rattle.kmip_ttlv_reader.proofs.{Steps.failure_then, Structures.field_is}
use Rattle.kmip_ttlv_kinds.proofs.listed.ListedItemElement.read_field.Goals as goal

pub returns-in-Ok-clause-read : goal.returns-in-Ok-clause-read
returns-in-Ok-clause-read g c =
    let n = g.E.Listed.tag in
    let s = enum (tag_text n) g.E.Listed.variants in
    let there = rw c.tag.ensures at rw c.pos.ensures at c.in-Ok.ensures.step in
    rw (
      field_is n s (outcome s) c.args.scope.now.bytes.now c.args.scope.now.owner c.args.cursor.now.stored c.args.cursor.now.pos c.args.scope.now.end refl refl,
      there,
    ) c.read_listed.ensures.read

pub returns-in-Err-clause-read : goal.returns-in-Err-clause-read
returns-in-Err-clause-read g c =
    let n = g.E.Listed.tag in
    let s = enum (tag_text n) g.E.Listed.variants in
    let not_there = rw c.tag.ensures at rw c.pos.ensures at c.in-Err.ensures.step in
    let scope = c.args.scope.now in
    let spot = c.args.cursor.now in
    rw (field_is n s (outcome s) scope.bytes.now scope.owner spot.stored spot.pos scope.end refl refl)
    (failure_then (field_there n scope.bytes.now scope.owner spot.pos scope.end) _ _ not_there)
