use Rattle.std.proofs.lemmas.Result.{err_from_is_err_and}
use Rattle.kmip_ttlv_types.specs.Digits.{tag_text}
use Rattle.kmip_ttlv_reader.specs.Outcomes.{type_there}
use Rattle.kmip_ttlv_reader.proofs.Steps.{failure_then}
use Rattle.kmip_ttlv_kinds.specs.Listed.{listed_value}
use Rattle.kmip_ttlv_kinds.proofs.TableLemmas.{listed_is}
use Rattle.kmip_ttlv_kinds.proofs.listed.read_listed.Goals as goal

pub returns-clause-read : goal.returns-clause-read
returns-clause-read g c =
    let t = g.E.Listed in
    let scope = c.args.scope.now in
    let spot = c.args.cursor.now in
    let typed = rw c.pos.ensures at c.in_ok-typ.ensures.step in
    rw (
      listed_is (tag_text t.tag) (listed_value t.tag t.rules) t.variants c.table-table.result.now scope.bytes.now scope.owner spot.stored spot.pos scope.end
          c.table-table.ensures,
      typed,
    ) c.read_number.ensures.read

pub returns-in_err-typ-clause-read : goal.returns-in_err-typ-clause-read
returns-in_err-typ-clause-read g c =
    let t = g.E.Listed in
    let scope = c.args.scope.now in
    let spot = c.args.cursor.now in
    let p = err_from_is_err_and c.from_residual.result c.from_residual.ensures.1 in
    let untyped = rw c.pos.ensures at c.in_err-typ.ensures.step in
    rw (
      p.1,
      p.2,
      listed_is (tag_text t.tag) (listed_value t.tag t.rules) t.variants c.table-table.result.now scope.bytes.now scope.owner spot.stored spot.pos scope.end
          c.table-table.ensures,
    ) (failure_then (type_there scope.bytes.now spot.pos) _ _ untyped)
