use Rattle.std.proofs.Common.{add-one, ap}
use Rattle.kmip_ttlv_types.specs.Digits.{tag_text}
use Rattle.kmip_ttlv_reader.specs.Reads.{first_named}
use Rattle.kmip_ttlv_kinds.specs.Listed.{listed_value}
use Rattle.kmip_ttlv_kinds.proofs.TableLemmas.{are_units, row_found, row_later, row_nowhere}
use Rattle.kmip_ttlv_kinds.proofs.listed.row_named.Goals as goal

pub loop-text-init : goal.loop-text-init
loop-text-init g c =
    let t = g.E.Listed in
    ap (first_named c.args.name.now) (are_units (tag_text t.tag) (listed_value t.tag t.rules) t.variants c.args.table.now c.requires)

pub returns-then-eq : goal.returns-then-eq
returns-then-eq g c =
    let t = g.E.Listed in
    row_found (tag_text t.tag) (listed_value t.tag t.rules) t.variants c.args.name.now c.args.table.now c.loop-text.text-index c.loop-text-item.result
    c.requires c.loop-text-test.true c.loop-text-item.is c.if-eq.ensures c.loop-text.invariant

pub loop-text-preserved : goal.loop-text-preserved
loop-text-preserved g c =
    rw add-one (row_later g.E.Listed.variants c.args.name.now c.args.table.now c.loop-text.text-index c.loop-text-item.result c.loop-text-test.true
    c.loop-text-item.is c.if-eq.ensures c.loop-text.invariant)

pub returns : goal.returns
returns g c = row_nowhere g.E.Listed.variants c.args.name.now c.args.table.now c.loop-text.text-index c.loop-text-test.false c.loop-text.invariant
