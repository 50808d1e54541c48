use Rattle.std.proofs.Common.{rules, ◌≡◌, ◌∙◌, sym, ap, arith, false}
use Rattle.kmip_ttlv_types.specs.Leaves.{is_valid}
use Rattle.kmip_ttlv_util.proofs.Entries.{read_short, read_none, read_missing, read_invalid, item_structure, item_leaf}
use Rattle.kmip_ttlv_util.proofs.item.item_at.Goals as goal

pub returns-then-bytes-pos-lt8-clause-none : goal.returns-then-bytes-pos-lt8-clause-none
returns-then-bytes-pos-lt8-clause-none c = read_short c.args.bytes.now c.args.pos (omega arith)

pub returns-in_default-clause-none : goal.returns-in_default-clause-none
returns-in_default-clause-none c = read_none c.args.bytes.now c.args.pos (sym c.type_at.ensures ∙ c.in_default.is)

pub returns-then-eq-clause-some : goal.returns-then-eq-clause-some
returns-then-eq-clause-some c =
    item_structure c.args.bytes.now c.args.pos c.tag_at-tag.result c.length_at-length.result c.in-Some.typ _ (search rules)
    (sym c.type_at.ensures ∙ c.in-Some.is) (omega arith) c.tag_at-tag.ensures c.length_at-length.ensures

pub returns-in_default-end_of-clause-none : goal.returns-in_default-end_of-clause-none
returns-in_default-end_of-clause-none c =
    read_missing c.args.bytes.now c.args.pos c.in-Some.typ c.length_at-length.result (sym c.type_at.ensures ∙ c.in-Some.is)
    (search rules) c.length_at-length.ensures c.in_default-end_of.ensures.none

pub returns-then-not-is_valid-clause-none : goal.returns-then-not-is_valid-clause-none
returns-then-not-is_valid-clause-none c =
    let h = c.in-Some-end_of.ensures.some in
    let bad : is_valid c.in-Some.typ c.content_at-content.result.now ≡ false = search rules in
    read_invalid c.args.bytes.now c.args.pos c.in-Some.typ c.length_at-length.result (sym c.type_at.ensures ∙ c.in-Some.is)
    (search rules) c.length_at-length.ensures (omega (arith, h.0, h.1)) (ap (is_valid c.in-Some.typ) (sym c.content_at-content.ensures) ∙ bad)

pub returns-clause-some : goal.returns-clause-some
returns-clause-some c =
    let h = c.in-Some-end_of.ensures.some in
    item_leaf c.args.bytes.now c.args.pos c.tag_at-tag.result c.length_at-length.result c.in-Some-end_of.next c.in-Some.typ c.content_at-content.result
    c.value_of.result (sym c.type_at.ensures ∙ c.in-Some.is) (search rules) c.tag_at-tag.ensures c.length_at-length.ensures c.content_at-content.ensures h.0
    h.1 (search rules) c.value_of.ensures
