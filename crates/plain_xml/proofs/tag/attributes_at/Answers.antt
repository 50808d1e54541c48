use Rattle.std.proofs.Common.{◌≡◌, ◌++◌, ◌∷◌, [], map}
use Rattle.std.proofs.lemmas.Result.{err_from_is_err_and}
use Rattle.std.proofs.lemmas.List.{map_push}
use Rattle.plain_xml.specs.Elements.{attribute_view}
use Rattle.plain_xml.proofs.Loops.{attributes_no_start, attributes_no_next, attributes_refused, attributes_go, attributes_shorter}
use Rattle.plain_xml.proofs.tag.attributes_at.Goals as goal

pub returns-in_err-start : goal.returns-in_err-start
returns-in_err-start g c =
    let p = err_from_is_err_and c.from_residual.result c.from_residual.ensures.1 in
    rw (p.1, p.2) (attributes_no_start c.args.text.now c.attributes.rest.now
    (map attribute_view c.attributes.attributes.items) c.in_err-start.field-0.0 c.attributes.invariant c.in_err-start.ensures)

pub returns-in_err-attribute : goal.returns-in_err-attribute
returns-in_err-attribute g c =
    let p = err_from_is_err_and c.from_residual-in_err-attribute.result c.from_residual-in_err-attribute.ensures.1 in
    let s = rw c.in-Some.is at c.in_ok-start.ensures in
    rw (p.1, p.2) (attributes_no_next c.args.text.now c.attributes.rest.now c.in-Some.start.now
    (map attribute_view c.attributes.attributes.items) c.in_err-attribute.field-0.0 c.attributes.invariant s c.in_err-attribute.ensures)

pub returns-in_err-admitted : goal.returns-in_err-admitted
returns-in_err-admitted g c =
    let p = err_from_is_err_and c.from_residual-in_err-admitted.result c.from_residual-in_err-admitted.ensures.1 in
    let s = rw c.in-Some.is at c.in_ok-start.ensures in
    let d = rw (c.as_slice.ensures.value, c.as_str.ensures.value) at c.in_err-admitted.ensures in
    rw (p.1, p.2) (attributes_refused c.args.text.now c.attributes.rest.now c.in-Some.start.now c.in_ok-attribute.after.now
    (map attribute_view c.attributes.attributes.items)
    (attribute_view c.in_ok-attribute.attribute) c.in_err-admitted.field-0.0 c.attributes.invariant s c.in_ok-attribute.ensures d)

pub attributes-smaller : goal.attributes-smaller
attributes-smaller g c =
    let s = rw c.in-Some.is at c.in_ok-start.ensures in
    let d = rw (c.as_slice.ensures.value, c.as_str.ensures.value) at c.in_ok-admitted.ensures in
    attributes_shorter c.attributes.rest.now c.in-Some.start.now c.in_ok-attribute.after.now (map attribute_view c.attributes.attributes.items)
    (attribute_view c.in_ok-attribute.attribute) s c.in_ok-attribute.ensures d

pub attributes-preserved : goal.attributes-preserved
attributes-preserved g c =
    let s = rw c.in-Some.is at c.in_ok-start.ensures in
    let d = rw (c.as_slice.ensures.value, c.as_str.ensures.value) at c.in_ok-admitted.ensures in
    let e : map attribute_view c.push.new.self.items ≡ map attribute_view c.attributes.attributes.items ++ attribute_view c.in_ok-attribute.attribute ∷ [] =
    rw c.in_ok-push.ensures.items (map_push _ c.attributes.attributes.items c.in_ok-attribute.attribute) in
    rw e (attributes_go c.args.text.now c.attributes.rest.now c.in-Some.start.now c.in_ok-attribute.after.now (map attribute_view c.attributes.attributes.items)
    (attribute_view c.in_ok-attribute.attribute) c.attributes.invariant s c.in_ok-attribute.ensures d)
