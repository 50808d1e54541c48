use Rattle.std.proofs.Common.{◌≡◌, ◌-◌, map, take, drop, length}
use Rattle.std.proofs.lemmas.Result.{err_from_is_err_and}
use Rattle.plain_xml.specs.Elements.{element_view}
use Rattle.kmip_ttlv_xml.specs.XmlItems.{items_in}
use Rattle.kmip_ttlv_xml.specs.GivenElements.{moved_view}
use Rattle.kmip_ttlv_xml.proofs.Concluding.{wrapped_slice, xml_of, written_of, unwritten_refused, ungiven_refused, ungiven_only, ok_then, err_then}
use Rattle.kmip_ttlv_xml.proofs.read.bytes_of.Goals as goal

pub returns-in_err-given-clause-only : goal.returns-in_err-given-clause-only
returns-in_err-given-clause-only g c out h =
    let es = map element_view c.args.elements.now in
    let same : items_in (map element_view c.args.elements.now) ≡ map (moved_view c.args.count)
    (take (length c.args.elements.now - c.args.count) (drop c.args.count c.args.elements.now)) =
    wrapped_slice c.args.elements.now c.args.count c.requires.count in
    let p = err_from_is_err_and c.from_residual.result c.from_residual.ensures.1 in
    rw (p.1, p.2) (ungiven_only es same c.in_err-given.field-0.0 out c.in_err-given.ensures.err h)

pub returns-in_err-given-clause-exact : goal.returns-in_err-given-clause-exact
returns-in_err-given-clause-exact g c =
    let es = map element_view c.args.elements.now in
    let same : items_in (map element_view c.args.elements.now) ≡ map (moved_view c.args.count)
    (take (length c.args.elements.now - c.args.count) (drop c.args.count c.args.elements.now)) =
    wrapped_slice c.args.elements.now c.args.count c.requires.count in
    let p = err_from_is_err_and c.from_residual.result c.from_residual.ensures.1 in
    rw (p.1, p.2) (ungiven_refused es same c.in_err-given.field-0.0 c.in_err-given.ensures.err)

pub returns-clause-found : goal.returns-clause-found
returns-clause-found g c =
    let es = map element_view c.args.elements.now in
    let same : items_in (map element_view c.args.elements.now) ≡ map (moved_view c.args.count)
    (take (length c.args.elements.now - c.args.count) (drop c.args.count c.args.elements.now)) =
    wrapped_slice c.args.elements.now c.args.count c.requires.count in
    ok_then c.written.result _ _ (λ v. xml_of es same c.in_ok-given.ensures.ok v.items) c.written.ensures.found

pub returns-clause-only : goal.returns-clause-only
returns-clause-only g c out h =
    let es = map element_view c.args.elements.now in
    let same : items_in (map element_view c.args.elements.now) ≡ map (moved_view c.args.count)
    (take (length c.args.elements.now - c.args.count) (drop c.args.count c.args.elements.now)) =
    wrapped_slice c.args.elements.now c.args.count c.requires.count in
    c.written.ensures.only out (written_of es same c.in_ok-given.ensures.ok out h)

pub returns-clause-exact : goal.returns-clause-exact
returns-clause-exact g c =
    let es = map element_view c.args.elements.now in
    let same : items_in (map element_view c.args.elements.now) ≡ map (moved_view c.args.count)
    (take (length c.args.elements.now - c.args.count) (drop c.args.count c.args.elements.now)) =
    wrapped_slice c.args.elements.now c.args.count c.requires.count in
    err_then c.written.result _ _ (λ e. unwritten_refused es same c.in_ok-given.ensures.ok e) c.written.ensures.exact
