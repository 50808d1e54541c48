use Rattle.std.proofs.Common.{◌≡◌, ◌+◌, ◌<◌, ◌≤◌, ◌^◌, map, length, sym, subst, arith}
use Rattle.std.specs.Str.{chars}
use Rattle.plain_xml.specs.Elements.{element_view}
use Rattle.kmip_ttlv_xml.specs.XmlItems.{items_in}
use Rattle.kmip_ttlv_xml.specs.XmlReadings.{AreXmlOf, around}
use Rattle.kmip_ttlv_xml.proofs.Concluding.{count_items, refused_below, out_only}
use Rattle.kmip_ttlv_xml.proofs.read.from_xml_by.Goals as goal

pub returns-in-Err-Malformed-clause-only : goal.returns-in-Err-Malformed-clause-only
returns-in-Err-Malformed-clause-only g c out h =
    let n = c.in-Err-Malformed.ensures.only h.root h.is in
    rw c.in-Err-Malformed.field-0-is at n

pub returns-in-Ok-bytes_of-clause-only : goal.returns-in-Ok-bytes_of-clause-only
returns-in-Ok-bytes_of-clause-only g c out h =
    let e = c.in-Ok.ensures.only h.root h.is in
    let s = subst (λ l. AreXmlOf l out) (sym e) h.stands in
    c.in-Ok-bytes_of.ensures.only out (rw c.as_slice-found.ensures.value s)

pub placed-requires : goal.placed-requires
placed-requires g c =
    let es = c.as_slice-found.result.now in
    let same : c.around-count.result ≡ around (map element_view es) = c.around-count.ensures.is in
    let long : length es < 2 ^ 64 = omega (arith, c.as_slice-found.type_inv) in
    let le : length (items_in (map element_view es)) + c.around-count.result ≤ length es = omega (arith, count_items es, same) in
    refused_below (items_in (map element_view es)) c.in-Err.refusal c.around-count.result (length es) c.in-Err.ensures.exact le long

pub returns-clause-only : goal.returns-clause-only
returns-clause-only g c out h =
    let e = c.in-Ok.ensures.only h.root h.is in
    let s = subst (λ l. AreXmlOf l out) (sym e) h.stands in
    let none = c.in-Err.ensures.only out (rw c.as_slice-found.ensures.value s) in
    out_only (chars c.args.text.now) c.around-count.result c.in-Err.refusal c.in_ok-placed-in-Err.field-0 none c.in_ok-placed-in-Err.ensures
