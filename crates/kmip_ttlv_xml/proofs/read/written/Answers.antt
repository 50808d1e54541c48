use Rattle.std.proofs.lemmas.List.{map-id}
use Rattle.kmip_ttlv_xml.proofs.Written.{unwritten}
use Rattle.kmip_ttlv_xml.proofs.read.written.Goals as goal

pub returns-in-Ok-clause-only : goal.returns-in-Ok-clause-only
returns-in-Ok-clause-only g c out h =
    let w = rw (c.as_slice.ensures.value, c.as_slice-2.ensures.value, map-id c.args.given.now.items.items) at c.in-Ok.ensures.ok in
    c.items_have_one_text.ensures _ _ _ _ w h

pub returns-in-Err-Bad-clause-only : goal.returns-in-Err-Bad-clause-only
returns-in-Err-Bad-clause-only g c out h =
    let n = rw (c.in-Err-Bad.field-0-is, c.as_slice.ensures.value, c.as_slice-2.ensures.value, map-id c.args.given.now.items.items)
    at c.in-Err-Bad.ensures.err in
    absurd (n.none out h)

pub returns-in-Err-Bad-clause-exact : goal.returns-in-Err-Bad-clause-exact
returns-in-Err-Bad-clause-exact g c =
    let n = rw (c.in-Err-Bad.field-0-is, c.as_slice.ensures.value, c.as_slice-2.ensures.value, map-id c.args.given.now.items.items)
    at c.in-Err-Bad.ensures.err in
    rw c.refused.ensures (unwritten c.args.given.now.items.items c.args.given.now.lent.items c.in-Err-Bad.bad c.requires n)
