use Rattle.std.proofs.Common.{◌≡◌, ◌∙◌, ◌++◌, refl, ap, length, arith}
use Rattle.kmip_ttlv_xml.specs.GivenElements.{item_view}
use Rattle.kmip_ttlv_xml.proofs.Giving.{pushed}
use Rattle.kmip_ttlv_xml.proofs.given.push_item.Goals as goal

pub returns : goal.returns
returns g c =
    let bytes = c.in_ok-extend_from_slice.ensures.items ∙ ap (λ xs. c.args.given.now.lent.items ++ xs) c.as_slice.ensures.value in
    let lent : c.len-offset.result ≡ length c.args.given.now.lent.items = omega (arith, c.args.given.now.lent.ok.0, c.len-offset.ensures) in
    let content : c.len.result ≡ length c.args.item.now.content.items = omega (arith, c.args.item.now.content.ok.0, c.len.ensures) in
    pushed _ _ _ _ c.args.depth (item_view c.args.item.now) _ c.requires.filled c.requires.sound c.in_ok-push.ensures.items bytes
    (rw (lent, content, c.deref.ensures, c.from.ensures, c.code.ensures) refl)
