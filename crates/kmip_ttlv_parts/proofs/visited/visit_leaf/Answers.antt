use Rattle.std.proofs.Common.{rules, ◌≡◌, ◌+◌, ◌<◌, ◌^◌, length, take, drop, ap, sym, subst, ◌∙◌, arith}
use Rattle.kmip_ttlv_base.specs.Tags.{wrapper_name}
use Rattle.kmip_ttlv_base.specs.Values.{newtype_value}
use Rattle.kmip_ttlv_base.specs.Visits.{Receives, leaf_value}
use Rattle.kmip_ttlv_types.specs.Places.{length_at, size, tag_at}
use Rattle.kmip_ttlv_reader.specs.Reads.{decoded_leaf, form_of_type}
use Rattle.kmip_ttlv_reader.specs.Steps.{gives}
use Rattle.kmip_ttlv_reader.proofs.AnyThere.{leaf_there}
use Rattle.kmip_ttlv_parts.proofs.visited.visit_leaf.Goals as goal

pub length_at-n-requires : goal.length_at-n-requires
length_at-n-requires g c =
    let l = leaf_there c.args.bytes.now c.args.pos c.args.end c.args.typ c.requires.there.0 c.requires.there.1 in
    omega (arith, l.at.there)

pub content_at-content-requires : goal.content_at-content-requires
content_at-content-requires g c =
    let l = leaf_there c.args.bytes.now c.args.pos c.args.end c.args.typ c.requires.there.0 c.requires.there.1 in
    omega (arith, l.at.there, c.length_at-n.ensures)

pub tag_at-requires : goal.tag_at-requires
tag_at-requires g c =
    let l = leaf_there c.args.bytes.now c.args.pos c.args.end c.args.typ c.requires.there.0 c.requires.there.1 in
    omega (arith, l.at.there)

pub leaf_of-requires : goal.leaf_of-requires
leaf_of-requires g c =
    let l = leaf_there c.args.bytes.now c.args.pos c.args.end c.args.typ c.requires.there.0 c.requires.there.1 in
    rw (c.content_at-content.ensures, c.length_at-n.ensures, ← l.at.content) l.valid

pub overflow_add-result : goal.overflow_add-result
overflow_add-result g c =
    let l = leaf_there c.args.bytes.now c.args.pos c.args.end c.args.typ c.requires.there.0 c.requires.there.1 in
    let long : length c.args.bytes.now < 2 ^ 64 = search rules in
    let same : c.size_of.result ≡ size c.args.typ (length_at c.args.bytes.now c.args.pos) = c.size_of.ensures ∙ ap (size c.args.typ) c.length_at-n.ensures in
    omega (arith, l.at.there, long, same)

pub returns-clause-visited : goal.returns-clause-visited
returns-clause-visited g c =
    let b = c.args.bytes.now in
    let x = c.requires.there in
    let l = leaf_there b c.args.pos c.args.end c.args.typ x.0 x.1 in
    let same : c.size_of.result ≡ size c.args.typ (length_at b c.args.pos) = c.size_of.ensures ∙ ap (size c.args.typ) c.length_at-n.ensures in
    let next : x.0.1 ≡ c.args.pos + c.size_of.result = omega (arith, l.at.behind, same) in
    let content : c.content_at-content.result.now ≡ l.content =
    c.content_at-content.ensures ∙ ap (λ n. take n (drop (c.args.pos + 8) b)) c.length_at-n.ensures ∙ sym l.at.content in
    let leaf : leaf_value c.leaf_of.result ≡ decoded_leaf (form_of_type c.args.typ) l.content =
    c.leaf_of.ensures ∙ ap (decoded_leaf (form_of_type c.args.typ)) content in
    let tag : c.deref.result.now ≡ tag_at b c.args.pos = c.deref.ensures ∙ c.tag_at.ensures in
    let is : newtype_value (wrapper_name c.deref.result.now) (leaf_value c.leaf_of.result) ≡ x.0.0 =
    ap (λ t. newtype_value (wrapper_name t) (leaf_value c.leaf_of.result)) tag ∙ ap (newtype_value (wrapper_name (tag_at b c.args.pos))) leaf ∙ sym l.is in (
      x.0.0,
      x.1 ∙ ap (λ q. gives (x.0.0, q)) next,
      subst (λ v. Receives g.V.Visitor.knows g.V.Visitor.step v c.args.visitor.now c.tagged.new.visitor) is c.in_ok-tagged.ensures.received,
    )
