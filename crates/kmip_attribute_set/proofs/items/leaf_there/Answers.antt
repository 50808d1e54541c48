use Rattle.std.proofs.Common.{rules, ◌≡◌, ◌+◌, ◌<◌, ◌^◌, length, take, drop, ap, sym, subst, ◌∙◌, arith}
use Rattle.kmip_ttlv_base.specs.Tags.{wrapper_name}
use Rattle.kmip_ttlv_base.specs.Values.{newtype_value}
use Rattle.kmip_ttlv_types.specs.Places.{length_at, size, tag_at}
use Rattle.kmip_ttlv_reader.specs.Reads.{decoded_leaf, form_of_type}
use Rattle.kmip_ttlv_reader.specs.Steps.{gives}
use Rattle.kmip_ttlv_reader.proofs.AnyThere.{leaf_there}
use Rattle.kmip_attribute_set.specs.Tags.{IsNamed, structure_under, value_under}
use Rattle.kmip_attribute_set.proofs.items.leaf_there.Goals as goal

pub length_at-n-requires : goal.length_at-n-requires
length_at-n-requires g c =
    let l = leaf_there c.args.bytes.now c.args.pos c.args.end c.args.typ c.requires.there.0 c.requires.there.1 in
    omega (arith, l.at.there)

pub content_at-requires : goal.content_at-requires
content_at-requires g c =
    let l = leaf_there c.args.bytes.now c.args.pos c.args.end c.args.typ c.requires.there.0 c.requires.there.1 in
    omega (arith, l.at.there, c.length_at-n.ensures)

pub leaf_of-requires-clause-valid : goal.leaf_of-requires-clause-valid
leaf_of-requires-clause-valid g c =
    let l = leaf_there c.args.bytes.now c.args.pos c.args.end c.args.typ c.requires.there.0 c.requires.there.1 in
    rw (c.content_at.ensures, c.length_at-n.ensures, ← l.at.content) l.valid

pub tag_at-requires : goal.tag_at-requires
tag_at-requires g c =
    let l = leaf_there c.args.bytes.now c.args.pos c.args.end c.args.typ c.requires.there.0 c.requires.there.1 in
    omega (arith, l.at.there)

pub overflow_add-result : goal.overflow_add-result
overflow_add-result g c =
    let l = leaf_there c.args.bytes.now c.args.pos c.args.end c.args.typ c.requires.there.0 c.requires.there.1 in
    let long : length c.args.bytes.now < 2 ^ 64 = search rules in
    let same : c.size_of.result ≡ size c.args.typ (length_at c.args.bytes.now c.args.pos) = c.size_of.ensures ∙ ap (size c.args.typ) c.length_at-n.ensures in
    omega (arith, l.at.there, long, same)

pub returns-clause-named : goal.returns-clause-named
returns-clause-named g c =
    let b = c.args.bytes.now in
    let p = c.args.pos in
    let x = c.requires.there in
    let l = leaf_there b p c.args.end c.args.typ x.0 x.1 in
    let same : c.size_of.result ≡ size c.args.typ (length_at b p) = c.size_of.ensures ∙ ap (size c.args.typ) c.length_at-n.ensures in
    let next : x.0.1 ≡ p + c.size_of.result = omega (arith, l.at.behind, same) in
    let content : c.content_at.result.now ≡ l.content =
    c.content_at.ensures ∙ ap (λ n. take n (drop (p + 8) b)) c.length_at-n.ensures ∙ sym l.at.content in
    let decoded = decoded_leaf (form_of_type c.args.typ) in
    let is : newtype_value (wrapper_name c.tag_at.result) (decoded c.content_at.result.now) ≡ x.0.0 =
    ap (λ t. newtype_value (wrapper_name t) (decoded c.content_at.result.now)) c.tag_at.ensures
    ∙ ap (λ d. newtype_value (wrapper_name (tag_at b p)) (decoded d)) content ∙ sym l.is in
    record {
      item = x.0.0;
      given = x.1 ∙ ap (λ q. gives (x.0.0, q)) next;
      named = λ w e. subst (λ v. IsNamed (value_under (structure_under w)) v c.in_ok-attribute.attribute)
          (sym (c.in_ok-value.ensures (structure_under w) c.tag_at.result) ∙ is) (c.in_ok-attribute.ensures (value_under (structure_under w)));
    }
