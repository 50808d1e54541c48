use Rattle.std.proofs.Common.{rules, ◌≡◌, ◌+◌, ◌-◌, ◌<◌, ◌^◌, length, ap, sym, subst, ◌∙◌, arith}
use Rattle.kmip_ttlv_types.specs.{Digits.tag_text, Places.length_at, Places.tag_at}
use Rattle.kmip_ttlv_base.specs.Values.{struct_value}
use Rattle.kmip_ttlv_reader.specs.{Outcomes.any_outcome, Reads.most_levels, Steps.gives}
use Rattle.kmip_ttlv_reader.proofs.AnyThere.{node_there}
use Rattle.kmip_ttlv_kinds.specs.Parts.{within}
use Rattle.kmip_ttlv_parts.specs.Kept.{given_values, is_given, items_outcome}
use Rattle.kmip_ttlv_parts.specs.KeptItems.{values_kept}
use Rattle.kmip_attribute_set.specs.Tags.{IsNamed, structure_under, value_under}
use Rattle.kmip_attribute_set.proofs.Levels.{items_more}
use Rattle.kmip_attribute_set.proofs.items.structure_there.Goals as goal

pub overflow_add-next : goal.overflow_add-next
overflow_add-next g c =
    let n = node_there (any_outcome (most_levels - 1)) c.args.bytes.now c.args.pos c.args.end c.requires.there.0 c.requires.there.1 in
    let long : length c.args.bytes.now < 2 ^ 64 = search rules in
    omega (arith, n.there, long)

pub length_at-requires : goal.length_at-requires
length_at-requires g c =
    (node_there (any_outcome (most_levels - 1)) c.args.bytes.now c.args.pos c.args.end c.requires.there.0 c.requires.there.1).there

pub overflow_add-next-2 : goal.overflow_add-next-2
overflow_add-next-2 g c =
    let n = node_there (any_outcome (most_levels - 1)) c.args.bytes.now c.args.pos c.args.end c.requires.there.0 c.requires.there.1 in
    let long : length c.args.bytes.now < 2 ^ 63 = search rules in
    omega (arith, n.there, long)

pub overflow_add-pos : goal.overflow_add-pos
overflow_add-pos g c =
    let n = node_there (any_outcome (most_levels - 1)) c.args.bytes.now c.args.pos c.args.end c.requires.there.0 c.requires.there.1 in
    let long : length c.args.bytes.now < 2 ^ 64 = search rules in
    omega (arith, n.there, long)

pub from_items-requires-clause-within : goal.from_items-requires-clause-within
from_items-requires-clause-within g c =
    (node_there (any_outcome (most_levels - 1)) c.args.bytes.now c.args.pos c.args.end c.requires.there.0 c.requires.there.1).there

pub from_items-requires-clause-whole : goal.from_items-requires-clause-whole
from_items-requires-clause-whole g c =
    let b = c.args.bytes.now in
    let p = c.args.pos in
    let n = node_there (any_outcome (most_levels - 1)) b p c.args.end c.requires.there.0 c.requires.there.1 in
    let are : items_outcome b (p + 8) (p + 8 + length_at b p) ≡ gives n.items = items_more (most_levels - 1) b (p + 8) (p + 8 + length_at b p) n.items n.are in
    let here : items_outcome b (p + 8) (p + 8 + c.length_at.result) ≡ gives n.items = rw c.length_at.ensures are in
    ap (λ o. is_given o) {y = gives n.items} here

pub tag_at-requires : goal.tag_at-requires
tag_at-requires g c =
    let n = node_there (any_outcome (most_levels - 1)) c.args.bytes.now c.args.pos c.args.end c.requires.there.0 c.requires.there.1 in
    omega (arith, n.there)

pub returns-clause-named : goal.returns-clause-named
unfolding within structure_under value_under
returns-clause-named g c =
    let b = c.args.bytes.now in
    let p = c.args.pos in
    let x = c.requires.there in
    let n = node_there (any_outcome (most_levels - 1)) b p c.args.end x.0 x.1 in
    let kept = c.in_ok-kept.kept in
    let are : items_outcome b (p + 8) (p + 8 + length_at b p) ≡ gives n.items = items_more (most_levels - 1) b (p + 8) (p + 8 + length_at b p) n.items n.are in
    let items : values_kept kept ≡ n.items =
    c.in_ok-kept.ensures ∙ ap (λ m. given_values (items_outcome b (p + 8) (p + 8 + m))) c.length_at.ensures ∙ ap given_values are in
    let next : x.0.1 ≡ p + 8 + c.length_at.result = omega (arith, n.next_is, c.length_at.ensures) in
    record {
      item = x.0.0;
      given = x.1 ∙ ap (λ q. gives (x.0.0, q)) next;
      named = λ w e.
          let other : w.other kept ≡ n.items = ap (λ f. f kept) e ∙ items in
          let is : struct_value (tag_text c.tag_at.result) (w.other kept) ≡ x.0.0 =
          ap (λ t. struct_value (tag_text t) (w.other kept)) c.tag_at.ensures ∙ ap (struct_value (tag_text (tag_at b p))) other ∙ sym n.value_is in
          subst (λ v. IsNamed (value_under (structure_under w)) v c.in_ok-attribute.attribute) is (c.in_ok-attribute.ensures (value_under (structure_under w)));
    }
