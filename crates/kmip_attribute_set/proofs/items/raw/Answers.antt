use Rattle.std.proofs.Common.{suc, length, ap, sym, subst, ◌∙◌}
use Rattle.std.proofs.lemmas.Bool.{lt-ltb, le-ltb}
use Rattle.kmip_ttlv_base.specs.Values.{value}
use Rattle.kmip_ttlv_reader.specs.Outcomes.{any_outcome, each_outcome}
use Rattle.kmip_ttlv_reader.specs.Reads.{most_levels}
use Rattle.kmip_ttlv_reader.proofs.AnyItems.{With, all_front, one_more}
use Rattle.kmip_ttlv_reader.proofs.AnyThere.{behind_there, next_there, none_there}
use Rattle.kmip_ttlv_parts.specs.Kept.{items_outcome, kept_values}
use Rattle.kmip_ttlv_parts.proofs.KeptLemmas.{kept_read}
use Rattle.kmip_attribute_set.specs.Tags.{AreNamed, structure_under, value_under}
use Rattle.kmip_attribute_set.proofs.Naming.{all_named, at_first, one_named}
use Rattle.kmip_attribute_set.proofs.items.raw.Goals as goal

pub items-init : goal.items-init
items-init g c = (
  suc (length c.as_bytes-bytes.result.now),
  (λ vs. vs),
  all_front _,
  λ w e. at_first (value_under (structure_under w)) c.new-list.result.items c.new-list.ensures.items,
)

pub item_there-requires : goal.item_there-requires
item_there-requires g c =
    let i = c.items.invariant in
    let b = c.as_bytes-bytes.result.now in
    let read = any_outcome most_levels in
    let o = items_outcome b 0 (length b) in
    let behind = behind_there o (each_outcome i.0 read b c.items.next (length b)) i.1 (kept_values b) i.2 (kept_read b c.as_bytes-bytes.ensures.canonical) in
    let next = next_there i.0 read b c.items.next (length b) behind.0 behind.1 (lt-ltb c.items.next (length b) c.items-test.true) in
    record { there = (next.1, next.3) }

pub items-preserved : goal.items-preserved
items-preserved g c =
    let i = c.items.invariant in
    let b = c.as_bytes-bytes.result.now in
    let read = any_outcome most_levels in
    let o = items_outcome b 0 (length b) in
    let lt = lt-ltb c.items.next (length b) c.items-test.true in
    let behind = behind_there o (each_outcome i.0 read b c.items.next (length b)) i.1 (kept_values b) i.2 (kept_read b c.as_bytes-bytes.ensures.canonical) in
    let next = next_there i.0 read b c.items.next (length b) behind.0 behind.1 lt in
    let one = c.in_ok-attribute.ensures.named in
    let with : With o i.1 (each_outcome (suc next.0) read b c.items.next (length b)) =
    subst (λ n. With o i.1 (each_outcome n read b c.items.next (length b))) next.2 i.2 in (
      next.0,
      (λ vs. i.1 (value one.item vs)),
      one_more i.1 read b c.items.next (length b) c.in_ok-attribute.behind one.item next.0 with lt one.given,
      λ w e. one_named c.push.new.self.items one.item c.in_ok-attribute.attribute (i.3 w e) (one.named w e) c.in_ok-push.ensures.items,
    )

pub returns : goal.returns
returns g c w e =
    let i = c.items.invariant in
    let b = c.as_bytes-bytes.result.now in
    let read = any_outcome most_levels in
    let o = items_outcome b 0 (length b) in
    let behind = behind_there o (each_outcome i.0 read b c.items.next (length b)) i.1 (kept_values b) i.2 (kept_read b c.as_bytes-bytes.ensures.canonical) in
    let none = none_there i.0 read b c.items.next (length b) behind.0 behind.1 (le-ltb c.items.next (length b) c.items-test.false) in
    subst (λ vs. AreNamed (value_under (structure_under w)) vs c.items.list.items)
    (sym (ap i.1 none) ∙ sym behind.2 ∙ c.as_bytes-bytes.ensures.values) (all_named (i.3 w e))
