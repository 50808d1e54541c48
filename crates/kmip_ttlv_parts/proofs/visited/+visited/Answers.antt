use Rattle.std.proofs.Common.{rules, ◌≡◌, suc, ◌+◌, ◌<◌, ◌^◌, length, Some, true, false, ap, sym, subst, ◌∙◌, arith}
use Rattle.std.proofs.lemmas.Bool.{lt-ltb, le-ltb}
use Rattle.kmip_ttlv_types.specs.{Digits.tag_text, ItemTypes.is_structure, Places.length_at, Places.tag_at}
use Rattle.kmip_ttlv_base.specs.Values.{no_values, struct_value, value}
use Rattle.kmip_ttlv_base.specs.Visits.{Receives, visited}
use Rattle.kmip_ttlv_reader.specs.Outcomes.{any_outcome, each_outcome}
use Rattle.kmip_ttlv_reader.specs.Steps.{gives}
use Rattle.kmip_ttlv_reader.proofs.AnyItems.{With, all_front, is_other, is_same, one_more}
use Rattle.kmip_ttlv_reader.proofs.AnyThere.{behind_there, item_there, next_there, node_there, none_there}
use Rattle.kmip_ttlv_parts.proofs.Results.{if_ok_map}
use Rattle.kmip_ttlv_parts.proofs.visited.+visited.Goals as goal

pub visit_item-type_at-requires : goal.visit_item-type_at-requires
visit_item-type_at-requires g t c =
    (item_there c.args.levels c.args.bytes.now c.args.pos c.args.end c.requires.there.0 c.requires.there.1).there

pub visit_item-unreachable-requires : goal.visit_item-unreachable-requires
visit_item-unreachable-requires g t c =
    let i = item_there c.args.levels c.args.bytes.now c.args.pos c.args.end c.requires.there.0 c.requires.there.1 in
    c.in_default.not-Some i.typ (c.type_at.ensures ∙ i.type_is)

pub visit_item-overflow_sub-levels : goal.visit_item-overflow_sub-levels
visit_item-overflow_sub-levels g t c =
    let i = item_there c.args.levels c.args.bytes.now c.args.pos c.args.end c.requires.there.0 c.requires.there.1 in
    omega (arith, i.some)

pub visit_item-visit_node-requires : goal.visit_item-visit_node-requires
visit_item-visit_node-requires g t c κs within =
    let x = c.requires.there in
    let i = item_there c.args.levels c.args.bytes.now c.args.pos c.args.end x.0 x.1 in
    let same : c.in-Some.typ ≡ i.typ = let e : Some c.in-Some.typ ≡ Some i.typ = sym c.in-Some.is ∙ c.type_at.ensures ∙ i.type_is in cc in
    (omega (arith, i.some), (within, (x.0, i.structure (subst (λ u. is_structure u ≡ true) same (is_same c.in-Some.typ c.if-eq.ensures)))))

pub visit_item-visit_leaf-requires : goal.visit_item-visit_leaf-requires
visit_item-visit_leaf-requires g t c =
    let x = c.requires.there in
    let i = item_there c.args.levels c.args.bytes.now c.args.pos c.args.end x.0 x.1 in
    let same : c.in-Some.typ ≡ i.typ = let e : Some c.in-Some.typ ≡ Some i.typ = sym c.in-Some.is ∙ c.type_at.ensures ∙ i.type_is in cc in
    record { there = (x.0, rw same (i.leaf (subst (λ u. is_structure u ≡ false) same (is_other c.in-Some.typ c.if-eq.ensures)))) }

pub visit_item-returns-then-eq-clause-visited : goal.visit_item-returns-then-eq-clause-visited
visit_item-returns-then-eq-clause-visited g t c =
    let x = c.requires.there in
    let i = item_there c.args.levels c.args.bytes.now c.args.pos c.args.end x.0 x.1 in
    let same : c.in-Some.typ ≡ i.typ = let e : Some c.in-Some.typ ≡ Some i.typ = sym c.in-Some.is ∙ c.type_at.ensures ∙ i.type_is in cc in
    let node = i.structure (subst (λ u. is_structure u ≡ true) same (is_same c.in-Some.typ c.if-eq.ensures)) in
    if_ok_map c.visit_node.result (λ q h. (h.0, x.1 ∙ sym node ∙ h.1, h.2)) c.visit_node.ensures.visited

pub visit_item-returns-else-eq-clause-visited : goal.visit_item-returns-else-eq-clause-visited
visit_item-returns-else-eq-clause-visited g t c =
    let x = c.requires.there in
    let i = item_there c.args.levels c.args.bytes.now c.args.pos c.args.end x.0 x.1 in
    let same : c.in-Some.typ ≡ i.typ = let e : Some c.in-Some.typ ≡ Some i.typ = sym c.in-Some.is ∙ c.type_at.ensures ∙ i.type_is in cc in
    let leaf = i.leaf (subst (λ u. is_structure u ≡ false) same (is_other c.in-Some.typ c.if-eq.ensures)) in
    if_ok_map c.visit_leaf.result (λ q h. (h.0, x.1 ∙ sym leaf ∙ rw (← same) h.1, h.2)) c.visit_leaf.ensures.visited

pub visit_items-items-init : goal.visit_items-items-init
visit_items-items-init g t c = (suc (length c.args.bytes.now), (λ vs. vs), all_front _, (λ vs w r. r))

pub visit_items-visit_item-requires : goal.visit_items-visit_item-requires
visit_items-visit_item-requires g t c κs within =
    let i = c.items.invariant in
    let o = each_outcome (suc (length c.args.bytes.now)) (any_outcome c.args.levels) c.args.bytes.now c.args.pos c.args.end in
    let rest = each_outcome i.0 (any_outcome c.args.levels) c.args.bytes.now c.items.next c.args.end in
    let behind = behind_there o rest i.1 c.requires.there.0 i.2 c.requires.there.1 in
    let next = next_there i.0 (any_outcome c.args.levels) c.args.bytes.now c.items.next c.args.end behind.0 behind.1
    (lt-ltb c.items.next c.args.end c.items-test.true) in
    (omega arith, (within, (next.1, next.3)))

pub visit_items-items-preserved : goal.visit_items-items-preserved
visit_items-items-preserved g t c =
    let i = c.items.invariant in
    let read = any_outcome c.args.levels in
    let b = c.args.bytes.now in
    let lt = lt-ltb c.items.next c.args.end c.items-test.true in
    let o = each_outcome (suc (length b)) read b c.args.pos c.args.end in
    let behind = behind_there o (each_outcome i.0 read b c.items.next c.args.end) i.1 c.requires.there.0 i.2 c.requires.there.1 in
    let next = next_there i.0 read b c.items.next c.args.end behind.0 behind.1 lt in
    let one = c.in_ok-next.ensures.visited in
    let with : With o i.1 (each_outcome (suc next.0) read b c.items.next c.args.end) =
    subst (λ n. With o i.1 (each_outcome n read b c.items.next c.args.end)) next.2 i.2 in (
      next.0,
      (λ vs. i.1 (value one.0 vs)),
      one_more i.1 read b c.items.next c.args.end c.in_ok-next.next one.0 next.0 with lt one.1,
      (λ vs w r. i.3 (value one.0 vs) w (λ s k. r (visited g.V.Visitor.step one.0 s) (one.2 s k))),
    )

pub visit_items-returns-clause-visited : goal.visit_items-returns-clause-visited
visit_items-returns-clause-visited g t c =
    let i = c.items.invariant in
    let read = any_outcome c.args.levels in
    let b = c.args.bytes.now in
    let o = each_outcome (suc (length b)) read b c.args.pos c.args.end in
    let behind = behind_there o (each_outcome i.0 read b c.items.next c.args.end) i.1 c.requires.there.0 i.2 c.requires.there.1 in
    let none = none_there i.0 read b c.items.next c.args.end behind.0 behind.1 (le-ltb c.items.next c.args.end c.items-test.false) in
    (i.1 no_values, c.requires.there.1 ∙ ap gives (behind.2 ∙ ap i.1 none), i.3 no_values c.items.visitor (λ s k. k))

pub visit_node-tag_at-requires : goal.visit_node-tag_at-requires
visit_node-tag_at-requires g t c =
    let n = node_there (any_outcome c.args.levels) c.args.bytes.now c.args.pos c.args.end c.requires.there.0 c.requires.there.1 in
    omega (arith, n.there)

pub visit_node-overflow_add-next : goal.visit_node-overflow_add-next
visit_node-overflow_add-next g t c =
    let n = node_there (any_outcome c.args.levels) c.args.bytes.now c.args.pos c.args.end c.requires.there.0 c.requires.there.1 in
    let long : length c.args.bytes.now < 2 ^ 64 = search rules in
    omega (arith, n.there, long)

pub visit_node-length_at-requires : goal.visit_node-length_at-requires
visit_node-length_at-requires g t c =
    (node_there (any_outcome c.args.levels) c.args.bytes.now c.args.pos c.args.end c.requires.there.0 c.requires.there.1).there

pub visit_node-overflow_add-next-2 : goal.visit_node-overflow_add-next-2
visit_node-overflow_add-next-2 g t c =
    let n = node_there (any_outcome c.args.levels) c.args.bytes.now c.args.pos c.args.end c.requires.there.0 c.requires.there.1 in
    let long : length c.args.bytes.now < 2 ^ 63 = search rules in
    omega (arith, n.there, long)

pub visit_node-overflow_add-pos : goal.visit_node-overflow_add-pos
visit_node-overflow_add-pos g t c =
    let n = node_there (any_outcome c.args.levels) c.args.bytes.now c.args.pos c.args.end c.requires.there.0 c.requires.there.1 in
    let long : length c.args.bytes.now < 2 ^ 64 = search rules in
    omega (arith, n.there, long)

pub visit_node-visit_items-requires : goal.visit_node-visit_items-requires
visit_node-visit_items-requires g t c κs within =
    let n = node_there (any_outcome c.args.levels) c.args.bytes.now c.args.pos c.args.end c.requires.there.0 c.requires.there.1 in
    (omega arith, (within, (n.items, rw c.length_at.ensures n.are)))

pub visit_node-returns-clause-visited : goal.visit_node-returns-clause-visited
visit_node-returns-clause-visited g t c =
    let b = c.args.bytes.now in
    let p = c.args.pos in
    let x = c.requires.there in
    let n = node_there (any_outcome c.args.levels) b p c.args.end x.0 x.1 in
    let items = c.in_ok-visit_items.ensures.visited in
    let are : each_outcome (suc (length b)) (any_outcome c.args.levels) b (p + 8) (p + 8 + length_at b p) ≡ gives items.0 =
    rw (← c.length_at.ensures) items.1 in
    let same : items.0 ≡ n.items = let e : gives items.0 ≡ gives n.items = sym are ∙ n.are in cc in
    let tag : c.deref-tag.result.now ≡ tag_at b p = c.deref-tag.ensures ∙ c.tag_at.ensures in
    let is : struct_value (tag_text c.deref-tag.result.now) items.0 ≡ x.0.0 =
    ap (λ u. struct_value (tag_text u) items.0) tag ∙ ap (struct_value (tag_text (tag_at b p))) same ∙ sym n.value_is in
    let next : x.0.1 ≡ p + 8 + c.length_at.result = omega (arith, n.next_is, c.length_at.ensures) in (
      x.0.0,
      x.1 ∙ ap (λ q. gives (x.0.0, q)) next,
      subst (λ v. Receives g.V.Visitor.knows g.V.Visitor.step v c.args.visitor.now c.end_structure.new.visitor) is
          (λ s k. c.in_ok-end_structure.ensures.received _ (items.2 _ (c.in_ok-begin_structure.ensures.received s k))),
    )
