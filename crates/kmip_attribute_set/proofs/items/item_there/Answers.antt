use Rattle.std.proofs.Common.{◌≡◌, Some, true, false, sym, subst, ◌∙◌}
use Rattle.kmip_ttlv_types.specs.ItemTypes.{is_structure}
use Rattle.kmip_ttlv_reader.specs.Reads.{most_levels}
use Rattle.kmip_ttlv_reader.proofs.AnyItems.{is_other, is_same}
use Rattle.kmip_ttlv_reader.proofs.AnyThere.{item_there}
use Rattle.kmip_attribute_set.proofs.Naming.{if_ok_map}
use Rattle.kmip_attribute_set.proofs.items.item_there.Goals as goal

pub type_at-requires : goal.type_at-requires
type_at-requires g c = (item_there most_levels c.args.bytes.now c.args.pos c.args.end c.requires.there.0 c.requires.there.1).there

pub unreachable-requires : goal.unreachable-requires
unreachable-requires g c =
    let i = item_there most_levels c.args.bytes.now c.args.pos c.args.end c.requires.there.0 c.requires.there.1 in
    c.in_default.not-Some i.typ (c.type_at.ensures ∙ i.type_is)

pub structure_there-requires : goal.structure_there-requires
structure_there-requires g c =
    let x = c.requires.there in
    let i = item_there most_levels c.args.bytes.now c.args.pos c.args.end x.0 x.1 in
    let same : c.in-Some.typ ≡ i.typ = let e : Some c.in-Some.typ ≡ Some i.typ = sym c.in-Some.is ∙ c.type_at.ensures ∙ i.type_is in cc in
    record { there = (x.0, i.structure (subst (λ u. is_structure u ≡ true) same (is_same c.in-Some.typ c.if-eq.ensures))) }

pub leaf_there-requires-clause-there : goal.leaf_there-requires-clause-there
leaf_there-requires-clause-there g c =
    let x = c.requires.there in
    let i = item_there most_levels c.args.bytes.now c.args.pos c.args.end x.0 x.1 in
    let same : c.in-Some.typ ≡ i.typ = let e : Some c.in-Some.typ ≡ Some i.typ = sym c.in-Some.is ∙ c.type_at.ensures ∙ i.type_is in cc in
    (x.0, rw same (i.leaf (subst (λ u. is_structure u ≡ false) same (is_other c.in-Some.typ c.if-eq.ensures))))

pub returns-then-eq-clause-named : goal.returns-then-eq-clause-named
returns-then-eq-clause-named g c =
    let x = c.requires.there in
    let i = item_there most_levels c.args.bytes.now c.args.pos c.args.end x.0 x.1 in
    let same : c.in-Some.typ ≡ i.typ = let e : Some c.in-Some.typ ≡ Some i.typ = sym c.in-Some.is ∙ c.type_at.ensures ∙ i.type_is in cc in
    let node = i.structure (subst (λ u. is_structure u ≡ true) same (is_same c.in-Some.typ c.if-eq.ensures)) in
    if_ok_map c.structure_there.result (λ r h. record { item = h.item; given = x.1 ∙ sym node ∙ h.given; named = h.named }) c.structure_there.ensures.named

pub returns-else-eq-clause-named : goal.returns-else-eq-clause-named
returns-else-eq-clause-named g c =
    let x = c.requires.there in
    let i = item_there most_levels c.args.bytes.now c.args.pos c.args.end x.0 x.1 in
    let same : c.in-Some.typ ≡ i.typ = let e : Some c.in-Some.typ ≡ Some i.typ = sym c.in-Some.is ∙ c.type_at.ensures ∙ i.type_is in cc in
    let leaf = i.leaf (subst (λ u. is_structure u ≡ false) same (is_other c.in-Some.typ c.if-eq.ensures)) in
    if_ok_map c.leaf_there.result (λ r h. record { item = h.item; given = x.1 ∙ sym leaf ∙ rw (← same) h.given; named = h.named })
    c.leaf_there.ensures.named
