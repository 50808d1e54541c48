use Rattle.std.proofs.Common.{◌≡◌, ◌≢◌, ◌∙◌, Some, sym, ap, subst, rules}
use Rattle.kmip_ttlv_types.specs.declared.typ.TtlvType.TheVariants.{Structure}
use Rattle.kmip_ttlv_json.specs.JsonTrees.{tag_of_text, leaf_of, content_of, tree_of}
use Rattle.serde_json.specs.Data.{object}
use Rattle.kmip_ttlv_json.specs.Events.{text_in, truth_in, whole_in, type_met, unplaced, AddsItem}
use Rattle.kmip_ttlv_json.specs.Spots.{IsEndPlaced}
use Rattle.kmip_ttlv_json.proofs.MembersMet.{structure_ends, leaf_ends, items_plain, placed_plain, leaf_placed, structure_placed}
use Rattle.kmip_ttlv_json.proofs.read.end_item.Goals as goal

pub end_structure-requires : goal.end_structure-requires
end_structure-requires g c = λ e.
    c.requires c.in-Some-value.value c.if-met.false c.in-Some-value.is (items_plain c.args.at c.in-Some-value.value ∙ ap unplaced e)

pub returns-then-eq-clause-adds : goal.returns-then-eq-clause-adds
returns-then-eq-clause-adds g c = λ json front top m.
    let tag_is : tag_of_text (text_in c.in-Some.tag) ≡ Some c.in-Some-2.tag =
    ap tag_of_text (sym c.text.ensures) ∙ sym c.in_ok-tag.ensures ∙ c.in-Some-2.is in
    let type_is : type_met c.args.met.typ ≡ Some c.in-Some-type_met.typ = sym c.type_met.ensures ∙ c.in-Some-type_met.is in
    let is : c.in-Some-type_met.typ ≡ Structure = search rules in
    structure_ends json c.args.met front c.args.out.now.items m c.if-met.false c.in-Some.tag c.in-Some-value.value c.in-Some.is
    c.in-Some-value.is c.in-Some-2.tag tag_is c.args.top top c.end_structure.new.out.items c.args.at c.end_structure.result
    (type_is ∙ ap (λ k. Some k) is) c.end_structure.ensures.ok c.end_structure.ensures.err

pub returns-clause-adds : goal.returns-clause-adds
returns-clause-adds g c = λ json front top m.
    let tag_is : tag_of_text (text_in c.in-Some.tag) ≡ Some c.in-Some-2.tag =
    ap tag_of_text (sym c.text.ensures) ∙ sym c.in_ok-tag.ensures ∙ c.in-Some-2.is in
    let type_is : type_met c.args.met.typ ≡ Some c.in-Some-type_met.typ = sym c.type_met.ensures ∙ c.in-Some-type_met.is in
    let ne : c.in-Some-type_met.typ ≢ Structure = search rules in
    let tree = leaf_of c.in-Some-2.tag c.in-Some-type_met.typ (content_of c.in-Some-2.tag c.in-Some-type_met.typ
    (text_in c.in-Some-value.value) (truth_in c.in-Some-value.value) (whole_in c.in-Some-value.value)) in
    let new = c.push_value.new.out.items in
    let item = c.in_ok-item.item in
    let adds : AddsItem (tree_of (object json)) front new item =
    leaf_ends json c.args.met front c.args.out.now.items m c.if-met.false c.in-Some.tag c.in-Some-value.value c.in-Some.is
    c.in-Some-value.is c.in-Some-2.tag tag_is c.args.top top new c.in-Some-type_met.typ ne type_is item
    (subst (λ s. AddsItem tree s new item) c.truncate.ensures.items c.in_ok-item.ensures) in
    subst (λ r. AddsItem (tree_of (object json)) front new r) (sym (ap unplaced c.placed.ensures ∙ placed_plain c.args.at item)) adds

pub returns-then-eq-clause-placed : goal.returns-then-eq-clause-placed
returns-then-eq-clause-placed g c = λ json front m.
    let tag_is : tag_of_text (text_in c.in-Some.tag) ≡ Some c.in-Some-2.tag =
    ap tag_of_text (sym c.text.ensures) ∙ sym c.in_ok-tag.ensures ∙ c.in-Some-2.is in
    let type_is : type_met c.args.met.typ ≡ Some c.in-Some-type_met.typ = sym c.type_met.ensures ∙ c.in-Some-type_met.is in
    let is : c.in-Some-type_met.typ ≡ Structure = search rules in
    structure_placed json c.args.met front c.args.out.now.items m c.if-met.false c.in-Some.tag c.in-Some-value.value c.in-Some.is
    c.in-Some-value.is c.in-Some-2.tag tag_is c.args.at (type_is ∙ ap (λ k. Some k) is) c.end_structure.result _
    c.end_structure.ensures.err

pub returns-clause-placed : goal.returns-clause-placed
returns-clause-placed g c = λ json front m.
    let tag_is : tag_of_text (text_in c.in-Some.tag) ≡ Some c.in-Some-2.tag =
    ap tag_of_text (sym c.text.ensures) ∙ sym c.in_ok-tag.ensures ∙ c.in-Some-2.is in
    let type_is : type_met c.args.met.typ ≡ Some c.in-Some-type_met.typ = sym c.type_met.ensures ∙ c.in-Some-type_met.is in
    let ne : c.in-Some-type_met.typ ≢ Structure = search rules in
    subst (IsEndPlaced c.args.at c.args.met.value (object json)) (sym c.placed.ensures)
    (leaf_placed json c.args.met front c.args.out.now.items m c.if-met.false c.in-Some.tag c.in-Some-value.value c.in-Some.is
    c.in-Some-value.is c.in-Some-2.tag tag_is c.args.at c.in-Some-type_met.typ ne type_is c.in_ok-item.item)
