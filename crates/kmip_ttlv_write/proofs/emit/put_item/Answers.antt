use Rattle.std.proofs.Common.{rules, ◌≡◌, ◌≢◌, ℕ, sym, ◌∙◌, subst}
use Rattle.kmip_ttlv_types.specs.declared.typ.TtlvType.TheVariants.{Structure}
use Rattle.kmip_ttlv_write.specs.OpenStructures.{CanTake}
use Rattle.kmip_ttlv_write.proofs.{Emitting.can_take, Completing.taken_leaf, Fitting.same_type}
use Rattle.kmip_ttlv_write.proofs.emit.put_item.Goals as goal

pub begin-requires : goal.begin-requires
begin-requires c =
    let one : c.requires.typ ≡ c.in-Some.typ = same_type c.args.item.typ c.requires.typ c.in-Some.typ c.requires.typed (sym c.type_of.ensures ∙ c.in-Some.is) in
    let is : c.in-Some.typ ≡ Structure = search rules in
    can_take c.requires (one ∙ is) c.leave-inner.ensures.len (c.leave-inner.ensures.holds c.requires.opened c.requires.holds)

pub put_value-requires-clause-room : goal.put_value-requires-clause-room
put_value-requires-clause-room c =
    let one : c.requires.typ ≡ c.in-Some.typ = same_type c.args.item.typ c.requires.typ c.in-Some.typ c.requires.typed (sym c.type_of.ensures ∙ c.in-Some.is) in
    let ne : c.in-Some.typ ≢ Structure = search rules in
    subst (λ (n : ℕ). CanTake n c.leave-inner.new.out c.leave-inner.result) (taken_leaf c.in-Some.typ c.args.item.length ne)
    (can_take c.requires one c.leave-inner.ensures.len (c.leave-inner.ensures.holds c.requires.opened c.requires.holds))
