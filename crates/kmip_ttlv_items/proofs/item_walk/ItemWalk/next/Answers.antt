use Rattle.std.proofs.Common.{rules, ◌≡◌, sym, subst}
use Rattle.kmip_ttlv_items.specs.{Enclosing.open_ends, ItemWalks.CanStand, WalkPlaces.Due}
use Rattle.kmip_ttlv_items.proofs.Walks.{stands_on, stands_still, met_more, due_whole, due_onward, due_small}
use Rattle.kmip_ttlv_items.proofs.item_walk.ItemWalk.next.Goals.{in-Item+in_ok-self, in_default}
use Rattle.kmip_ttlv_items.proofs.item_walk.ItemWalk.next.Goals as goal

pub invariant_of-self : goal.invariant_of-self
invariant_of-self g c =
    let same : open_ends c.enter.new.ends ≡ open_ends c.due-step.new.ends = search rules in
    let stands = stands_still c.due-step.ensures.stays c.args.self.now.stands in
    record { stands = subst (CanStand c.args.self.now.bytes.now c.args.self.now.offset) (sym same) stands }

pub invariant_of-self-in-Item : goal.invariant_of-self-in-Item
invariant_of-self-in-Item g c =
    let due = subst (Due c.args.self.now.bytes.now c.args.self.now.offset (open_ends c.due-step.new.ends)) c.in-Item.is c.due-step.ensures.due in
    record { stands = stands_on due c.in_ok-self.ensures.ok (stands_still c.due-step.ensures.stays c.args.self.now.stands) }

pub invariant_of-self-in_default : goal.invariant_of-self-in_default
invariant_of-self-in_default g c = record { stands = stands_still c.due-step.ensures.stays c.args.self.now.stands }

pub enter-requires : goal.enter-requires
enter-requires g c =
    due_small (subst (Due c.args.self.now.bytes.now c.args.self.now.offset (open_ends c.due-step.new.ends)) c.in-Item.is c.due-step.ensures.due)

pub returns-clause-ok : goal.returns-clause-ok
returns-clause-ok g c = elim c.match-step.branch [
  | in-Item+in_ok-self w ↦
      let due = subst (Due c.args.self.now.bytes.now c.args.self.now.offset (open_ends c.due-step.new.ends)) w.in-Item.is c.due-step.ensures.due in
      rw (w.self-is, w.in-Item.is) record {
        met = λ xs m. met_more due w.in_ok-self.ensures.ok (c.due-step.ensures.stays xs m);
        whole = due_whole due;
        onward = due_onward due w.in_ok-self.ensures.ok;
      }
  | in_default w ↦
      let P = Due c.args.self.now.bytes.now c.args.self.now.offset (open_ends c.due-step.new.ends) in
      let ends = subst P w.in_default.is c.due-step.ensures.due in
      rw (w.self-is, w.in_default.is) (c.due-step.ensures.stays, λ xs m. ends xs (c.due-step.ensures.stays xs m))
]
