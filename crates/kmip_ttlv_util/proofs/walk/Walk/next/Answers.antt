use Rattle.std.proofs.Common.{rules, arith, ◌≡◌, ◌∙◌, ℕ, ◌-◌, length, take, ap, vec_len, length-append, sym, refl, inl, inr, true, Some, ◌⊎◌, ◌≤◌}
use Rattle.std.specs.{List.slice_get, Option.option_to_list}
use Rattle.std.proofs.lemmas.Bool.{eqb-false}
use Rattle.kmip_ttlv_util.proofs.Stack.{comes_root, comes_read, comes_close}
use Rattle.kmip_ttlv_util.proofs.walk.Walk.next.Goals.{else-end-self-2-via-then-end-self-2+else-not-self, else-end-self-2-via-else-end-self-2}
use Rattle.kmip_ttlv_util.proofs.walk.Walk.next.Goals as goal

pub returns-in_default-clause-advances : goal.returns-in_default-clause-advances
returns-in_default-clause-advances g c =
    (refl, comes_root c.args.self.now.pos c.args.self.now.ends.items c.args.self.now.endless c.args.self.now.loose (search rules))

pub returns-then-end-self-clause-advances : goal.returns-then-end-self-clause-advances
returns-then-end-self-clause-advances g c =
    let size : length c.args.self.now.ends.items ≡ vec_len c.args.self.now.ends = ap length (sym c.deref.ensures.value) ∙ c.deref.ensures.len in
    let less : length c.pop.new.self.items ≡ vec_len c.pop.new.self =
    omega (arith, ap length c.pop.ensures.items, length-append c.pop.new.self.items (option_to_list c.pop.result), c.pop.ensures.len) in
    comes_close c.args.self.now.pos c.in-Some.end c.args.self.now.ends.items c.pop.new.self.items c.args.self.now.endless c.args.self.now.loose (search rules)
    c.if-end-self.true (c.pop.ensures.rest ∙ ap (λ (n : ℕ). take (n - 1) c.args.self.now.ends.items) (sym size))
    (λ h. eqb-false (vec_len c.pop.new.self) 0 (sym c.is_empty.ensures ∙ c.if-is_empty.false) (sym less ∙ h))

pub returns-clause-advances : goal.returns-clause-advances
returns-clause-advances g c =
    let is : slice_get c.args.self.now.ends.items (length c.args.self.now.ends.items - 1) ≡ Some c.in-Some.end = search rules in
    let how : (c.args.self.now.loose ≡ true) ⊎ (c.args.self.now.pos ≤ c.in-Some.end) =
    elim c.else-end-self-2.branch [
      | else-end-self-2-via-then-end-self-2+else-not-self w ↦ inl (search rules)
      | else-end-self-2-via-else-end-self-2 w ↦ inr (omega arith)
    ] in
    (refl, comes_read c.args.self.now.pos c.in-Some.end c.args.self.now.ends.items c.args.self.now.endless c.args.self.now.loose is c.if-end-self.false how)
