use Rattle.std.proofs.Common.{rules, ◌≡◌, ◌∙◌, ◌+◌, ◌∷◌, ap, refl}
use Rattle.std.specs.Prelude.{reverse}
use Rattle.kmip_ttlv_util.specs.Walks.{place_of}
use Rattle.kmip_ttlv_util.proofs.Stack.{step_leaf, step_opens, step_empty, step_endless, pushed}
use Rattle.kmip_ttlv_util.proofs.walk.Walk.step.Goals.{then-eq+then-has_end+in_ok-push, then-eq+else-has_end+in-Some+in_ok-push-in-Some}
use Rattle.kmip_ttlv_util.proofs.walk.Walk.step.Goals.{then-eq+else-has_end+in-None, else-eq}
use Rattle.kmip_ttlv_util.proofs.walk.Walk.step.Goals as goal

pub returns-clause-goes : goal.returns-clause-goes
returns-clause-goes g c =
    let old = c.args.self.now in
    elim c.if-eq.branch [
      | then-eq+then-has_end+in_ok-push w ↦
          let ends-are : reverse w.push.new.self.items ≡ (c.args.next + c.args.len) ∷ reverse old.ends.items = ap reverse w.in_ok-push.ensures.items
          ∙ pushed old.ends.items (c.args.next + c.args.len) in
          rw w.self-is (step_opens c.args.closed (place_of old) c.args.typ c.args.len c.args.next (reverse w.push.new.self.items) c.requires.ready
          (search rules) c.requires.next (search rules) ends-are)
      | then-eq+else-has_end+in-Some+in_ok-push-in-Some w ↦
          rw (w.self-is, w.in_ok-push-in-Some.ensures.items) (step_empty c.args.closed (place_of old) c.args.typ c.args.len c.args.next old.ends.items
          w.in-Some.end c.requires.ready (search rules) c.requires.next (search rules) refl (search rules))
      | then-eq+else-has_end+in-None w ↦
          rw w.self-is (step_endless c.args.closed (place_of old) c.args.typ c.args.len c.args.next (old.endless + 1) old.ends.items c.requires.ready
          (search rules) c.requires.next (search rules) refl (search rules) refl)
      | else-eq w ↦ rw w.self-is (step_leaf c.args.closed (place_of old) c.args.typ c.args.len c.args.next c.requires.ready (search rules) c.requires.next)
    ]
