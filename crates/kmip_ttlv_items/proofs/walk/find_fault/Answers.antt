use Rattle.std.proofs.Common.{◌∙◌, ◌++◌, ◌∷◌, [], List, ℕ, subst}
use Rattle.kmip_ttlv_items.specs.{declared.found.Step.TheVariants.End, ItemWalks.Ended, Stepping.Steps, Stepping.StepsTo}
use Rattle.kmip_ttlv_items.proofs.walk.find_fault.Goals as goal

pub returns-in-End : goal.returns-in-End
returns-in-End g c =
    let found = c.walk.invariant.met.0 in
    let passed = c.pass_leaves.ensures.met found c.walk.invariant.met.1 in
    let all = found ++ passed.0 in
    let steps : Steps c.pass_leaves.new.self c.next.new.self (End c.in-End.fault) =
    subst (Steps c.pass_leaves.new.self c.next.new.self) c.in-End.is c.in_ok-fault.ensures.ok in
    record {
      found = all;
      ended = subst (λ (bytes : List ℕ). Ended bytes all c.in-End.fault) (c.pass_leaves.ensures.bytes ∙ c.walk.invariant.bytes)
          (steps.1 all passed.1);
    }

pub walk-preserved : goal.walk-preserved
walk-preserved g c =
    let found = c.walk.invariant.met.0 in
    let passed = c.pass_leaves.ensures.met found c.walk.invariant.met.1 in
    let i = c.in_default.field-0 in
    let comes : StepsTo c.pass_leaves.new.self c.next.new.self i =
    subst (Steps c.pass_leaves.new.self c.next.new.self) c.in_default.is c.in_ok-fault.ensures.ok in
    record {
      bytes = c.next.ensures.bytes ∙ c.pass_leaves.ensures.bytes ∙ c.walk.invariant.bytes;
      met = (found ++ passed.0 ++ (i ∷ []), comes.met (found ++ passed.0) passed.1);
    }
