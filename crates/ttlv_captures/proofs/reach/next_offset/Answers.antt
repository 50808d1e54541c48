use Rattle.std.proofs.Common.{◌≡◌, ◌-◌, ◌≤◌, ◌⊎◌, ℕ, List, length, drop, Option, Some, None, inl, inr, refl, subst, arith, rules}
use Rattle.std.proofs.lemmas.List.{length-drop}
use Rattle.ttlv_captures.specs.Captures.{cost, NoneHere}
use Rattle.ttlv_captures.specs.Attempts.{AttemptedHere, IsWritten}
use Rattle.ttlv_captures.specs.declared.attempt.Written.{Written}
use Rattle.ttlv_captures.proofs.Costs.{costs_between, costs_behind, none_more}
use Rattle.ttlv_captures.proofs.reach.next_offset.Goals.{then-offsets-test+else-left-gt0, else-offsets-test}
use Rattle.ttlv_captures.proofs.reach.next_offset.Goals as goal

here_none : {A : Type 0} (s t : List ℕ) (old new : ℕ) (found : Option (Written A)) → AttemptedHere s old new found → found ≡ None → s ≡ t
    → NoneHere t × (new ≡ old - cost t)
here_none s t old new found h is same = subst (λ (d : List ℕ). NoneHere d × (new ≡ old - cost d)) same (subst (AttemptedHere s old new) is h)

here_some : {A : Type 0} (s t : List ℕ) (old new : ℕ) (found : Option (Written A)) (w : Written A) → AttemptedHere s old new found → found ≡ Some w → s ≡ t
    → IsWritten t w × (new ≤ old) × (old - cost t ≤ new)
here_some s t old new found w h is same =
    subst (λ (d : List ℕ). IsWritten d w × (new ≤ old) × (old - cost d ≤ new)) same (subst (AttemptedHere s old new) is h)

pub offsets-preserved : goal.offsets-preserved
offsets-preserved g c =
    let s = c.args.text.now in
    let l = c.offsets in
    let here = here_none c.behind.result.now (drop l.offset s) l.left c.attempt_here.new.rest _ c.in_ok-found.ensures c.in_default.is c.behind.ensures.is in
    let more = costs_between s c.args.from l.offset l.invariant.onward in
    record {
      onward = omega (arith, l.invariant.onward);
      within = search rules;
      none = none_more s c.args.from l.offset l.invariant.none here.0;
      spent = omega (arith, here.1, more, l.invariant.spent);
    }

pub returns-in-Some : goal.returns-in-Some
returns-in-Some g c =
    let s = c.args.text.now in
    let l = c.offsets in
    let w = c.in-Some.written in
    let here = here_some c.behind.result.now (drop l.offset s) l.left c.attempt_here.new.rest _ w c.in_ok-found.ensures c.in-Some.is c.behind.ensures.is in
    let far = costs_behind s c.args.from l.offset w.taken l.invariant.onward here.0.some in
    record {
      onward = l.invariant.onward;
      further = omega arith;
      within = omega (arith, here.0.within, length-drop l.offset s, l.invariant.within);
      none = l.invariant.none;
      spends = omega (arith, here.1, l.invariant.spent);
      spent = omega (arith, here.2, far, l.invariant.spent);
      ends = (here.0, refl);
    }

pub returns : goal.returns
returns g c =
    let s = c.args.text.now in
    let l = c.offsets in
    let why : (l.offset ≡ length s) ⊎ (l.left ≡ 0) =
    elim c.offsets-test.branch [
      | then-offsets-test+else-left-gt0 w ↦ let none : l.left ≡ 0 = omega (arith, w.if-left-gt0.false) in inr none
      | else-offsets-test w ↦ let end : l.offset ≡ length s = omega (arith, w.offsets-test.false, l.invariant.within) in inl end
    ] in
    record {
      onward = l.invariant.onward;
      further = omega arith;
      within = l.invariant.within;
      none = l.invariant.none;
      spends = omega (arith, l.invariant.spent);
      spent = omega (arith, l.invariant.spent);
      ends = (why, refl);
    }
