use Rattle.std.proofs.Common.{◌≡◌, ◌-◌, ℕ, List, Option, None, subst, arith}
use Rattle.ttlv_captures.specs.Attempts.{AttemptedIn}
use Rattle.ttlv_captures.specs.Captures.{NoneIn, cost_in}
use Rattle.ttlv_captures.specs.declared.attempt.Written.{Written}
use Rattle.ttlv_captures.specs.declared.notation.Notation.{Notation}
use Rattle.ttlv_captures.specs.declared.notation.Notation.TheVariants.{Raw, Hexadecimal, Numbers, Escaped}
use Rattle.ttlv_captures.proofs.Messages.{none_here}
use Rattle.ttlv_captures.proofs.attempt.attempt_here.Goals as goal

none_of : {A : Type 0} (n : Notation) (s : List ℕ) (old new : ℕ) (found : Option (Written A)) → AttemptedIn n s old new found → found ≡ None
    → NoneIn n s × (new ≡ old - cost_in n s)
none_of n s old new found h is = subst (AttemptedIn n s old new) is h

pub returns : goal.returns
returns g c =
    let s = c.args.text.now in
    let a = none_of Raw s c.args.rest.now c.attempt_in.new.rest _ c.in_ok-written.ensures c.in_default.is in
    let b = none_of Hexadecimal s c.attempt_in.new.rest c.attempt_in-2.new.rest _ c.in_ok-written-2.ensures c.in_default-2.is in
    let d = none_of Numbers s c.attempt_in-2.new.rest c.attempt_in-3.new.rest _ c.in_ok-written-3.ensures c.in_default-3.is in
    let e = none_of Escaped s c.attempt_in-3.new.rest c.attempt_in-4.new.rest _ c.in_ok-written-4.ensures c.in_default-4.is in
    (none_here s a.0 b.0 d.0 e.0, omega (arith, a.1, b.1, d.1, e.1))
