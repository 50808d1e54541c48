-- A failure stays one, whatever would have followed, and a fault is a failure.
use Rattle.std.proofs.Common.{◌≡◌, ap, sym, ◌∙◌}
use Rattle.kmip_ttlv_reader.specs.{declared.failure.Failure.Failure, Results.IsFailure, Results.IsFailureOf}
use Rattle.kmip_ttlv_reader.specs.Steps.{Fault, Outcome, fails, ◌>>=◌}
use Rattle.kmip_ttlv_reader.specs.declared.failure.Failure.TheVariants as failures

pub failure_then : {A B C : Type 0} (o : Outcome A) (f : A → Outcome B) (r : Failure C) → IsFailure o r → IsFailure (o >>= f) r
failure_then o f failures.OutOfMemory h = tt
failure_then o f failures.EarlyEnd h = ap (λ x. x >>= f) h
failure_then o f (failures.Fault t) h = ap (λ x. x >>= f) h

pub fault_is : {V A : Type 0} (o : Outcome V) (x : Fault) (r : Failure A) → IsFailureOf x r → o ≡ fails x → IsFailure o r
fault_is o x failures.OutOfMemory h is = tt
fault_is o x failures.EarlyEnd h is = absurd h
fault_is o x (failures.Fault f) h is = is ∙ ap fails (sym h)

-- for a step that has faults of its own
pub ruleset failing = (failure_then, fault_is)
