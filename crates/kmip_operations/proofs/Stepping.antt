-- A step that is taken at the time that a call is given.
use Rattle.std.proofs.Common.{ℕ, ℤ, List, Option, String, w64, to_z, of_z, subst}
use Rattle.std.proofs.lemmas.Int.{to_z-of_z}
use mir.Val.{SFits}
use Rattle.kmip_memory_store.specs.declared.object.Step.{Step}
use Rattle.kmip_operations.specs.declared.objects.Objects.{Objects}
use Rattle.kmip_operations.specs.Effects.{OneSteps}

pub took_now : {K A : Type 0} (step : Step) (now : ℤ) (asked : Option (String A)) (name : List ℕ) (old new : Objects K) → SFits w64 now
    → OneSteps step (to_z w64 (of_z w64 now)) asked name old new → OneSteps step now asked name old new
took_now step now asked name old new fits took = subst (λ z. OneSteps step z asked name old new) (to_z-of_z w64 now fits) took
