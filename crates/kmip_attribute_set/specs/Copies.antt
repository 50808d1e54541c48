-- Copies of structures.
use Rattle.std.specs.Prelude.{◌≡◌, Option, Some, None, Result, Ok, Err}
use Rattle.std.specs.declared.alloc.AllocError.{AllocError}
use Rattle.kmip_ttlv_base.specs.declared.error.Error.{Error}
use Rattle.kmip_ttlv_base.specs.declared.error.ErrorKind.TheVariants.{OutOfMemory}
use Rattle.kmip_ttlv_base.specs.Errors.{kind_of}

-- what there is of a result, unless memory ran out
abbrev pub IsFound : {T A : Type 0} → Result T (Error A) → Result (Option T) AllocError → Type 0
IsFound (Ok x) (Ok (Some y)) = y ≡ x
IsFound (Err e) (Ok None) = kind_of e ≡ OutOfMemory → ⊥
IsFound (Err e) (Err why) = kind_of e ≡ OutOfMemory
IsFound r f = ⊥

-- what there is of such a result
pub record IsFoundAs {T A : Type 0} (Is : Result T (Error A) → Type 0) (f : Result (Option T) AllocError) : Type 0 where
  pub result : Result T (Error A)
  pub is : Is result
  pub found : IsFound result f

-- a copy of what is sound is equal to it, and there is none only if it is too long, or memory ran out
abbrev pub IsCopy : {T E : Type 0} → Type 0 → (T → Type 0) → Type 0 → Result (Option T) E → Type 0
IsCopy Sound Equal TooLong (Ok (Some y)) = Sound → Equal y
IsCopy Sound Equal TooLong (Ok None) = Sound → TooLong
IsCopy Sound Equal TooLong (Err why) = Unit {0}
