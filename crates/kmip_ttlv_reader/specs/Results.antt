-- What the code returns, against an outcome.
use Rattle.std.specs.Prelude.{◌≡◌, ℕ, ◌⊎◌, List, Some, Result, Ok, Err, reverse}
use Rattle.kmip_ttlv_base.specs.declared.error.Error.{Error}
use Rattle.kmip_ttlv_base.specs.Errors.{Kind, malformed, mismatch, view_of_serde, IsMemory}
use Rattle.kmip_ttlv_reader.specs.declared.failure.Cause.{Cause}
use Rattle.kmip_ttlv_reader.specs.declared.failure.Cause.TheVariants as causes
use Rattle.kmip_ttlv_reader.specs.declared.failure.FaultAt.{FaultAt}
use Rattle.kmip_ttlv_reader.specs.declared.failure.Failure.{Failure}
use Rattle.kmip_ttlv_reader.specs.declared.failure.Failure.TheVariants as failures
use Rattle.kmip_ttlv_reader.specs.TagValues.{TagValue}
use Rattle.kmip_ttlv_reader.specs.Steps.{Outcome, gives, ends_early, fails, Fault, Read, reads}
use Rattle.kmip_ttlv_reader.specs.ReadResults.{IsError, seen}

-- the kind that a cause is
abbrev pub kind_by : {A : Type 0} → Cause A → Kind
kind_by (causes.Malformed fault) = malformed fault
kind_by (causes.Mismatch fault) = mismatch (view_of_serde fault)

-- why, and where: the structures around are gathered innermost first
abbrev pub fault_by : {A : Type 0} → FaultAt A → Fault
fault_by f = record {
  why = kind_by f.cause;
  place = record { offset = Some f.offset; parents = reverse f.around.items; tag = f.tag; typ = f.typ };
}

-- the failure is that outcome, or memory ran out
abbrev pub IsFailure : {V A : Type 0} → Outcome V → Failure A → Type 0
IsFailure o failures.OutOfMemory = Unit {0}
IsFailure o failures.EarlyEnd = o ≡ ends_early
IsFailure o (failures.Fault f) = o ≡ fails (fault_by f.value)

-- the failure is that fault, or memory ran out
abbrev pub IsFailureOf : {A : Type 0} → Fault → Failure A → Type 0
IsFailureOf x failures.OutOfMemory = Unit {0}
IsFailureOf x failures.EarlyEnd = ⊥
IsFailureOf x (failures.Fault f) = fault_by f.value ≡ x

-- the result is that outcome, or memory ran out
abbrev pub IsStep : {X V A : Type 0} → (X → V) → Outcome V → Result X (Failure A) → Type 0
IsStep view o (Ok x) = o ≡ gives (view x)
IsStep view o (Err r) = IsFailure o r

-- the same for a value and the offset after it; k are the texts stored by then
abbrev pub IsRead : {X V A : Type 0} → (X → V) → List TagValue → Outcome (Read V) → Result (X × ℕ) (Failure A) → Type 0
IsRead view k o (Ok r) = o ≡ reads (view r.0) k r.1
IsRead view k o (Err r) = IsFailure o r

-- the result is that outcome as a caller sees it, or memory ran out
abbrev pub IsOutcome : {X V A : Type 0} → (X → V) → Outcome V → Result X (Error A) → Type 0
IsOutcome view o (Ok x) = o ≡ gives (view x)
IsOutcome view o (Err e) = IsMemory e ⊎ IsError o (seen e)

-- it is some value, or memory ran out
abbrev pub IsPassed : {X V A : Type 0} → Outcome V → Result X (Failure A) → Type 0
IsPassed {V = V} o (Ok x) = (v : V) × (o ≡ gives v)
IsPassed o (Err r) = IsFailure o r

-- the same with the place after it
abbrev pub IsPassedTo : {V A : Type 0} → Outcome (V × ℕ) → Result ℕ (Failure A) → Type 0
IsPassedTo {V = V} o (Ok q) = (v : V) × (o ≡ gives (v, q))
IsPassedTo o (Err r) = IsFailure o r
