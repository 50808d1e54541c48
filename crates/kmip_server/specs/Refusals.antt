-- Why an item, or a whole request, is refused.
use Rattle.std.specs.Prelude.{◌≡◌, ℕ, List, Result, IsErrAnd}
use Rattle.kmip_server.specs.declared.refusal.Refusal.{Refusal}

-- the number of its Result Reason
abbrev pub reason_of : Refusal → ℕ
reason_of r = r.reason.number

-- what it says to a person
abbrev pub message_of : Refusal → List ℕ
message_of r = r.message.now

-- the Result Reasons by which a server refuses (KMIP 1.0, section 9.1.3.2.28)
abbrev pub response_too_large : ℕ
response_too_large = 2

abbrev pub authentication_not_successful : ℕ
authentication_not_successful = 3

abbrev pub invalid_message : ℕ
invalid_message = 4

abbrev pub operation_not_supported : ℕ
operation_not_supported = 5

abbrev pub feature_not_supported : ℕ
feature_not_supported = 8

abbrev pub general_failure : ℕ
general_failure = 256

-- memory ran out, which is a General Failure
abbrev pub IsOfMemory : Refusal → Type 0
IsOfMemory r = reason_of r ≡ general_failure

-- it is refused, for this reason
abbrev pub IsRefusedFor : {T : Type 0} → ℕ → Result T Refusal → Type 0
IsRefusedFor reason r = IsErrAnd r (λ refusal. reason_of refusal ≡ reason)
