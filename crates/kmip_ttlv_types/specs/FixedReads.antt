-- What the readers of values of fixed length have in common.
use Rattle.std.specs.Prelude.{◌≡◌, ◌≢◌, ℕ, List, Bool, true, false, Option, Result, Ok, Err, refl}
use Rattle.std.specs.Io.KnownBytes.{Consumes, Keeps}
use Rattle.kmip_ttlv_types.specs.declared.error.Error.{Error}
use Rattle.kmip_ttlv_types.specs.declared.error.Error.TheVariants as errors
use Rattle.kmip_ttlv_types.specs.declared.typ.TtlvType.{TtlvType}
use Rattle.kmip_ttlv_types.specs.declared.typ.TtlvType.TheVariants.{Boolean}
use Rattle.kmip_ttlv_types.specs.Leaves.{is_valid}
use Rattle.kmip_ttlv_types.specs.Streams.{ConsumesUpTo, Lacks}
use Rattle.kmip_ttlv_types.specs.Primitives.{boolean_bytes}

-- these bytes are the content of a Boolean
pub boolean_bytes-valid : (b : Bool) → is_valid Boolean (boolean_bytes b) ≡ true
boolean_bytes-valid true = refl
boolean_bytes-valid false = refl

-- k bytes were read for a value of a type whose length is k; or n is another length, and nothing was
-- read; or the bytes didn't come
abbrev pub ReadsFixed :
    {A : Type 0} → TtlvType → ℕ → (can_fail : Bool)
    → (old new : Option (List ℕ)) → ℕ → Result (List ℕ) (Error A) → Type 0
ReadsFixed typ k can_fail old new n (Ok bytes) = (n ≡ k) × Consumes old new bytes
ReadsFixed typ k can_fail old new n (Err (errors.InvalidTtlvValueLength expected actual t)) =
    (t ≡ typ) × (actual ≡ n) × (expected ≡ k) × (n ≢ k) × Keeps old new
ReadsFixed typ k can_fail old new n (Err (errors.IoError e)) = (n ≡ k) × Lacks can_fail old n e × ConsumesUpTo old new n
ReadsFixed typ k can_fail old new n (Err _) = ⊥
