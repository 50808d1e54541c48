-- Bytes that are due and don't come.
use Rattle.std.proofs.Common.{ℕ, ◌<◌, Bool, List, Option}
use Rattle.std.specs.declared.io.Error.{Error as IoFault}
use Rattle.kmip_ttlv_types.specs.Streams.{ConsumesUpTo, Lacks}
use Rattle.kmip_ttlv_base.specs.declared.error.Error.{Error}
use Rattle.kmip_ttlv_de.specs.StreamMessages.{IsIoFault, LacksBytes, no_bytes}

-- the stream ended too early, or reading failed
pub lacks_by_fault : {A : Type 0} (can_fail : Bool) (a b : Option (List ℕ)) (n : ℕ) (fault : IoFault) (e : Error A)
    → IsIoFault fault e → (0 < n) × Lacks can_fail a n fault × ConsumesUpTo a b n → LacksBytes can_fail a b n e
lacks_by_fault can_fail a b n fault e is (due, lacks, upto) =
    record { due = due; within = upto; cause = no_bytes fault is lacks }
