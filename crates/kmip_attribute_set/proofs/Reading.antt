-- What a type reads of the bytes of a value.
use Rattle.std.proofs.Common.{◌≡◌, List, ℕ, Result, Ok, Err, inr, subst}
use Rattle.kmip_ttlv_base.specs.{declared.error.Error.Error, Forms.Form, Values.Value}
use Rattle.kmip_ttlv_ser.specs.EncodeResults.{IsWrittenAs}
use Rattle.kmip_ttlv_reader.specs.{Outcomes.root_outcome, ReadLaws.AreBytes, ReadResults.IsReadAs, Reads.Begins}
use Rattle.kmip_ttlv_reader.proofs.ResultLemmas.{result_found, result_stands}
use Rattle.kmip_ttlv_kinds.specs.{Laws.IsReadFrom}

pub read_from : {T A : Type 0} (v : Value) (bytes : List ℕ) (s : Form) (g : T → Value) (r : Result T (Error A)) → AreBytes bytes → IsWrittenAs v 0 bytes
    → IsReadAs (λ w x. w ≡ g x) (root_outcome s bytes) r
    → IsReadFrom v s g r
read_from {A = A} v bytes s g (Ok x) are written h =
    let found = result_found {A = A} s bytes (λ w y. w ≡ g y) (Ok x) are h in
    record { bytes = bytes; written = written; appends = subst (Begins s bytes) found.2 found.1 }
read_from v bytes s g (Err e) are written h =
    inr record { bytes = bytes; written = written; appends = (h, result_stands s bytes (λ w y. w ≡ g y) (Err e) h) }
