use Rattle.std.proofs.Common.{◌≡◌, List, ℕ, Result, Ok, Err, inr, subst}
use Rattle.kmip_ttlv_base.specs.{declared.error.Error.Error, Forms.Form, Values.Value}
use Rattle.kmip_ttlv_ser.specs.EncodeResults.{IsWrittenAs}
use Rattle.kmip_ttlv_reader.specs.{Outcomes.root_outcome, ReadLaws.AreBytes, ReadResults.IsReadAs, Reads.Begins, Spots.structure_form, Spots.structure_value}
use Rattle.kmip_ttlv_reader.proofs.ResultLemmas.{result_found, result_stands}
use Rattle.kmip_ttlv_kinds.specs.{Laws.IsReadFrom, Parts.within}
use Rattle.kmip_ttlv_kinds.proofs.conversion.convert.Goals as goal

read_from : {T A : Type 0} (v : Value) (bytes : List ℕ) (s : Form) (g : T → Value) (r : Result T (Error A)) → AreBytes bytes → IsWrittenAs v 0 bytes
    → IsReadAs (λ w x. w ≡ g x) (root_outcome s bytes) r
    → IsReadFrom v s g r
read_from {A = A} v bytes s g (Ok x) are written h =
    let found = result_found {A = A} s bytes (λ w y. w ≡ g y) (Ok x) are h in
    record { bytes = bytes; written = written; appends = subst (Begins s bytes) found.2 found.1 }
read_from v bytes s g (Err e) are written h =
    inr record { bytes = bytes; written = written; appends = (h, result_stands s bytes (λ w y. w ≡ g y) (Err e) h) }

pub returns : goal.returns
returns g c =
    let from = g.S.Structure.rules in
    let to = g.T.Structure.rules in
    let written = rw (← c.as_slice.ensures.value) at c.in_ok-bytes.ensures in
    read_from (structure_value c.args.tag (within from.written) c.args.structure) c.as_slice.result.now (structure_form c.args.tag to.fields to.closed)
    (structure_value c.args.tag (within to.values)) c.read_alone.result c.read_alone.ensures.are written c.read_alone.ensures.equals
