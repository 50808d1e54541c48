use Rattle.std.proofs.Common.{◌≡◌, ℕ, List, Result, Ok, Err, refl, arith}
use Rattle.std.specs.Prelude.{IfOk}
use Rattle.kmip_ttlv_base.specs.{declared.error.Error.Error, declared.shape.Data.Data, Values.Value, Values.view, Forms.Form, Forms.form_of}
use Rattle.kmip_ttlv_reader.specs.{ReadLaws.AreBytes, Reads.Begins, Outcomes.root_outcome, ReadResults.IsReadAs, Results.IsOutcome, Steps.Outcome}
use Rattle.kmip_ttlv_reader.proofs.{Founding.found_root, ResultLemmas.result_stands, ResultLemmas.result_whole}
use Rattle.kmip_ttlv_de.proofs.from_slice_by_shape.Goals as goal

-- what is returned stands for itself
is_read : {A : Type 0} (o : Outcome Value) (r : Result (Data A) (Error A)) → IsOutcome view o r → IsReadAs (λ v d. v ≡ view d) o r
is_read o (Ok d) h = (view d, h, refl)
is_read o (Err e) h = h

-- the bytes begin with it
is_found : {A : Type 0} (s : Form) (b : List ℕ) (r : Result (Data A) (Error A)) → AreBytes b → IsOutcome view (root_outcome s b) r
    → IfOk r (λ d. Begins s b (view d))
is_found s b (Ok d) bytes h = found_root s b (view d) bytes h
is_found s b (Err e) bytes h = tt

pub returns-clause-equals : goal.returns-clause-equals
returns-clause-equals g c = is_read (root_outcome (form_of c.args.shape.now) c.args.bytes.now) c.read_root.result c.read_root.ensures

pub returns-clause-found : goal.returns-clause-found
returns-clause-found g c = is_found (form_of c.args.shape.now) c.args.bytes.now c.read_root.result (λ i. omega (arith, c.type_inv.bytes i)) c.read_root.ensures

pub returns-clause-refused : goal.returns-clause-refused
returns-clause-refused g c = result_stands (form_of c.args.shape.now) c.args.bytes.now (λ v d. v ≡ view d) c.read_root.result
    (is_read (root_outcome (form_of c.args.shape.now) c.args.bytes.now) c.read_root.result c.read_root.ensures)

pub returns-clause-whole : goal.returns-clause-whole
returns-clause-whole g c = result_whole (form_of c.args.shape.now) c.args.bytes.now (λ v d. v ≡ view d) c.read_root.result
    (is_read (root_outcome (form_of c.args.shape.now) c.args.bytes.now) c.read_root.result c.read_root.ensures)
