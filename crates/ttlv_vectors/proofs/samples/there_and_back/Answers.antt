use Rattle.std.proofs.Common.{◌≡◌, ◌∙◌, ℕ, ℤ, List, ap, subst, sym, FitsSigned, refl}
use Rattle.std.specs.Int.{w32}
use Rattle.kmip_ttlv.specs.Reads.{Begins}
use Rattle.ttlv_vectors.specs.Samples.{single_form, read_single, written_single}
use Rattle.ttlv_vectors.specs.declared.samples.Single.{Single}
use Rattle.ttlv_vectors.proofs.SingleBack.{single_agrees}
use Rattle.ttlv_vectors.proofs.samples.there_and_back.Goals as goal

same_number : (m n : ℤ) → read_single m ≡ read_single n → m ≡ n
same_number m n e = cc

pub returns : goal.returns
returns g c =
    let n = c.args.message.number in
    let found = c.in_ok-back.ensures.found in
    let begins = subst (λ (b : List ℕ). Begins single_form b found.0) c.as_slice.ensures.value found.1 in
    let fits : FitsSigned w32 n = record { sfits = c.well_formed.1.0.1.1.0.1 } in
    let law = c.agreeing_values_come_back.ensures.read single_form (written_single n) (read_single n) found.0 0 c.in_ok-bytes.bytes.items refl
    (single_agrees n fits) c.in_ok-bytes.ensures in
    let same = same_number c.in_ok-back.back.number n (sym found.2 ∙ law.0 begins) in
    ap (λ (k : ℤ). let s : Single = record { number = k } in s) same
