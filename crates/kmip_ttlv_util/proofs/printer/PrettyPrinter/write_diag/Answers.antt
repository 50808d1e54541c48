use Rattle.std.proofs.Common.{ℕ, List, length, ap, ◌∙◌, arith}
use Rattle.kmip_ttlv_util.specs.{Diagnostics.hostile, Traces.trace, Printers.prefix_of}
use Rattle.kmip_ttlv_util.proofs.{Message.exact, Saying.written_as}
use Rattle.kmip_ttlv_util.proofs.printer.PrettyPrinter.write_diag.Goals as goal

pub returns : goal.returns
returns g c =
    let closed = c.args.self.now.closed_empty in
    let bytes = c.args.bytes.now in
    written_as _ _ _ _ _ c.write_diagnostic.ensures (λ t e.
    let is = e ∙ ap (λ (p : List ℕ). hostile p closed (length bytes) (trace closed bytes)) c.as_str.ensures.value in
    (is, exact (prefix_of c.args.self.now) closed bytes t (λ i. omega (arith, c.type_inv.bytes i)) is))
