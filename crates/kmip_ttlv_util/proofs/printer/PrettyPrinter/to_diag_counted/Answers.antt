use Rattle.kmip_ttlv_util.specs.{Traces.trace, Diagnostics.hostile, Printers.prefix_of}
use Rattle.std.proofs.Common.{ℕ, List, length, ap, ◌∙◌, arith}
use Rattle.std.proofs.lemmas.Result.{IfOk-weaker}
use Rattle.kmip_ttlv_util.proofs.Message.{exact}
use Rattle.kmip_ttlv_util.proofs.printer.PrettyPrinter.to_diag_counted.Goals as goal

pub returns-clause-exact : goal.returns-clause-exact
returns-clause-exact g c =
    let closed = c.args.self.now.closed_empty in
    let bytes = c.args.bytes.now in
    IfOk-weaker c.diagnose.result _ _ (λ x is. exact (prefix_of c.args.self.now) closed bytes _ (λ i. omega (arith, c.type_inv.bytes i))
    (is ∙ ap (λ (p : List ℕ). hostile p closed (length bytes) (trace closed bytes)) c.as_str.ensures.value)) c.diagnose.ensures.text
