use Rattle.std.proofs.Common.{ℕ, List, ap, ◌∙◌}
use Rattle.kmip_ttlv_util.specs.{Undiag.undiag, Printers.prefix_of, Printers.names_of}
use Rattle.std.proofs.lemmas.Result.{IfOk-weaker}
use Rattle.kmip_ttlv_util.proofs.{Longest.reads_longest, Trimmed.redacted_ok}
use Rattle.kmip_ttlv_util.proofs.printer.PrettyPrinter.from_diag_string.Goals as goal

pub returns-clause-redacted : goal.returns-clause-redacted
returns-clause-redacted g c = redacted_ok (names_of c.args.self.now) (prefix_of c.args.self.now) c.as_str.result.now c.args.text.now c.read_back.result
    c.as_str.ensures.value c.read_back.ensures.undiag c.read_back.ensures.utf8

pub returns-clause-longest : goal.returns-clause-longest
returns-clause-longest g c = IfOk-weaker c.read_back.result _ _ (λ x is. reads_longest (names_of c.args.self.now) _ c.args.text.now _
    (is ∙ ap (λ (p : List ℕ). undiag (names_of c.args.self.now) p c.args.text.now) c.as_str.ensures.value)) c.read_back.ensures.undiag
