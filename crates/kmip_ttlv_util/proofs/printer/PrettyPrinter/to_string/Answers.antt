use Rattle.std.proofs.lemmas.Result.{IfOk-weaker}
use Rattle.kmip_ttlv_util.specs.Printers.{names_of}
use Rattle.kmip_ttlv_util.proofs.PrettyTexts.{message_pretty}
use Rattle.kmip_ttlv_util.proofs.printer.PrettyPrinter.to_string.Goals as goal

pub returns-clause-pretty : goal.returns-clause-pretty
returns-clause-pretty g c =
    IfOk-weaker c.print.result _ _ (λ x is. message_pretty (names_of c.args.self.now) c.args.self.now.closed_empty c.args.bytes.now _ is) c.print.ensures
