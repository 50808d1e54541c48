use Rattle.kmip_ttlv_util.specs.Printers.{names_of}
use Rattle.kmip_ttlv_util.proofs.{PrettyTexts.message_pretty, Saying.written_as}
use Rattle.kmip_ttlv_util.proofs.printer.PrettyPrinter.write_text.Goals as goal

pub returns : goal.returns
returns g c =
    written_as _ _ _ _ _ c.write_printed.ensures (λ t is. (is, message_pretty (names_of c.args.self.now) c.args.self.now.closed_empty c.args.bytes.now t is))
