use Rattle.std.proofs.lemmas.Result.{IfOk-weaker}
use Rattle.kmip_ttlv_util.specs.TagNames.{name_in}
use Rattle.kmip_ttlv_util.proofs.PrettyTexts.{message_pretty}
use Rattle.kmip_ttlv_util.proofs.named.text_named.Goals as goal

pub returns-clause-pretty : goal.returns-clause-pretty
returns-clause-pretty g c = IfOk-weaker c.print.result _ _ (λ x is. message_pretty (name_in c.args.names.now) c.args.closed c.args.bytes.now _ is)
    c.print.ensures
