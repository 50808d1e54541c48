use Rattle.kmip_ttlv_util.proofs.MapClones.{names_same}
use Rattle.kmip_ttlv_util.proofs.printer.PrettyPrinter.clone.Goals as goal

pub returns-clause-names : goal.returns-clause-names
returns-clause-names g c = names_same c.args.self.now.names c.in_ok-clone-2.field-0 c.in_ok-clone-2.ensures.cases
