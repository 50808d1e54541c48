use Rattle.std.proofs.{Common.rules, Math.Path.fun_ext}
use Rattle.kmip_ttlv_util.proofs.printer.PrettyPrinter.new.Goals as goal

pub returns-clause-names : goal.returns-clause-names
returns-clause-names g c = fun_ext (λ tag. search rules)
