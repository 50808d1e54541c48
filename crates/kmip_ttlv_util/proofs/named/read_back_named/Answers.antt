use Rattle.std.proofs.{lemmas.Result.IfOk-weaker, Common.refl}
use Rattle.kmip_ttlv_util.specs.TagNames.{name_in}
use Rattle.kmip_ttlv_util.proofs.{Longest.reads_longest, Trimmed.redacted_ok}
use Rattle.kmip_ttlv_util.proofs.named.read_back_named.Goals as goal

pub returns-clause-redacted : goal.returns-clause-redacted
returns-clause-redacted g c = redacted_ok (name_in c.args.names.now) c.args.prefix.now c.args.prefix.now c.args.text.now c.read_back.result refl
    c.read_back.ensures.undiag c.read_back.ensures.utf8

pub returns-clause-longest : goal.returns-clause-longest
returns-clause-longest g c = IfOk-weaker c.read_back.result _ _ (λ x is. reads_longest (name_in c.args.names.now) c.args.prefix.now c.args.text.now _ is)
    c.read_back.ensures.undiag
