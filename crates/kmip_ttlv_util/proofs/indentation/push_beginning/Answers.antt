use Rattle.kmip_ttlv_util.specs.TagNames.{name_in, named}
use Rattle.kmip_ttlv_util.proofs.Firm.{same_beginning}
use Rattle.kmip_ttlv_util.proofs.indentation.push_beginning.Goals as goal

pub returns : goal.returns
returns g c =
    let text = same_beginning (named c.name_of.result) (name_in c.args.names.now) c.args.indentation c.args.depth c.args.tag c.name_of.ensures.name in
    record { ok = rw (← text) c.push_named_beginning.ensures.ok; err = rw (← text) c.push_named_beginning.ensures.err }
