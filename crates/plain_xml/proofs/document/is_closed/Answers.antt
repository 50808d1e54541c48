use Rattle.plain_xml.proofs.Names.{closed_by_len}
use Rattle.plain_xml.proofs.document.is_closed.Goals as goal

pub returns : goal.returns
returns g c = let e = closed_by_len c.args.names.now c.args.elements.now in cc
