use Rattle.std.proofs.Common.{refl}
use Rattle.kmip_ttlv_reader.specs.Spots.{structure_form, structure_value}
use Rattle.kmip_ttlv_parts.proofs.Equal.{agreeing_rereads}
use Rattle.kmip_ttlv_kinds.specs.Parts.{message_agrees, structure_item, within}
use Rattle.kmip_ttlv_kinds.proofs.laws.structures_come_back.Goals as goal

pub returns : goal.returns
returns g c =
    let s = g.T.Structure.rules in
    let i = structure_item g.row.TAG s in
    agreeing_rereads i.written (structure_value g.row.TAG (within s.values)) (structure_form g.row.TAG s.fields s.closed) i.eq i.IsSound refl
    (message_agrees i c.requires) i.same
