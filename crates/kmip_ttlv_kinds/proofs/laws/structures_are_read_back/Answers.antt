use Rattle.std.proofs.Common.{refl}
use Rattle.kmip_ttlv_reader.specs.Spots.{structure_form, structure_value}
use Rattle.kmip_ttlv_kinds.specs.Parts.{message_agrees, structure_item, within}
use Rattle.kmip_ttlv_kinds.proofs.laws.structures_are_read_back.Goals as goal

pub returns : goal.returns
returns g c = λ x n written v sound w.
    let s = g.T.Structure.rules in
    let i = structure_item g.row.TAG s in
    c.agreeing_values_come_back.ensures.read (structure_form g.row.TAG s.fields s.closed) (i.written x) (structure_value g.row.TAG (within s.values) x)
    v n written refl (message_agrees i c.requires x sound) w
