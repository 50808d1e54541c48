use Rattle.kmip_ttlv_reader.specs.Spots.{structure_form, structure_value}
use Rattle.kmip_ttlv_kinds.specs.Parts.{within}
use Rattle.kmip_attribute_set.proofs.Reading.{read_from}
use Rattle.kmip_attribute_set.proofs.copies.read_again.Goals as goal

pub returns : goal.returns
returns g c =
    let to = g.T.Structure.rules in
    let written = rw (← c.as_slice.ensures.value) at c.in_ok-bytes.ensures in
    read_from (g.Q.Serialize.stated c.args.value.now) c.as_slice.result.now (structure_form c.args.tag to.fields to.closed)
    (structure_value c.args.tag (within to.values)) c.read_alone.result c.read_alone.ensures.are written c.read_alone.ensures.equals
