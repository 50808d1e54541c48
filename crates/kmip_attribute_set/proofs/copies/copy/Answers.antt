use Rattle.std.proofs.Common.{◌∙◌, ap, subst, sym, Ok}
use Rattle.kmip_ttlv_ser.specs.EncodeResults.{IsWrittenAs}
use Rattle.kmip_ttlv_reader.specs.Spots.{structure_form, structure_value}
use Rattle.kmip_ttlv_kinds.specs.Parts.{within}
use Rattle.kmip_attribute_set.specs.Copies.{IsFound}
use Rattle.kmip_attribute_set.proofs.Copying.{of_read, written_of}
use Rattle.kmip_attribute_set.proofs.Reading.{read_from}
use Rattle.kmip_attribute_set.proofs.copies.copy.Goals as goal

pub returns : goal.returns
returns g c =
    let s = g.T.Structure.rules in
    let v = structure_value 0x420091 (within s.written) c.args.structure.now in
    let f = subst (IsFound c.bytes_of.ensures.result) (c.in_ok-bytes.was ∙ ap Ok c.in-Some.is) c.bytes_of.ensures.found in
    let w = subst (IsWrittenAs v 0) (sym c.as_slice.ensures.value) (written_of v c.bytes_of.ensures.result c.in-Some.bytes c.bytes_of.ensures.is f) in
    of_read c.structures_come_back.ensures c.args.structure.now c.read_alone-read.result c.found.result
    (read_from v c.as_slice.result.now (structure_form 0x420091 s.fields s.closed) (structure_value 0x420091 (within s.values)) c.read_alone-read.result
    c.read_alone-read.ensures.are w c.read_alone-read.ensures.equals)
    c.found.ensures
