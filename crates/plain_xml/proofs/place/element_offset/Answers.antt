use Rattle.std.proofs.Common.{◌∙◌, length, refl}
use Rattle.plain_xml.proofs.Offsets.{all_bytes}
use Rattle.plain_xml.proofs.place.element_offset.Goals as goal

pub offset_in-requires : goal.offset_in-requires
offset_in-requires g c = record {
  small = all_bytes c.args.text.now c.as_slice.result.now (length c.args.text.now) c.utf8.text (c.as_slice.ensures.value ∙ c.in_ok-characters.ensures) refl;
}
