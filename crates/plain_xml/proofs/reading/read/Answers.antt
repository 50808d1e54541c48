use Rattle.std.proofs.Common.{◌∙◌, length, refl}
use Rattle.plain_xml.proofs.Offsets.{all_bytes}
use Rattle.plain_xml.proofs.reading.read.Goals as goal

pub conclusion-requires-clause-small : goal.conclusion-requires-clause-small
conclusion-requires-clause-small g c =
    all_bytes c.args.text.now c.as_slice-2.result.now (length c.args.text.now) c.utf8.text (c.as_slice-2.ensures.value ∙ c.in-Ok.ensures) refl
