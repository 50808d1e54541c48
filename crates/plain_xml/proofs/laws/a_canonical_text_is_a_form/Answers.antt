use Rattle.plain_xml.proofs.WriteForms.{form_read}
use Rattle.plain_xml.proofs.laws.a_canonical_text_is_a_form.Goals as goal

pub returns : goal.returns
returns c root writable = form_read root writable
