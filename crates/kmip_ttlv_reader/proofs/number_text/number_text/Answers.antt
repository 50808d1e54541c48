use Rattle.kmip_ttlv_reader.proofs.NumberLemmas.{four_texts}
use Rattle.kmip_ttlv_reader.proofs.number_text.number_text.Goals as goal

pub returns-clause-text : goal.returns-clause-text
returns-clause-text c = rw (
  c.digit.ensures.value,
  c.digit-2.ensures.value,
  c.digit-3.ensures.value,
  c.digit-4.ensures.value,
  c.digit-5.ensures.value,
  c.digit-6.ensures.value,
  c.digit-7.ensures.value,
  c.digit-8.ensures.value,
) (four_texts c.args.content.now c.requires)
