use Rattle.kmip_ttlv_parts.proofs.TreeTexts.{padding_of_trees_is_free, texts_differ_in_padding}
use Rattle.kmip_ttlv_parts.proofs.laws.padding_of_trees_is_free.Goals as goal

pub returns-clause-items : goal.returns-clause-items
returns-clause-items c = texts_differ_in_padding

pub returns-clause-values : goal.returns-clause-values
returns-clause-values c = padding_of_trees_is_free
