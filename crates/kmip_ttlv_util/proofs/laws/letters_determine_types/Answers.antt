use Rattle.std.proofs.Common.{ap, ◌∙◌}
use Rattle.kmip_ttlv_util.specs.Letters.{type_of_letter}
use Rattle.kmip_ttlv_util.proofs.Letters.{letter_type, letter_back}
use Rattle.kmip_ttlv_util.proofs.laws.letters_determine_types.Goals as goal

pub returns : goal.returns
returns g = λ c t. (letter_type c t, λ is. ap type_of_letter is ∙ letter_back t)
