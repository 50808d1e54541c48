use Rattle.std.proofs.Common.{◌≡◌, true, rules}
use Rattle.std.proofs.lemmas.Str.{IsUtf8-from_ascii}
use Rattle.kmip_ttlv_reader.specs.Reads.{is_number_type}
use Rattle.kmip_ttlv_reader.proofs.NumberLemmas.{number_four}
use Rattle.kmip_ttlv_de.proofs.number.read_number.Goals as goal

pub number_text-digits-requires : goal.number_text-digits-requires
number_text-digits-requires g c =
    let number : is_number_type c.args.typ ≡ true = search rules in
    number_four c.args.typ c.in_ok-content.content.now number c.in_ok-content.ensures.there.0

pub from_utf8_unchecked-text-requires : goal.from_utf8_unchecked-text-requires
from_utf8_unchecked-text-requires g c = IsUtf8-from_ascii _ c.number_text-digits.ensures.ascii
