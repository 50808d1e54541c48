use Rattle.std.proofs.Common.{rules}
use Rattle.std.proofs.lemmas.Str.{chars_from_encodes}
use Rattle.plain_xml.proofs.reading.characters_of.Goals as goal

pub returns : goal.returns
returns g c = search (rules, chars_from_encodes)
