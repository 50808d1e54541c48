use Rattle.std.proofs.Common.{rules, ◌≡◌, ◌∙◌}
use Rattle.kmip_words.specs.{Rows.number_in, Words.number_of}
use Rattle.kmip_words.proofs.words.Words.number_of.Goals as goal

pub returns : goal.returns
unfolding number_of
returns g c =
    let found : c.copied.result ≡ number_in c.args.self.now.numbers c.args.list c.args.word.now = search rules in
    found ∙ c.args.self.now.has_numbers c.args.list c.args.word.now
