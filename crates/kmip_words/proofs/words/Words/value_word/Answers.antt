use Rattle.std.proofs.Common.{◌∙◌, ap, ℕ}
use Rattle.kmip_words.specs.Words.{word_of}
use Rattle.kmip_words.proofs.Back.{plain_back, stands_back}
use Rattle.kmip_words.proofs.words.Words.value_word.Goals as goal

pub returns-clause-plain : goal.returns-clause-plain
returns-clause-plain g c =
    plain_back c.args.tag c.args.value c.word_of.result (c.word_of.ensures ∙ ap (λ (list : ℕ). word_of list c.args.value) c.deref.ensures)

pub returns-clause-back : goal.returns-clause-back
returns-clause-back g c =
    stands_back c.args.tag c.args.value c.word_of.result (c.word_of.ensures ∙ ap (λ (list : ℕ). word_of list c.args.value) c.deref.ensures)
