use Rattle.std.proofs.Common.{arith, ◌∙◌, ap}
use Rattle.kmip_words.specs.Words.{word_of}
use Rattle.kmip_words.proofs.Back.{tag_word_is, plain_back, tag_back}
use Rattle.kmip_words.proofs.words.Words.tag_word.Goals as goal

pub returns-clause-word : goal.returns-clause-word
returns-clause-word g c = c.word_of.ensures ∙ ap (word_of 0) c.deref.ensures ∙ tag_word_is c.args.tag

pub returns-clause-plain : goal.returns-clause-plain
returns-clause-plain g c = plain_back 0 c.args.tag c.word_of.result (c.word_of.ensures ∙ ap (word_of 0) c.deref.ensures)

pub returns-clause-back : goal.returns-clause-back
returns-clause-back g c = tag_back c.args.tag (omega arith) c.word_of.result (c.word_of.ensures ∙ ap (word_of 0) c.deref.ensures)
