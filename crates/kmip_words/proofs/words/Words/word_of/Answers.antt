use Rattle.std.proofs.Common.{rules, ◌≡◌, ◌∙◌, Bool, if◌then◌else◌, None, Some, ap, sym}
use Rattle.kmip_words.specs.Rows.{word_in}
use Rattle.kmip_words.proofs.Back.{word_is, stands}
use Rattle.kmip_words.proofs.words.Words.word_of.Goals as goal

pub returns-then-stands_for : goal.returns-then-stands_for
returns-then-stands_for g c =
    let word = c.in-Some.word.now.now in
    let list = c.args.list in
    let number = c.args.number in
    let there : word_in c.args.self.now.words list number ≡ Some word = search rules in
    sym (word_is list number (Some word) (sym (c.args.self.now.has_words list number) ∙ there)
    ∙ stands list number word c.stands_for.result c.stands_for.ensures
    ∙ ap (λ (b : Bool). if b then Some word else None) c.if-stands_for.true)

pub returns-else-stands_for : goal.returns-else-stands_for
returns-else-stands_for g c =
    let word = c.in-Some.word.now.now in
    let list = c.args.list in
    let number = c.args.number in
    let there : word_in c.args.self.now.words list number ≡ Some word = search rules in
    sym (word_is list number (Some word) (sym (c.args.self.now.has_words list number) ∙ there)
    ∙ stands list number word c.stands_for.result c.stands_for.ensures
    ∙ ap (λ (b : Bool). if b then Some word else None) c.if-stands_for.false)

pub returns-in-None : goal.returns-in-None
returns-in-None g c =
    let list = c.args.list in
    let number = c.args.number in
    let there : word_in c.args.self.now.words list number ≡ None = search rules in
    sym (word_is list number None (sym (c.args.self.now.has_words list number) ∙ there))
