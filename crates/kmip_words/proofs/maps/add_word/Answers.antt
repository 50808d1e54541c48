use Rattle.std.proofs.Common.{rules, ◌≡◌, None}
use Rattle.kmip_words.specs.Rows.{word_in}
use Rattle.kmip_words.proofs.Found.{word_added}
use Rattle.kmip_words.proofs.maps.add_word.Goals as goal

pub returns-in-Ok : goal.returns-in-Ok
returns-in-Ok g c =
    let row = c.args.row in
    let none : word_in c.args.words.now row.0 row.1 ≡ None = search rules in
    word_added c.args.words.now c.insert.new.self (row.0, row.1) row.2 c.in-Ok.ensures.updates none
