use Rattle.std.proofs.Common.{rules, ◌≡◌, None}
use Rattle.kmip_words.specs.Rows.{number_in}
use Rattle.kmip_words.proofs.Found.{number_added}
use Rattle.kmip_words.proofs.maps.add_number.Goals as goal

pub returns-in-Ok : goal.returns-in-Ok
returns-in-Ok g c =
    let row = c.args.row in
    let none : number_in c.args.numbers.now row.0 row.2.now ≡ None = search rules in
    number_added c.args.numbers.now c.insert.new.self (row.0, row.2) row.1 c.in-Ok.ensures.updates none
