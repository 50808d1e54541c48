use Rattle.std.proofs.Common.{rules}
use Rattle.kmip_ttlv_base.proofs.TagNames.{tag_of_number}
use Rattle.kmip_ttlv_reader.proofs.cursor.tag_is.Goals as goal
use Rattle.kmip_ttlv_reader.specs.Outcomes.{tag_wanted}

pub returns-then-ne : goal.returns-then-ne
unfolding tag_wanted
returns-then-ne g c =
    let is = tag_of_number c.args.tag in
    search (rules, is)

pub returns : goal.returns
unfolding tag_wanted
returns g c =
    let is = tag_of_number c.args.tag in
    search (rules, is)
