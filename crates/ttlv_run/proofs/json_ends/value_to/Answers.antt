use Rattle.std.proofs.Common.{◌∙◌, sym}
use Rattle.ttlv_run.proofs.JsonParts.{value_closed, value_in_line}
use Rattle.ttlv_run.proofs.json_ends.value_to.Goals as goal

pub returns-then-closes : goal.returns-then-closes
returns-then-closes c =
    value_closed c.args.text.now c.args.at c.args.part c.requires.at c.requires.seen c.requires.ends (sym c.closes.ensures ∙ c.if-closes.true)

pub returns : goal.returns
returns c = value_in_line c.args.text.now c.args.at c.args.part c.requires.at c.requires.seen c.requires.ends (sym c.closes.ensures ∙ c.if-closes.false)
