use Rattle.std.proofs.Common.{◌+◌, ◌∙◌, sym}
use Rattle.ttlv_run.proofs.Pages.{rest_is, text_behind, text_whole}
use Rattle.ttlv_run.proofs.page.text_of.Goals as goal

pub returns-in-Some : goal.returns-in-Some
returns-in-Some c =
    rest_is c.args.line.now (c.in-Some.at + 1) ∙ sym (text_behind c.args.line.now c.in-Some.at c.in-Some.ensures)

pub returns-in-None : goal.returns-in-None
returns-in-None c = sym (text_whole c.args.line.now c.in-None.ensures)
