use Rattle.std.proofs.Common.{◌∙◌, ap, sym}
use Rattle.ttlv_run.specs.Pages.{indent}
use Rattle.ttlv_run.proofs.Pages.{first_indented}
use Rattle.ttlv_run.proofs.page.first_indent.Goals as goal

pub returns : goal.returns
returns c = c.indent.ensures ∙ ap indent c.cut.ensures.line ∙ sym (first_indented c.args.text.now)
