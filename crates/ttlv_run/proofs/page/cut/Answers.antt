use Rattle.std.proofs.Common.{rules, ◌+◌, sym}
use Rattle.ttlv_run.proofs.Pages.{found, absent, all_first, none_other, rest_is}
use Rattle.ttlv_run.proofs.page.cut.Goals as goal

pub returns-in-Some-clause-line : goal.returns-in-Some-clause-line
returns-in-Some-clause-line c = let at = found c.args.text.now c.in-Some.at c.in-Some.ensures in rw at (search rules)

pub returns-in-Some-clause-others : goal.returns-in-Some-clause-others
returns-in-Some-clause-others c =
    let at = found c.args.text.now c.in-Some.at c.in-Some.ensures in rw at (rest_is c.args.text.now (c.in-Some.at + 1))

pub returns-in-None-clause-line : goal.returns-in-None-clause-line
returns-in-None-clause-line c = sym (all_first c.args.text.now (absent c.args.text.now c.in-None.ensures))

pub returns-in-None-clause-others : goal.returns-in-None-clause-others
returns-in-None-clause-others c = sym (none_other c.args.text.now (absent c.args.text.now c.in-None.ensures))
