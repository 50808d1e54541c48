use Rattle.std.proofs.Common.{◌∙◌, rules, lit<}
use borrow.Author.Tests.{tests}
use Rattle.std.proofs.lemmas.Iterator.{Search.position_from_yields_List, Splits.YieldsList-from_str_split, Adapters.position_from-zero}
use Rattle.kmip_ttlv_names.specs.NameTables.{lines_of}
use Rattle.ttlv_run.specs.Tables.{has_hidden}
use Rattle.ttlv_run.proofs.table.hidden_line.Goals as goal

pub returns : goal.returns
returns c =
    position_from_yields_List has_hidden _ _ c.position.result c.position.ensures.ran
    (YieldsList-from_str_split 10 _ (lit< tt) c.split.ensures.text c.split.ensures.has_more c.split.ensures.pattern) (λ x b q k. search (rules, tests))
    ∙ position_from-zero has_hidden (lines_of c.args.table.now)
