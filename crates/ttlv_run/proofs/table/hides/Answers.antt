use Rattle.std.proofs.Common.{rules}
use borrow.Author.Tests.{tests}
use Rattle.std.proofs.lemmas.{Iterator.Search.any_from_yields_List, Iterator.YieldsList-from_chars}
use Rattle.ttlv_run.specs.Escapes.{is_hidden}
use Rattle.ttlv_run.proofs.table.hides.Goals as goal

pub returns : goal.returns
returns c = any_from_yields_List is_hidden _ _ _ c.any.ensures.ran (YieldsList-from_chars c.args.text.now c.utf8.text cc) (λ x b q k. search (rules, tests))
