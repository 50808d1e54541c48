use Rattle.std.proofs.Common.{take}
use Rattle.ttlv_run.specs.Tags.{AreTags}
use Rattle.ttlv_run.proofs.tags.tags_asked.Given as goal

abbrev pub invariant-words : goal.invariant-words
invariant-words g l = AreTags l.table (take l.word-index l.words) l.tags.items
