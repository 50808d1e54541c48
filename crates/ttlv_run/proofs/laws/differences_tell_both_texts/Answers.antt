use Rattle.ttlv_run.proofs.PrintedLines.{first_read, second_read}
use Rattle.ttlv_run.proofs.laws.differences_tell_both_texts.Goals as goal

pub returns-clause-first : goal.returns-clause-first
returns-clause-first c = λ first second text a b m. first_read a b m

pub returns-clause-second : goal.returns-clause-second
returns-clause-second c = λ first second text a b m. second_read a b m
