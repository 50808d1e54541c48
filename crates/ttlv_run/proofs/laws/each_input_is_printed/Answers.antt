use Rattle.std.proofs.Common.{[], arith}
use Rattle.ttlv_run.specs.Messages.{whole_none}
use Rattle.ttlv_run.proofs.{Completion.whole_goes, Completion.items_go, Windows.plain_bytes}
use Rattle.ttlv_run.proofs.laws.each_input_is_printed.Goals as goal

pub returns-clause-any : goal.returns-clause-any
returns-clause-any c = λ names task bytes h. whole_goes names task bytes (plain_bytes bytes h) 0 [] (omega arith) whole_none

pub returns-clause-messages : goal.returns-clause-messages
returns-clause-messages c = λ names task bytes p front h le whole. whole_goes names task bytes (plain_bytes bytes h) p front le whole

pub returns-clause-items : goal.returns-clause-items
returns-clause-items c = λ names look bytes p front q es xs h lt whole met. items_go names look bytes (plain_bytes bytes h) p front lt whole q es xs met
