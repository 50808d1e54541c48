use Rattle.ttlv_run.proofs.DumpLines.{colon_line, bare_line}
use Rattle.ttlv_run.proofs.laws.a_dump_is_its_columns.Goals as goal

pub returns-clause-xxd : goal.returns-clause-xxd
returns-clause-xxd c = λ t column rest l s digits reads. colon_line s t column rest digits l reads

pub returns-clause-hexdump : goal.returns-clause-hexdump
returns-clause-hexdump c = λ t column rest l s digits reads. bare_line s t column rest digits l reads
