use Rattle.ttlv_run.proofs.Decided.{decides_more}
use Rattle.ttlv_run.proofs.run.report.Goals as goal

pub returns-then-writable : goal.returns-then-writable
returns-then-writable g c = λ known front h. rw (← c.as_bytes.ensures.value)
    (decides_more c.send.result c.args.writable c.is_ok.result known _ _ front c.as_bytes.result.now c.if-writable.true c.is_ok.ensures.value c.send.ensures.ok
    c.send.ensures.err c.send.ensures.room c.send.ensures.tight h)
