use Rattle.ttlv_run.proofs.misread.report_kind.Goals as goal

pub returns-in-NoDigit : goal.returns-in-NoDigit
returns-in-NoDigit g c = λ known front h.
    rw c.in-NoDigit.is (c.report.ensures _ _ (c.report_byte-writable.ensures _ _ (c.report-writable.ensures _ _ h)))

pub returns-in-WrongCount : goal.returns-in-WrongCount
returns-in-WrongCount g c = λ known front h. rw c.in-WrongCount.is (c.report-in-WrongCount.ensures _ _ h)
