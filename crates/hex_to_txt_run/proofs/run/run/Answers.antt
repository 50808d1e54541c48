use Rattle.std.proofs.Common.{◌∙◌, refl}
use Rattle.hex_to_txt_run.specs.Reasons.{reason_of}
use Rattle.hex_to_txt_run.proofs.Ends.{failed, output_stays, printed_some}
use Rattle.hex_to_txt_run.proofs.run.run.Goals as goal

pub returns-in-Err-clause-failed : goal.returns-in-Err-clause-failed
returns-in-Err-clause-failed g c = λ _. failed _ _ (reason_of c.in-Err.failure) _ _ _ c.as_bytes.result.now _ c.in-Err.ensures (c.as_bytes.ensures.value
    ∙ c.line.ensures) c.send.ensures.ok c.send.ensures.err c.send.ensures.tight

pub returns-in-Err-clause-nothing : goal.returns-in-Err-clause-nothing
returns-in-Err-clause-nothing g c = λ none. (refl, output_stays _ _ (reason_of c.in-Err.failure) c.in-Err.ensures none)

pub returns-in-Ok-clause-nothing : goal.returns-in-Ok-clause-nothing
returns-in-Ok-clause-nothing g c = λ none. absurd (printed_some _ _ c.in-Ok.ensures none)
