use Rattle.std.proofs.Common.{◌∙◌, ap, sym, Ok}
use Rattle.hex_to_txt_run.proofs.Failures.{no_pair}
use Rattle.hex_to_txt_run.proofs.texts.flat_text.Goals as goal

pub returns : goal.returns
returns g c = no_pair c.in-Err.error c.args.input.now c.as_slice.result.now _ (c.in_ok-bytes.ensures.ok ∙ ap Ok (sym c.as_slice.ensures.value))
    c.in-Err.ensures.refused c.failure_of.ensures
