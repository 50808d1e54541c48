use Rattle.std.proofs.Common.{◌∙◌, ap, sym, Ok}
use Rattle.hex_to_txt_run.proofs.Printing.{prints_readable}
use Rattle.hex_to_txt_run.proofs.texts.readable_text.Goals as goal

pub returns : goal.returns
returns g c = prints_readable c.args.input.now c.as_slice.result.now _ _ (c.in_ok-bytes.ensures.ok ∙ ap Ok (sym c.as_slice.ensures.value)) c.in_ok-ended.ensures
    _ _ c.new-printer.ensures.names c.new-printer.ensures.setting c.in_ok-text.ensures.printed c.in_ok-text.ensures.pretty
