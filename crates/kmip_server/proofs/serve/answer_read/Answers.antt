use Rattle.kmip_server.proofs.Answering.{breaks_by, dealt_with, is_logged, loses_answered}
use Rattle.kmip_server.proofs.serve.answer_read.Goals as goal

pub returns-in_err-note-in-Ok : goal.returns-in_err-note-in-Ok
returns-in_err-note-in-Ok g c = breaks_by _ _ _ _ _ _ _ c.from_residual-in_err-note-in-Ok.ensures.1
    (loses_answered _ _ _ _ c.in-Ok.bytes _ c.in_ok-note.ensures _ c.in-Ok.ensures.sends _ c.as_slice.ensures.value _ _ c.in_err-note-in-Ok.ensures)

pub returns-in_ok-note-in-Ok : goal.returns-in_ok-note-in-Ok
returns-in_ok-note-in-Ok g c =
    dealt_with _ _ _ _ c.in-Ok.bytes _
    (is_logged _ _ _ _ c.in-Ok.bytes _ c.in_ok-note.ensures _ c.in-Ok.ensures.sends _ c.as_slice.ensures.value c.in_ok-note-in-Ok.ensures)
    _ c.as_slice-in-Ok.ensures.value _ c.send.ensures
