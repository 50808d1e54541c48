use Rattle.std.proofs.Common.{rules, ◌∙◌, take, ap}
use Rattle.std.proofs.lemmas.List.{with_items_is, places}
use Rattle.ttlv_run.proofs.Windows.{came_behind}
use Rattle.ttlv_run.proofs.window.Window.read_behind.Goals as goal

pub returns-in-Ok-clause-ok : goal.returns-in-Ok-clause-ok
returns-in-Ok-clause-ok g c =
    let mid = c.make_room.new.self in
    let buf = c.read_at.new.buf in
    came_behind _ _ buf _ _ mid.count c.in-Ok.n (with_items_is mid.bytes buf (search (rules, places))) (c.in-Ok.ensures.front
    ∙ ap (take mid.count) c.as_mut_slice.ensures.value ∙ c.make_room.ensures.buffered)
    c.in-Ok.ensures.fits c.in-Ok.ensures.ok c.in-Ok.ensures.end
