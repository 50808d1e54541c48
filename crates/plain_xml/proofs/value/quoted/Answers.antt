use Rattle.std.specs.Prelude.{string_bytes}
use Rattle.std.proofs.lemmas.Result.{err_from_is_err_and}
use Rattle.plain_xml.proofs.Loops.{value_fails, value_goes, value_shorter}
use Rattle.plain_xml.proofs.value.quoted.Goals as goal

pub returns-in_err-read : goal.returns-in_err-read
returns-in_err-read g c =
    let p = err_from_is_err_and c.from_residual.result c.from_residual.ensures.1 in
    rw (p.1, p.2) (value_fails c.args.quote c.args.text.now
    (string_bytes c.characters.value) c.characters.rest.now c.in_err-read.field-0.0 c.characters.invariant c.in_err-read.ensures)

pub characters-smaller : goal.characters-smaller
characters-smaller g c =
    let s = rw c.in-Some.is at c.in_ok-read.ensures in
    value_shorter c.args.quote (string_bytes c.characters.value) c.characters.rest.now c.in-Some.read c.in-Some.after.now s

pub characters-preserved : goal.characters-preserved
characters-preserved g c =
    let s = rw c.in-Some.is at c.in_ok-read.ensures in
    rw c.in_ok-push.ensures.bytes (value_goes c.args.quote c.args.text.now
    (string_bytes c.characters.value) c.characters.rest.now c.in-Some.read c.in-Some.after.now c.characters.invariant s)
