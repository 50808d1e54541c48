use Rattle.std.proofs.Common.{◌∙◌, ap, subst, sym, Err, Ok, Global}
use Rattle.std.proofs.lemmas.Result.{err_from_is_err_and}
use Rattle.kmip_ttlv_types.specs.{declared.error.Error.TheVariants.IoError, Headers.Writes}
use Rattle.kmip_ttlv_types.proofs.LeafWriting.{Writes-first, Writes-second}
use Rattle.kmip_ttlv_types.proofs.primitive.send_both.Goals as goal

pub returns-in_err-send : goal.returns-in_err-send
returns-in_err-send g c =
    let h = c.in_err-send.ensures in
    let exit = err_from_is_err_and c.from_residual.result c.from_residual.ensures.1 in
    subst (Writes {T = Unit {0}} _ _ _ _ _) (sym (exit.1 ∙ ap Err exit.2))
    (Writes-first (Unit {0}) (Unit {0}) {A = Global} c.args.first.now c.args.second.now _ _ _ (g.S.Sink.room c.send.new.self) (IoError c.in_err-send.field-0.0)
    (h.err, h.tight))

pub returns-in_err-send-2 : goal.returns-in_err-send-2
returns-in_err-send-2 g c =
    let first = c.in_ok-send.ensures in
    let h = c.in_err-send-2.ensures in
    let exit = err_from_is_err_and c.from_residual-in_err-send-2.result c.from_residual-in_err-send-2.ensures.1 in
    subst (Writes {T = Unit {0}} _ _ _ _ _) (sym (exit.1 ∙ ap Err exit.2))
    (Writes-second c.args.first.now _ _ _ _ first.ok first.room {T = Unit {0}} {A = Global} c.args.second.now _ (g.S.Sink.room c.send-2.new.self)
    (Err (IoError c.in_err-send-2.field-0.0)) (h.err, h.tight))

pub returns : goal.returns
returns g c =
    let first = c.in_ok-send.ensures in
    let h = c.in_ok-send-2.ensures in
    Writes-second c.args.first.now _ _ _ _ first.ok first.room {T = Unit {0}} {A = Global} c.args.second.now _ _ (Ok tt) (h.ok, h.room)
