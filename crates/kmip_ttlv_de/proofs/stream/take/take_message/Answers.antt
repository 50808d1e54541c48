use Rattle.std.proofs.lemmas.Result.{err_from_is_err_and, on_ok_weaker, IfErr-weaker}
use Rattle.kmip_ttlv_de.specs.StreamMessages.{in_header}
use Rattle.kmip_ttlv_de.proofs.Fronts.{HasSize-least}
use Rattle.kmip_ttlv_de.proofs.Stopping.{stops_at_header, message_comes, stops_in_body}
use Rattle.kmip_ttlv_de.proofs.stream.take.take_message.Goals as goal

pub returns-in_err-take_more-clause-err : goal.returns-in_err-take_more-clause-err
returns-in_err-take_more-clause-err g c =
    let p = err_from_is_err_and c.from_residual-in_err-take_more.result c.from_residual-in_err-take_more.ensures.1 in
    rw (p.1, p.2) (in_header c.in_err-take_more.ensures.err)

pub returns-in_err-size-clause-err : goal.returns-in_err-size-clause-err
returns-in_err-size-clause-err g c =
    let p = err_from_is_err_and c.from_residual-in_err-size.result c.from_residual-in_err-size.ensures.1 in
    rw (p.1, p.2) (stops_at_header _ _ _ _ _ _ _ _ c.in_ok-empty.ensures c.in_ok-take_more.ensures.ok
    c.as_slice.ensures.value c.in_err-size.ensures.err)

pub overflow_sub-size : goal.overflow_sub-size
overflow_sub-size g c = HasSize-least c.args.limit c.as_slice.result.now c.in_ok-size.size c.in_ok-size.ensures.ok

pub returns-clause-ok : goal.returns-clause-ok
returns-clause-ok g c = on_ok_weaker c.take_more-2.result (λ more. message_comes _ _ _ _ _ _ _ _ _ c.in_ok-empty.ensures
    c.in_ok-take_more.ensures.ok c.as_slice.ensures.value c.in_ok-size.ensures.ok more)
    c.take_more-2.ensures.ok

pub returns-clause-err : goal.returns-clause-err
returns-clause-err g c =
    IfErr-weaker c.take_more-2.result _ _ (λ e lacks. stops_in_body _ _ _ _ _ _ _ _ _ _ e c.in_ok-empty.ensures
    c.in_ok-take_more.ensures.ok c.as_slice.ensures.value c.in_ok-size.ensures.ok lacks)
    c.take_more-2.ensures.err
