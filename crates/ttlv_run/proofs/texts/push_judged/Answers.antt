use Rattle.std.proofs.lemmas.Result.{IfOk-weaker}
use Rattle.kmip_ttlv_util.proofs.Saying.{err_map}
use Rattle.ttlv_run.specs.Texts.{names_of}
use Rattle.ttlv_run.proofs.Wholes.{whole_lines, whole_json}
use Rattle.ttlv_run.proofs.texts.push_judged.Goals as goal

pub returns-in-Show-clause-ok : goal.returns-in-Show-clause-ok
returns-in-Show-clause-ok g c =
    let told = whole_lines (names_of c.args.names.now) c.args.at c.args.message.now c.in-Show.look c.args.strict c.in-Show.is c.requires.judged in
    IfOk-weaker c.push_lines.result _ _ (λ fault h. record { text = h.text; is = told h.text fault h.is; holds = h.holds }) c.push_lines.ensures.ok

pub returns-in-Show-clause-err : goal.returns-in-Show-clause-err
returns-in-Show-clause-err g c =
    let told = whole_lines (names_of c.args.names.now) c.args.at c.args.message.now c.in-Show.look c.args.strict c.in-Show.is c.requires.judged in
    err_map c.push_lines.result _ _ c.push_lines.ensures.err (λ h. record { text = h.text; is = (h.is.0, told h.text h.is.0 h.is.1); holds = h.holds })

pub returns-in-Json-clause-ok : goal.returns-in-Json-clause-ok
returns-in-Json-clause-ok g c =
    let told = whole_json (names_of c.args.names.now) c.args.at c.args.message.now c.in-Json.hiding c.in-Json.named c.args.strict c.in-Json.is
    c.requires.judged in
    IfOk-weaker c.push_styled.result _ _ (λ fault h. record { text = h.text; is = told h.text fault h.is; holds = h.holds }) c.push_styled.ensures.ok

pub returns-in-Json-clause-err : goal.returns-in-Json-clause-err
returns-in-Json-clause-err g c =
    let told = whole_json (names_of c.args.names.now) c.args.at c.args.message.now c.in-Json.hiding c.in-Json.named c.args.strict c.in-Json.is
    c.requires.judged in
    err_map c.push_styled.result _ _ c.push_styled.ensures.err (λ h. record { text = h.text; is = (h.is.0, told h.text h.is.0 h.is.1); holds = h.holds })
