use Rattle.std.proofs.Common.{arith, ◌≢◌, length, get_or, Some, None, ap, sym, ◌∙◌}
use Rattle.std.proofs.lemmas.{Bool.eqb-true, Bool.eqb-false, Str.Pattern.split_once_first}
use Rattle.kmip_ttlv_names.specs.NameTables.{named}
use Rattle.kmip_ttlv_names.proofs.Tables.{blank_is, comment_is, entry_is, entry_none, entry_some}
use Rattle.ttlv_run.specs.Spellings.{named_in}
use Rattle.ttlv_run.proofs.spelling.named_in.Goals as goal

pub returns-then-is_empty : goal.returns-then-is_empty
returns-then-is_empty c = sym (ap named_in (blank_is c.args.line.now c.trim_end-line.result.now c.trim_end-line.ensures.trim
    (eqb-true (length c.trim_end-line.result.now) 0 (sym c.is_empty.ensures ∙ c.if-is_empty.true))))

pub returns-then-as_bytes-eq35 : goal.returns-then-as_bytes-eq35
returns-then-as_bytes-eq35 c =
    let t = c.trim_end-line.result.now in
    let some : length t ≢ 0 = eqb-false (length t) 0 (sym c.is_empty.ensures ∙ c.if-is_empty.false) in
    sym (ap named_in
    (comment_is c.args.line.now t c.trim_end-line.ensures.trim some (ap (λ s. get_or s 0 0) (sym c.as_bytes.ensures.value) ∙ c.if-as_bytes-eq35.true)))

pub returns-in_default : goal.returns-in_default
returns-in_default c =
    let t = c.trim_end-line.result.now in
    let some : length t ≢ 0 = eqb-false (length t) 0 (sym c.is_empty.ensures ∙ c.if-is_empty.false) in
    let first : get_or t 0 0 ≢ 35 = λ h. c.if-as_bytes-eq35.false (ap (λ s. get_or s 0 0) c.as_bytes.ensures.value ∙ h) in
    sym (ap named_in (entry_is c.args.line.now t c.trim_end-line.ensures.trim some first
    ∙ entry_none t (split_once_first 32 t None c.in_default.ensures.cases (omega arith))))

pub returns-in-Some-from_name : goal.returns-in-Some-from_name
returns-in-Some-from_name c =
    let t = c.trim_end-line.result.now in
    let some : length t ≢ 0 = eqb-false (length t) 0 (sym c.is_empty.ensures ∙ c.if-is_empty.false) in
    let first : get_or t 0 0 ≢ 35 = λ h. c.if-as_bytes-eq35.false (ap (λ s. get_or s 0 0) c.as_bytes.ensures.value ∙ h) in
    let h = split_once_first 32 t (Some (c.in-Some.digits, c.in-Some.name)) c.in-Some.ensures.cases (omega arith) in
    sym (ap named_in (entry_is c.args.line.now t c.trim_end-line.ensures.trim some first
    ∙ entry_some t c.in-Some.digits.now c.in-Some.name.now h.0 h.1 h.2
    ∙ ap (λ o. named o c.in-Some.name.now) (sym c.from_name.ensures ∙ c.in-Some-from_name.is)))

pub returns-in-None : goal.returns-in-None
returns-in-None c =
    let t = c.trim_end-line.result.now in
    let some : length t ≢ 0 = eqb-false (length t) 0 (sym c.is_empty.ensures ∙ c.if-is_empty.false) in
    let first : get_or t 0 0 ≢ 35 = λ h. c.if-as_bytes-eq35.false (ap (λ s. get_or s 0 0) c.as_bytes.ensures.value ∙ h) in
    let h = split_once_first 32 t (Some (c.in-Some.digits, c.in-Some.name)) c.in-Some.ensures.cases (omega arith) in
    sym (ap named_in (entry_is c.args.line.now t c.trim_end-line.ensures.trim some first
    ∙ entry_some t c.in-Some.digits.now c.in-Some.name.now h.0 h.1 h.2
    ∙ ap (λ o. named o c.in-Some.name.now) (sym c.from_name.ensures ∙ c.in-None.is)))
