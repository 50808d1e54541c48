use Rattle.std.proofs.{Common.inl, Common.inr, Common.ap, Common.sym, Common.◌∙◌, lemmas.Result.err_from_is_err_and}
use Rattle.kmip_ttlv_de.specs.StreamMessages.{heads_structure}
use Rattle.kmip_ttlv_de.proofs.{Stopping.ends_with, Leaving.leaves_behind}
use Rattle.kmip_ttlv_de.proofs.stream.read_message.Goals as goal

pub returns-in_err-take_message-clause-ends : goal.returns-in_err-take_message-clause-ends
returns-in_err-take_message-clause-ends g c =
    let p = err_from_is_err_and c.from_residual.result c.from_residual.ensures.1 in
    rw (p.1, p.2) (inr c.in_err-take_message.ensures.err)

pub returns-in_err-take_message-clause-between : goal.returns-in_err-take_message-clause-between
returns-in_err-take_message-clause-between g c =
    let p = err_from_is_err_and c.from_residual.result c.from_residual.ensures.1 in
    rw (p.1, p.2) (inl c.in_err-take_message.ensures.err)

pub returns-clause-ends : goal.returns-clause-ends
returns-clause-ends g c =
    let answer = c.from_slice.ensures in
    ends_with _ _ _ _ _ _ _ _ c.in_ok-take_message.ensures.ok c.as_slice-2.ensures.value
    record {
      equals = answer.equals;
      found = answer.found;
      refused = answer.refused;
      whole = answer.whole;
    }

pub returns-clause-between : goal.returns-clause-between
returns-clause-between g c =
    let answer = c.from_slice.ensures in
    leaves_behind _ _ _ _ _ _ _ _ _ _ _ c.in_ok-take_message.ensures.ok c.as_slice-2.ensures.value
    (c.is_structure.ensures ∙ ap heads_structure (c.as_slice.ensures.value ∙ sym c.as_slice-2.ensures.value))
    record {
      equals = answer.equals;
      found = answer.found;
      refused = answer.refused;
      whole = answer.whole;
    }
