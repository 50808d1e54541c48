use Rattle.std.proofs.{Common.ap, lemmas.Result.err_from_is_err_and}
use Rattle.kmip_ttlv_base.specs.{Forms.fields_of, Values.struct_value}
use Rattle.kmip_ttlv_base.proofs.{Views.view-Struct, Shapes.form_of-Struct}
use Rattle.kmip_ttlv_reader.specs.{Steps.◌>>=◌, Steps.gives, Outcomes.first_outcome, Outcomes.fields_outcome}
use Rattle.kmip_ttlv_reader.proofs.{Loops.root_struct_is, Steps.failure_then}
use Rattle.kmip_ttlv_de.proofs.root.+read_message.Goals as goal

pub returns-in_err-fields-in-Struct : goal.returns-in_err-fields-in-Struct
returns-in_err-fields-in-Struct g t c =
    let p = err_from_is_err_and c.from_residual-in_err-fields-in-Struct.result c.from_residual-in_err-fields-in-Struct.ensures.1 in
    record {
      step = rw (p.1, p.2, c.in-Struct.is, form_of-Struct c.in-Struct.name c.in-Struct.fields c.in-Struct.deny_unknown, root_struct_is)
          (failure_then (first_outcome c.in-Struct.name.now (fields_of c.in-Struct.fields.items) c.in-Struct.deny_unknown
          (fields_outcome (fields_of c.in-Struct.fields.items)) c.args.bytes.now) _ _
          (rw c.deref-in-Struct.ensures.value at c.in_err-fields-in-Struct.ensures.step));
    }

pub returns-in_ok-fields-in-Struct : goal.returns-in_ok-fields-in-Struct
returns-in_ok-fields-in-Struct g t c = record {
  step = rw (
    c.in-Struct.is,
    form_of-Struct c.in-Struct.name c.in-Struct.fields c.in-Struct.deny_unknown,
    root_struct_is,
    view-Struct c.in-Struct.name c.in_ok-fields-in-Struct.fields,
  ) (ap (λ o. o >>= λ vs. gives (struct_value c.in-Struct.name.now vs))
      (rw c.deref-in-Struct.ensures.value at c.in_ok-fields-in-Struct.ensures.step));
}
