use Rattle.std.proofs.Common.{◌∙◌, [], ap, refl, sym, length}
use Rattle.kmip_ttlv_reader.specs.{Outcomes.outcome, Spots.structure_form, Spots.structure_value, Steps.gives, Steps.◌>>=◌}
use Rattle.kmip_ttlv_reader.proofs.{Alone.read_alone, Steps.failure_then}
use Rattle.kmip_ttlv_kinds.specs.Parts.{within}
use Rattle.kmip_attribute_set.proofs.copies.read_alone.Goals as goal

pub returns-in-Ok-clause-equals : goal.returns-in-Ok-clause-equals
unfolding within
returns-in-Ok-clause-equals g c =
    let s = g.T.Structure.rules in
    let b = c.args.bytes.now in
    let read = rw c.new-cursor.ensures at c.in-Ok.ensures.read in (
      structure_value c.args.tag s.values c.in-Ok.structure,
      sym (read_alone c.args.tag s.fields s.closed b c.from-owner.result) ∙ ap (λ o. o >>= λ r. gives r.value) read,
      refl,
    )

pub returns-clause-equals : goal.returns-clause-equals
returns-clause-equals g c =
    let s = g.T.Structure.rules in
    let b = c.args.bytes.now in
    let first = outcome (structure_form c.args.tag s.fields s.closed) b c.from-owner.result [] 0 (length b) in
    let read = rw c.new-cursor.ensures at c.in-Err.ensures.read in
    rw (← read_alone c.args.tag s.fields s.closed b c.from-owner.result)
    (c.error.ensures (first >>= λ r. gives r.value) (failure_then first _ _ read))
