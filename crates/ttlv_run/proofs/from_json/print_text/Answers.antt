use Rattle.std.proofs.Common.{rules, arith, ◌≡◌, ◌≢◌, ◌∙◌, ◌+◌, ◌-◌, ◌≤◌, inl, inr, List, ℕ, [], length, sym, refl, ap, subst}
use Rattle.kmip_ttlv_types.proofs.Held.{gets_none}
use Rattle.kmip_ttlv_json.specs.Readings.{IsReadAs, FailsToRead, error_offset, moved}
use Rattle.kmip_ttlv_json.specs.declared.failure.JsonError.{JsonError}
use Rattle.kmip_ttlv_json.specs.declared.failure.JsonError.TheVariants.{NotJson, TooDeep, NotItem, NotStructure, TooLong, OutOfMemory}
use Rattle.ttlv_run.specs.{Columns.body, Columns.mark_length, JsonValues.IsBlank, JsonValues.message_output}
use Rattle.std.proofs.lemmas.{Bool.true≢false, Result.err_from_is_err_and}
use Rattle.ttlv_run.proofs.from_json.print_text.Goals as goal

pub returns-then-is_blank-clause-ok : goal.returns-then-is_blank-clause-ok
returns-then-is_blank-clause-ok g c =
    let blank : IsBlank (body c.args.value.now) =
    subst IsBlank (c.as_bytes.ensures.value ∙ c.unmarked-text.ensures.is) (c.is_blank.ensures.0 c.if-is_blank.true) in
    ([], inl (blank, refl), gets_none _)

pub returns-in_err-print_message-in-Ok-clause-err : goal.returns-in_err-print_message-in-Ok-clause-err
returns-in_err-print_message-in-Ok-clause-err g c =
    let m = c.as_slice.result.now in
    let read : IsReadAs (body c.args.value.now) m =
    subst (λ (s : List ℕ). IsReadAs s m) c.unmarked-text.ensures.is
    (subst (λ (t : List ℕ). IsReadAs c.unmarked-text.result.now t) (sym c.as_slice.ensures.value) c.in-Ok.ensures.ok) in
    let y = err_from_is_err_and c.from_residual.result c.from_residual.ensures.1 in
    rw (y.1, y.2) (inl (message_output c.args.raw m, inr (m, read, refl), c.in_err-print_message-in-Ok.ensures.err))

-- an error in a longer text is no further than the text is longer, and is reported as it was
moved_within : (count : ℕ) (e : JsonError) → error_offset (moved count e) ≤ error_offset e + count
moved_within count (NotJson offset) = omega arith
moved_within count (TooDeep offset) = omega arith
moved_within count (NotItem bad offset) = omega arith
moved_within count (NotStructure offset) = omega arith
moved_within count (TooLong offset) = omega arith
moved_within count OutOfMemory = omega arith

moved_reported : (count : ℕ) (e : JsonError) → e ≢ OutOfMemory → moved count e ≢ OutOfMemory
moved_reported count OutOfMemory ne = absurd (ne refl)
moved_reported count (NotJson offset) ne = λ is. absurd (cc)
moved_reported count (TooDeep offset) ne = λ is. absurd (cc)
moved_reported count (NotItem bad offset) ne = λ is. absurd (cc)
moved_reported count (NotStructure offset) ne = λ is. absurd (cc)
moved_reported count (TooLong offset) ne = λ is. absurd (cc)

pub returns-in-Err-clause-ok : goal.returns-in-Err-clause-ok
returns-in-Err-clause-ok g c =
    let is = c.unmarked-text.ensures.is in
    let line = c.args.value.now in
    let text = c.unmarked-text.result.now in
    let e = c.in-Err.error in
    let some : IsBlank (body line) → ⊥ =
    λ blank. true≢false (sym (c.is_blank.ensures.1 (subst IsBlank (sym (c.as_bytes.ensures.value ∙ is)) blank)) ∙ c.if-is_blank.false) in
    let ne : e ≢ OutOfMemory = search rules in
    let count : length line - length text ≡ mark_length line = omega (arith, c.unmarked-text.ensures.length) in
    let same : c.moved.result ≡ moved (mark_length line) e = c.moved.ensures ∙ ap (λ n. moved n e) (search (rules, count)) in (
      record {
        some = some;
        why = e;
        fails = subst (λ (s : List ℕ). FailsToRead s e) is c.in-Err.ensures.err;
        is = same;
        within = omega (arith, ap error_offset same, moved_within (mark_length line) e, c.in-Err.ensures.within, c.unmarked-text.ensures.length);
        reported = subst (λ f. f ≢ OutOfMemory) (sym same) (moved_reported (mark_length line) e ne);
      },
      gets_none _,
    )
