use Rattle.std.proofs.Common.{◌≡◌, ◌∙◌, ◌+◌, ◌++◌, ℕ, List, Some, drop, length, ap, sym, subst, arith}
use Rattle.std.proofs.lemmas.{Bool.eqb-true, List.length-drop}
use Rattle.std.proofs.{KnownBytes.Consumes-nil, lemmas.Result.err_from_is_err_and}
use Rattle.ttlv_run.specs.declared.json_ends.Part.TheVariants.{Front}
use Rattle.ttlv_run.specs.JsonEnds.{IsFirst, IsOpen, IsSeen, goes_on}
use Rattle.ttlv_run.proofs.JsonParts.{none_seen, seen_more}
use Rattle.ttlv_run.proofs.JsonReads.{json_starts, json_of, json_value, json_bad, json_fails, json_next, json_rest, json_ended, json_came, json_no_memory}
use Rattle.ttlv_run.proofs.JsonReads.{bad_within, end_within}
use Rattle.ttlv_run.proofs.JsonReads.{json_read_fails}
use Rattle.ttlv_run.proofs.from_json.read_json.Goals as goal

pub values-init : goal.values-init
values-init g c = record {
  reading = json_of (json_starts (Consumes-nil (g.R.Source.left c.args.input.now))) c.new-window.ensures;
  seen = none_seen _;
  at_end = λ e. cc;
}

-- offsets end
pub returns-then-base-buffered : goal.returns-then-base-buffered
returns-then-base-buffered g c = json_no_memory (json_of c.values.invariant.reading c.buffered-buffered.ensures.are)

-- a value is no text, or printing failed
pub returns-in_err-error-in-Whole : goal.returns-in_err-error-in-Whole
returns-in_err-error-in-Whole g c =
    let p = json_of c.values.invariant.reading c.buffered-buffered.ensures.are in
    let here : IsFirst c.behind-rest.result.now c.in-Whole.value.now c.in-Whole.size = rw c.in-Whole.is at c.first_value.ensures in
    let first = subst (λ (t : List ℕ). IsFirst t c.in-Whole.value.now c.in-Whole.size) c.behind-rest.ensures here in
    let y = err_from_is_err_and c.from_residual.result c.from_residual.ensures.1 in
    rw (y.1, y.2) (json_fails p _ _ (json_next p first) _ c.in_err-error-in-Whole.ensures.err)

-- a value is bad
pub returns-in-Some : goal.returns-in-Some
returns-in-Some g c =
    let p = json_of c.values.invariant.reading c.buffered-buffered.ensures.are in
    let here : IsFirst c.behind-rest.result.now c.in-Whole.value.now c.in-Whole.size = rw c.in-Whole.is at c.first_value.ensures in
    let first = subst (λ (t : List ℕ). IsFirst t c.in-Whole.value.now c.in-Whole.size) c.behind-rest.ensures here in
    rw c.value_fault.ensures (json_bad p _ _ (json_next p first) c.in-Some.is c.in_ok-error-in-Whole.ensures.ok)

pub value_fault-requires : goal.value_fault-requires
value_fault-requires g c =
    let here : IsFirst c.behind-rest.result.now c.in-Whole.value.now c.in-Whole.size = rw c.in-Whole.is at c.first_value.ensures in
    let p = json_of c.values.invariant.reading c.buffered-buffered.ensures.are in
    omega (
      arith,
      bad_within _ _ _ c.in-Some.is c.in_ok-error-in-Whole.ensures.ok,
      here.within,
      here.shorter,
      ap length c.behind-rest.ensures,
      length-drop c.values.at c.buffered-buffered.result.now,
      p.gives.within,
      ap length p.are,
      length-drop c.values.base p.taken,
    )

pub values-preserved-in-Whole : goal.values-preserved-in-Whole
values-preserved-in-Whole g c =
    let p = json_of c.values.invariant.reading c.buffered-buffered.ensures.are in
    let here : IsFirst c.behind-rest.result.now c.in-Whole.value.now c.in-Whole.size = rw c.in-Whole.is at c.first_value.ensures in
    let first = subst (λ (t : List ℕ). IsFirst t c.in-Whole.value.now c.in-Whole.size) c.behind-rest.ensures here in
    record {
      reading = json_of (json_value p first c.in_default.is c.in_ok-error-in-Whole.ensures.ok) (sym c.buffered-buffered.ensures.are);
      seen = none_seen _;
      at_end = c.values.invariant.at_end;
    }

-- the last value
pub returns-in_err-error-in-Open : goal.returns-in_err-error-in-Open
returns-in_err-error-in-Open g c =
    let p = json_of c.values.invariant.reading c.buffered-buffered.ensures.are in
    let goes : goes_on Front c.behind-rest.result.now ≡ Some c.in-Open.reached = rw c.in-Open.is at c.first_value.ensures in
    let one : IsOpen (drop c.values.at c.buffered-buffered.result.now) =
    record { part = c.in-Open.reached; goes = ap (goes_on Front) (sym c.behind-rest.ensures) ∙ goes } in
    let y = err_from_is_err_and c.from_residual-in_err-error-in-Open.result c.from_residual-in_err-error-in-Open.ensures.1 in
    rw (y.1, y.2) (json_fails p _ _ (json_rest p c.behind-rest.ensures one (c.values.invariant.at_end c.if-ended.true)) _ c.in_err-error-in-Open.ensures.err)

pub fault_at-requires : goal.fault_at-requires
fault_at-requires g c =
    let p = json_of c.values.invariant.reading c.buffered-buffered.ensures.are in
    let left = length-drop c.values.at c.buffered-buffered.result.now in
    end_within _ _ _ (c.values.base + c.values.at) c.in_ok-error-in-Open.error c.in_ok-error-in-Open.ensures.ok
    (omega (arith, ap length c.behind-rest.ensures, left, p.gives.within, ap length p.are, length-drop c.values.base p.taken))

pub returns-then-ended : goal.returns-then-ended
returns-then-ended g c =
    let p = json_of c.values.invariant.reading c.buffered-buffered.ensures.are in
    let goes : goes_on Front c.behind-rest.result.now ≡ Some c.in-Open.reached = rw c.in-Open.is at c.first_value.ensures in
    let one : IsOpen (drop c.values.at c.buffered-buffered.result.now) =
    record { part = c.in-Open.reached; goes = ap (goes_on Front) (sym c.behind-rest.ensures) ∙ goes } in
    rw c.fault_at.ensures
    (json_ended p _ _ c.behind-rest.ensures one (c.values.invariant.at_end c.if-ended.true) c.in_ok-error-in-Open.error c.in_ok-error-in-Open.ensures.ok)

-- reading failed, or memory ran out for it
pub returns-in_err-ended-in-Open : goal.returns-in_err-ended-in-Open
returns-in_err-ended-in-Open g c =
    let p = json_of c.values.invariant.reading c.buffered-buffered.ensures.are in
    let goes : goes_on Front c.behind-rest.result.now ≡ Some c.in-Open.reached = rw c.in-Open.is at c.first_value.ensures in
    let one : IsOpen (drop c.values.at c.buffered-buffered.result.now) =
    record { part = c.in-Open.reached; goes = ap (goes_on Front) (sym c.behind-rest.ensures) ∙ goes } in
    let y = err_from_is_err_and c.from_residual-in_err-ended-in-Open.result c.from_residual-in_err-ended-in-Open.ensures.1 in
    rw (y.1, y.2) (json_read_fails _ _ p one c.in_err-ended-in-Open.ensures.err _ c.in_err-ended-in-Open.ensures.why)

pub values-preserved : goal.values-preserved
values-preserved g c =
    let p = json_of c.values.invariant.reading c.buffered-buffered.ensures.are in
    let left = c.discard.ensures ∙ ap (drop c.values.at) (sym c.buffered-buffered.ensures.are) in
    let yields = c.in_ok-ended-in-Open.ensures.ok.yields in
    let goes : goes_on Front c.behind-rest.result.now ≡ Some c.in-Open.reached = rw c.in-Open.is at c.first_value.ensures in
    let after = yields.are ∙ ap (λ (t : List ℕ). t ++ yields.came) (left ∙ sym c.behind-rest.ensures) in
    record {
      reading = json_came p left yields;
      seen = subst (λ (t : List ℕ). IsSeen t (length c.behind-rest.result.now) c.in-Open.reached) (sym after)
          (seen_more c.behind-rest.result.now yields.came c.in-Open.reached goes);
      at_end = λ e. c.in_ok-ended-in-Open.ensures.ok.ended (eqb-true _ 0 e);
    }
