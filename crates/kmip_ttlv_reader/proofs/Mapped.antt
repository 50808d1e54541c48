-- A result whose value is wrapped is that of the wrapped outcome.
use Rattle.std.proofs.Common.{◌≡◌, ℕ, List, [], ◌∷◌, ◌<◌, length, Result, Ok, Err, Vec, IfOk, refl, ap, sym, ◌∙◌, arith}
use Rattle.kmip_ttlv_base.specs.Values.{Value, seq_value, some_value}
use Rattle.kmip_ttlv_reader.specs.{declared.failure.Failure.Failure, TagValues.TagValue, Results.IsRead}
use Rattle.kmip_ttlv_reader.specs.Steps.{Outcome, Read, reads, mapped}
use Rattle.kmip_ttlv_reader.specs.Spots.{Spot, IsReadTo, optional_values, values_by}
use Rattle.kmip_ttlv_reader.proofs.Steps.{failure_then}

pub mapped_read : {X V W A : Type 0} (f : V → W) (view : X → V) (k : List TagValue) (o : Outcome (Read V)) (r : Result (X × ℕ) (Failure A))
    → IsRead view k o r
    → IsRead (λ x. f (view x)) k (mapped f o) r
mapped_read f view k o (Ok x) h = ap (mapped f) h
mapped_read f view k o (Err failure) h = failure_then o (λ r. reads (f r.value) r.stored r.next) failure h

pub mapped_to : {X V W A : Type 0} (f : V → W) (view : X → V) (spot : Spot) (o : Outcome (Read V)) (r : Result X (Failure A))
    → IsReadTo view spot o r
    → IsReadTo (λ x. f (view x)) spot (mapped f o) r
mapped_to f view spot o (Ok x) h = ap (mapped f) h
mapped_to f view spot o (Err failure) h = failure_then o (λ r. reads (f r.value) r.stored r.next) failure h

-- a sequence that was read is there: it isn't empty
pub some_to : {X A B : Type 0} (f : X → Value) (spot : Spot) (o : Outcome (Read Value)) (r : Result (Vec X A) (Failure B))
    → IfOk r (λ xs. 0 < length xs.items)
    → IsReadTo (λ xs. seq_value (values_by f xs.items)) spot o r
    → IsReadTo (λ xs. optional_values f xs.items) spot (mapped some_value o) r
some_to {X = X} f spot o (Ok xs) some h = ap (mapped some_value) h ∙ ap (λ v. reads v spot.stored spot.pos) (sym (is_some xs.items some))
  where
    is_some : (ys : List X) → 0 < length ys → optional_values f ys ≡ some_value (seq_value (values_by f ys))
    is_some [] none = absurd (omega arith)
    is_some (y ∷ ys) there = refl
some_to f spot o (Err failure) some h = failure_then o (λ r. reads (some_value r.value) r.stored r.next) failure h
