-- The items of a sequence, read one after the other as values of a type.
use Rattle.std.proofs.Common.{◌≡◌, ℕ, suc, List, [], ◌∷◌, ◌++◌, refl, ap, sym, true, false, map}
use Rattle.kmip_ttlv_base.specs.Values.{Value, Values, value, values_of}
use Rattle.kmip_ttlv_reader.specs.{declared.failure.Failure.Failure, TagValues.TagValue, Outcomes.run_outcome, Outcomes.goes_on, Results.IsFailure}
use Rattle.kmip_ttlv_reader.specs.Steps.{Outcome, gives, ends_early, fails, Read, reads, Reader, ◌>>=◌}
use Rattle.kmip_ttlv_reader.proofs.Loops.{join, join_nil, with_front}
use Rattle.kmip_ttlv_reader.proofs.Steps.{failure_then}

abbrev put_before : Value → Outcome (Read Values) → Outcome (Read Values)
put_before v o = o >>= λ rs. reads (value v rs.value) rs.stored rs.next

-- one more value at the end of those in front
join_one : {X : Type 0} (f : X → Value) (xs : List X) (x : X) (ws : Values) → join (values_of (map f (xs ++ x ∷ []))) ws ≡ join (values_of (map f xs))
    (value (f x) ws)
join_one f [] x ws = refl
join_one f (y ∷ xs) x ws = ap (value (f y)) (join_one f xs x ws)

front_one : {X : Type 0} (f : X → Value) (xs : List X) (x : X) (o : Outcome (Read Values)) → with_front (values_of (map f xs)) (put_before (f x) o) ≡ with_front
    (values_of (map f (xs ++ x ∷ []))) o
front_one f xs x (gives rs) = ap (λ v. reads v rs.stored rs.next) (sym (join_one f xs x rs.value))
front_one f xs x ends_early = refl
front_one f xs x (fails e) = refl

-- one more item
pub item_step : {X : Type 0} (f : X → Value) (read : Reader Value) (n first : ℕ) (xs : List X) (x : X) (b : List ℕ) (o : ℕ) (k k' : List TagValue) (p q e : ℕ)
    → goes_on b first p e ≡ gives true
    → read b o k p e ≡ reads (f x) k' q
    → with_front (values_of (map f xs)) (run_outcome (suc n) read first b o k p e) ≡ with_front (values_of (map f (xs ++ x ∷ [])))
    (run_outcome n read first b o k' q e)
unfolding run_outcome
item_step f read n first xs x b o k k' p q e more h = rw (more, h) (front_one f xs x (run_outcome n read first b o k' q e))

-- an item with a fault
pub item_fails : {A : Type 0} (vs : Values) (read : Reader Value) (n first : ℕ) (b : List ℕ) (o : ℕ) (k : List TagValue) (p e : ℕ) (r : Failure A)
    → goes_on b first p e ≡ gives true
    → IsFailure (read b o k p e) r
    → IsFailure (with_front vs (run_outcome (suc n) read first b o k p e)) r
unfolding run_outcome
item_fails vs read n first b o k p e r more h =
    let after : Read Value → Outcome (Read Values) = λ v. put_before v.value (run_outcome n read first b o v.stored v.next e) in
    rw more (failure_then (read b o k p e >>= after) _ r (failure_then (read b o k p e) after r h))

-- the next item has no type
pub item_stops : {A : Type 0} (vs : Values) (read : Reader Value) (n first : ℕ) (b : List ℕ) (o : ℕ) (k : List TagValue) (p e : ℕ) (r : Failure A)
    → IsFailure (goes_on b first p e) r
    → IsFailure (with_front vs (run_outcome (suc n) read first b o k p e)) r
unfolding run_outcome
item_stops vs read n first b o k p e r h = failure_then _ _ r (failure_then (goes_on b first p e) _ r h)

-- no more items
pub items_done : (vs : Values) (read : Reader Value) (n first : ℕ) (b : List ℕ) (o : ℕ) (k : List TagValue) (p e : ℕ)
    → goes_on b first p e ≡ gives false
    → with_front vs (run_outcome (suc n) read first b o k p e) ≡ reads vs k p
unfolding run_outcome
items_done vs read n first b o k p e none = rw none (ap (λ v. reads v k p) (join_nil vs))
