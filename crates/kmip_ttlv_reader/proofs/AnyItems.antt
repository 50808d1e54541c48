-- Items of any tags and types, one after the other.
use Rattle.std.proofs.Common.{◌≡◌, ℕ, zero, suc, ◌-◌, ◌<◌, List, Bool, true, false, length, nat_lt, refl, ◌∙◌, arith, if◌then◌else◌}
use Rattle.std.proofs.lemmas.Bool.{le-ltb}
use Rattle.kmip_ttlv_types.specs.{declared.typ.TtlvType.TtlvType, declared.typ.TtlvType.TheVariants.Structure, ItemTypes.is_structure}
use Rattle.kmip_ttlv_types.specs.contracts.typ.TtlvType.{the_type}
use denote.Enum.Bare.{sameb}
use Rattle.kmip_ttlv_base.specs.Values.{Value, Values, no_values, value}
use Rattle.kmip_ttlv_reader.specs.{declared.failure.Failure.Failure, ReadFaults.too_deep, Results.IsFailure}
use Rattle.kmip_ttlv_base.specs.Forms.{any_items}
use Rattle.kmip_ttlv_reader.specs.{Reads.most_levels, TagValues.TagValue}
use Rattle.kmip_ttlv_reader.specs.Steps.{Outcome, gives, ends_early, fails, reads, ◌>>=◌}
use Rattle.kmip_ttlv_reader.specs.Outcomes.{ItemReader, all_outcome, any_leaf_outcome, any_outcome, each_outcome, fields_outcome, ignored, node_outcome}
use Rattle.kmip_ttlv_reader.specs.Outcomes.{rest_outcome, type_there}
use Rattle.kmip_ttlv_reader.proofs.Steps.{failure_then}

-- what items come to where these are known: others may be in front
abbrev pub With : Outcome Values → (Values → Values) → Outcome Values → Type 0
With o front rest = o ≡ (rest >>= λ vs. gives (front vs))

pub all_front : (o : Outcome Values) → With o (λ vs. vs) o
all_front (gives x) = refl
all_front ends_early = refl
all_front (fails x) = refl

twice : (o : Outcome Values) (f g : Values → Values) → ((o >>= λ vs. gives (f vs)) >>= λ vs. gives (g vs)) ≡ (o >>= λ vs. gives (g (f vs)))
twice (gives x) f g = refl
twice ends_early f g = refl
twice (fails x) f g = refl

-- one more item
pub one_more : {o : Outcome Values} (front : Values → Values) (read : ItemReader) (b : List ℕ) (p e q : ℕ) (v : Value) (n : ℕ)
    → With o front (each_outcome (suc n) read b p e)
    → nat_lt p e ≡ true
    → read b p e ≡ gives (v, q)
    → With o (λ vs. front (value v vs)) (each_outcome n read b q e)
unfolding each_outcome
one_more front read b p e q v n is lt one = is ∙ rw (lt, one) (twice (each_outcome n read b q e) (value v) front)

-- one with a fault
pub one_fails : {A : Type 0} {o : Outcome Values} (front : Values → Values) (read : ItemReader) (b : List ℕ) (p e : ℕ) (n : ℕ) (r : Failure A)
    → With o front (each_outcome (suc n) read b p e)
    → nat_lt p e ≡ true
    → IsFailure (read b p e) r
    → IsFailure o r
unfolding each_outcome
one_fails front read b p e n r is lt one =
    rw (is, lt) (failure_then _ (λ vs. gives (front vs)) r (failure_then (read b p e) (λ x. each_outcome n read b x.1 e >>= λ vs. gives (value x.0 vs)) r one))

-- none is left
pub none_more : {o : Outcome Values} (front : Values → Values) (read : ItemReader) (b : List ℕ) (p e : ℕ) (n : ℕ)
    → With o front (each_outcome (suc n) read b p e)
    → nat_lt p e ≡ false
    → o ≡ gives (front no_values)
unfolding each_outcome
none_more front read b p e n is over = is ∙ rw over refl

-- ---- one item

-- what `typ == TtlvType::Structure` says
pub is_same : (t : TtlvType) → true ≡ sameb the_type t Structure → is_structure t ≡ true
is_same Structure e = refl
is_same t e = absurd cc

pub is_other : (t : TtlvType) → false ≡ sameb the_type t Structure → is_structure t ≡ false
is_other Structure e = absurd cc
is_other t e = refl

pub any_is_structure : (levels : ℕ) (b : List ℕ) (p e : ℕ) (t : TtlvType) → 0 < levels → type_there b p ≡ gives t
    → true ≡ sameb the_type t Structure
    → any_outcome levels b p e ≡ node_outcome (any_outcome (levels - 1)) b p e
unfolding any_outcome
any_is_structure zero b p e t lt typ is = absurd (omega arith)
any_is_structure (suc d) b p e t lt typ is = let same : suc d - 1 ≡ d = omega arith in rw (same, typ, is_same t is) refl

pub any_is_leaf : (levels : ℕ) (b : List ℕ) (p e : ℕ) (t : TtlvType) → 0 < levels → type_there b p ≡ gives t
    → false ≡ sameb the_type t Structure
    → any_outcome levels b p e ≡ any_leaf_outcome t b p e
unfolding any_outcome
any_is_leaf zero b p e t lt typ differs = absurd (omega arith)
any_is_leaf (suc d) b p e t lt typ differs = rw (typ, is_other t differs) refl

pub any_is_deep : (levels : ℕ) (b : List ℕ) (p e : ℕ) (t : TtlvType) → levels ≡ 0 → type_there b p ≡ gives t
    → any_outcome levels b p e ≡ fails (too_deep b p t)
unfolding any_outcome
any_is_deep zero b p e t none typ = rw typ refl
any_is_deep (suc d) b p e t none typ = absurd (omega arith)

pub any_untyped : {A : Type 0} (levels : ℕ) (b : List ℕ) (p e : ℕ) (r : Failure A) → IsFailure (type_there b p) r → IsFailure (any_outcome levels b p e) r
unfolding any_outcome
any_untyped zero b p e r h = failure_then (type_there b p) (λ t. fails (too_deep b p t)) r h
any_untyped (suc d) b p e r h =
    failure_then (type_there b p) (λ t. if is_structure t then node_outcome (any_outcome d) b p e else any_leaf_outcome t b p e) r h

-- ---- a structure of such items

over : (n : ℕ) → nat_lt n n ≡ false
over n = le-ltb n n (omega arith)

-- all that it contains: nothing follows them
pub all_any_items : (deny : Bool) (b : List ℕ) (o : ℕ) (k : List TagValue) (p e : ℕ)
    → all_outcome any_items deny (fields_outcome any_items) b o k p e
    ≡ (each_outcome (suc (length b)) (any_outcome most_levels) b p e >>= λ vs. reads vs k e)
unfolding all_outcome fields_outcome rest_outcome
all_any_items deny b o k p e = by_items (each_outcome (suc (length b)) (any_outcome most_levels) b p e)
  where
    by_items : (x : Outcome Values)
        → ((x >>= λ vs. reads vs k e) >>= λ rs. (if nat_lt rs.next e then (ignored any_items deny b o rs.next e >>= λ q.
        rest_outcome (length b) any_items deny b o q e) else gives rs.next) >>= λ q. reads rs.value rs.stored q)
        ≡ (x >>= λ vs. reads vs k e)
    by_items (gives vs) = rw (over e) refl
    by_items ends_early = refl
    by_items (fails f) = refl
