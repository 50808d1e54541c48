-- Variants that rules choose, by the place of the first rule that holds.
use Rattle.std.proofs.Common.{◌≡◌, ℕ, zero, suc, ◌+◌, ◌<◌, arith, Bool, true, false, cond, List, [], ◌∷◌, ◌++◌, codes, position, Option, Some, None}
use Rattle.std.proofs.Common.{Result, Ok, Err, option_map, refl, sym, ap, ◌∙◌, rules}
use Rattle.std.specs.Str.{bytes_eq}
use Rattle.std.proofs.lemmas.Option.{none-some}
use Rattle.std.proofs.lemmas.Slice.Eq.{bytes_eq-Decides}
use Rattle.kmip_ttlv_types.specs.{declared.typ.TtlvType.TtlvType, declared.typ.TtlvType.TheVariants.Enumeration, Names.after_prefix, Places.tag_at}
use Rattle.kmip_ttlv_base.specs.Values.{Value, unit_variant_value}
use Rattle.kmip_ttlv_base.specs.Forms.{Variants, no_variants, variant, unit, wrapped, tuple, enum}
use Rattle.kmip_ttlv_reader.specs.{declared.failure.Failure.Failure, declared.rules.RuleParts.RuleParts, TagValues.TagValue}
use Rattle.kmip_ttlv_reader.specs.{ReadFaults.in_struct, Results.IsFailure}
use Rattle.kmip_ttlv_reader.specs.Reads.{first_named, number_text, is_number_type}
use Rattle.kmip_ttlv_reader.specs.Rules.{chosen, choice, first_by, plain_verdict}
use Rattle.kmip_ttlv_reader.specs.RuleParts.{AreRules, holds}
use Rattle.kmip_ttlv_reader.specs.Steps.{Outcome, gives, ends_early, fails, Read, reads, ◌>>=◌, ◌>>◌}
use Rattle.kmip_ttlv_reader.specs.Outcomes.{outcome, enum_outcome, picked, by_index, variant_outcome, content_outcome, number_outcome, type_there, type_wanted}
use Rattle.kmip_ttlv_reader.specs.Outcomes.{length_there, length_wanted, content_there, unit_wanted, inside}
use Rattle.kmip_ttlv_reader.specs.Spots.{Spot, IsReadTo}
use Rattle.kmip_ttlv_reader.specs.Chosen.{by_place, count_of, held_outcome, unnamed, IsFailed}
use Rattle.kmip_ttlv_reader.proofs.{PartLemmas.is_rule, PartLemmas.said_in_parts, Steps.failure_then}

-- the first place at which a test passes, by the first member
position_step : {X : Type 0} (p : X → Bool) (x : X) (xs : List X) → position p (x ∷ xs) ≡ cond (p x) (Some 0) (option_map suc (position p xs))
position_step p x xs = search rules

-- the first rule that holds chooses
first_choice : (b : Bool) (o : Option ℕ) → first_by (plain_verdict b) (by_place o) ≡ by_place (cond b (Some 0) (option_map suc o))
first_choice true o = refl
first_choice false None = refl
first_choice false (Some place) =
    let more : 1 + place ≡ suc place = omega arith in
    ap chosen more

pub choice_in_parts : (vs : Variants) (rules : List RuleParts) (k : List TagValue) (t : TtlvType) → AreRules vs rules
    → choice vs k t ≡ by_place (position (λ r. holds r k t) rules)
choice_in_parts no_variants [] k t are = refl
choice_in_parts no_variants (r ∷ rs) k t are = absurd are
choice_in_parts (variant name (wrapped s) vs) [] k t are = absurd are
choice_in_parts (variant name (wrapped s) vs) (r ∷ rs) k t are =
    rw (said_in_parts k t name r are.0, choice_in_parts vs rs k t are.1)
    (first_choice (holds r k t) (position (λ q. holds q k t) rs) ∙ ap by_place (sym (position_step (λ q. holds q k t) r rs)))
choice_in_parts (variant name unit vs) rs k t are = absurd are
choice_in_parts (variant name (tuple ss) vs) rs k t are = absurd are

-- the place of a rule is that of a variant
pub place_there : (vs : Variants) (rules : List RuleParts) (test : RuleParts → Bool) (place : ℕ) → AreRules vs rules → position test rules ≡ Some place
    → place < count_of vs
place_there no_variants [] test place are at = absurd (none-some place at)
place_there no_variants (r ∷ rs) test place are at = absurd are
place_there (variant name (wrapped s) vs) [] test place are at = absurd are
place_there (variant name (wrapped s) vs) (r ∷ rs) test place are at =
    by (λ later. place_there vs rs test later are.1) (test r) (position test rs) refl (sym (position_step test r rs) ∙ at)
  where
    by : ((later : ℕ) → position test rs ≡ Some later → later < count_of vs) → (b : Bool) (o : Option ℕ) → position test rs ≡ o
        → cond b (Some 0) (option_map suc o) ≡ Some place
        → place < suc (count_of vs)
    by among true o is e = let first : 0 ≡ place = search rules in omega (arith, first)
    by among false None is e = absurd (none-some place e)
    by among false (Some later) is e =
        let next : suc later ≡ place = search rules in
        let fewer : later < count_of vs = among later is in
        omega (arith, next, fewer)
place_there (variant name unit vs) rs test place are at = absurd are
place_there (variant name (tuple ss) vs) rs test place are at = absurd are

-- the variant at a place reads its one item
pub held_is : (own : List ℕ) (vs : Variants) (rules : List RuleParts) (place : ℕ) (t : TtlvType) (b : List ℕ) (o : ℕ) (k : List TagValue) (p e : ℕ)
    → AreRules vs rules
    → variant_outcome own vs place t b o k p e ≡ held_outcome own vs place b o k p e
unfolding variant_outcome content_outcome
held_is own no_variants rules place t b o k p e are = refl
held_is own (variant name (wrapped s) vs) [] place t b o k p e are = absurd are
held_is own (variant name (wrapped s) vs) (r ∷ rs) zero t b o k p e are = refl
held_is own (variant name (wrapped s) vs) (r ∷ rs) (suc place) t b o k p e are = held_is own vs rs place t b o k p e are.1
held_is own (variant name unit vs) rs place t b o k p e are = absurd are
held_is own (variant name (tuple ss) vs) rs place t b o k p e are = absurd are

-- an enum whose first rule that holds is at a place
pub chosen_at : (own : List ℕ) (vs : Variants) (rules : List RuleParts) (place : ℕ) (t : TtlvType) (b : List ℕ) (o : ℕ) (k : List TagValue) (p e : ℕ)
    → AreRules vs rules
    → type_there b p ≡ gives t
    → position (λ r. holds r k t) rules ≡ Some place
    → outcome (enum own vs) b o k p e ≡ held_outcome own vs place b o k p e
unfolding outcome enum_outcome
chosen_at own vs rules place t b o k p e are typed first =
    rw (typed, choice_in_parts vs rules k t are, first) (held_is own vs rules place t b o k p e are)

-- and one that has no type
pub enum_stops : {A : Type 0} (own : List ℕ) (vs : Variants) (b : List ℕ) (o : ℕ) (k : List TagValue) (p e : ℕ) (r : Failure A)
    → IsFailure (type_there b p) r
    → IsFailure (outcome (enum own vs) b o k p e) r
unfolding outcome enum_outcome
enum_stops own vs b o k p e r h =
    failure_then (type_there b p) (λ t. picked (choice vs k t) b p t >>= λ i. by_index i (variant_outcome own vs) (number_outcome own vs) t b o k p e) r h

-- no number is the name of a rule
not_number : (name content body : List ℕ) → after_prefix (codes "if ") name ≡ Some body → bytes_eq name (number_text content) ≡ false
not_number name content body begins = by (bytes_eq name (number_text content)) refl
  where
    by : (b : Bool) → bytes_eq name (number_text content) ≡ b → b ≡ false
    by false is = refl
    by true is =
        let same : name ≡ number_text content = (bytes_eq-Decides name (number_text content)).0 is in
        absurd (none-some body (ap (after_prefix (codes "if ")) (sym same) ∙ begins))

none_named : (vs : Variants) (rules : List RuleParts) (content : List ℕ) → AreRules vs rules → first_named (number_text content) vs ≡ None
none_named no_variants rules content are = refl
none_named (variant name (wrapped s) vs) [] content are = absurd are
none_named (variant name (wrapped s) vs) (r ∷ rs) content are =
    let begins = is_rule name r are.0 in
    rw (not_number name content begins.0 begins.1) (none_named vs rs content are.1)
none_named (variant name unit vs) rs content are = absurd are
none_named (variant name (tuple ss) vs) rs content are = absurd are

-- where no rule holds, the number names no variant
pub none_holds : (own : List ℕ) (vs : Variants) (rules : List RuleParts) (t : TtlvType) (b : List ℕ) (o : ℕ) (k : List TagValue) (p e : ℕ)
    → AreRules vs rules
    → type_there b p ≡ gives t
    → position (λ r. holds r k t) rules ≡ None
    → outcome (enum own vs) b o k p e ≡ unnamed b o p t
unfolding outcome enum_outcome number_outcome unnamed
none_holds own vs rules t b o k p e are typed none =
    rw (typed, choice_in_parts vs rules k t are, none)
    (ap (λ rest. type_wanted (is_number_type t) Enumeration b p t >> (length_there b p >> (length_wanted b p 4 t (Some 4) >> rest)))
    (by (content_there b p t)))
  where
    by : (c : Outcome (List ℕ × ℕ))
        → (c >>= λ x. unit_wanted b o p t (first_named (number_text x.0) vs) >> (inside b p e t x.1 >> reads (unit_variant_value own (number_text x.0))
        (k ++ record { tag = tag_at b p; text = number_text x.0 } ∷ []) x.1))
        ≡ (c >> fails (in_struct (p + 16) o (codes "unknown variant")))
    by (gives x) = rw (none_named vs rules x.0 are) refl
    by ends_early = refl
    by (fails x) = refl

-- what is no result but a failure is a failure of any reader
pub never_read : {X A : Type 0} (view : X → Value) (spot : Spot) (o : Outcome (Read Value)) (r : Result X (Failure A)) → IsFailed o r → IsReadTo view spot o r
never_read view spot o (Ok x) h = absurd h
never_read view spot o (Err failure) h = h
