-- What stands where an item of any tag and type is read.
use Rattle.std.proofs.Common.{◌≡◌, ℕ, zero, suc, ◌+◌, ◌-◌, ◌<◌, ◌≤◌, List, Bool, true, false, length, nat_lt, Option, Some, None, refl, ap, sym, ◌∙◌, subst}
use Rattle.std.proofs.Common.{arith, if◌then◌else◌}
use Rattle.std.proofs.lemmas.Bool.{false≢true, ltb-false}
use Rattle.kmip_ttlv_types.specs.{declared.typ.TtlvType.TtlvType, declared.typ.TtlvType.TheVariants.Structure, ItemTypes.is_structure, ItemTypes.type_of}
use Rattle.kmip_ttlv_types.specs.{Digits.tag_text, Leaves.is_valid, Places.code_at, Places.length_at, Places.tag_at}
use Rattle.kmip_ttlv_base.specs.Values.{Value, Values, no_values, struct_value}
use Rattle.kmip_ttlv_reader.specs.Reads.{is_full, leaf_under}
use Rattle.kmip_ttlv_reader.specs.Steps.{Outcome, gives, ends_early, fails}
use Rattle.kmip_ttlv_reader.specs.Outcomes.{ItemReader, any_leaf_outcome, any_outcome, each_outcome, node_outcome, type_there, typed}
use Rattle.kmip_ttlv_reader.proofs.Onward.{ContentAt, Onward, content_is, early, failed, given, given_has, inside_is, length_is, must_is, on_if, on_map}
use Rattle.kmip_ttlv_reader.proofs.Onward.{on_then}
use Rattle.kmip_ttlv_reader.proofs.{AnyItems.With, Onward.on_within}

-- what an outcome gives is what it gives
itself : {A : Type 0} (o : Outcome A) → Onward (Unit {0}) (λ x. o ≡ gives x) o
itself (gives x) = given refl
itself ends_early = early tt
itself (fails x) = failed

-- a leaf: its content, which is valid
pub record LeafThere (b : List ℕ) (p : ℕ) (t : TtlvType) (x : Value × ℕ) : Type 0 where
  pub content : List ℕ
  pub at : ContentAt b p t content x.1
  pub valid : is_valid t content ≡ true
  pub is : x.0 ≡ leaf_under (tag_at b p) t content

leaf_steps : (b : List ℕ) (p e : ℕ) (t : TtlvType) → Onward (Unit {0}) (LeafThere b p t) (any_leaf_outcome t b p e)
unfolding any_leaf_outcome
leaf_steps b p e t = on_then (content_is b p t (λ _. tt)) (λ c at.
    on_then (must_is (is_full t c.0) _) (λ _ _.
    on_then (inside_is b p e t c.1) (λ _ _. given record { content = c.0; at = at.0; valid = at.1; is = refl })))

pub leaf_there : (b : List ℕ) (p e : ℕ) (t : TtlvType) (x : Value × ℕ) → any_leaf_outcome t b p e ≡ gives x → LeafThere b p t x
leaf_there b p e t x is = given_has x (leaf_steps b p e t) is

-- a structure: its items, which end with it
pub record NodeThere (read : ItemReader) (b : List ℕ) (p : ℕ) (x : Value × ℕ) : Type 0 where
  pub there : p + 8 ≤ length b
  pub items : Values
  pub are : each_outcome (suc (length b)) read b (p + 8) (p + 8 + length_at b p) ≡ gives items
  pub value_is : x.0 ≡ struct_value (tag_text (tag_at b p)) items
  pub next_is : x.1 ≡ p + 8 + length_at b p

node_steps : (read : ItemReader) (b : List ℕ) (p e : ℕ) → Onward (Unit {0}) (NodeThere read b p) (node_outcome read b p e)
unfolding node_outcome
node_steps read b p e = on_then (length_is b p (λ _. tt)) (λ n len.
    on_then (on_within (tag_at b p) (itself (each_outcome (suc (length b)) read b (p + 8) (p + 8 + n)))) (λ vs is.
    on_then (inside_is b p e Structure (p + 8 + n)) (λ _ _. given record {
      there = len.1;
      items = vs;
      are = subst (λ m. each_outcome (suc (length b)) read b (p + 8) (p + 8 + m) ≡ gives vs) len.0 is;
      value_is = refl;
      next_is = ap (λ m. p + 8 + m) len.0;
    })))

pub node_there : (read : ItemReader) (b : List ℕ) (p e : ℕ) (x : Value × ℕ) → node_outcome read b p e ≡ gives x → NodeThere read b p x
node_there read b p e x is = given_has x (node_steps read b p e) is

type_back : (b : List ℕ) (p : ℕ) (t : TtlvType) → type_there b p ≡ gives t → (p + 4 ≤ length b) × (type_of (code_at b p) ≡ Some t)
unfolding type_there
type_back b p t is = by_test (nat_lt (length b) (p + 4)) refl is
  where
    by_code : (o : Option TtlvType) → typed b p o ≡ gives t → o ≡ Some t
    by_code (Some u) e = let same : u ≡ t = cc in ap Some same
    by_code None e = absurd cc

    by_test : (x : Bool) → nat_lt (length b) (p + 4) ≡ x → (if x then ends_early else typed b p (type_of (code_at b p))) ≡ gives t
        → (p + 4 ≤ length b) × (type_of (code_at b p) ≡ Some t)
    by_test true short e = absurd cc
    by_test false long e = (ltb-false _ _ long, by_code (type_of (code_at b p)) e)

-- an item: its type, and what stands there by it
pub record ItemThere (levels : ℕ) (b : List ℕ) (p e : ℕ) (x : Value × ℕ) : Type 0 where
  pub some : 0 < levels
  pub there : p + 4 ≤ length b
  pub typ : TtlvType
  pub type_is : type_of (code_at b p) ≡ Some typ
  pub structure : is_structure typ ≡ true → node_outcome (any_outcome (levels - 1)) b p e ≡ gives x
  pub leaf : is_structure typ ≡ false → any_leaf_outcome typ b p e ≡ gives x

pub item_there : (levels : ℕ) (b : List ℕ) (p e : ℕ) (x : Value × ℕ) → any_outcome levels b p e ≡ gives x → ItemThere levels b p e x
unfolding any_outcome
item_there zero b p e x is = absurd (given_has {P = λ _. ⊥} x (on_then (itself (type_there b p)) (λ t _. failed)) is)
item_there (suc d) b p e x is = given_has {P = ItemThere (suc d) b p e} x (on_then (itself (type_there b p)) (λ t typ.
    let back = type_back b p t typ in
    let same : suc d - 1 ≡ d = omega arith in
    on_if (is_structure t) _ _ (λ yes. on_map (λ _. tt) (λ y it. record {
      some = omega arith;
      there = back.0;
      typ = t;
      type_is = back.1;
      structure = λ _. subst (λ n. node_outcome (any_outcome n) b p e ≡ gives y) (sym same) it;
      leaf = λ plain. absurd (false≢true (sym plain ∙ yes));
    }) (itself (node_outcome (any_outcome d) b p e)))
    (λ plain. on_map (λ _. tt) (λ y it. record {
      some = omega arith;
      there = back.0;
      typ = t;
      type_is = back.1;
      structure = λ yes. absurd (false≢true (sym plain ∙ yes));
      leaf = λ _. it;
    }) (itself (any_leaf_outcome t b p e))))) is

-- ---- items one after the other

-- where items are read and there are more, the next is
pub next_there : (n : ℕ) (read : ItemReader) (b : List ℕ) (p e : ℕ) (vs : Values) → each_outcome n read b p e ≡ gives vs → nat_lt p e ≡ true
    → (m : ℕ) × (x : Value × ℕ) × (n ≡ suc m) × (read b p e ≡ gives x)
unfolding each_outcome
next_there zero read b p e vs is lt = absurd cc
next_there (suc n) read b p e vs is lt =
    let x = given_has {P = λ _. (x : Value × ℕ) × (read b p e ≡ gives x)} vs (on_then (itself (read b p e))
    (λ x one. on_map {P = λ _. Unit {0}} (λ _. tt) (λ _ _. (x, one)) (on_then (itself (each_outcome n read b x.1 e)) (λ _ _. given tt))))
    (rw lt at is) in
    (n, x.0, refl, x.1)

-- where none follows, there are no values
pub none_there : (n : ℕ) (read : ItemReader) (b : List ℕ) (p e : ℕ) (vs : Values) → each_outcome n read b p e ≡ gives vs → nat_lt p e ≡ false
    → vs ≡ no_values
unfolding each_outcome
none_there zero read b p e vs is over = absurd cc
none_there (suc n) read b p e vs is over = let e : gives no_values ≡ gives vs = rw over at is in cc

-- what is behind others is read where all are
pub behind_there : (o rest : Outcome Values) (front : Values → Values) (vs : Values) → With o front rest → o ≡ gives vs
    → (behind : Values) × (rest ≡ gives behind) × (vs ≡ front behind)
behind_there o (gives x) front vs with is = (x, refl, (let e : gives vs ≡ gives (front x) = sym is ∙ with in cc))
behind_there o ends_early front vs with is = absurd (let e : ◌≡◌ {A = Outcome Values} (gives vs) ends_early = sym is ∙ with in cc)
behind_there o (fails x) front vs with is = absurd (let e : ◌≡◌ {A = Outcome Values} (gives vs) (fails x) = sym is ∙ with in cc)
