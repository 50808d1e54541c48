-- What a step of reading gives, and when it ends early: said once for each step, whatever an early end would mean.
use Rattle.std.proofs.Common.{◌≡◌, ◌==◌, ◌||◌, ℕ, ◌+◌, ◌<◌, ◌≤◌, List, Bool, true, false, length, take, drop, nat_lt, Option, Some, None, refl, ap, sym, ◌∙◌}
use Rattle.std.proofs.Common.{subst, arith, if◌then◌else◌}
use Rattle.std.proofs.lemmas.Bool.{ltb-false, ltb-true, eqb-true}
use Rattle.kmip_ttlv_types.specs.{declared.typ.TtlvType.TtlvType, Leaves.is_valid, Names.tag_of}
use Rattle.kmip_ttlv_types.specs.declared.typ.TtlvType.TheVariants.{BigInteger, Boolean, ByteString, DateTime, Enumeration, Integer, Interval, LongInteger}
use Rattle.kmip_ttlv_types.specs.declared.typ.TtlvType.TheVariants.{Structure, TextString}
use Rattle.kmip_ttlv_types.specs.ItemTypes.{code, fixed_length, is_structure, type_of}
use Rattle.kmip_ttlv_types.specs.Places.{code_at, length_at, size, tag_at}
use Rattle.kmip_ttlv_reader.specs.Outcomes.{content_there, end_there, inside, item_end, length_there, length_wanted, opened, structure_wanted, tag_wanted}
use Rattle.kmip_ttlv_reader.specs.Outcomes.{tagged, type_there, type_wanted, typed}
use Rattle.kmip_ttlv_reader.specs.Reads.{has_tag}
use Rattle.kmip_ttlv_reader.specs.Steps.{Fault, Outcome, ends_early, fails, gives, must, must_not, within, ◌>>=◌}

-- what is given has a property, and an early end would mean E
pub data Onward {A : Type 0} (E : Type 0) (P : A → Type 0) : Outcome A → Type 0 where
  early : E → Onward E P ends_early
  given : {x : A} → P x → Onward E P (gives x)
  failed : {f : Fault} → Onward E P (fails f)

pub on_then : {A B : Type 0} {E : Type 0} {P : A → Type 0} {Q : B → Type 0} {o : Outcome A} {f : A → Outcome B} → Onward E P o
    → ((x : A) → P x → Onward E Q (f x)) → Onward E Q (o >>= f)
on_then (early h) more = early h
on_then (given h) more = more _ h
on_then failed more = failed

-- what holds of it holds where less is said
pub on_map : {A : Type 0} {E F : Type 0} {P Q : A → Type 0} {o : Outcome A} → (E → F) → ((x : A) → P x → Q x) → Onward E P o → Onward F Q o
on_map f g (early h) = early (f h)
on_map f g (given h) = given (g _ h)
on_map f g failed = failed

pub on_early : {A : Type 0} {E F : Type 0} {P : A → Type 0} {o : Outcome A} → (E → F) → Onward E P o → Onward F P o
on_early f h = on_map f (λ _ x. x) h

pub on_within : {A : Type 0} {E : Type 0} {P : A → Type 0} {o : Outcome A} (t : ℕ) → Onward E P o → Onward E P (within t o)
on_within t (early h) = early h
on_within t (given h) = given h
on_within t failed = failed

-- either branch of a test
pub on_if : {A : Type 0} {E : Type 0} {P : A → Type 0} (t : Bool) (x y : Outcome A) → (t ≡ true → Onward E P x) → (t ≡ false → Onward E P y)
    → Onward E P (if t then x else y)
on_if true x y f g = f refl
on_if false x y f g = g refl

pub given_has : {A : Type 0} {E : Type 0} {P : A → Type 0} {o : Outcome A} (x : A) → Onward E P o → o ≡ gives x → P x
given_has {P = P} x (given {x = y} h) e = let same : y ≡ x = cc in subst P same h
given_has x (early h) e = absurd cc
given_has x failed e = absurd cc

pub early_has : {A : Type 0} {E : Type 0} {P : A → Type 0} {o : Outcome A} → Onward E P o → o ≡ ends_early → E
early_has (early h) e = h
early_has (given h) e = absurd cc
early_has failed e = absurd cc

pub must_is : {E : Type 0} (test : Bool) (f : Fault) → Onward E (λ _. test ≡ true) (must test (fails f))
must_is true f = given refl
must_is false f = failed

pub must_not_is : {E : Type 0} (test : Bool) (f : Fault) → Onward E (λ _. test ≡ false) (must_not test (fails f))
must_not_is true f = failed
must_not_is false f = given refl

-- so many bytes are there, or it ends early
on_bytes : {A : Type 0} {E : Type 0} {P : A → Type 0} (b : List ℕ) (n : ℕ) (o : Outcome A) → (length b < n → E) → (n ≤ length b → Onward E P o)
    → Onward E P (if nat_lt (length b) n then ends_early else o)
on_bytes b n o cut more = on_if (nat_lt (length b) n) ends_early o (λ short. early (cut (ltb-true _ _ short))) (λ long. more (ltb-false _ _ long))

-- ---- an item's header

-- one more code
coded : (n m : ℕ) (u : TtlvType) (o : Option TtlvType) → code u ≡ m → ((t : TtlvType) → o ≡ Some t → code t ≡ n) → (t : TtlvType)
    → (if n == m then Some u else o) ≡ Some t → code t ≡ n
coded n m u o is more t e = by_test (n == m) refl e
  where
    by_test : (x : Bool) → (n == m) ≡ x → (if x then Some u else o) ≡ Some t → code t ≡ n
    by_test true same e = let k : u ≡ t = cc in ap code (sym k) ∙ is ∙ sym (eqb-true n m same)
    by_test false same e = more t e

-- the code of the type that a code is
code-type_of : (n : ℕ) (t : TtlvType) → type_of n ≡ Some t → code t ≡ n
code-type_of n =
    coded n 1 Structure _ refl (coded n 2 Integer _ refl (coded n 3 LongInteger _ refl (coded n 4 BigInteger _ refl (
    coded n 5 Enumeration _ refl (coded n 6 Boolean _ refl (coded n 7 TextString _ refl (coded n 8 ByteString _ refl (
    coded n 9 DateTime _ refl (coded n 10 Interval _ refl (λ t e. absurd cc))))))))))

typed_is : {E : Type 0} (b : List ℕ) (p : ℕ) (o : Option TtlvType) → Onward E (λ t. o ≡ Some t) (typed b p o)
typed_is b p (Some t) = given refl
typed_is b p None = failed

pub type_is : {E : Type 0} (b : List ℕ) (p : ℕ) → (length b < p + 8 → E) → Onward E (λ t. code t ≡ code_at b p) (type_there b p)
unfolding type_there
type_is b p cut = on_bytes b (p + 4) _ (λ short. cut (omega arith)) (λ _. on_map (λ x. x) (code-type_of (code_at b p)) (typed_is b p (type_of (code_at b p))))

tagged_is : {E : Type 0} (name b : List ℕ) (p : ℕ) (t : TtlvType) (o : Option ℕ) → Onward E (λ _. (n : ℕ) × (o ≡ Some n) × ((n == tag_at b p) ≡ true))
    (tagged name b p t o)
tagged_is name b p t None = failed
tagged_is name b p t (Some n) = on_map (λ x. x) (λ _ is. (n, refl, is)) (must_is (n == tag_at b p) _)

pub tag_is : {E : Type 0} (name b : List ℕ) (p : ℕ) (t : TtlvType) → Onward E (λ _. has_tag name (tag_at b p) ≡ true) (tag_wanted name b p t)
unfolding tag_wanted
tag_is name b p t = on_map (λ x. x) (λ _ h. rw h.1 h.2) (tagged_is name b p t (tag_of name))

pub is_structure_is : (t : TtlvType) → is_structure t ≡ true → t ≡ Structure
is_structure_is Structure e = refl
is_structure_is _ e = absurd cc

pub structure_is : {E : Type 0} (b : List ℕ) (p : ℕ) (t : TtlvType) → Onward E (λ _. t ≡ Structure) (structure_wanted b p t)
unfolding structure_wanted
structure_is b p t = on_map (λ x. x) (λ _ is. is_structure_is t is) (must_is (is_structure t) _)

pub length_is : {E : Type 0} (b : List ℕ) (p : ℕ) → (length b < p + 8 → E) → Onward E (λ n. (n ≡ length_at b p) × (p + 8 ≤ length b)) (length_there b p)
unfolding length_there
length_is b p cut = on_bytes b (p + 8) _ cut (λ long. given (refl, long))

pub inside_is : {E : Type 0} (b : List ℕ) (p e : ℕ) (t : TtlvType) (q : ℕ) → Onward E (λ _. q ≤ e) (inside b p e t q)
unfolding inside
inside_is b p e t q = on_map (λ x. x) (λ _ past. ltb-false _ _ past) (must_not_is (nat_lt e q) _)

pub wanted_is : {E : Type 0} (test : Bool) (w : TtlvType) (b : List ℕ) (p : ℕ) (t : TtlvType) → Onward E (λ _. test ≡ true) (type_wanted test w b p t)
unfolding type_wanted
wanted_is test w b p t = must_is test _

pub sized_is : {E : Type 0} (b : List ℕ) (p after : ℕ) (t : TtlvType) (o : Option ℕ) → Onward E (λ _. Unit {0}) (length_wanted b p after t o)
sized_is b p after t None = given tt
sized_is b p after t (Some w) = on_map (λ x. x) (λ _ _. tt) (must_is (length_at b p == w) _)

-- ---- an item's content

-- what the item at p contains, by its length
abbrev pub content_at : List ℕ → ℕ → List ℕ
content_at b p = take (length_at b p) (drop (p + 8) b)

-- the content of the item at p, of this type, and the place behind it
pub record ContentAt (b : List ℕ) (p : ℕ) (t : TtlvType) (c : List ℕ) (q : ℕ) : Type 0 where
  pub content : c ≡ content_at b p
  pub behind : q ≡ p + size t (length_at b p)
  pub there : p + size t (length_at b p) ≤ length b

-- a place behind the padding of a length that was read
end_is : {E : Type 0} (b : List ℕ) (p : ℕ) (t : TtlvType) (n : ℕ) → n ≡ length_at b p → (length b < p + size t (length_at b p) → E)
    → Onward E (ContentAt b p t (take n (drop (p + 8) b))) (end_there b p t n)
unfolding end_there
end_is b p t n len cut =
    let same : p + size t n ≡ p + size t (length_at b p) = ap (λ (m : ℕ). p + size t m) len in
    on_bytes b (p + size t n) _ (λ short. cut (omega (arith, same))) (λ long. given record {
      content = ap (λ (m : ℕ). take m (drop (p + 8) b)) len;
      behind = same;
      there = omega (arith, same);
    })

pub content_is : {E : Type 0} (b : List ℕ) (p : ℕ) (t : TtlvType) → (length b < p + size t (length_at b p) → E)
    → Onward E (λ c. ContentAt b p t c.0 c.1 × (is_valid t c.0 ≡ true)) (content_there b p t)
unfolding content_there
content_is b p t cut = on_then (length_is b p (λ short. cut (omega arith))) (λ n len.
    on_then (sized_is b p 8 t (fixed_length t)) (λ _ _.
    on_then {P = λ _. Unit {0}} (on_bytes b (p + 8 + n) _ (λ short. cut (omega (arith, len.0))) (λ _. given tt)) (λ _ _.
    on_then (must_is (is_valid t (take n (drop (p + 8) b))) _) (λ _ valid.
    on_then (end_is b p t n len.0 cut) (λ q at. given (at, valid))))))

-- a structure's item, from its header
pub record StructureAt (b : List ℕ) (p stop : ℕ) : Type 0 where
  pub typ : code Structure ≡ code_at b p
  pub content_there : p + 8 ≤ length b
  pub stops : stop ≡ p + 8 + length_at b p

pub opened_is : {E : Type 0} (name b : List ℕ) (p : ℕ) → (length b < p + 8 → E) → Onward E (λ stop. (has_tag name (tag_at b p) ≡ true) × StructureAt b p stop)
    (opened name b p)
unfolding opened
opened_is name b p cut = on_then (type_is b p cut) (λ t typ. on_then (tag_is name b p t) (λ _ named_so.
    on_then (structure_is b p t) (λ _ is.
    on_then (length_is b p cut) (λ n len. given (
      named_so,
      record {
        typ = ap code (sym is) ∙ typ;
        content_there = len.1;
        stops = ap (λ (m : ℕ). p + 8 + m) len.0;
      },
    )))))

-- an item that is passed over: a leaf's content is valid
pub item_end_is : {E : Type 0} (b : List ℕ) (p : ℕ) (t : TtlvType) → (length b < p + size t (length_at b p) → E)
    → Onward E (λ q. ContentAt b p t (content_at b p) q × ((is_structure t || is_valid t (content_at b p)) ≡ true)) (item_end b p t)
unfolding item_end
item_end_is b p t cut = on_if (is_structure t) _ _ (λ yes. on_then (length_is b p (λ short. cut (omega arith)))
    (λ n len. on_map (λ x. x) (λ q at. (record { content = refl; behind = at.behind; there = at.there }, rw yes refl)) (end_is b p t n len.0 cut)))
    (λ plain. on_then (content_is b p t cut) (λ c at. given (
      record { content = refl; behind = at.0.behind; there = at.0.there },
      rw plain (subst (λ (x : List ℕ). is_valid t x ≡ true) at.0.content at.1),
    )))
