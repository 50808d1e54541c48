-- A value stands whatever bytes follow, and so does an error other than an early end.
use Rattle.std.proofs.Common.{◌≡◌, ◌==◌, ℕ, zero, suc, ◌+◌, ◌≤◌, List, [], ◌++◌, Bool, true, false, length, nat_lt, refl, ap, ◌∙◌, arith, if◌then◌else◌, take}
use Rattle.std.proofs.Common.{drop, Option, Some, None}
use Rattle.std.proofs.lemmas.Bool.{ltb-false, le-ltb, false_from_ne_true}
use Rattle.std.proofs.lemmas.List.{get_or_append_left, length-append, take-append-le, drop-append-le, length-drop}
use Rattle.kmip_ttlv_types.specs.{declared.typ.TtlvType.TtlvType, Leaves.is_valid, Names.tag_of}
use Rattle.kmip_ttlv_types.specs.Places.{tag_at, code_at, length_at, size}
use Rattle.kmip_ttlv_types.specs.ItemTypes.{type_of, fixed_length, is_structure}
use Rattle.kmip_ttlv_base.specs.Forms.{Form, Fields, Variants, Content, Forms, struct, option, seq, newtype, enum, no_fields, field, any_items, no_variants}
use Rattle.kmip_ttlv_base.specs.Forms.{variant, unit}
use Rattle.kmip_ttlv_base.specs.Forms.{wrapped, tuple, no_forms, form}
use Rattle.kmip_ttlv_base.specs.Values.{Value, Values}
use Rattle.kmip_ttlv_reader.specs.{TagValues.TagValue, ReadLaws.Stands}
use Rattle.kmip_ttlv_reader.specs.Rules.{Choice, choice_invalid, choice}
use Rattle.kmip_ttlv_reader.specs.Reads.{is_option, is_struct, is_number_type, has_tag, most_levels, names_tag, has_fields, takes, first_named, number_text}
use Rattle.kmip_ttlv_reader.specs.Steps.{Outcome, gives, ends_early, fails, Reader, ◌>>=◌, must, must_not, within}
use Rattle.kmip_ttlv_reader.specs.Outcomes.{type_there, typed, tag_wanted, tagged, length_there, structure_wanted, inside, end_there, length_wanted}
use Rattle.kmip_ttlv_reader.specs.Outcomes.{content_there, type_wanted, leaf_outcome, opened, item_end, ignored, rest_outcome, all_outcome, struct_outcome}
use Rattle.kmip_ttlv_reader.specs.Outcomes.{field_outcome, goes_on, run_outcome, seq_outcome, outcome, fields_outcome, forms_outcome, variant_outcome}
use Rattle.kmip_ttlv_reader.specs.Outcomes.{content_outcome, picked, by_index, unit_wanted, number_outcome, tuple_outcome, part_outcome, enum_outcome}
use Rattle.kmip_ttlv_reader.specs.Outcomes.{named_first, first_outcome, root_outcome, any_leaf_outcome, any_outcome, each_outcome, ItemReader, node_outcome}

-- ---- steps

-- an outcome that the same bytes and more come to as well
record Still {A : Type 0} (o p : Outcome A) : Type 0 where
  stands : Stands o p

still : {A : Type 0} {o p : Outcome A} → p ≡ o → Still o p
still {o = ends_early} e = record { stands = tt }
still e = record { stands = e }

bind : {A B : Type 0} {o p : Outcome A} {f g : A → Outcome B} → Still o p → ((x : A) → o ≡ gives x → Still (f x) (g x)) → Still (o >>= f) (p >>= g)
bind {o = ends_early} h more = record { stands = tt }
bind {o = gives x} h more = rw h.stands (more x refl)
bind {o = fails x} {g = g} h more = record { stands = ap (λ o. o >>= g) h.stands }

-- a step that is the same, and what follows
after : {A B : Type 0} (o : Outcome A) {f g : A → Outcome B} → ((x : A) → Still (f x) (g x)) → Still (o >>= f) (o >>= g)
after o more = bind (still {o = o} refl) (λ x _. more x)

within_still : {A : Type 0} {o p : Outcome A} (t : ℕ) → Still o p → Still (within t o) (within t p)
within_still {o = ends_early} t h = record { stands = tt }
within_still t h = still (ap (within t) h.stands)

either : {A : Type 0} (t : Bool) {x u y v : Outcome A} → Still x u → Still y v → Still (if t then x else y) (if t then u else v)
either true h i = h
either false h i = i

-- a place that is there is there among more bytes
there : {A : Type 0} {o p : Outcome A} (b c : List ℕ) (n : ℕ) → (n ≤ length b → Still o p) → Still (if nat_lt (length b) n then ends_early else o)
    (if nat_lt (length (b ++ c)) n then ends_early else p)
there {o = o} {p = p} b c n h =
    elim (nat_lt (length b) n) as (λ t. nat_lt (length b) n ≡ t → Still (if t then ends_early else o) (if nat_lt (length (b ++ c)) n then ends_early else p)) [
      | true ↦ λ e. record { stands = tt }
      | false ↦ λ e. let le : n ≤ length b = ltb-false _ _ e in rw (le-ltb (length (b ++ c)) n (omega (arith, length-append b c, le))) (h le)
    ] refl

past_test : {A : Type 0} (t : Bool) (o : Outcome A) (x : A) → (if t then ends_early else o) ≡ gives x → (t ≡ false) × (o ≡ gives x)
past_test true o x e = absurd cc
past_test false o x e = (refl, e)

-- ---- what more bytes leave as it was

code_more : (b c : List ℕ) (p : ℕ) → p + 4 ≤ length b → code_at (b ++ c) p ≡ code_at b p
code_more b c p le = get_or_append_left b c 0 (p + 3) (omega arith)

tag_more : (b c : List ℕ) (p : ℕ) → p + 4 ≤ length b → tag_at (b ++ c) p ≡ tag_at b p
tag_more b c p le = rw (
  get_or_append_left b c 0 p (omega arith),
  get_or_append_left b c 0 (p + 1) (omega arith),
  get_or_append_left b c 0 (p + 2) (omega arith),
) refl

pub length_more : (b c : List ℕ) (p : ℕ) → p + 8 ≤ length b → length_at (b ++ c) p ≡ length_at b p
length_more b c p le = rw (
  get_or_append_left b c 0 (p + 4) (omega arith),
  get_or_append_left b c 0 (p + 5) (omega arith),
  get_or_append_left b c 0 (p + 6) (omega arith),
  get_or_append_left b c 0 (p + 7) (omega arith),
) refl

typed_more : (b c : List ℕ) (p : ℕ) (o : Option TtlvType) → p + 4 ≤ length b → typed (b ++ c) p o ≡ typed b p o
typed_more b c p (Some t) le = refl
typed_more b c p None le = rw (code_more b c p le, tag_more b c p le) refl

tagged_more : (name b c : List ℕ) (p : ℕ) (t : TtlvType) (o : Option ℕ) → p + 4 ≤ length b → tagged name (b ++ c) p t o ≡ tagged name b p t o
tagged_more name b c p t None le = rw (tag_more b c p le) refl
tagged_more name b c p t (Some n) le = rw (tag_more b c p le) refl

sized_more : (b c : List ℕ) (p after : ℕ) (t : TtlvType) (o : Option ℕ) → p + 8 ≤ length b → length_wanted (b ++ c) p after t o ≡ length_wanted b p after t o
sized_more b c p after t None le = refl
sized_more b c p after t (Some w) le = rw (length_more b c p le, tag_more b c p (omega arith)) refl

picked_more : (x : Choice) (b c : List ℕ) (p : ℕ) (t : TtlvType) → p + 4 ≤ length b → picked x (b ++ c) p t ≡ picked x b p t
picked_more (choice_invalid m) b c p t le = rw (tag_more b c p le) refl
picked_more x b c p t le = refl

unit_more : (x : Option Content) (b c : List ℕ) (o p : ℕ) (t : TtlvType) → p + 4 ≤ length b → unit_wanted (b ++ c) o p t x ≡ unit_wanted b o p t x
unit_more None b c o p t le = refl
unit_more (Some unit) b c o p t le = refl
unit_more (Some x) b c o p t le = rw (tag_more b c p le) refl

-- what is left of bytes that are there
content_more : (b c : List ℕ) (p n : ℕ) → p + 8 + n ≤ length b → take n (drop (p + 8) (b ++ c)) ≡ take n (drop (p + 8) b)
content_more b c p n le = ap (take n) (drop-append-le (p + 8) b c (omega arith)) ∙ take-append-le n (drop (p + 8) b) c (omega (arith, length-drop (p + 8) b))

-- an item's type, and what follows
type_then : {A : Type 0} {f g : TtlvType → Outcome A} (b c : List ℕ) (p : ℕ) → ((t : TtlvType) → p + 4 ≤ length b → Still (f t) (g t))
    → Still (type_there b p >>= f) (type_there (b ++ c) p >>= g)
unfolding type_there
type_then b c p more =
    bind (there b c (p + 4) (λ le. still (ap (λ (n : ℕ). typed (b ++ c) p (type_of n)) (code_more b c p le) ∙ typed_more b c p (type_of (code_at b p)) le)))
    (λ t is. more t (ltb-false _ _ (past_test (nat_lt (length b) (p + 4)) (typed b p (type_of (code_at b p))) t is).0))

-- what gives something, but ends early where an item's header isn't there: it is there
header_there : {A : Type 0} (b : List ℕ) (p : ℕ) (o : Outcome A) (x : A) → (nat_lt (length b) (p + 4) ≡ true → o ≡ ends_early) → o ≡ gives x → p + 4 ≤ length b
header_there b p o x early is = ltb-false _ _ (false_from_ne_true _ (λ t. let no = early t in absurd cc))

length_gives : (b : List ℕ) (p n : ℕ) → length_there b p ≡ gives n → p + 8 ≤ length b
unfolding length_there
length_gives b p n e = ltb-false _ _ (past_test (nat_lt (length b) (p + 8)) (gives (length_at b p)) n e).0

-- its length, and what follows
length_then : {A : Type 0} {f g : ℕ → Outcome A} (b c : List ℕ) (p : ℕ) → ((n : ℕ) → p + 8 ≤ length b → Still (f n) (g n))
    → Still (length_there b p >>= f) (length_there (b ++ c) p >>= g)
unfolding length_there
length_then b c p more = bind (there b c (p + 8) (λ le. still (ap gives (length_more b c p le)))) (λ n is. more n (length_gives b p n is))

content_still : (b c : List ℕ) (p : ℕ) (t : TtlvType) → p + 4 ≤ length b → Still (content_there b p t) (content_there (b ++ c) p t)
unfolding content_there end_there
content_still b c p t le =
    length_then b c p (λ n le8. rw (sized_more b c p 8 t (fixed_length t) le8) (after (length_wanted b p 8 t (fixed_length t)) (λ _.
    bind (there b c (p + 8 + n) (λ _. still {o = gives tt} refl)) (λ v past.
    let le_n : p + 8 + n ≤ length b = ltb-false _ _ (past_test (nat_lt (length b) (p + 8 + n)) (gives tt) v past).0 in
    rw (content_more b c p n le_n, tag_more b c p le) (after (must (is_valid t (take n (drop (p + 8) b))) _)
    (λ _. bind (there b c (p + size t n) (λ _. still {o = gives (p + size t n)} refl)) (λ q _. still refl)))))))

-- ---- structures

-- where a struct's content ends, and what follows
opened_then : {A : Type 0} {f g : ℕ → Outcome A} (name b c : List ℕ) (p : ℕ) → ((stop : ℕ) → p + 4 ≤ length b → Still (f stop) (g stop))
    → Still (opened name b p >>= f) (opened name (b ++ c) p >>= g)
unfolding opened tag_wanted structure_wanted type_there
opened_then name b c p more =
    bind (type_then b c p (λ t le. rw (tagged_more name b c p t (tag_of name) le, tag_more b c p le)
    (after (tagged name b p t (tag_of name)) (λ _. after (must (is_structure t) _) (λ _. length_then b c p (λ n _. still refl))))))
    (λ stop is. more stop (header_there b p (opened name b p) stop (λ early. rw early refl) is))

ignored_still : (fs : Fields) (deny : Bool) (b c : List ℕ) (o p e : ℕ) → Still (ignored fs deny b o p e) (ignored fs deny (b ++ c) o p e)
unfolding ignored item_end end_there inside
ignored_still fs deny b c o p e = type_then b c p (λ t le. rw (tag_more b c p le)
    (after (must (has_fields fs) _) (λ _. after (must_not (names_tag fs (tag_at b p)) _) (λ _. after (must_not deny _) (λ _.
    bind (either (is_structure t) (length_then b c p (λ n _. there b c (p + size t n) (λ _. still refl))) (bind (content_still b c p t le) (λ x _. still refl)))
    (λ q _. still refl))))))

-- among more bytes it may take more steps
rest_still : (n m : ℕ) → n ≤ m → (fs : Fields) (deny : Bool) (b c : List ℕ) (o p e : ℕ)
    → Still (rest_outcome n fs deny b o p e) (rest_outcome m fs deny (b ++ c) o p e)
unfolding rest_outcome
rest_still zero m le fs deny b c o p e = record { stands = tt }
rest_still (suc n) zero le fs deny b c o p e = absurd (omega arith)
rest_still (suc n) (suc m) le fs deny b c o p e =
    either (nat_lt p e) (bind (ignored_still fs deny b c o p e) (λ q _. rest_still n m (omega arith) fs deny b c o q e)) (still refl)

-- a reader's outcome stands, wherever it reads
abbrev TagValues : {V : Type 0} → Reader V → List ℕ → List ℕ → Type 0
TagValues read b c = (o : ℕ) (k : List TagValue) (p e : ℕ) → Still (read b o k p e) (read (b ++ c) o k p e)

all_still : (fs : Fields) (deny : Bool) (read : Reader Values) (b c : List ℕ) → TagValues read b c → TagValues (all_outcome fs deny read) b c
unfolding all_outcome
all_still fs deny read b c one o k p e =
    bind (one o k p e) (λ rs _. bind (rest_still (suc (length b)) (suc (length (b ++ c))) (omega (arith, length-append b c)) fs deny b c o rs.next e)
    (λ q _. still refl))

field_still : (name : List ℕ) (s : Form) (read : Reader Value) (b c : List ℕ) → TagValues read b c → TagValues (field_outcome name s read) b c
unfolding field_outcome tag_wanted
field_still name s read b c one o k p e =
    either (p == e) (still refl) (either (is_struct s) (one o k p e) (type_then b c p (λ t le. rw (tagged_more name b c p t (tag_of name) le, tag_more b c p le)
    (either (has_tag name (tag_at b p)) (one o k p e) (either (is_option s) (still refl) (after (tagged name b p t (tag_of name)) (λ _. one o k p e)))))))

-- ---- sequences

-- where no item's header is there, the bytes end too early
outcome_early : (s : Form) (b : List ℕ) (o : ℕ) (k : List TagValue) (p e : ℕ) → nat_lt (length b) (p + 4) ≡ true → outcome s b o k p e ≡ ends_early
unfolding outcome struct_outcome seq_outcome enum_outcome leaf_outcome opened type_there
outcome_early (option s) b o k p e early = rw (outcome_early s b o k p e early) refl
outcome_early (newtype name s) b o k p e early = rw (outcome_early s b o k p e early) refl
outcome_early (seq s) b o k p e early = rw (outcome_early s b o k p e early) refl
outcome_early s b o k p e early = rw early refl

-- among more bytes it may take more steps
run_still : (read : Reader Value) (n m first : ℕ) → n ≤ m → (b c : List ℕ) → first + 4 ≤ length b → TagValues read b c → (o : ℕ) (k : List TagValue) (p e : ℕ)
    → Still (run_outcome n read first b o k p e) (run_outcome m read first (b ++ c) o k p e)
unfolding run_outcome goes_on
run_still read zero m first steps b c le one o k p e = record { stands = tt }
run_still read (suc n) zero first steps b c le one o k p e = absurd (omega arith)
run_still read (suc n) (suc m) first steps b c le one o k p e = bind (either (p == e) (still refl)
    (type_then b c p (λ t here. still (rw (tag_more b c p here, code_more b c p here, tag_more b c first le, code_more b c first le) refl))))
    (λ more _. either more (bind (one o k p e) (λ r _. bind (run_still read n m first (omega arith) b c le one o r.stored r.next e) (λ rs _. still refl)))
    (still refl))

-- ---- enums

index_still : (i : Option ℕ) (at : ℕ → TtlvType → Reader Value) (name : List ℕ) (vs : Variants) (t : TtlvType) (b c : List ℕ) (o : ℕ) (k : List TagValue)
    (p e : ℕ) → p + 4 ≤ length b → ((i : ℕ) → Still (at i t b o k p e) (at i t (b ++ c) o k p e)) → Still (by_index i at (number_outcome name vs) t b o k p e)
    (by_index i at (number_outcome name vs) t (b ++ c) o k p e)
unfolding number_outcome type_wanted inside
index_still (Some i) at name vs t b c o k p e le one = one i
index_still None at name vs t b c o k p e le one = rw (tag_more b c p le) (after (must (is_number_type t) _)
    (λ _. length_then b c p (λ n le8. rw (length_more b c p le8) (after (must (length_at b p == 4) _) (λ _.
    bind (content_still b c p t le) (λ x _. still (rw (unit_more (first_named (number_text x.0) vs) b c o p t le) refl)))))))

enum_still : (name : List ℕ) (vs : Variants) (at : ℕ → TtlvType → Reader Value) (b c : List ℕ) → ((i : ℕ) (t : TtlvType) (o : ℕ) (k : List TagValue) (p e : ℕ)
    → p + 4 ≤ length b → Still (at i t b o k p e) (at i t (b ++ c) o k p e)) → TagValues (enum_outcome name vs at) b c
unfolding enum_outcome
enum_still name vs at b c one o k p e = type_then b c p (λ t le. rw (picked_more (choice vs k t) b c p t le)
    (after (picked (choice vs k t) b p t) (λ i. index_still i at name vs t b c o k p e le (λ j. one j t o k p e le))))

-- ---- items of any tags and types

-- an item's reader's outcome stands, wherever it reads
abbrev AnyStands : ItemReader → List ℕ → List ℕ → Type 0
AnyStands read b c = (p e : ℕ) → Still (read b p e) (read (b ++ c) p e)

-- among more bytes it may take more steps
each_still : (n m : ℕ) → n ≤ m → (read : ItemReader) (b c : List ℕ) → AnyStands read b c → (p e : ℕ)
    → Still (each_outcome n read b p e) (each_outcome m read (b ++ c) p e)
unfolding each_outcome
each_still zero m le read b c one p e = record { stands = tt }
each_still (suc n) zero le read b c one p e = absurd (omega arith)
each_still (suc n) (suc m) le read b c one p e =
    either (nat_lt p e) (bind (one p e) (λ x _. bind (each_still n m (omega arith) read b c one x.1 e) (λ vs _. still refl))) (still refl)

node_still : (read : ItemReader) (b c : List ℕ) → AnyStands read b c → (p e : ℕ) → p + 4 ≤ length b
    → Still (node_outcome read b p e) (node_outcome read (b ++ c) p e)
unfolding node_outcome inside
node_still read b c one p e le = length_then b c p (λ n _. rw (tag_more b c p le)
    (bind (within_still (tag_at b p) (each_still (suc (length b)) (suc (length (b ++ c))) (omega (arith, length-append b c)) read b c one (p + 8) (p + 8 + n)))
    (λ vs _. still refl)))

-- where a leaf's content is given, its length is there
content_long : (b : List ℕ) (p : ℕ) (t : TtlvType) (x : (List ℕ × ℕ)) → content_there b p t ≡ gives x → p + 8 ≤ length b
unfolding content_there length_there
content_long b p t x is = ltb-false _ _ (false_from_ne_true _ (λ short. let early : content_there b p t ≡ ends_early = rw short refl in cc (is, early)))

any_still : (d : ℕ) (b c : List ℕ) → AnyStands (any_outcome d) b c
unfolding any_outcome any_leaf_outcome inside
any_still zero b c p e = type_then b c p (λ t le. still (rw (tag_more b c p le) refl))
any_still (suc d) b c p e = type_then b c p (λ t le. either (is_structure t) (node_still (any_outcome d) b c (any_still d b c) p e le)
    (rw (tag_more b c p le) (bind (content_still b c p t le) (λ x is. rw (length_more b c p (content_long b p t x is)) (still refl)))))

-- ---- forms

mutual
  unfolding outcome leaf_outcome struct_outcome seq_outcome fields_outcome variant_outcome content_outcome tuple_outcome forms_outcome part_outcome type_wanted
      structure_wanted inside

  outcome_still : (s : Form) (b c : List ℕ) (o : ℕ) (k : List TagValue) (p e : ℕ) → Still (outcome s b o k p e) (outcome s (b ++ c) o k p e)
  outcome_still (struct name fs deny) b c o k p e = bind (opened_then name b c p (λ stop le. rw (tag_more b c p le)
      (bind (within_still (tag_at b p) (all_still fs deny (fields_outcome fs) b c (fields_still fs b c) (tag_at b p) k (p + 8) stop)) (λ rs _. still refl))))
      (λ r _. still refl)
  outcome_still (option s) b c o k p e = bind (outcome_still s b c o k p e) (λ r _. still refl)
  outcome_still (newtype name s) b c o k p e = bind (outcome_still s b c o k p e) (λ r _. still refl)
  outcome_still (seq s) b c o k p e = bind (bind (outcome_still s b c o k p e)
      (λ r is. bind (run_still (outcome s) (suc (length b)) (suc (length (b ++ c))) p (omega (arith, length-append b c)) b c
      (header_there b p (outcome s b o k p e) r (outcome_early s b o k p e) is) (outcome_still s b c) o r.stored r.next e) (λ rs _. still refl)))
      (λ r _. still refl)
  outcome_still (enum name vs) b c o k p e = enum_still name vs (variant_outcome name vs) b c (variant_still name vs b c) o k p e
  outcome_still s b c o k p e = type_then b c p
      (λ t le. rw (tag_more b c p le) (after (must (takes s t) _) (λ _. bind (content_still b c p t le) (λ x _. still refl))))

  fields_still : (fs : Fields) (b c : List ℕ) (o : ℕ) (k : List TagValue) (p e : ℕ) → Still (fields_outcome fs b o k p e) (fields_outcome fs (b ++ c) o k p e)
  fields_still no_fields b c o k p e = still refl
  fields_still (field name s fs) b c o k p e = bind (field_still name s (outcome s) b c (outcome_still s b c) o k p e)
      (λ r _. bind (fields_still fs b c o r.stored r.next e) (λ rs _. still refl))
  fields_still any_items b c o k p e =
      bind
      (each_still (suc (length b)) (suc (length (b ++ c))) (omega (arith, length-append b c)) (any_outcome most_levels) b c (any_still most_levels b c) p e)
      (λ vs _. still refl)

  variant_still : (name : List ℕ) (vs : Variants) (b c : List ℕ) (i : ℕ) (t : TtlvType) (o : ℕ) (k : List TagValue) (p e : ℕ) → p + 4 ≤ length b
      → Still (variant_outcome name vs i t b o k p e) (variant_outcome name vs i t (b ++ c) o k p e)
  variant_still name no_variants b c i t o k p e le = record { stands = tt }
  variant_still name (variant vname x vs) b c zero t o k p e le = among_still name vname x b c t o k p e le
  variant_still name (variant vname x vs) b c (suc i) t o k p e le = variant_still name vs b c i t o k p e le

  among_still : (name vname : List ℕ) (x : Content) (b c : List ℕ) (t : TtlvType) (o : ℕ) (k : List TagValue) (p e : ℕ) → p + 4 ≤ length b
      → Still (content_outcome name vname x t b o k p e) (content_outcome name vname x t (b ++ c) o k p e)
  among_still name vname unit b c t o k p e le = still (rw (tag_more b c p le) refl)
  among_still name vname (wrapped s) b c t o k p e le = bind (outcome_still s b c o k p e) (λ r _. still refl)
  among_still name vname (tuple ss) b c t o k p e le = rw (tag_more b c p le) (bind (after (must (is_structure t) _)
      (λ _. length_then b c p (λ n _. bind (forms_still ss b c o k (p + 8) (p + 8 + n)) (λ rs _. still refl)))) (λ r _. still refl))

  forms_still : (ss : Forms) (b c : List ℕ) (o : ℕ) (k : List TagValue) (p e : ℕ) → Still (forms_outcome ss b o k p e) (forms_outcome ss (b ++ c) o k p e)
  forms_still no_forms b c o k p e = still refl
  forms_still (form s ss) b c o k p e = bind (either (p == e) (still refl) (outcome_still s b c o k p e))
      (λ r _. bind (forms_still ss b c o r.stored r.next e) (λ rs _. still refl))

-- ---- whole messages

root_still : (s : Form) (b c : List ℕ) → Still (root_outcome s b) (root_outcome s (b ++ c))
unfolding root_outcome first_outcome
root_still (struct name fs deny) b c =
    bind (after (named_first name (tag_of name)) (λ _. opened_then name b c 0 (λ stop le. rw (tag_more b c 0 le)
    (bind (within_still (tag_at b 0) (all_still fs deny (fields_outcome fs) b c (fields_still fs b c) (tag_at b 0) [] 8 stop)) (λ rs _. still refl)))))
    (λ vs _. still refl)
root_still (option s) b c = bind (root_still s b c) (λ v _. still refl)
root_still (newtype name s) b c = bind (root_still s b c) (λ v _. still refl)
root_still s b c = still refl

pub root_stands : (s : Form) (b c : List ℕ) → Stands (root_outcome s b) (root_outcome s (b ++ c))
root_stands s b c = (root_still s b c).stands
