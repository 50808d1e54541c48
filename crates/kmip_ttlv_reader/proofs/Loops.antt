-- What the loops of readers keep: what was read stands before what is still to be read.
use Rattle.std.proofs.Common.{◌≡◌, ℕ, zero, suc, Some, ◌+◌, ◌-◌, ◌<◌, ◌≤◌, List, [], ◌∷◌, ◌++◌, length, drop, get_or, refl, ap, sym, ◌∙◌, true, false, Bool}
use Rattle.std.proofs.Common.{nat_lt, codes, arith}
use Rattle.kmip_ttlv_base.specs.declared.shape.{FieldShape.FieldShape, Shape.Shape, VariantShape.VariantShape, Data.Data}
use Rattle.std.proofs.lemmas.Bool.{lt-ltb, le-ltb}
use Rattle.kmip_ttlv_types.specs.declared.typ.TtlvType.{TtlvType}
use Rattle.kmip_ttlv_base.specs.Values.{Value, Values, no_values, value, view, views, struct_value, tuple_variant_value}
use Rattle.kmip_ttlv_base.specs.Forms.{fields_of, form_of, forms_of, variants_of, content_of, Fields, Variants, Forms, struct, enum, tuple}
use Rattle.kmip_ttlv_reader.specs.{declared.failure.Failure.Failure, TagValues.TagValue, Rules.choice, ReadFaults.in_struct, Results.IsFailure}
use Rattle.kmip_ttlv_reader.specs.{Results.IsFailureOf}
use Rattle.kmip_ttlv_reader.specs.Steps.{Outcome, gives, ends_early, fails, Read, reads, Reader, ◌>>=◌, mapped}
use Rattle.kmip_ttlv_reader.specs.Outcomes.{outcome, fields_outcome, field_outcome, run_outcome, goes_on, forms_outcome, part_outcome, rest_outcome, ignored}
use Rattle.kmip_ttlv_reader.specs.Outcomes.{struct_outcome, first_outcome, root_outcome, enum_outcome, variant_outcome, content_outcome, type_there, picked}
use Rattle.kmip_ttlv_reader.specs.Outcomes.{tuple_outcome, structure_wanted, length_there, inside}
use Rattle.kmip_ttlv_reader.proofs.{Front.fields_at, Front.forms_at, Steps.failure_then, Steps.fault_is}

abbrev pub join : Values → Values → Values
join no_values ws = ws
join (value v vs) ws = value v (join vs ws)

abbrev pub with_front : Values → Outcome (Read Values) → Outcome (Read Values)
with_front front o = o >>= λ r. reads (join front r.value) r.stored r.next

pub join_nil : (vs : Values) → join vs no_values ≡ vs
join_nil no_values = refl
join_nil (value v vs) = ap (value v) (join_nil vs)

join_more : {A : Type 0} (ds : List (Data A)) (d : Data A) (ws : Values) → join (views (ds ++ d ∷ [])) ws ≡ join (views ds) (value (view d) ws)
join_more [] d ws = refl
join_more (x ∷ ds) d ws = ap (value (view x)) (join_more ds d ws)

pub front_none : (o : Outcome (Read Values)) → o ≡ with_front no_values o
front_none (gives r) = refl
front_none ends_early = refl
front_none (fails x) = refl

abbrev put_before : Value → Outcome (Read Values) → Outcome (Read Values)
put_before v o = o >>= λ rs. reads (value v rs.value) rs.stored rs.next

pub front_more : {A : Type 0} (ds : List (Data A)) (d : Data A) (o : Outcome (Read Values)) → with_front (views ds) (put_before (view d) o) ≡ with_front
    (views (ds ++ d ∷ [])) o
front_more ds d (gives rs) = ap (λ v. reads v rs.stored rs.next) (sym (join_more ds d rs.value))
front_more ds d ends_early = refl
front_more ds d (fails x) = refl

-- one more field
pub fields_step : {A : Type 0} (fs : List (FieldShape A)) (i : ℕ) (f : FieldShape A) (ds : List (Data A)) (d : Data A) (b : List ℕ) (o : ℕ)
    (k k' : List TagValue) (p q e : ℕ)
    → i < length fs → f ≡ get_or fs i f
    → field_outcome f.name.now (form_of f.shape) (outcome (form_of f.shape)) b o k p e ≡ reads (view d) k' q
    → with_front (views ds) (fields_outcome (fields_of (drop i fs)) b o k p e) ≡ with_front (views (ds ++ d ∷ []))
    (fields_outcome (fields_of (drop (i + 1) fs)) b o k' q e)
unfolding fields_outcome outcome
fields_step fs i f ds d b o k k' p q e lt is h =
    let rest = fields_of (drop (i + 1) fs) in
    ap (λ g. with_front (views ds) (fields_outcome g b o k p e)) (fields_at fs i f lt is)
    ∙ ap (λ x. with_front (views ds) (x >>= λ r. put_before r.value (fields_outcome rest b o r.stored r.next e))) h
    ∙ front_more ds d (fields_outcome rest b o k' q e)

-- a field with a fault
pub fields_fails : {A C : Type 0} (fs : List (FieldShape A)) (i : ℕ) (f : FieldShape A) (ds : List (Data A)) (b : List ℕ) (o : ℕ) (k : List TagValue) (p e : ℕ)
    (r : Failure C)
    → i < length fs → f ≡ get_or fs i f
    → IsFailure (field_outcome f.name.now (form_of f.shape) (outcome (form_of f.shape)) b o k p e) r
    → IsFailure (with_front (views ds) (fields_outcome (fields_of (drop i fs)) b o k p e)) r
unfolding fields_outcome outcome
fields_fails fs i f ds b o k p e r lt is h =
    let rest = fields_of (drop (i + 1) fs) in
    let after : Read Value → Outcome (Read Values) = λ v. put_before v.value (fields_outcome rest b o v.stored v.next e) in
    rw (fields_at fs i f lt is) (failure_then (field_outcome f.name.now (form_of f.shape) (outcome (form_of f.shape)) b o k p e >>= after) _ r
    (failure_then (field_outcome f.name.now (form_of f.shape) (outcome (form_of f.shape)) b o k p e) after r h))

-- no field left
pub fields_done : {A : Type 0} (fs : List (FieldShape A)) (i : ℕ) (ds : List (Data A)) (b : List ℕ) (o : ℕ) (k : List TagValue) (p e : ℕ)
    → drop i fs ≡ []
    → with_front (views ds) (fields_outcome (fields_of (drop i fs)) b o k p e) ≡ reads (views ds) k p
unfolding fields_outcome outcome
fields_done fs i ds b o k p e none =
    ap (λ g. with_front (views ds) (fields_outcome (fields_of g) b o k p e)) none ∙ ap (λ v. reads v k p) (join_nil (views ds))

-- one more part of a tuple
pub parts_step : {A : Type 0} (fs : List (Shape A)) (i : ℕ) (f : Shape A) (ds : List (Data A)) (d : Data A) (b : List ℕ) (o : ℕ) (k k' : List TagValue)
    (p q e : ℕ)
    → i < length fs → f ≡ get_or fs i f
    → part_outcome (outcome (form_of f)) b o k p e ≡ reads (view d) k' q
    → with_front (views ds) (forms_outcome (forms_of (drop i fs)) b o k p e) ≡ with_front (views (ds ++ d ∷ []))
    (forms_outcome (forms_of (drop (i + 1) fs)) b o k' q e)
unfolding forms_outcome outcome
parts_step fs i f ds d b o k k' p q e lt is h =
    let rest = forms_of (drop (i + 1) fs) in
    ap (λ g. with_front (views ds) (forms_outcome g b o k p e)) (forms_at fs i f lt is)
    ∙ ap (λ x. with_front (views ds) (x >>= λ r. put_before r.value (forms_outcome rest b o r.stored r.next e))) h
    ∙ front_more ds d (forms_outcome rest b o k' q e)

-- a part with a fault
pub parts_fails : {A C : Type 0} (fs : List (Shape A)) (i : ℕ) (f : Shape A) (ds : List (Data A)) (b : List ℕ) (o : ℕ) (k : List TagValue) (p e : ℕ)
    (r : Failure C)
    → i < length fs → f ≡ get_or fs i f
    → IsFailure (part_outcome (outcome (form_of f)) b o k p e) r
    → IsFailure (with_front (views ds) (forms_outcome (forms_of (drop i fs)) b o k p e)) r
unfolding forms_outcome outcome
parts_fails fs i f ds b o k p e r lt is h =
    let rest = forms_of (drop (i + 1) fs) in
    let after : Read Value → Outcome (Read Values) = λ v. put_before v.value (forms_outcome rest b o v.stored v.next e) in
    rw (forms_at fs i f lt is) (failure_then (part_outcome (outcome (form_of f)) b o k p e >>= after) _ r
    (failure_then (part_outcome (outcome (form_of f)) b o k p e) after r h))

-- no part left
pub parts_done : {A : Type 0} (fs : List (Shape A)) (i : ℕ) (ds : List (Data A)) (b : List ℕ) (o : ℕ) (k : List TagValue) (p e : ℕ)
    → drop i fs ≡ []
    → with_front (views ds) (forms_outcome (forms_of (drop i fs)) b o k p e) ≡ reads (views ds) k p
unfolding forms_outcome outcome
parts_done fs i ds b o k p e none =
    ap (λ g. with_front (views ds) (forms_outcome (forms_of g) b o k p e)) none ∙ ap (λ v. reads v k p) (join_nil (views ds))

-- one more item of a sequence
pub run_step : {A : Type 0} (read : Reader Value) (n first : ℕ) (ds : List (Data A)) (d : Data A) (b : List ℕ) (o : ℕ) (k k' : List TagValue) (p q e : ℕ)
    → goes_on b first p e ≡ gives true
    → read b o k p e ≡ reads (view d) k' q
    → with_front (views ds) (run_outcome (suc n) read first b o k p e) ≡ with_front (views (ds ++ d ∷ [])) (run_outcome n read first b o k' q e)
unfolding run_outcome
run_step read n first ds d b o k k' p q e more h = rw (more, h) (front_more ds d (run_outcome n read first b o k' q e))

-- an item of a sequence with a fault
pub run_fails : {A C : Type 0} (read : Reader Value) (n first : ℕ) (ds : List (Data A)) (b : List ℕ) (o : ℕ) (k : List TagValue) (p e : ℕ) (r : Failure C)
    → goes_on b first p e ≡ gives true
    → IsFailure (read b o k p e) r
    → IsFailure (with_front (views ds) (run_outcome (suc n) read first b o k p e)) r
unfolding run_outcome
run_fails read n first ds b o k p e r more h =
    let after : Read Value → Outcome (Read Values) = λ v. put_before v.value (run_outcome n read first b o v.stored v.next e) in
    rw more (failure_then (read b o k p e >>= after) _ r (failure_then (read b o k p e) after r h))

-- the next item has no type
pub run_stops : {A C : Type 0} (read : Reader Value) (n first : ℕ) (ds : List (Data A)) (b : List ℕ) (o : ℕ) (k : List TagValue) (p e : ℕ) (r : Failure C)
    → IsFailure (goes_on b first p e) r
    → IsFailure (with_front (views ds) (run_outcome (suc n) read first b o k p e)) r
unfolding run_outcome
run_stops read n first ds b o k p e r h = failure_then _ _ r (failure_then (goes_on b first p e) _ r h)

-- the sequence ends
pub run_done : {A : Type 0} (read : Reader Value) (n first : ℕ) (ds : List (Data A)) (b : List ℕ) (o : ℕ) (k : List TagValue) (p e : ℕ)
    → goes_on b first p e ≡ gives false
    → with_front (views ds) (run_outcome (suc n) read first b o k p e) ≡ reads (views ds) k p
unfolding run_outcome
run_done read n first ds b o k p e none = rw none (ap (λ v. reads v k p) (join_nil (views ds)))

-- an item that is ignored
pub rest_step : (n : ℕ) (fs : Fields) (deny : Bool) (b : List ℕ) (o p q e : ℕ) → nat_lt p e ≡ true
    → ignored fs deny b o p e ≡ gives q
    → rest_outcome (suc n) fs deny b o p e ≡ rest_outcome n fs deny b o q e
unfolding rest_outcome
rest_step n fs deny b o p q e lt h = rw (lt, h) refl

-- one with a fault
pub rest_fails : {C : Type 0} (n : ℕ) (fs : Fields) (deny : Bool) (b : List ℕ) (o p e : ℕ) (r : Failure C)
    → nat_lt p e ≡ true
    → IsFailure (ignored fs deny b o p e) r
    → IsFailure (rest_outcome (suc n) fs deny b o p e) r
unfolding rest_outcome
rest_fails n fs deny b o p e r lt h = rw lt (failure_then (ignored fs deny b o p e) _ r h)

-- nothing is left
pub rest_done : (n : ℕ) (fs : Fields) (deny : Bool) (b : List ℕ) (o p e : ℕ) → nat_lt p e ≡ false
    → rest_outcome (suc n) fs deny b o p e ≡ gives p
unfolding rest_outcome
rest_done n fs deny b o p e past = rw past refl

-- as long as items are left, so are steps
pub more_steps : (len n p q : ℕ) → len ≤ n + p → p + 8 ≤ q → q ≤ len → n ≡ suc (n - 1)
more_steps len n p q enough further in_bytes = omega arith

-- what the page says of a struct
pub struct_is : (name : List ℕ) (fs : Fields) (deny : Bool) (b : List ℕ) (o : ℕ) (k : List TagValue) (p e : ℕ)
    → outcome (struct name fs deny) b o k p e ≡ mapped (struct_value name) (struct_outcome name fs deny (fields_outcome fs) b o k p e)
unfolding outcome
struct_is name fs deny b o k p e = refl

-- what the page says of a message
pub root_struct_is : (name : List ℕ) (fs : Fields) (deny : Bool) (b : List ℕ)
    → root_outcome (struct name fs deny) b ≡ (first_outcome name fs deny (fields_outcome fs) b >>= λ vs. gives (struct_value name vs))
unfolding root_outcome
root_struct_is name fs deny b = refl

-- what it says of an enum
pub enum_is : (name : List ℕ) (vs : Variants) (b : List ℕ) (o : ℕ) (k : List TagValue) (p e : ℕ) → outcome (enum name vs) b o k p e ≡ enum_outcome name vs
    (variant_outcome name vs) b o k p e
unfolding outcome
enum_is name vs b o k p e = refl

-- the variant at an index
variant_is : {A : Type 0} (name : List ℕ) (vs : List (VariantShape A)) (i : ℕ) (v : VariantShape A) (t : TtlvType) (b : List ℕ) (o : ℕ)
    (k : List TagValue) (p e : ℕ)
    → i < length vs → v ≡ get_or vs i v
    → variant_outcome name (variants_of vs) i t b o k p e ≡ content_outcome name v.name.now (content_of v.content) t b o k p e
unfolding variant_outcome
variant_is name [] i v t b o k p e lt is = absurd (omega arith)
variant_is name (w ∷ vs) zero v t b o k p e lt is = ap (λ x. content_outcome name x.name.now (content_of x.content) t b o k p e) (sym is)
variant_is name (w ∷ vs) (suc i) v t b o k p e lt is = variant_is name vs i v t b o k p e (omega arith) is

-- an enum of which a rule chose a variant
pub enum_chosen : {A : Type 0} (name : List ℕ) (vs : List (VariantShape A)) (i : ℕ) (v : VariantShape A) (t : TtlvType) (b : List ℕ) (o : ℕ)
    (k : List TagValue) (p e : ℕ)
    → type_there b p ≡ gives t
    → picked (choice (variants_of vs) k t) b p t ≡ gives (Some i)
    → i < length vs → v ≡ get_or vs i v
    → enum_outcome name (variants_of vs) (variant_outcome name (variants_of vs)) b o k p e ≡ content_outcome name v.name.now (content_of v.content) t b o k p e
unfolding enum_outcome
enum_chosen name vs i v t b o k p e typed by_rule lt is = rw (typed, by_rule) (variant_is name vs i v t b o k p e lt is)

-- a tuple that goes past the structure around it
pub tuple_fails : {C : Type 0} (t : TtlvType) (read : Reader Values) (vs : Values) (b : List ℕ) (o : ℕ) (k k' : List TagValue) (p e n q : ℕ) (r : Failure C)
    → structure_wanted b p t ≡ gives tt
    → length_there b p ≡ gives n
    → read b o k (p + 8) (p + 8 + n) ≡ reads vs k' q
    → p + 8 + n ≤ q
    → IsFailure (inside b p e t (p + 8 + n)) r
    → IsFailure (tuple_outcome t read b o k p e) r
unfolding tuple_outcome
tuple_fails t read vs b o k k' p e n q r s l h past f =
    let none : nat_lt q (p + 8 + n) ≡ false = le-ltb _ _ past in
    rw (s, l, h, none) (failure_then (inside b p e t (p + 8 + n)) _ r f)

-- a tuple with an item too many
pub tuple_surplus : {C : Type 0} (t : TtlvType) (read : Reader Values) (vs : Values) (b : List ℕ) (o : ℕ) (k k' : List TagValue) (p e n q : ℕ) (r : Failure C)
    → structure_wanted b p t ≡ gives tt
    → length_there b p ≡ gives n
    → read b o k (p + 8) (p + 8 + n) ≡ reads vs k' q
    → q < p + 8 + n
    → IsFailureOf (in_struct q o (codes "too many items")) r
    → IsFailure (tuple_outcome t read b o k p e) r
unfolding tuple_outcome
tuple_surplus t read vs b o k k' p e n q r s l h before f =
    let more : nat_lt q (p + 8 + n) ≡ true = lt-ltb _ _ before in
    fault_is (tuple_outcome t read b o k p e) (in_struct q o (codes "too many items")) r f (rw (s, l, h, more) refl)

-- a tuple whose items are used up, and that goes no further than the structure around it
pub tuple_done : (t : TtlvType) (read : Reader Values) (vs : Values) (b : List ℕ) (o : ℕ) (k k' : List TagValue) (p e n q : ℕ)
    → structure_wanted b p t ≡ gives tt
    → length_there b p ≡ gives n
    → read b o k (p + 8) (p + 8 + n) ≡ reads vs k' q
    → p + 8 + n ≤ q
    → inside b p e t (p + 8 + n) ≡ gives tt
    → tuple_outcome t read b o k p e ≡ reads vs k' (p + 8 + n)
unfolding tuple_outcome
tuple_done t read vs b o k k' p e n q s l h past i =
    let none : nat_lt q (p + 8 + n) ≡ false = le-ltb _ _ past in
    rw (s, l, h, none, i) refl

-- a tuple that a rule chose
pub content_is : (name vname : List ℕ) (ss : Forms) (t : TtlvType) (b : List ℕ) (o : ℕ) (k : List TagValue) (p e : ℕ)
    → content_outcome name vname (tuple ss) t b o k p e ≡ mapped (tuple_variant_value name vname) (tuple_outcome t (forms_outcome ss) b o k p e)
unfolding content_outcome
content_is name vname ss t b o k p e = refl
