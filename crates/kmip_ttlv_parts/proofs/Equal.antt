-- Parts of types whose values are equal if they stand for the same.
use Rattle.std.proofs.Common.{◌≡◌, refl, sym, ap, ◌∙◌, true, false, ℕ, ℤ, Bool, List, [], ◌∷◌, map, Option, Some, None, String, string_bytes}
use Rattle.std.specs.Prelude.{if◌then◌else◌, ◌&&◌, ◌==◌}
use Rattle.std.specs.{Option.option_eq, String.string_eq, Ordering.int_eq, Cmp.booleans_Decides, Str.bytes_eq, Cmp.Lexicographic.pointwise}
use mathlib.Core.Bool.{beq}
use Rattle.std.proofs.lemmas.{Bool.false≢true, Bool.Decides.Decides-eqb, Bool.Decides.Decides-int_eq, Slice.Eq.bytes_eq-Decides, Slice.Eq.slice_eq-Decides}
use Rattle.kmip_ttlv_parts.specs.MessageParts.{optional, optional_sequence, sequence}
use Rattle.kmip_ttlv_base.specs.Forms.{Form}
use Rattle.kmip_ttlv_base.specs.Values.{Value, Values, struct_value, value, newtype_value, newtype_variant_value, unit_variant_value, values_of}
use Rattle.kmip_ttlv_base.specs.Values.{big_integer_value, boolean_value, bytes_value, date_time_value, i32_value, i64_value, interval_value, text_value}
use Rattle.kmip_ttlv_base.specs.Values.{u32_value}
use Rattle.kmip_ttlv_reader.specs.Reads.{is_root}
use Rattle.kmip_ttlv_parts.specs.{Agreements.MessageAgrees, Equal.AreEqual, Rereads.Rereads}
use Rattle.kmip_ttlv_parts.proofs.Agreeing.{agreeing_is_read, agreeing_is_written}

-- Each lemma of a value says: it is equal to another, if the two stand for the same value. Leaves:
pub integers_equal : (x y : ℤ) → i32_value x ≡ i32_value y → int_eq x y ≡ true
integers_equal x y e = let same : x ≡ y = cc in (Decides-int_eq x y).1 same

pub long_integers_equal : (x y : ℤ) → i64_value x ≡ i64_value y → int_eq x y ≡ true
long_integers_equal x y e = let same : x ≡ y = cc in (Decides-int_eq x y).1 same

pub date_times_equal : (x y : ℤ) → date_time_value x ≡ date_time_value y → int_eq x y ≡ true
date_times_equal x y e = let same : x ≡ y = cc in (Decides-int_eq x y).1 same

pub numbers_equal : (x y : ℕ) → u32_value x ≡ u32_value y → (x == y) ≡ true
numbers_equal x y e = let same : x ≡ y = cc in (Decides-eqb x y).1 same

pub intervals_equal : (x y : ℕ) → interval_value x ≡ interval_value y → (x == y) ≡ true
intervals_equal x y e = let same : x ≡ y = cc in (Decides-eqb x y).1 same

pub booleans_equal : (x y : Bool) → boolean_value x ≡ boolean_value y → beq x y ≡ true
booleans_equal x y e = let same : x ≡ y = cc in (booleans_Decides x y).1 same

pub texts_equal : {A : Type 0} (s t : String A) → text_value (string_bytes s) ≡ text_value (string_bytes t) → string_eq s t ≡ true
texts_equal s t e = let same : string_bytes s ≡ string_bytes t = cc in (bytes_eq-Decides (string_bytes s) (string_bytes t)).1 same

pub bytes_equal : (xs ys : List ℕ) → bytes_value xs ≡ bytes_value ys → pointwise (λ x y. x == y) xs ys ≡ true
bytes_equal xs ys e = let same : xs ≡ ys = cc in (slice_eq-Decides Decides-eqb xs ys _ refl).1 same

pub big_integers_equal : (xs ys : List ℕ) → big_integer_value xs ≡ big_integer_value ys → pointwise (λ x y. x == y) xs ys ≡ true
big_integers_equal xs ys e = let same : xs ≡ ys = cc in (slice_eq-Decides Decides-eqb xs ys _ refl).1 same

-- what values that are the same contain: structures, newtypes and variants
pub in_structure : {n m : List ℕ} {vs ws : Values} → struct_value n vs ≡ struct_value m ws → vs ≡ ws
in_structure e = cc

pub first_same : {v w : Value} {vs ws : Values} → value v vs ≡ value w ws → v ≡ w
first_same e = cc

pub later_same : {v w : Value} {vs ws : Values} → value v vs ≡ value w ws → vs ≡ ws
later_same e = cc

pub in_variant : {n m a b : List ℕ} {v w : Value} → newtype_variant_value n a v ≡ newtype_variant_value m b w → v ≡ w
in_variant e = cc

pub in_unit : {n m a b : List ℕ} → unit_variant_value n a ≡ unit_variant_value m b → a ≡ b
in_unit e = cc

in_newtype : {n m : List ℕ} {v w : Value} → newtype_value n v ≡ newtype_value m w → v ≡ w
in_newtype e = cc

-- newtypes of what is equal
pub newtypes_equal : {n m : List ℕ} {v w : Value} {a : Bool} → (v ≡ w → a ≡ true) → newtype_value n v ≡ newtype_value m w → a ≡ true
newtypes_equal equal e = equal (in_newtype e)

-- structures: a part is equal, and those behind it are; the last; and one that is always the same
pub both : {a b : Bool} → a ≡ true → b ≡ true → a && b ≡ true
both e f = rw e f

pub part_equal :
    {v w : Value} {vs ws : Values} {a b : Bool} → (v ≡ w → a ≡ true) → (vs ≡ ws → b ≡ true) → value v vs ≡ value w ws → a && b ≡ true
part_equal first later e = both (first (first_same e)) (later (later_same e))

pub last_equal : {v w : Value} {vs ws : Values} {a : Bool} → (v ≡ w → a ≡ true) → value v vs ≡ value w ws → a ≡ true
last_equal last e = last (first_same e)

pub constant_equal : {v w : Value} {vs ws : Values} {a : Bool} → (vs ≡ ws → a ≡ true) → value v vs ≡ value w ws → a ≡ true
constant_equal later e = later (later_same e)

pub structures_equal : {n m : List ℕ} {vs ws : Values} {a : Bool} → (vs ≡ ws → a ≡ true) → struct_value n vs ≡ struct_value m ws → a ≡ true
structures_equal parts e = parts (in_structure e)

-- what may be absent
pub options_equal : {T : Type 0} (f : T → Value) (E : T → T → Bool) → AreEqual f E → (x y : Option T)
    → optional f x ≡ optional f y
    → option_eq E x y ≡ true
options_equal f E equal None None e = refl
options_equal f E equal (Some x) (Some y) e = let same : f x ≡ f y = cc in equal x y same
options_equal f E equal x y e = absurd cc

-- elements of a sequence
sequences_equal : {T : Type 0} (f : T → Value) (E : T → T → Bool) → AreEqual f E → (xs ys : List T)
    → values_of (map f xs) ≡ values_of (map f ys)
    → pointwise E xs ys ≡ true
sequences_equal f E equal [] [] e = refl
sequences_equal f E equal (x ∷ xs) (y ∷ ys) e =
    let head : f x ≡ f y = cc in
    let rest : values_of (map f xs) ≡ values_of (map f ys) = cc in
    rw (equal x y head) (sequences_equal f E equal xs ys rest)
sequences_equal f E equal xs ys e = absurd cc

pub several_equal : {T : Type 0} (f : T → Value) (E : T → T → Bool) → AreEqual f E → (xs ys : List T)
    → sequence f xs ≡ sequence f ys
    → pointwise E xs ys ≡ true
several_equal f E equal xs ys e =
    let same : values_of (map f xs) ≡ values_of (map f ys) = cc in
    sequences_equal f E equal xs ys same

-- those of a sequence that may be empty
pub any_equal : {T : Type 0} (f : T → Value) (E : T → T → Bool) → AreEqual f E → (xs ys : List T)
    → optional_sequence f xs ≡ optional_sequence f ys
    → pointwise E xs ys ≡ true
any_equal f E equal [] [] e = refl
any_equal f E equal (x ∷ xs) (y ∷ ys) e =
    let same : values_of (map f (x ∷ xs)) ≡ values_of (map f (y ∷ ys)) = cc in
    sequences_equal f E equal (x ∷ xs) (y ∷ ys) same
any_equal f E equal xs ys e = absurd cc

-- the first row of a text
abbrev pub row_of : {T : Type 0} → List ℕ → List (List ℕ × T) → Option T
row_of text [] = None
row_of text ((name, x) ∷ rows) = if bytes_eq text name then Some x else row_of text rows

-- values that a table finds by their texts are the same if their texts are
pub found_same : {T : Type 0} (name : T → List ℕ) (rows : List (List ℕ × T)) → ((x : T) → row_of (name x) rows ≡ Some x)
    → (x y : T)
    → name x ≡ name y
    → x ≡ y
found_same name rows found x y e =
    let same : Some x ≡ Some y = sym (found x) ∙ ap (λ t. row_of t rows) e ∙ found y in
    cc

-- the name of the variant that a value is
abbrev variant_of : Value → List ℕ
variant_of (newtype_variant_value own name v) = name
variant_of v = []

-- variants of different names are not the same
pub apart : {v w : Value} → v ≡ w → bytes_eq (variant_of v) (variant_of w) ≡ false → ⊥
apart {v} {w} e differ =
    let same : variant_of v ≡ variant_of w = ap variant_of e in
    false≢true (sym differ ∙ (bytes_eq-Decides (variant_of v) (variant_of w)).1 same)

-- messages whose values agree with their form come back
pub agreeing_rereads :
    {T : Type 0} (stated decoded : T → Value) (s : Form) (eq : T → T → Bool) (IsSound : T → Type 0)
    → is_root s ≡ true
    → ((x : T) → IsSound x → MessageAgrees s (stated x) (decoded x))
    → AreEqual decoded eq
    → Rereads stated s (λ v y. v ≡ decoded y) eq IsSound
agreeing_rereads stated decoded s eq IsSound root agrees equal = record {
  has_items = λ x is.
      let (head, k, a) = agrees x is in
      let (t, ts, are, tag, typ) = agreeing_is_written s _ k _ (stated x) (decoded x) head a in
      (t ∷ ts, are);
  begins = λ x written is w.
      (decoded x, (agreeing_is_read s (stated x) (decoded x) (decoded x) 0 written root (agrees x is) w).1 refl);
  equal = λ x y written v is w b e.
      let same : v ≡ decoded x = (agreeing_is_read s (stated x) (decoded x) v 0 written root (agrees x is) w).0 b in
      equal x y (sym same ∙ e);
}
