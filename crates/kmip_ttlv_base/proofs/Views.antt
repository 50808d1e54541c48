-- The value of data, variant by variant: lemmas for the proofs of a type's `to_data` and `from_data`.
use Rattle.std.proofs.Common.{◌≡◌, ℕ, ℤ, List, Bool as Boole, String, Vec, Box, Bor, string_bytes, rules}
use Rattle.kmip_ttlv_base.specs.declared.shape.Data.{Data, the_lemmas}
use Rattle.kmip_ttlv_base.specs.declared.shape.Data.TheVariants.{Bool, I8, I16, I32, U32, I64, U64, DateTime, Interval, Text, Bytes, BigInteger, None, Some}
use Rattle.kmip_ttlv_base.specs.declared.shape.Data.TheVariants.{Seq, Struct, Newtype, Tagged, Structure, UnitVariant, NewtypeVariant, TupleVariant}
use Rattle.kmip_ttlv_base.specs.declared.shape.Data.TheVariants.{Unsupported}
use Rattle.kmip_ttlv_types.specs.Digits.{tag_text}
use Rattle.kmip_ttlv_base.specs.Tags.{wrapper_name}
use Rattle.kmip_ttlv_base.specs.Values.{view, views, boolean_value, i8_value, i16_value, i32_value, u32_value, i64_value, u64_value, date_time_value}
use Rattle.kmip_ttlv_base.specs.Values.{interval_value, text_value, bytes_value, big_integer_value, none_value, some_value, seq_value, struct_value}
use Rattle.kmip_ttlv_base.specs.Values.{newtype_value, unit_variant_value, newtype_variant_value, tuple_variant_value, unsupported_value}

pub view-Bool : (A : Type 0) (b : Boole) → view {A = A} (Bool b) ≡ boolean_value b
view-Bool A b = search (rules, the_lemmas)

pub view-I8 : (A : Type 0) (z : ℤ) → view {A = A} (I8 z) ≡ i8_value z
view-I8 A z = search (rules, the_lemmas)

pub view-I16 : (A : Type 0) (z : ℤ) → view {A = A} (I16 z) ≡ i16_value z
view-I16 A z = search (rules, the_lemmas)

pub view-I32 : (A : Type 0) (z : ℤ) → view {A = A} (I32 z) ≡ i32_value z
view-I32 A z = search (rules, the_lemmas)

pub view-U32 : (A : Type 0) (n : ℕ) → view {A = A} (U32 n) ≡ u32_value n
view-U32 A n = search (rules, the_lemmas)

pub view-I64 : (A : Type 0) (z : ℤ) → view {A = A} (I64 z) ≡ i64_value z
view-I64 A z = search (rules, the_lemmas)

pub view-U64 : (A : Type 0) (n : ℕ) → view {A = A} (U64 n) ≡ u64_value n
view-U64 A n = search (rules, the_lemmas)

pub view-DateTime : (A : Type 0) (z : ℤ) → view {A = A} (DateTime z) ≡ date_time_value z
view-DateTime A z = search (rules, the_lemmas)

pub view-Interval : (A : Type 0) (n : ℕ) → view {A = A} (Interval n) ≡ interval_value n
view-Interval A n = search (rules, the_lemmas)

pub view-Text : {A : Type 0} (s : String A) → view (Text s) ≡ text_value (string_bytes s)
view-Text s = search (rules, the_lemmas)

pub view-Bytes : {A : Type 0} (v : Vec ℕ A) → view (Bytes v) ≡ bytes_value v.items
view-Bytes v = search (rules, the_lemmas)

pub view-BigInteger : {A : Type 0} (v : Vec ℕ A) → view (BigInteger v) ≡ big_integer_value v.items
view-BigInteger v = search (rules, the_lemmas)

pub view-None : (A : Type 0) → view {A = A} None ≡ none_value
view-None A = search (rules, the_lemmas)

pub view-Some : {A : Type 0} (b : Box (Data A) A) → view (Some b) ≡ some_value (view b.value)
view-Some b = search (rules, the_lemmas)

pub view-Seq : {A : Type 0} (v : Vec (Data A) A) → view (Seq v) ≡ seq_value (views v.items)
view-Seq v = search (rules, the_lemmas)

pub view-Struct : {A : Type 0} (name : Bor (List ℕ)) (v : Vec (Data A) A) → view (Struct name v) ≡ struct_value name.now (views v.items)
view-Struct name v = search (rules, the_lemmas)

pub view-Newtype : {A : Type 0} (name : Bor (List ℕ)) (b : Box (Data A) A) → view (Newtype name b) ≡ newtype_value name.now (view b.value)
view-Newtype name b = search (rules, the_lemmas)

pub view-Tagged : {A : Type 0} (tag : ℕ) (b : Box (Data A) A) → view (Tagged tag b) ≡ newtype_value (wrapper_name tag) (view b.value)
view-Tagged tag b = search (rules, the_lemmas)

pub view-Structure : {A : Type 0} (tag : ℕ) (v : Vec (Data A) A) → view (Structure tag v) ≡ struct_value (tag_text tag) (views v.items)
view-Structure tag v = search (rules, the_lemmas)

pub view-UnitVariant : (A : Type 0) (name variant : Bor (List ℕ)) → view {A = A} (UnitVariant name variant) ≡ unit_variant_value name.now variant.now
view-UnitVariant A name variant = search (rules, the_lemmas)

pub view-NewtypeVariant : {A : Type 0} (name variant : Bor (List ℕ)) (b : Box (Data A) A)
    → view (NewtypeVariant name variant b) ≡ newtype_variant_value name.now variant.now (view b.value)
view-NewtypeVariant name variant b = search (rules, the_lemmas)

pub view-TupleVariant : {A : Type 0} (name variant : Bor (List ℕ)) (v : Vec (Data A) A)
    → view (TupleVariant name variant v) ≡ tuple_variant_value name.now variant.now (views v.items)
view-TupleVariant name variant v = search (rules, the_lemmas)

pub view-Unsupported : (A : Type 0) (name : Bor (List ℕ)) → view {A = A} (Unsupported name) ≡ unsupported_value name.now
view-Unsupported A name = search (rules, the_lemmas)
