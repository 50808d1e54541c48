-- What leaves and unit variants are decoded as after they were encoded.
use Rattle.std.specs.Prelude.{◌≡◌, ℕ, ℤ, Bool, true, false, ◌<◌, ◌^◌, List, Some, FitsSigned}
use Rattle.std.specs.List.{list_any}
use Rattle.std.specs.Int.{w32, w64, cast_signed, to_be_bytes}
use Rattle.std.specs.Str.{bytes_eq, is_utf8}
use Rattle.kmip_ttlv_types.specs.declared.typ.TtlvType.TheVariants.{Enumeration}
use Rattle.kmip_ttlv_base.specs.Forms.{Form, int32, int64, boolean, text, octets, date_time, interval, big_integer, any_number}
use Rattle.kmip_ttlv_base.specs.Forms.{Variants, unit}
use Rattle.kmip_ttlv_base.specs.Values.{Value, boolean_value, i8_value, i16_value, i32_value, i64_value, u64_value}
use Rattle.kmip_ttlv_base.specs.Values.{date_time_value, u32_value, interval_value, text_value, bytes_value, big_integer_value}
use Rattle.kmip_ttlv_types.specs.Primitives.{sign_extended}
use Rattle.kmip_ttlv_reader.specs.TagValues.{TagValue}
use Rattle.kmip_ttlv_reader.specs.Reads.{number_text, first_named}
use Rattle.kmip_ttlv_reader.specs.Rules.{number_decides, choice}

-- by this form the one value, encoded as a leaf, is decoded as the other
pub data ComesBack : Form → Value → Value → Type 0 where
  as_int8 : {z : ℤ} → FitsSigned w32 z → ComesBack int32 (i8_value z) (i32_value z)
  as_int16 : {z : ℤ} → FitsSigned w32 z → ComesBack int32 (i16_value z) (i32_value z)
  as_int32 : {z : ℤ} → FitsSigned w32 z → ComesBack int32 (i32_value z) (i32_value z)
  as_int64 : {z : ℤ} → FitsSigned w64 z → ComesBack int64 (i64_value z) (i64_value z)
  as_date : {n : ℕ} → n < 2 ^ 64 → ComesBack int64 (u64_value n) (i64_value (cast_signed w64 n))
  as_boolean : {b : Bool} → ComesBack boolean (boolean_value b) (boolean_value b)
  as_text : {s : List ℕ} → is_utf8 s ≡ true → ComesBack text (text_value s) (text_value s)
  as_octets : {s : List ℕ} → ComesBack octets (bytes_value s) (bytes_value s)
  as_date_time : {z : ℤ} → FitsSigned w64 z → ComesBack date_time (date_time_value z) (date_time_value z)
  as_interval : {n : ℕ} → n < 2 ^ 32 → ComesBack interval (interval_value n) (interval_value n)
  as_big_integer : {s : List ℕ} → ComesBack big_integer (big_integer_value s) (big_integer_value (sign_extended s))
  as_number : {n : ℕ} → n < 2 ^ 32 → ComesBack any_number (u32_value n) (u32_value n)
  as_big_octets : {s : List ℕ} → ComesBack octets (big_integer_value s) (bytes_value (sign_extended s))

-- a number of four bytes, as the text by which an enum looks for it
abbrev pub text_of_number : ℕ → List ℕ
text_of_number n = number_text (to_be_bytes w32 n)

-- no rule chooses a variant for an Enumeration, and the first variant of the number's text is a unit
pub record NamesUnit (vs : Variants) (k : List TagValue) (n : ℕ) : Type 0 where
  pub no_rule : choice vs k Enumeration ≡ number_decides
  pub named : first_named (text_of_number n) vs ≡ Some unit

-- a text is none of these
abbrev pub IsNoneOf : List ℕ → List (List ℕ) → Type 0
IsNoneOf said others = list_any (λ other. bytes_eq said other) others ≡ false
