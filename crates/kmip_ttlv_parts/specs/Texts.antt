-- The texts in a value.
use Rattle.std.specs.Prelude.{◌≡◌, ℕ, true, List}
use Rattle.std.specs.Str.{is_utf8}
use Rattle.kmip_ttlv_base.specs.Values.{Value, boolean_value, i8_value, i16_value, i32_value, u32_value, i64_value}
use Rattle.kmip_ttlv_base.specs.Values.{u64_value, date_time_value, interval_value, text_value, bytes_value, big_integer_value}
use Rattle.kmip_ttlv_base.specs.Values.{none_value, some_value, seq_value, struct_value, newtype_value}
use Rattle.kmip_ttlv_base.specs.Values.{unit_variant_value, newtype_variant_value, tuple_variant_value}
use Rattle.kmip_ttlv_base.specs.Values.{unsupported_value, Values, no_values, value}

-- this is true of each text in the value
abbrev mutual
  pub EachText : (List ℕ → Type 0) → Value → Type 0
  EachText P (text_value s) = P s
  EachText P (some_value v) = EachText P v
  EachText P (seq_value vs) = EachTextIn P vs
  EachText P (struct_value name vs) = EachTextIn P vs
  EachText P (newtype_value name v) = EachText P v
  EachText P (newtype_variant_value name vname v) = EachText P v
  EachText P (tuple_variant_value name vname vs) = EachTextIn P vs
  EachText P (boolean_value b) = Unit {0}
  EachText P (i8_value z) = Unit {0}
  EachText P (i16_value z) = Unit {0}
  EachText P (i32_value z) = Unit {0}
  EachText P (u32_value n) = Unit {0}
  EachText P (i64_value z) = Unit {0}
  EachText P (u64_value n) = Unit {0}
  EachText P (date_time_value z) = Unit {0}
  EachText P (interval_value n) = Unit {0}
  EachText P (bytes_value s) = Unit {0}
  EachText P (big_integer_value s) = Unit {0}
  EachText P none_value = Unit {0}
  EachText P (unit_variant_value name vname) = Unit {0}
  EachText P (unsupported_value name) = Unit {0}

  pub EachTextIn : (List ℕ → Type 0) → Values → Type 0
  EachTextIn P no_values = Unit {0}
  EachTextIn P (value v vs) = EachText P v × EachTextIn P vs

-- the bytes are UTF-8
abbrev pub Utf8 : List ℕ → Type 0
Utf8 s = is_utf8 s ≡ true

-- each text in the value is UTF-8
abbrev pub TextsAreUtf8 : Value → Type 0
TextsAreUtf8 v = EachText Utf8 v
