-- Values: data, apart from where it is in memory.
use Rattle.std.specs.Prelude.{ℕ, ℤ, Bool, List, [], ◌∷◌, map, string_bytes}
use Rattle.kmip_ttlv_types.specs.Digits.{tag_text}
use Rattle.kmip_ttlv_base.specs.Tags.{wrapper_name}
use Rattle.kmip_ttlv_base.specs.declared.shape.Data.{Data, fold-Data, Data-F}
use Rattle.kmip_ttlv_base.specs.declared.shape.Data.TheOpen as layer

mutual
  -- a value that is encoded, or that was decoded
  pub data Value : Type 0 where
    boolean_value : Bool → Value
    i8_value : ℤ → Value
    i16_value : ℤ → Value
    i32_value : ℤ → Value
    u32_value : ℕ → Value
    i64_value : ℤ → Value
    u64_value : ℕ → Value
    date_time_value : ℤ → Value
    interval_value : ℕ → Value
    text_value : List ℕ → Value
    bytes_value : List ℕ → Value
    big_integer_value : List ℕ → Value
    none_value : Value
    some_value : Value → Value
    seq_value : Values → Value
    struct_value : (name : List ℕ) → Values → Value
    newtype_value : (name : List ℕ) → Value → Value
    unit_variant_value : (name vname : List ℕ) → Value
    newtype_variant_value : (name vname : List ℕ) → Value → Value
    tuple_variant_value : (name vname : List ℕ) → Values → Value
    unsupported_value : (name : List ℕ) → Value

  -- values, one after the other
  pub data Values : Type 0 where
    no_values : Values
    value : Value → Values → Values

-- the values of a list
abbrev pub values_of : List Value → Values
values_of [] = no_values
values_of (v ∷ vs) = value v (values_of vs)

-- one level, from the values of what is inside
abbrev pub view_step : {A : Type 0} → Data-F A Value → Value
view_step (layer.Bool b) = boolean_value b
view_step (layer.I8 z) = i8_value z
view_step (layer.I16 z) = i16_value z
view_step (layer.I32 z) = i32_value z
view_step (layer.U32 n) = u32_value n
view_step (layer.I64 z) = i64_value z
view_step (layer.U64 n) = u64_value n
view_step (layer.DateTime z) = date_time_value z
view_step (layer.Interval n) = interval_value n
view_step (layer.Text s) = text_value (string_bytes s)
view_step (layer.Bytes v) = bytes_value v.items
view_step (layer.BigInteger v) = big_integer_value v.items
view_step layer.None = none_value
view_step (layer.Some b) = some_value b.value
view_step (layer.Seq v) = seq_value (values_of v.items)
view_step (layer.Struct name fields) = struct_value name.now (values_of fields.items)
view_step (layer.Newtype name inner) = newtype_value name.now inner.value
view_step (layer.Tagged n inner) = newtype_value (wrapper_name n) inner.value
view_step (layer.Structure n fields) = struct_value (tag_text n) (values_of fields.items)
view_step (layer.UnitVariant name variant) = unit_variant_value name.now variant.now
view_step (layer.NewtypeVariant name variant inner) = newtype_variant_value name.now variant.now inner.value
view_step (layer.TupleVariant name variant fields) = tuple_variant_value name.now variant.now (values_of fields.items)
view_step (layer.Unsupported name) = unsupported_value name.now

-- the value that data is
abbrev pub view : {A : Type 0} → Data A → Value
view {A} d = fold-Data A Value view_step d

-- the values that a list of data is
abbrev pub views : {A : Type 0} → List (Data A) → Values
views {A} ds = values_of (map view ds)
