-- The values that a form can give: those of its kind with its names.
use Rattle.std.specs.Prelude.{◌≡◌, ℕ, List, ◌⊎◌}
use Rattle.kmip_ttlv_base.specs.Values.{Value, boolean_value, i32_value, u32_value, i64_value, date_time_value, interval_value}
use Rattle.kmip_ttlv_base.specs.Values.{text_value, bytes_value, big_integer_value, none_value, some_value, seq_value, struct_value}
use Rattle.kmip_ttlv_base.specs.Values.{newtype_value, unit_variant_value, newtype_variant_value, tuple_variant_value}
use Rattle.kmip_ttlv_base.specs.Values.{Values, no_values, value}
use Rattle.kmip_ttlv_base.specs.Forms.{Form, struct, option, seq, newtype, enum, int32, int64, boolean, text, octets}
use Rattle.kmip_ttlv_base.specs.Forms.{date_time, interval, big_integer, any_number, Fields, no_fields, field, any_items, Variants, no_variants, variant}
use Rattle.kmip_ttlv_base.specs.Forms.{Content, unit, wrapped, tuple, Forms, no_forms, form}

-- a number that an Integer is
abbrev pub IsI32 : Value → Type 0
IsI32 (i32_value z) = Unit {0}
IsI32 _ = ⊥

-- a number that a Long Integer or a Date-Time is
abbrev pub IsI64 : Value → Type 0
IsI64 (i64_value z) = Unit {0}
IsI64 _ = ⊥

-- true or false
abbrev pub IsBool : Value → Type 0
IsBool (boolean_value b) = Unit {0}
IsBool _ = ⊥

-- a text
abbrev pub IsText : Value → Type 0
IsText (text_value s) = Unit {0}
IsText _ = ⊥

-- any bytes
abbrev pub IsBytes : Value → Type 0
IsBytes (bytes_value s) = Unit {0}
IsBytes _ = ⊥

-- a date
abbrev pub IsDateTime : Value → Type 0
IsDateTime (date_time_value z) = Unit {0}
IsDateTime _ = ⊥

-- a span of time
abbrev pub IsInterval : Value → Type 0
IsInterval (interval_value n) = Unit {0}
IsInterval _ = ⊥

-- the bytes of a big integer
abbrev pub IsBigInteger : Value → Type 0
IsBigInteger (big_integer_value s) = Unit {0}
IsBigInteger _ = ⊥

-- the number of an Enumeration
abbrev pub IsNumber : Value → Type 0
IsNumber (u32_value n) = Unit {0}
IsNumber _ = ⊥

-- an option is None, or Some of what the form inside gives
abbrev pub OptionGives : (Value → Type 0) → Value → Type 0
OptionGives gives none_value = Unit {0}
OptionGives gives (some_value v) = gives v
OptionGives gives _ = ⊥

-- each value is one that the form gives
abbrev pub EachGives : (Value → Type 0) → Values → Type 0
EachGives gives no_values = Unit {0}
EachGives gives (value v vs) = gives v × EachGives gives vs

-- a sequence of values that the form inside gives
abbrev pub SeqGives : (Value → Type 0) → Value → Type 0
SeqGives gives (seq_value vs) = EachGives gives vs
SeqGives gives _ = ⊥

-- a newtype of this name, with what the form inside gives
abbrev pub NewtypeGives : List ℕ → (Value → Type 0) → Value → Type 0
NewtypeGives name gives (newtype_value n v) = (n ≡ name) × gives v
NewtypeGives name gives _ = ⊥

-- a struct of this name, with what its fields give
abbrev pub StructGives : List ℕ → (Values → Type 0) → Value → Type 0
StructGives name gives (struct_value n vs) = (n ≡ name) × gives vs
StructGives name gives _ = ⊥

-- the unit variant of these names
abbrev pub UnitGives : List ℕ → List ℕ → Value → Type 0
UnitGives name vname (unit_variant_value n vn) = (n ≡ name) × (vn ≡ vname)
UnitGives name vname _ = ⊥

-- the variant of these names, with what the form inside gives
abbrev pub WrappedGives : List ℕ → List ℕ → (Value → Type 0) → Value → Type 0
WrappedGives name vname gives (newtype_variant_value n vn v) = (n ≡ name) × (vn ≡ vname) × gives v
WrappedGives name vname gives _ = ⊥

-- the variant of these names, with what its forms give
abbrev pub TupleGives : List ℕ → List ℕ → (Values → Type 0) → Value → Type 0
TupleGives name vname gives (tuple_variant_value n vn vs) = (n ≡ name) × (vn ≡ vname) × gives vs
TupleGives name vname gives _ = ⊥

-- the first value by one form, and the others by the other forms
abbrev pub FirstGives : (Value → Type 0) → (Values → Type 0) → Values → Type 0
FirstGives gives others no_values = ⊥
FirstGives gives others (value v vs) = gives v × others vs

-- no values
abbrev pub IsEmpty : Values → Type 0
IsEmpty no_values = Unit {0}
IsEmpty (value v vs) = ⊥

-- the value of a leaf
abbrev pub IsLeaf : Value → Type 0
IsLeaf (boolean_value b) = Unit {0}
IsLeaf (i32_value z) = Unit {0}
IsLeaf (u32_value n) = Unit {0}
IsLeaf (i64_value z) = Unit {0}
IsLeaf (date_time_value z) = Unit {0}
IsLeaf (interval_value n) = Unit {0}
IsLeaf (text_value s) = Unit {0}
IsLeaf (bytes_value s) = Unit {0}
IsLeaf (big_integer_value s) = Unit {0}
IsLeaf _ = ⊥

-- the value of an item of any type: a leaf under its tag, or a structure of such items
abbrev mutual
  pub IsAnItem : Value → Type 0
  IsAnItem (newtype_value name v) = IsLeaf v
  IsAnItem (struct_value name vs) = AreItems vs
  IsAnItem _ = ⊥

  pub AreItems : Values → Type 0
  AreItems no_values = Unit {0}
  AreItems (value v vs) = IsAnItem v × AreItems vs

-- the form can give the value; an enum gives any of its variants
abbrev mutual
  pub Gives : Form → Value → Type 0
  Gives (struct name fs deny) v = StructGives name (FieldsGive fs) v
  Gives (option s) v = OptionGives (Gives s) v
  Gives (seq s) v = SeqGives (Gives s) v
  Gives (newtype name s) v = NewtypeGives name (Gives s) v
  Gives (enum name vs) v = VariantsGive name vs v
  Gives int32 v = IsI32 v
  Gives int64 v = IsI64 v
  Gives boolean v = IsBool v
  Gives text v = IsText v
  Gives octets v = IsBytes v
  Gives date_time v = IsDateTime v
  Gives interval v = IsInterval v
  Gives big_integer v = IsBigInteger v
  Gives any_number v = IsNumber v

  pub FieldsGive : Fields → Values → Type 0
  FieldsGive no_fields vs = IsEmpty vs
  FieldsGive (field name s fs) vs = FirstGives (Gives s) (FieldsGive fs) vs
  FieldsGive any_items vs = AreItems vs

  pub VariantsGive : List ℕ → Variants → Value → Type 0
  VariantsGive name no_variants v = ⊥
  VariantsGive name (variant vname c vs) v = ContentGives name vname c v ⊎ VariantsGive name vs v

  pub ContentGives : List ℕ → List ℕ → Content → Value → Type 0
  ContentGives name vname unit v = UnitGives name vname v
  ContentGives name vname (wrapped s) v = WrappedGives name vname (Gives s) v
  ContentGives name vname (tuple ss) v = TupleGives name vname (FormsGive ss) v

  pub FormsGive : Forms → Values → Type 0
  FormsGive no_forms vs = IsEmpty vs
  FormsGive (form s ss) vs = FirstGives (Gives s) (FormsGive ss) vs
