-- The events that a visitor gets of a value, in document order.
use Rattle.std.specs.Prelude.{ℕ, List, Option, None, Some}
use Rattle.kmip_ttlv_types.specs.Digits.{tag_text}
use Rattle.kmip_ttlv_base.specs.Tags.{wrapper_name}
use Rattle.kmip_ttlv_base.specs.Values.{Value, Values, no_values, value}
use Rattle.kmip_ttlv_base.specs.Values.{boolean_value, i8_value, i16_value, i32_value, u32_value, i64_value, u64_value}
use Rattle.kmip_ttlv_base.specs.Values.{date_time_value, interval_value, text_value, bytes_value, big_integer_value, none_value}
use Rattle.kmip_ttlv_base.specs.Values.{some_value, seq_value, struct_value, newtype_value, unit_variant_value}
use Rattle.kmip_ttlv_base.specs.Values.{newtype_variant_value, tuple_variant_value, unsupported_value}
use Rattle.kmip_ttlv_base.specs.declared.visit.Leaf.{Leaf}
use Rattle.kmip_ttlv_base.specs.declared.visit.Leaf.TheVariants as leaves
use Rattle.kmip_ttlv_base.specs.declared.visit.Group.{Group}
use Rattle.kmip_ttlv_base.specs.declared.visit.Group.TheVariants as groups

-- a value that contains other values, without these
pub data Around : Type 0 where
  a_some : Around
  a_seq : Around
  a_struct : (name : List ℕ) → Around
  a_newtype : (name : List ℕ) → Around
  a_newtype_variant : (name vname : List ℕ) → Around
  a_tuple_variant : (name vname : List ℕ) → Around

-- an event: a value that contains no other, or the start or the end of a group
pub data Event : Type 0 where
  alone : Value → Event
  begun : Around → Event
  ended : Around → Event

-- the value that a leaf is
abbrev pub leaf_value : Leaf → Value
leaf_value (leaves.Bool b) = boolean_value b
leaf_value (leaves.I8 z) = i8_value z
leaf_value (leaves.I16 z) = i16_value z
leaf_value (leaves.I32 z) = i32_value z
leaf_value (leaves.U32 n) = u32_value n
leaf_value (leaves.I64 z) = i64_value z
leaf_value (leaves.U64 n) = u64_value n
leaf_value (leaves.DateTime z) = date_time_value z
leaf_value (leaves.Interval n) = interval_value n
leaf_value (leaves.Text s) = text_value s.now
leaf_value (leaves.Bytes s) = bytes_value s.now
leaf_value (leaves.BigInteger s) = big_integer_value s.now
leaf_value leaves.None = none_value
leaf_value (leaves.UnitVariant name variant) = unit_variant_value name.now variant.now
leaf_value (leaves.Unsupported name) = unsupported_value name.now

-- what a group is
abbrev pub around : Group → Around
around groups.Some = a_some
around groups.Seq = a_seq
around (groups.Struct name) = a_struct name.now
around (groups.Newtype name) = a_newtype name.now
around (groups.Tagged n) = a_newtype (wrapper_name n)
around (groups.Structure n) = a_struct (tag_text n)
around (groups.NewtypeVariant name variant) = a_newtype_variant name.now variant.now
around (groups.TupleVariant name variant) = a_tuple_variant name.now variant.now

-- the state after all events of a value, by what one event does to it
abbrev mutual
  pub visited : {S : Type 0} → (Event → S → S) → Value → S → S
  visited step (boolean_value b) s = step (alone (boolean_value b)) s
  visited step (i8_value z) s = step (alone (i8_value z)) s
  visited step (i16_value z) s = step (alone (i16_value z)) s
  visited step (i32_value z) s = step (alone (i32_value z)) s
  visited step (u32_value n) s = step (alone (u32_value n)) s
  visited step (i64_value z) s = step (alone (i64_value z)) s
  visited step (u64_value n) s = step (alone (u64_value n)) s
  visited step (date_time_value z) s = step (alone (date_time_value z)) s
  visited step (interval_value n) s = step (alone (interval_value n)) s
  visited step (text_value t) s = step (alone (text_value t)) s
  visited step (bytes_value t) s = step (alone (bytes_value t)) s
  visited step (big_integer_value t) s = step (alone (big_integer_value t)) s
  visited step none_value s = step (alone none_value) s
  visited step (some_value v) s = step (ended a_some) (visited step v (step (begun a_some) s))
  visited step (seq_value vs) s = step (ended a_seq) (visited_in step vs (step (begun a_seq) s))
  visited step (struct_value name vs) s =
      step (ended (a_struct name)) (visited_in step vs (step (begun (a_struct name)) s))
  visited step (newtype_value name v) s =
      step (ended (a_newtype name)) (visited step v (step (begun (a_newtype name)) s))
  visited step (unit_variant_value name vname) s = step (alone (unit_variant_value name vname)) s
  visited step (newtype_variant_value name vname v) s =
      step (ended (a_newtype_variant name vname)) (visited step v (step (begun (a_newtype_variant name vname)) s))
  visited step (tuple_variant_value name vname vs) s =
      step (ended (a_tuple_variant name vname)) (visited_in step vs (step (begun (a_tuple_variant name vname)) s))
  visited step (unsupported_value name) s = step (alone (unsupported_value name)) s

  pub visited_in : {S : Type 0} → (Event → S → S) → Values → S → S
  visited_in step no_values s = s
  visited_in step (value v vs) s = visited_in step vs (visited step v s)

-- for each state that was known of the old visitor, the changed one is known of the new
abbrev pub Knows : {V S : Type 0} → (V → S → Type 0) → (S → S) → V → V → Type 0
Knows {S = S} knows change old new = (s : S) → knows old s → knows new (change s)

-- the same, changed by all events of this value
abbrev pub Receives : {V S : Type 0} → (V → S → Type 0) → (Event → S → S) → Value → V → V → Type 0
Receives knows step v old new = Knows knows (visited step v) old new

-- the same, changed by all events of these values
abbrev pub ReceivesEach : {V S : Type 0} → (V → S → Type 0) → (Event → S → S) → Values → V → V → Type 0
ReceivesEach knows step vs old new = Knows knows (visited_in step vs) old new

-- the same, changed by this event
abbrev pub ReceivesEvent : {V S : Type 0} → (V → S → Type 0) → (Event → S → S) → Event → V → V → Type 0
ReceivesEvent knows step e old new = Knows knows (step e) old new

-- the same, changed by a group's start, by what is inside, and by its end
abbrev pub Encloses : {V S : Type 0} → (V → S → Type 0) → (Event → S → S) → Around → (S → S) → V → V → Type 0
Encloses knows step a inside old new = Knows knows (λ s. step (ended a) (inside (step (begun a) s))) old new

-- the values of a field that may be absent
abbrev pub optional_field : Option Value → Values
optional_field None = no_values
optional_field (Some v) = value v no_values

-- values after values
abbrev pub joined : Values → Values → Values
joined no_values later = later
joined (value v vs) later = value v (joined vs later)
