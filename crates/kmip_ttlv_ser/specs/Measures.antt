-- What the first pass does at each event.
use Rattle.std.specs.Prelude.{ℕ, ◌+◌, ◌-◌, ◌^◌, Bool, true, false, List, [], ◌∷◌, ◌++◌, length, Option, Some}
use Rattle.std.specs.Prelude.{None, Result, Ok, Err, if◌then◌else◌, nat_lt, slice_set, codes, reverse}
use Rattle.kmip_ttlv_types.specs.ItemTypes.{pad_len}
use Rattle.kmip_ttlv_types.specs.Names.{tag_of, number, transparent_name}
use Rattle.kmip_ttlv_base.specs.Errors.{Kind, mismatch, invalid_variant, unsupported_rust_type}
use Rattle.kmip_ttlv_base.specs.Values.{Value, boolean_value, i8_value, i16_value, i32_value, u32_value, i64_value}
use Rattle.kmip_ttlv_base.specs.Values.{u64_value, date_time_value, interval_value, text_value, bytes_value, big_integer_value}
use Rattle.kmip_ttlv_base.specs.Values.{none_value as none, unit_variant_value, unsupported_value}
use Rattle.kmip_ttlv_ser.specs.declared.pending.PendingTag.{PendingTag}
use Rattle.kmip_ttlv_ser.specs.declared.pending.PendingTag.TheVariants.{Nothing, Plain, Overriding}
use Rattle.kmip_ttlv_ser.specs.declared.pending.Place.{Place}
use Rattle.kmip_ttlv_ser.specs.declared.encode_error.EncodeError.{EncodeError}
use Rattle.kmip_ttlv_ser.specs.declared.encode_error.EncodeError.TheVariants.{LengthOverflow, Invalid}
use Rattle.kmip_ttlv_ser.specs.WrittenItems.{items, take_tag, pending_tag, pending_after, without_override, is_wrapper}
use Rattle.kmip_ttlv_ser.specs.Faults.{pending_len, inside, name_kind, no_tag, tag_unused}
use Rattle.kmip_ttlv_ser.specs.Passes.{kind_of_cause, Measured}
use Rattle.kmip_ttlv_ser.specs.EncodeResults.{Fails}
use Rattle.kmip_ttlv_ser.specs.declared.measurer.Open.{Open}
use Rattle.kmip_ttlv_ser.specs.declared.measurer.Measurer.{Measurer}
use Rattle.kmip_ttlv_ser.specs.declared.measurer.Plan.{Plan}
use Rattle.kmip_ttlv_base.specs.declared.error.Error.{Error}
use Rattle.kmip_ttlv_base.specs.Visits.{Around, a_some, a_seq, a_struct, a_newtype, a_newtype_variant, a_tuple_variant}
use Rattle.kmip_ttlv_base.specs.Visits.{Event, alone, begun, ended}

-- why it stops
pub data Halt : Type 0 where
  too_long : Halt
  halted : Kind → ℕ → Halt

-- the same, of the code's own error
abbrev pub halt_of : EncodeError → Halt
halt_of LengthOverflow = too_long
halt_of (Invalid cause offset) = halted (kind_of_cause cause) offset

-- how far it is; of the open structures, the last opened comes first
pub record Going : Type 0 where
  pub place : Place
  pub pending : PendingTag
  pub sizes : List ℕ
  pub nest : List Open

-- a state by its parts
abbrev pub from : Place → PendingTag → List ℕ → List Open → Going
from p w sizes nest = record { place = p; pending = w; sizes = sizes; nest = nest }

-- the same, of the code's own state
abbrev pub going : {A : Type 0} → Measurer A → Going
going m = from m.place m.pending m.sizes.items (reverse m.nest.items)

-- how far it is, or why it stopped
abbrev pub known_by : Option EncodeError → Going → Result Going Halt
known_by None g = Ok g
known_by (Some r) g = Err (halt_of r)

-- the same, of the code's own state
abbrev pub known : {A : Type 0} → Measurer A → Result Going Halt
known m = known_by m.encode_error (going m)

-- an error at a field that comes after n bytes
abbrev pub halt_before : {T : Type 0} → Kind → ℕ → Result T Halt
halt_before kind n = if nat_lt n (2 ^ 64) then Err (halted kind n) else Err too_long

-- an error at the field that comes next, after the pending tag
abbrev pub halt_at : Kind → PendingTag → Going → Result Going Halt
halt_at kind w g = halt_before kind (g.place.offset + pending_len w)

-- the place at this offset, and whether the last field is a structure's length
abbrev pub place_at : ℕ → Bool → Place
place_at n opened = record { offset = n; opened = opened }

-- after n more bytes of an item
abbrev pub after_item : ℕ → Going → Result Going Halt
after_item n g =
    if nat_lt (g.place.offset + n) (2 ^ 64)
    then Ok (from (place_at (g.place.offset + n) false) Nothing g.sizes g.nest)
    else Err too_long

-- after a leaf with content of this length, under the pending tag
abbrev pub after_leaf : Option ℕ → ℕ → Going → Result Going Halt
after_leaf None len g = halt_at (no_tag g.place.opened) g.pending g
after_leaf (Some t) len g = if nat_lt len (2 ^ 32) then after_item (8 + len + pad_len len) g else Err too_long

-- while this tag is pending
abbrev pub under : PendingTag → Going → Going
under w g = from g.place w g.sizes g.nest

-- after the leaf of a unit variant's number, if its name is one
abbrev pub after_number : Option ℕ → List ℕ → Going → Result Going Halt
after_number None vname g = halt_at (mismatch (invalid_variant vname)) g.pending g
after_number (Some n) vname g = after_leaf (pending_tag g.pending) 4 g

-- after a unit variant, if its enum's name was taken as a tag
abbrev pub after_unit : Option ℕ → List ℕ → List ℕ → Going → Result Going Halt
after_unit None name vname g = halt_at (name_kind (tag_of name) name) g.pending g
after_unit (Some t) name vname g = after_number (number vname) vname (under (Plain t) g)

-- after a value that contains no other
abbrev pub after_alone : Value → Going → Result Going Halt
after_alone (boolean_value b) g = after_leaf (pending_tag g.pending) 8 g
after_alone (i8_value z) g = after_leaf (pending_tag g.pending) 4 g
after_alone (i16_value z) g = after_leaf (pending_tag g.pending) 4 g
after_alone (i32_value z) g = after_leaf (pending_tag g.pending) 4 g
after_alone (u32_value n) g = after_leaf (pending_tag g.pending) 4 g
after_alone (i64_value z) g = after_leaf (pending_tag g.pending) 8 g
after_alone (u64_value n) g = after_leaf (pending_tag g.pending) 8 g
after_alone (date_time_value z) g = after_leaf (pending_tag g.pending) 8 g
after_alone (interval_value n) g = after_leaf (pending_tag g.pending) 4 g
after_alone (text_value s) g = after_leaf (pending_tag g.pending) (length s) g
after_alone (bytes_value s) g = after_leaf (pending_tag g.pending) (length s) g
after_alone (big_integer_value s) g = after_leaf (pending_tag g.pending) (pad_len (length s) + length s) g
after_alone (unit_variant_value name vname) g = after_unit (take_tag g.pending name) name vname g
after_alone none g = halt_at (mismatch (unsupported_rust_type (codes "None"))) g.pending g
after_alone (unsupported_value name) g = halt_at (mismatch (unsupported_rust_type name)) g.pending g
after_alone _ g = Ok g

-- an open structure: its index among the lengths, and the offset at which its content begins
abbrev pub begun_at : ℕ → ℕ → Open
begun_at at start = record { at = at; start = start }

-- into a structure, if its name was taken as a tag
abbrev pub into : Option ℕ → List ℕ → Going → Result Going Halt
into None name g = halt_at (name_kind (tag_of name) name) g.pending g
into (Some t) name g =
    if nat_lt (g.place.offset + 8) (2 ^ 64)
    then Ok (from (inside g.place) Nothing (g.sizes ++ 0 ∷ [])
    (begun_at (length g.sizes) (g.place.offset + 8) ∷ g.nest))
    else Err too_long

-- into a wrapper, if its name was taken as a tag
abbrev pub wrapped : Option ℕ → List ℕ → (ℕ → PendingTag) → Going → Result Going Halt
wrapped None name w g = halt_at (name_kind (tag_of name) name) g.pending g
wrapped (Some t) name w g = Ok (under (w t) g)

-- into a newtype, by what follows `Transparent:` in its name
abbrev pub into_newtype : Option (List ℕ) → List ℕ → Going → Result Going Halt
into_newtype None name g = into (take_tag g.pending name) name g
into_newtype (Some n) name g = wrapped (take_tag g.pending n) n Plain g

-- into a newtype variant, by whether it is a wrapper
abbrev pub into_variant : Bool → List ℕ → Going → Result Going Halt
into_variant true name g =
    wrapped (take_tag g.pending (without_override name)) (without_override name) (pending_after g.pending name) g
into_variant false name g =
    into (take_tag g.pending (without_override (without_override name))) (without_override (without_override name)) g

-- into a group
abbrev pub into_group : Around → Going → Result Going Halt
into_group a_some g = Ok g
into_group a_seq g = Ok g
into_group (a_struct name) g = into (take_tag g.pending name) name g
into_group (a_newtype name) g = into_newtype (transparent_name name) name g
into_group (a_newtype_variant name vname) g = into_variant (is_wrapper vname) name g
into_group (a_tuple_variant name vname) g = into (take_tag g.pending (without_override name)) (without_override name) g

-- out of a structure, whose length is noted; nothing changes if none is open
abbrev pub out_of : List Open → Going → Result Going Halt
out_of [] g = Ok g
out_of (o ∷ os) g =
    if nat_lt (g.place.offset - o.start) (2 ^ 32)
    then Ok (from g.place Nothing (slice_set g.sizes o.at (g.place.offset - o.start)) os)
    else Err too_long

-- out of a wrapper, whose tag has to be used
abbrev pub unwrapped : PendingTag → Going → Result Going Halt
unwrapped Nothing g = Ok g
unwrapped (Plain t) g = halt_before tag_unused (g.place.offset + 3)
unwrapped (Overriding t) g = halt_before tag_unused (g.place.offset + 3)

-- out of a newtype, by what follows `Transparent:` in its name
abbrev pub out_of_newtype : Option (List ℕ) → Going → Result Going Halt
out_of_newtype None g = out_of g.nest g
out_of_newtype (Some n) g = unwrapped g.pending g

-- out of a newtype variant, by whether it is a wrapper
abbrev pub out_of_variant : Bool → Going → Result Going Halt
out_of_variant true g = unwrapped g.pending g
out_of_variant false g = out_of g.nest g

-- out of a group
abbrev pub out_of_group : Around → Going → Result Going Halt
out_of_group a_some g = Ok g
out_of_group a_seq g = Ok g
out_of_group (a_struct name) g = out_of g.nest g
out_of_group (a_newtype name) g = out_of_newtype (transparent_name name) g
out_of_group (a_newtype_variant name vname) g = out_of_variant (is_wrapper vname) g
out_of_group (a_tuple_variant name vname) g = out_of g.nest g

-- after an event
abbrev pub after_event : Event → Going → Result Going Halt
after_event (alone v) g = after_alone v g
after_event (begun a) g = into_group a g
after_event (ended a) g = out_of_group a g

-- the first error stays
abbrev pub measure_step : Event → Result Going Halt → Result Going Halt
measure_step e (Err h) = Err h
measure_step e (Ok g) = after_event e g

-- what the first pass returns for a value that is to be encoded at a place
abbrev pub Plans : {A : Type 0} → Value → Place → Result (Plan A) (Error A) → Type 0
Plans v p (Ok plan) = Measured (items v Nothing) p plan.end [] plan.sizes.items
Plans v p (Err e) = Fails v p e
