-- What the pass that writes lengths at the ends of structures does at each event.
use Rattle.std.specs.Prelude.{ℕ, ◌+◌, ◌-◌, ◌^◌, Bool, true, false, List, ◌++◌, length, take, drop}
use Rattle.std.specs.Prelude.{Option, Some, None, if◌then◌else◌, nat_lt}
use Rattle.std.specs.Int.{w32, to_be_bytes, from_be_bytes}
use Rattle.kmip_ttlv_types.specs.declared.typ.TtlvType.TheVariants.{Structure}
use Rattle.kmip_ttlv_types.specs.Items.{header}
use Rattle.kmip_ttlv_types.specs.Names.{transparent_name}
use Rattle.kmip_ttlv_types.specs.Trees.{Tree, bytes_all}
use Rattle.kmip_ttlv_base.specs.Visits.{Around, a_some, a_seq, a_struct, a_newtype, a_newtype_variant, a_tuple_variant}
use Rattle.kmip_ttlv_base.specs.Visits.{Event, alone, begun, ended}
use Rattle.kmip_ttlv_ser.specs.declared.pending.PendingTag.{PendingTag}
use Rattle.kmip_ttlv_ser.specs.declared.pending.PendingTag.TheVariants.{Nothing, Plain, Overriding}
use Rattle.kmip_ttlv_ser.specs.declared.single.Single.{Single}
use Rattle.kmip_ttlv_ser.specs.Waiting.{filled}
use Rattle.kmip_ttlv_ser.specs.WrittenItems.{take_tag, pending_after, without_override, is_wrapper, left_over, items}

-- the bytes so far, the pending tag, and where the content of the innermost open structure begins
pub record Writing : Type 0 where
  pub bytes : List ℕ
  pub pending : PendingTag
  pub start : ℕ

-- a state by its parts
abbrev pub from : List ℕ → PendingTag → ℕ → Writing
from bytes pending start = record { bytes = bytes; pending = pending; start = start }

-- the same, of the code's own state
abbrev pub writing : Single → Writing
writing s = from (filled s.room) s.pending s.start

-- after these items, if there are any
abbrev pub put : Option (List Tree) → Writing → Option Writing
put None s = None
put (Some ts) s = Some (from (s.bytes ++ bytes_all ts) (left_over s.pending ts) s.start)

-- into a structure, if its name was taken: its length's place holds where the structure around it begins
abbrev pub entered : Option ℕ → Writing → Option Writing
entered None s = None
entered (Some t) s =
    if nat_lt s.start (2 ^ 32) then Some (from (s.bytes ++ header t Structure s.start) Nothing (length s.bytes + 8)) else None

-- out of a structure, whose length is written into its place
abbrev pub left : Writing → Option Writing
left s =
    Some (from (take (s.start - 4) s.bytes ++ to_be_bytes w32 (length s.bytes - s.start) ++ drop s.start s.bytes) Nothing
    (from_be_bytes w32 (take 4 (drop (s.start - 4) s.bytes))))

-- into a wrapper, if its name was taken: its tag is pending
abbrev pub waits : Option ℕ → (ℕ → PendingTag) → Writing → Option Writing
waits None hold s = None
waits (Some t) hold s = Some (from s.bytes (hold t) s.start)

-- out of a wrapper, whose tag has to be used
abbrev pub unwrapped : PendingTag → Writing → Option Writing
unwrapped Nothing s = Some s
unwrapped (Plain t) s = None
unwrapped (Overriding t) s = None

-- into a newtype, by what follows `Transparent:` in its name
abbrev pub entered_newtype : Option (List ℕ) → List ℕ → Writing → Option Writing
entered_newtype None name s = entered (take_tag s.pending name) s
entered_newtype (Some n) name s = waits (take_tag s.pending n) Plain s

-- into a newtype variant, by whether it is a wrapper
abbrev pub entered_variant : Bool → List ℕ → Writing → Option Writing
entered_variant true name s = waits (take_tag s.pending (without_override name)) (pending_after s.pending name) s
entered_variant false name s = entered (take_tag s.pending (without_override (without_override name))) s

-- into a group
abbrev pub entered_group : Around → Writing → Option Writing
entered_group a_some s = Some s
entered_group a_seq s = Some s
entered_group (a_struct name) s = entered (take_tag s.pending name) s
entered_group (a_newtype name) s = entered_newtype (transparent_name name) name s
entered_group (a_newtype_variant name vname) s = entered_variant (is_wrapper vname) name s
entered_group (a_tuple_variant name vname) s = entered (take_tag s.pending (without_override name)) s

-- out of a newtype, by what follows `Transparent:` in its name
abbrev pub left_newtype : Option (List ℕ) → Writing → Option Writing
left_newtype None s = left s
left_newtype (Some n) s = unwrapped s.pending s

-- out of a newtype variant, by whether it is a wrapper
abbrev pub left_variant : Bool → Writing → Option Writing
left_variant true s = unwrapped s.pending s
left_variant false s = left s

-- out of a group
abbrev pub left_group : Around → Writing → Option Writing
left_group a_some s = Some s
left_group a_seq s = Some s
left_group (a_struct name) s = left s
left_group (a_newtype name) s = left_newtype (transparent_name name) s
left_group (a_newtype_variant name vname) s = left_variant (is_wrapper vname) s
left_group (a_tuple_variant name vname) s = left s

-- after an event
abbrev pub after_event : Event → Writing → Option Writing
after_event (alone v) s = put (items v s.pending) s
after_event (begun a) s = entered_group a s
after_event (ended a) s = left_group a s

-- what an event does to the state; nothing is known once the pass gave up
abbrev pub single_step : Event → Option Writing → Option Writing
single_step e None = None
single_step e (Some s) = after_event e s
