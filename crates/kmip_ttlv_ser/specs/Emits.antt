-- What the second pass does at each event.
use Rattle.std.specs.Prelude.{◌≡◌, ℕ, Bool, true, false, List, [], ◌∷◌, ◌++◌, Option, Some, None}
use Rattle.kmip_ttlv_types.specs.declared.typ.TtlvType.TheVariants.{Structure}
use Rattle.kmip_ttlv_types.specs.Items.{header}
use Rattle.kmip_ttlv_types.specs.Names.{transparent_name}
use Rattle.kmip_ttlv_types.specs.Trees.{Tree, bytes_all}
use Rattle.kmip_ttlv_base.specs.Visits.{Around, a_some, a_seq, a_struct, a_newtype, a_newtype_variant, a_tuple_variant}
use Rattle.kmip_ttlv_base.specs.Visits.{Event, alone, begun, ended}
use Rattle.kmip_ttlv_ser.specs.declared.pending.PendingTag.{PendingTag}
use Rattle.kmip_ttlv_ser.specs.declared.pending.PendingTag.TheVariants.{Nothing, Plain}
use Rattle.kmip_ttlv_ser.specs.declared.emitter.Emitter.{Emitter}
use Rattle.kmip_ttlv_ser.specs.WrittenItems.{take_tag, pending_after, without_override, is_wrapper, left_over, items}

-- what was written since the start, the lengths that are still to come, and the pending tag
pub record Written (S : Type 0) : Type 0 where
  pub start : S
  pub bytes : List ℕ
  pub plan : List ℕ
  pub pending : PendingTag

-- a state by its parts
abbrev pub state : {S : Type 0} → S → List ℕ → List ℕ → PendingTag → Written S
state start bytes plan pending = record { start = start; bytes = bytes; plan = plan; pending = pending }

-- after these items, if any
abbrev pub wrote : {S : Type 0} → Option (List Tree) → Written S → Written S
wrote None s = s
wrote (Some ts) s = state s.start (s.bytes ++ bytes_all ts) s.plan (left_over s.pending ts)

-- after a structure's header, whose length is the first of the plan
abbrev pub header_of : {S : Type 0} → ℕ → List ℕ → Written S → Written S
header_of t [] s = s
header_of t (n ∷ rest) s = state s.start (s.bytes ++ header t Structure n) rest Nothing

-- after the header of a structure whose name was taken
abbrev pub began : {S : Type 0} → Option ℕ → Written S → Written S
began None s = s
began (Some t) s = header_of t s.plan s

-- after a wrapper's name was taken: its tag is pending
abbrev pub waits : {S : Type 0} → Option ℕ → (ℕ → PendingTag) → Written S → Written S
waits None hold s = s
waits (Some t) hold s = state s.start s.bytes s.plan (hold t)

-- the start of a newtype, by what follows `Transparent:` in its name
abbrev pub began_newtype : {S : Type 0} → Option (List ℕ) → List ℕ → Written S → Written S
began_newtype None name s = began (take_tag s.pending name) s
began_newtype (Some n) name s = waits (take_tag s.pending n) Plain s

-- the start of a newtype variant, by whether it is a wrapper
abbrev pub began_variant : {S : Type 0} → Bool → List ℕ → Written S → Written S
began_variant true name s = waits (take_tag s.pending (without_override name)) (pending_after s.pending name) s
began_variant false name s = began (take_tag s.pending (without_override (without_override name))) s

-- the start of a group
abbrev pub began_group : {S : Type 0} → Around → Written S → Written S
began_group a_some s = s
began_group a_seq s = s
began_group (a_struct name) s = began (take_tag s.pending name) s
began_group (a_newtype name) s = began_newtype (transparent_name name) name s
began_group (a_newtype_variant name vname) s = began_variant (is_wrapper vname) name s
began_group (a_tuple_variant name vname) s = began (take_tag s.pending (without_override name)) s

-- what an event does to the state
abbrev pub emit_step : {S : Type 0} → Event → Written S → Written S
emit_step (alone v) s = wrote (items v s.pending) s
emit_step (begun a) s = began_group a s
emit_step (ended a) s = s

-- the emitter wrote these bytes to its output, and this is left
pub record HasWritten {S O : Type 0} (given : S → List ℕ → O → Type 0) (e : Emitter O) (s : Written S) : Type 0 where
  pub gave : given s.start s.bytes e.out
  pub plan_is : s.plan ≡ e.plan.now
  pub pending_is : s.pending ≡ e.pending
