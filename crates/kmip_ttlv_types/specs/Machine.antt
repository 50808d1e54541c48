-- Which field may follow which.
use Rattle.std.specs.Prelude.{◌≡◌, Bool, true, false, if◌then◌else◌, ◌&&◌, Option, Some, None, option_map, Result, Ok}
use Rattle.std.specs.Prelude.{Err}
use Rattle.kmip_ttlv_types.specs.declared.error.Error.{Error}
use Rattle.kmip_ttlv_types.specs.declared.error.Error.TheVariants.{UnexpectedTtlvField, InvalidStateMachineOperation}
use Rattle.kmip_ttlv_types.specs.declared.field.FieldType.{FieldType}
use Rattle.kmip_ttlv_types.specs.declared.field.FieldType.TheVariants.{Tag, Typ, Length, Value, LengthAndValue}
use Rattle.kmip_ttlv_types.specs.declared.field.FieldType.TheVariants.{TypeAndLengthAndValue}
use Rattle.kmip_ttlv_types.specs.declared.machine.TtlvStateMachineMode.{TtlvStateMachineMode}
use Rattle.kmip_ttlv_types.specs.declared.machine.TtlvStateMachineMode.TheVariants.{Deserializing, Serializing}
use Rattle.kmip_ttlv_types.specs.declared.machine.TtlvStateMachine.{TtlvStateMachine}

-- the state of a machine: the field that is due, and whether the next surplus tag is ignored
pub record State : Type 0 where
  pub mode : TtlvStateMachineMode
  pub due : FieldType
  pub ignores : Bool

-- the state of this machine
abbrev pub state_of : TtlvStateMachine → State
state_of m = record { mode = m.mode; due = m.due; ignores = m.ignores_tag }

-- at the start of an item
abbrev pub start_state : TtlvStateMachineMode → State
start_state mode = record { mode = mode; due = Tag; ignores = false }

-- the table: which field is due after the given one; none if it isn't accepted where `due` is due
abbrev pub next_due : TtlvStateMachineMode → (due given : FieldType) → Option FieldType
next_due mode Tag Tag = Some Typ
next_due mode Typ Typ = Some Length
next_due mode Length Length = Some Value
next_due mode Value Value = Some Tag
next_due mode Value Tag = Some Typ
next_due Serializing Typ TypeAndLengthAndValue = Some Tag
next_due Deserializing Length LengthAndValue = Some Tag
next_due mode due given = None

-- a field that may be ignored: while serializing, a tag where a type is due
abbrev pub is_surplus_tag : TtlvStateMachineMode → (due given : FieldType) → Bool
is_surplus_tag Serializing Typ Tag = true
is_surplus_tag mode due given = false

-- such a tag is ignored if that was asked for
abbrev pub is_ignored : State → FieldType → Bool
is_ignored s given = s.ignores && is_surplus_tag s.mode s.due given

-- what `advance` returns, which is whether the field is to be written, and the state after it
pub record Step : Type 0 where
  pub answer : Bool
  pub after : State

-- one step; none if the field isn't accepted
abbrev pub step : State → FieldType → Option Step
step s given =
    if is_ignored s given
    then Some record { answer = false; after = record { mode = s.mode; due = Typ; ignores = false } }
    else option_map
    (λ due. record { answer = true; after = record { mode = s.mode; due = due; ignores = s.ignores } })
    (next_due s.mode s.due given)

-- the machine made a step; or the error names the field that is due and the one given, and the state stays
abbrev pub Advances : {A : Type 0} → State → FieldType → State → Result Bool (Error A) → Type 0
Advances old given new (Ok answer) = step old given ≡ Some record { answer = answer; after = new }
Advances old given new (Err (UnexpectedTtlvField expected actual)) =
    (step old given ≡ None) × (expected ≡ old.due) × (actual ≡ given) × (new ≡ old)
Advances old given new (Err _) = ⊥

-- the next surplus tag will be ignored; or, while deserializing, that is an error
abbrev pub Ignores : {T A : Type 0} → State → State → Result T (Error A) → Type 0
Ignores old new (Ok done) = (old.mode ≡ Serializing) × (new ≡ record { mode = old.mode; due = old.due; ignores = true })
Ignores old new (Err InvalidStateMachineOperation) = (old.mode ≡ Deserializing) × (new ≡ old)
Ignores old new (Err _) = ⊥
