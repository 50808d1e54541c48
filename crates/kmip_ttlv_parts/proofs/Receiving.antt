-- What a visitor is told of a structure, part by part: the answer that `visit` of a structure of many parts needs.
use Rattle.std.proofs.Common.{◌≡◌, sym, subst, FitsSigned, List, ℕ, ℤ}
use Rattle.std.proofs.lemmas.Int.{to_z-of_z}
use Rattle.std.specs.{Int.Width, Prelude.Option, Prelude.option_map}
use Rattle.kmip_ttlv_parts.specs.MessageParts.{by_bits}
use Rattle.kmip_ttlv_base.specs.Values.{Value, Values, newtype_value, no_values, struct_value, value}
use Rattle.kmip_ttlv_base.specs.Visits.{Event, Receives, ReceivesEach, ReceivesEvent, a_struct, begun, ended, joined, optional_field, visited}
use Rattle.kmip_ttlv_base.proofs.Visiting.{visited_joined}

-- these parts were told between two states of a visitor
pub record HasReceived {V S : Type 0} (knows : V → S → Type 0) (step : Event → S → S) (vs : Values) (old new : V) : Type 0 where
  pub receives : ReceivesEach knows step vs old new

-- no parts are left
pub all_received : {V S : Type 0} {knows : V → S → Type 0} {step : Event → S → S} {old : V} → HasReceived knows step no_values old old
all_received = record { receives = λ s known. known }

-- a part, and those behind it
pub part_received :
    {V S : Type 0} {knows : V → S → Type 0} {step : Event → S → S} {v : Value} {vs : Values} {old between new : V}
    → Receives knows step v old between
    → HasReceived knows step vs between new
    → HasReceived knows step (value v vs) old new
part_received part behind = record { receives = λ s known. behind.receives _ (part s known) }

-- a leaf of a number with a sign, of which `f` says what is written, and the parts behind it: its call receives it by its bits
pub signed_received :
    {V S : Type 0} {knows : V → S → Type 0} {step : Event → S → S} (f : ℤ → Value) (w : Width) (z : ℤ) {name : List ℕ} {vs : Values} {old between new : V}
    → FitsSigned w z
    → Receives knows step (newtype_value name (f (by_bits w z))) old between
    → HasReceived knows step vs between new
    → HasReceived knows step (value (newtype_value name (f z)) vs) old new
signed_received {knows = knows} {step = step} f w z {name = name} {old = old} {between = between} fits part behind =
    let same : by_bits w z ≡ z = to_z-of_z w z fits in
    part_received (subst (λ y. Receives knows step (newtype_value name (f y)) old between) same part) behind

-- a part that may be absent, of which `f` says what is written of what is there, and those behind it
pub optional_received :
    {T V S : Type 0} {knows : V → S → Type 0} {step : Event → S → S} (f : T → Value) (x : Option T) {vs : Values} {old between new : V}
    → ReceivesEach knows step (optional_field (option_map f x)) old between
    → HasReceived knows step vs between new
    → HasReceived knows step (joined (optional_field (option_map f x)) vs) old new
optional_received {knows = knows} {step = step} f x {vs = vs} {new = new} part behind =
    record { receives = λ s known. subst (knows new) (sym (visited_joined step (optional_field (option_map f x)) vs s)) (behind.receives _ (part s known)) }

-- a structure of these parts
pub structure_received :
    {V S : Type 0} (knows : V → S → Type 0) (step : Event → S → S) (v : Value) {name : List ℕ} {vs : Values} {old first last new : V}
    → v ≡ struct_value name vs
    → ReceivesEvent knows step (begun (a_struct name)) old first
    → HasReceived knows step vs first last
    → ReceivesEvent knows step (ended (a_struct name)) last new
    → Receives knows step v old new
structure_received knows step v {new = new} is begins parts ends =
    λ s known. subst (λ w. knows new (visited step w s)) (sym is) (ends _ (parts.receives _ (begins s known)))
