-- What a visitor that builds data has at each event.
use Rattle.std.specs.Prelude.{List, [], ◌∷◌, ◌++◌, map, reverse}
use Rattle.kmip_ttlv_base.specs.declared.build.Builder.{Builder}
use Rattle.kmip_ttlv_base.specs.Values.{Value, none_value, some_value, seq_value, struct_value, newtype_value}
use Rattle.kmip_ttlv_base.specs.Values.{newtype_variant_value, tuple_variant_value, values_of, view}
use Rattle.kmip_ttlv_base.specs.Visits.{Around, a_some, a_seq, a_struct, a_newtype, a_newtype_variant, a_tuple_variant}
use Rattle.kmip_ttlv_base.specs.Visits.{Event, alone, begun, ended}

-- the values so far of the innermost open group, and of each group around it, the innermost first
pub record Unfinished : Type 0 where
  pub values : List Value
  pub around : List (List Value)

-- the same by its parts
abbrev pub within : List Value → List (List Value) → Unfinished
within vs around = record { values = vs; around = around }

-- a value after those of the innermost group
abbrev pub appended : Value → Unfinished → Unfinished
appended v s = within (s.values ++ v ∷ []) s.around

-- the one value of a group
abbrev pub first_of : List Value → Value
first_of [] = none_value
first_of (v ∷ vs) = v

-- the value of a group of these values
abbrev pub group_value : Around → List Value → Value
group_value a_some vs = some_value (first_of vs)
group_value a_seq vs = seq_value (values_of vs)
group_value (a_struct name) vs = struct_value name (values_of vs)
group_value (a_newtype name) vs = newtype_value name (first_of vs)
group_value (a_newtype_variant name vname) vs = newtype_variant_value name vname (first_of vs)
group_value (a_tuple_variant name vname) vs = tuple_variant_value name vname (values_of vs)

-- closes the innermost group: a group of no values is around the outermost one
abbrev pub outside : List (List Value) → Unfinished
outside [] = within [] []
outside (vs ∷ around) = within vs around

-- the state after this event: a group that ends becomes a value of the group around it
abbrev pub build_step : Event → Unfinished → Unfinished
build_step (alone v) s = appended v s
build_step (begun a) s = within [] (s.values ∷ s.around)
build_step (ended a) s = appended (group_value a s.values) (outside s.around)

-- the state of a visitor that builds data
abbrev pub unfinished : {A : Type 0} → Builder A → Unfinished
unfinished b = within (map view b.values.items) (reverse (map (λ vs. map view vs.items) b.around.items))
