-- A visitor that builds data builds the value whose events it gets.
use Rattle.std.proofs.Common.{◌≡◌, List, [], ◌∷◌, ◌++◌, refl, sym, ap, ◌∙◌, append_assoc, append-nil}
use Rattle.kmip_ttlv_base.specs.Values.{Value, Values, no_values, value, values_of, boolean_value, i8_value, i16_value, i32_value, u32_value, i64_value}
use Rattle.kmip_ttlv_base.specs.Values.{u64_value, date_time_value, interval_value, text_value, bytes_value, big_integer_value, none_value, some_value}
use Rattle.kmip_ttlv_base.specs.Values.{seq_value, struct_value, newtype_value, unit_variant_value, newtype_variant_value, tuple_variant_value}
use Rattle.kmip_ttlv_base.specs.Values.{unsupported_value}
use Rattle.kmip_ttlv_base.specs.Visits.{a_some, a_seq, a_struct, a_newtype, a_newtype_variant, a_tuple_variant, ended, visited, visited_in}
use Rattle.kmip_ttlv_base.specs.Builds.{Unfinished, within, appended, first_of, build_step}

-- the values as a list
abbrev list_of : Values → List Value
list_of no_values = []
list_of (value v vs) = v ∷ list_of vs

values_are : (vs : Values) → values_of (list_of vs) ≡ vs
values_are no_values = refl
values_are (value v vs) = ap (value v) (values_are vs)

mutual
  -- the events of a value append it to the values of the innermost group
  pub builds : (v : Value) (s : Unfinished) → visited build_step v s ≡ appended v s
  builds (boolean_value b) s = refl
  builds (i8_value z) s = refl
  builds (i16_value z) s = refl
  builds (i32_value z) s = refl
  builds (u32_value n) s = refl
  builds (i64_value z) s = refl
  builds (u64_value n) s = refl
  builds (date_time_value z) s = refl
  builds (interval_value n) s = refl
  builds (text_value t) s = refl
  builds (bytes_value t) s = refl
  builds (big_integer_value t) s = refl
  builds none_value s = refl
  builds (some_value v) s = ap (build_step (ended a_some)) (builds v (within [] (s.values ∷ s.around)))
  builds (seq_value vs) s = ap (build_step (ended a_seq)) (builds_in vs [] (s.values ∷ s.around))
      ∙ ap (λ us. appended (seq_value us) s) (values_are vs)
  builds (struct_value name vs) s = ap (build_step (ended (a_struct name))) (builds_in vs [] (s.values ∷ s.around))
      ∙ ap (λ us. appended (struct_value name us) s) (values_are vs)
  builds (newtype_value name v) s =
      ap (build_step (ended (a_newtype name))) (builds v (within [] (s.values ∷ s.around)))
  builds (unit_variant_value name vname) s = refl
  builds (newtype_variant_value name vname v) s =
      ap (build_step (ended (a_newtype_variant name vname))) (builds v (within [] (s.values ∷ s.around)))
  builds (tuple_variant_value name vname vs) s =
      ap (build_step (ended (a_tuple_variant name vname))) (builds_in vs [] (s.values ∷ s.around))
      ∙ ap (λ us. appended (tuple_variant_value name vname us) s) (values_are vs)
  builds (unsupported_value name) s = refl

  builds_in : (vs : Values) (before : List Value) (around : List (List Value)) → visited_in build_step vs (within before around) ≡ within
      (before ++ list_of vs) around
  builds_in no_values before around = ap (λ us. within us around) (sym (append-nil before))
  builds_in (value v vs) before around =
      ap (visited_in build_step vs) (builds v (within before around)) ∙ builds_in vs (before ++ v ∷ []) around
      ∙ ap (λ us. within us around) (append_assoc before (v ∷ []) (list_of vs))

-- after the events of one value alone, the first value is that one
pub built : (v : Value) (s : Unfinished) → visited build_step v (within [] []) ≡ s → first_of s.values ≡ v
built v s received = ap (λ u. first_of u.values) (sym received ∙ builds v (within [] []))
