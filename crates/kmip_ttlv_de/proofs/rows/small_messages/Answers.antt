use Rattle.std.proofs.Common.{refl, codes, subst, sym}
use Rattle.kmip_ttlv_de.proofs.RowLemmas.{reading, IsFieldFault}
use Rattle.kmip_ttlv_de.proofs.rows.small_messages.Goals as goal

pub returns-clause-integers : goal.returns-clause-integers
unfolding reading
returns-clause-integers c = (refl, refl, refl, refl, refl)

pub returns-clause-no_integers : goal.returns-clause-no_integers
unfolding reading
returns-clause-no_integers c = (refl, refl, refl, refl, refl, refl, refl, refl)

pub returns-clause-overlong_integers : goal.returns-clause-overlong_integers
unfolding reading
returns-clause-overlong_integers c = (refl, refl, refl, refl)

pub returns-clause-beginnings : goal.returns-clause-beginnings
unfolding reading
returns-clause-beginnings c = (refl, refl, refl, refl, refl, refl)

pub returns-clause-first_cuts : goal.returns-clause-first_cuts
unfolding reading
returns-clause-first_cuts c = (refl, refl, refl, refl, refl, refl, refl, refl, refl, refl, refl, refl)

pub returns-clause-last_cuts : goal.returns-clause-last_cuts
unfolding reading
returns-clause-last_cuts c = (refl, refl, refl, refl, refl, refl, refl, refl, refl, refl, refl, refl)

pub returns-clause-errors_and_more : goal.returns-clause-errors_and_more
unfolding reading
returns-clause-errors_and_more c = (refl, refl, refl, refl)

pub returns-clause-dates : goal.returns-clause-dates
unfolding reading
returns-clause-dates c = (refl, refl, refl, refl)

pub returns-clause-other_numbers : goal.returns-clause-other_numbers
unfolding reading
returns-clause-other_numbers c = (refl, refl, refl, refl, refl, refl, refl)

pub returns-clause-texts : goal.returns-clause-texts
unfolding reading
returns-clause-texts c = (refl, refl, refl, refl, refl, refl, refl, refl, refl)

pub returns-clause-octets : goal.returns-clause-octets
unfolding reading
returns-clause-octets c = (refl, refl, refl, refl)

pub returns-clause-any_numbers : goal.returns-clause-any_numbers
unfolding reading
returns-clause-any_numbers c = (refl, refl, refl, refl, refl, refl)

pub returns-clause-further_fields : goal.returns-clause-further_fields
unfolding reading
returns-clause-further_fields c = (refl, refl, refl, refl, refl)

pub returns-clause-options : goal.returns-clause-options
unfolding reading
returns-clause-options c = (refl, refl, refl)

pub returns-clause-rules : goal.returns-clause-rules
unfolding reading
returns-clause-rules c = (refl, refl, refl, refl, refl)

pub returns-clause-rules_of_any_number : goal.returns-clause-rules_of_any_number
unfolding reading
returns-clause-rules_of_any_number c = (refl, refl, refl, refl)

pub returns-clause-first_rules : goal.returns-clause-first_rules
unfolding reading
returns-clause-first_rules c = (refl, refl, refl)

pub returns-clause-no_rules : goal.returns-clause-no_rules
unfolding reading
returns-clause-no_rules c = (refl, refl, refl)

pub returns-clause-faulty_rules : goal.returns-clause-faulty_rules
unfolding reading
returns-clause-faulty_rules c = (refl, refl, refl, refl, refl, refl, refl)

pub returns-clause-contents_by_number : goal.returns-clause-contents_by_number
unfolding reading
returns-clause-contents_by_number c = (refl, refl, refl)

pub returns-clause-no_variants_named : goal.returns-clause-no_variants_named
unfolding reading
returns-clause-no_variants_named c = (refl, refl, refl, refl, refl, refl, refl, refl, refl)

pub returns-clause-stored_values : goal.returns-clause-stored_values
unfolding reading
returns-clause-stored_values c = (refl, refl, refl)

pub returns-clause-tuples : goal.returns-clause-tuples
unfolding reading
returns-clause-tuples c = (refl, (codes "too many items", refl), (codes "too few items", refl), (codes "too few items", refl), refl)

pub returns-clause-tuple_ends : goal.returns-clause-tuple_ends
unfolding reading
returns-clause-tuple_ends c = (refl, refl, refl, refl)

pub returns-clause-contents_by_rule : goal.returns-clause-contents_by_rule
unfolding reading
returns-clause-contents_by_rule c = (refl, refl, refl)

pub returns-clause-structs_in_structs : goal.returns-clause-structs_in_structs
unfolding reading
returns-clause-structs_in_structs c = (refl, refl, refl, refl, refl, refl)

pub returns-clause-errors_in_structs : goal.returns-clause-errors_in_structs
unfolding reading
returns-clause-errors_in_structs c = (refl, refl, refl)

pub returns-clause-structs_around : goal.returns-clause-structs_around
unfolding reading
returns-clause-structs_around c = (refl, refl, refl)

pub returns-clause-sequences : goal.returns-clause-sequences
unfolding reading
returns-clause-sequences c = (refl, refl, refl, refl, refl)

pub returns-clause-other_forms : goal.returns-clause-other_forms
unfolding reading
returns-clause-other_forms c = (refl, refl, refl, refl, refl)

pub returns-clause-items_behind_fields : goal.returns-clause-items_behind_fields
unfolding reading
returns-clause-items_behind_fields c = (refl, refl, refl, refl, refl, refl, refl)

pub returns-clause-items_behind_tuples : goal.returns-clause-items_behind_tuples
unfolding reading
returns-clause-items_behind_tuples c = ((codes "too many items", refl), (codes "too many items", refl), (codes "too many items", refl))

pub returns-clause-cut_enums : goal.returns-clause-cut_enums
unfolding reading
returns-clause-cut_enums c = (refl, refl, refl, refl, refl, refl, refl, refl, refl)

pub returns-clause-leaf_roots : goal.returns-clause-leaf_roots
unfolding reading
returns-clause-leaf_roots c = (refl, refl, refl, refl, refl, refl, refl, refl, refl, refl)

pub returns-clause-leaf_roots_of_nothing : goal.returns-clause-leaf_roots_of_nothing
unfolding reading
returns-clause-leaf_roots_of_nothing c = (refl, refl, refl, refl, refl, refl, refl, refl, refl, refl)

pub returns-clause-other_roots : goal.returns-clause-other_roots
unfolding reading
returns-clause-other_roots c = (
  (codes "no struct", refl),
  (codes "no struct", refl),
  (codes "no struct", refl),
  (codes "no struct", refl),
  (codes "no struct", refl),
  (codes "no struct", refl),
  (codes "no struct", refl),
  (codes "no struct", refl),
  (codes "no struct", refl),
  (codes "no struct", refl),
)

pub returns-clause-structs_in_others : goal.returns-clause-structs_in_others
unfolding reading
returns-clause-structs_in_others c = refl

pub returns-clause-other_types : goal.returns-clause-other_types
unfolding reading
returns-clause-other_types c = (refl, refl, refl, refl, refl, refl, refl, refl, refl, refl)

pub returns-clause-rules_of_types : goal.returns-clause-rules_of_types
unfolding reading
returns-clause-rules_of_types c = (refl, refl, refl, refl, refl, refl, refl, refl, refl, refl)

pub returns-clause-rules_of_other_types : goal.returns-clause-rules_of_other_types
unfolding reading
returns-clause-rules_of_other_types c = (
  λ e. subst IsFieldFault (sym e) tt,
  λ e. subst IsFieldFault (sym e) tt,
  λ e. subst IsFieldFault (sym e) tt,
  λ e. subst IsFieldFault (sym e) tt,
  λ e. subst IsFieldFault (sym e) tt,
  λ e. subst IsFieldFault (sym e) tt,
  λ e. subst IsFieldFault (sym e) tt,
  λ e. subst IsFieldFault (sym e) tt,
  λ e. subst IsFieldFault (sym e) tt,
  λ e. subst IsFieldFault (sym e) tt,
)
