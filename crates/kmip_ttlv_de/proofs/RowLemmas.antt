-- What proofs of worked messages compute with.
use Rattle.std.proofs.Common.{ℕ, List}
use Rattle.std.specs.Str.{trim_end, chars, trim_start, is_utf8}
use lib.Utf8.{encode}
use Rattle.kmip_ttlv_types.specs.Names.{number, tag_of}
use Rattle.kmip_ttlv_base.specs.{Errors.Kind, Errors.malformed, Values.Value, Forms.Form}
use Rattle.kmip_ttlv_reader.specs.Steps.{Outcome, fails}
use Rattle.kmip_ttlv_reader.specs.Outcomes.{type_there, tag_wanted, length_there, structure_wanted, inside, end_there, content_there, type_wanted, leaf_outcome}
use Rattle.kmip_ttlv_reader.specs.Outcomes.{opened, item_end, ignored, rest_outcome, all_outcome, field_outcome, goes_on, run_outcome, seq_outcome}
use Rattle.kmip_ttlv_reader.specs.Outcomes.{number_outcome, enum_outcome, outcome, fields_outcome, struct_outcome, variant_outcome, content_outcome}
use Rattle.kmip_ttlv_reader.specs.Outcomes.{tuple_outcome, forms_outcome, part_outcome, first_outcome, root_outcome}
use Rattle.kmip_ttlv_reader.specs.Rules.{at_least, equal, in_brackets, member, rule, sides}
use Rattle.kmip_ttlv_base.specs.declared.error.MalformedTtlvError.TheVariants as faults

-- what a message is read as: a proof that unfolds it computes each step, each rule and each text
unfoldable pub reading : Form → List ℕ → Outcome Value
unfolding root_outcome first_outcome opened all_outcome fields_outcome field_outcome outcome leaf_outcome content_there rest_outcome ignored item_end type_there
    tag_wanted length_there structure_wanted inside end_there type_wanted seq_outcome run_outcome goes_on struct_outcome enum_outcome number_outcome
    variant_outcome content_outcome tuple_outcome forms_outcome part_outcome tag_of number rule sides equal at_least member in_brackets trim_end chars
    trim_start encode is_utf8
reading s bytes = root_outcome s bytes

-- a part of an item is not the one that is wanted
abbrev IsFieldKind : Kind → Type 0
IsFieldKind (malformed (faults.UnexpectedTtlvField expected actual)) = Unit {0}
IsFieldKind _ = ⊥

-- an outcome is an error for that cause
abbrev pub IsFieldFault : Outcome Value → Type 0
IsFieldFault (fails x) = IsFieldKind x.why
IsFieldFault _ = ⊥
