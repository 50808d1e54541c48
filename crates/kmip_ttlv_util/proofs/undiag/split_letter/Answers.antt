use Rattle.std.proofs.Common.{◌≡◌, Some, ◌∙◌, sym, rules}
use Rattle.std.specs.List.{slice_get}
use Rattle.std.proofs.lemmas.Option.{slice_get_within, get_or_from_slice_get}
use Rattle.kmip_ttlv_util.proofs.Fronts.{letter_boundary}
use Rattle.kmip_ttlv_util.proofs.undiag.split_letter.Goals as goal

pub range_from-requires : goal.range_from-requires
range_from-requires c =
    let is : slice_get c.args.s.now 0 ≡ Some c.in-Some.first = search rules in
    λ some. letter_boundary c.args.s.now c.in-Some.first c.in-Some-type_of_letter.typ c.utf8.s (slice_get_within c.args.s.now 0 c.in-Some.first is)
    (sym (get_or_from_slice_get c.args.s.now 0 c.in-Some.first 0 is)) (sym c.type_of_letter.ensures ∙ c.in-Some-type_of_letter.is)
