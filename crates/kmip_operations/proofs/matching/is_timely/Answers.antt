use Rattle.std.proofs.Common.{ap, map, string_bytes, sym, ◌∙◌}
use Rattle.kmip_operations.specs.Listing.{meaning_of, saying_of}
use Rattle.kmip_operations.specs.Matching.{in_range, is_in_range, is_timely}
use Rattle.kmip_operations.proofs.Matched.{is_undated}
use Rattle.kmip_operations.proofs.matching.is_timely.Goals as goal

pub returns-in-DateTime : goal.returns-in-DateTime
unfolding is_timely
returns-in-DateTime g c =
    let sought = map saying_of c.args.sought.now in
    c.is_in_range.ensures ∙ ap (λ n. is_in_range n c.in-DateTime.date.0 sought) c.as_str.ensures.value
    ∙ ap (λ v. in_range (string_bytes c.args.own.now.name) (meaning_of v) sought) (sym c.in-DateTime.is)

pub returns-in_default : goal.returns-in_default
unfolding is_timely
returns-in_default g c =
    is_undated c.args.own.now.value (string_bytes c.args.own.now.name) (map saying_of c.args.sought.now) c.in_default.not-DateTime
