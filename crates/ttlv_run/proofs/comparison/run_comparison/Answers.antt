use Rattle.std.proofs.Common.{◌∙◌, ap, refl, subst}
use Rattle.std.specs.Prelude.{string_bytes}
use Rattle.kmip_ttlv_types.specs.Held.{held, Says}
use Rattle.kmip_ttlv_types.proofs.Held.{rests}
use Rattle.ttlv_run.specs.declared.identifiers.TheConstants.{STANDARD_IDENTIFIERS}
use Rattle.ttlv_run.specs.Tools.{compared, refused, lacks_table, memory_ended, no_tags, no_memory_line, names_for}
use Rattle.ttlv_run.proofs.Comparing.{compares_as}
use Rattle.ttlv_run.proofs.comparison.run_comparison.Goals as goal

pub returns-in-Err : goal.returns-in-Err
returns-in-Err g c = λ terminal can_fail input left. let h = c.in-Err.ensures.err in refused h.0 (lacks_table (no_tags h.1)) h.2 (rests _)

pub returns-in_default : goal.returns-in_default
returns-in_default g c = λ terminal can_fail input left.
    let of = held g.E.Sink.emitted g.E.Sink.room in
    refused no_memory_line (memory_ended c.no_memory.ensures.status refl)
    (subst (λ e. Says (of e) (of c.no_memory.new.errors) no_memory_line) c.in-Ok.ensures.quiet c.no_memory.ensures.reported)
    (rests _)

pub returns : goal.returns
returns g c = λ terminal can_fail input left.
    let of = held g.E.Sink.emitted g.E.Sink.room in
    compared (string_bytes c.in-Ok.tags) c.args.pair c.requires c.in-Ok.ensures.ok
    (compares_as _ _ _ _ _ _ _ _ _
    (c.in-Ok-names_in.ensures.names ∙ ap (λ t. names_for t STANDARD_IDENTIFIERS.now) c.as_str.ensures.value)
    (ap (λ e. record { opener = c.args.opener.now; output = held g.W.Sink.emitted g.W.Sink.room c.args.output.now; errors = of e })
    c.in-Ok.ensures.quiet)
    c.run_compared.ensures)
