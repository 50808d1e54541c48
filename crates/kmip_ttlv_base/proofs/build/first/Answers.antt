use Rattle.std.proofs.Common.{arith, ◌∙◌, sym, ap, map}
use Rattle.std.proofs.lemmas.{Bool.eqb-true, List.nil_from_length}
use Rattle.kmip_ttlv_base.specs.{Values.view, Builds.first_of}
use Rattle.kmip_ttlv_base.proofs.Views.{view-None}
use Rattle.kmip_ttlv_base.proofs.build.first.Goals as goal

pub returns-then-is_empty : goal.returns-then-is_empty
returns-then-is_empty g c = view-None _ ∙ ap (λ xs. first_of (map view xs))
    (sym (nil_from_length c.args.values.items (omega (arith, c.args.values.ok.0, eqb-true c.args.values.len 0 (sym c.is_empty.ensures ∙ c.if-is_empty.true)))))
