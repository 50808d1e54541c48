use Rattle.std.proofs.Common.{Bool, ap, sym, ◌∙◌}
use Rattle.std.specs.Prelude.{◌||◌}
use Rattle.kmip_ttlv_names.specs.{NameTables.is_good, OwnNames.value_line_of}
use Rattle.kmip_ttlv_names.proofs.own.add_own_line.Goals as goal

pub returns-then-named : goal.returns-then-named
returns-then-named g c =
    let valued = is_good (value_line_of c.args.line.now) in
    record {
      tells = c.if-named.true ∙ sym (ap (λ (b : Bool). b || valued) (sym c.in_ok-named.ensures.tells ∙ c.if-named.true));
      tags_are = c.in_ok-named.ensures.adds;
      values_are = c.in_ok-valued.ensures.adds;
    }

pub returns-else-named : goal.returns-else-named
returns-else-named g c =
    let valued = is_good (value_line_of c.args.line.now) in
    record {
      tells = c.in_ok-valued.ensures.tells ∙ sym (ap (λ (b : Bool). b || valued) (sym c.in_ok-named.ensures.tells ∙ c.if-named.false));
      tags_are = c.in_ok-named.ensures.adds;
      values_are = c.in_ok-valued.ensures.adds;
    }
