use Rattle.std.proofs.Common.{rules, arith, ◌≡◌, [], ap, sym, ◌∙◌}
use Rattle.std.proofs.lemmas.List.{nil_from_length}
use Rattle.kmip_ttlv_names.specs.ValueNames.{name_of_value}
use Rattle.ttlv_run.proofs.Bits.{no_entries}
use Rattle.ttlv_run.proofs.Entries.{cut_passed, cut_named}
use Rattle.ttlv_run.proofs.masks.next_name.Goals as goal

pub entries-preserved : goal.entries-preserved
entries-preserved c = (
  search rules,
  λ other le. c.entries.invariant.1 other le
      ∙ cut_passed other c.entries.rest.now _ _ c.cut.ensures.entry c.cut.ensures.others (c.in-Passed.ensures other le),
)

pub returns-in-Named : goal.returns-in-Named
returns-in-Named c = (
  sym (c.entries.invariant.1 c.args.value (omega arith)
      ∙ cut_named c.args.value c.entries.rest.now _ _ _ c.cut.ensures.entry c.cut.ensures.others c.in-Named.ensures.0),
  λ other lt. c.entries.invariant.1 other (omega (arith, lt))
      ∙ cut_passed other c.entries.rest.now _ _ c.cut.ensures.entry c.cut.ensures.others (c.in-Named.ensures.1 other lt),
)

pub returns : goal.returns
returns c =
    let empty : c.entries.rest.now ≡ [] = nil_from_length c.entries.rest.now (search rules) in (
      sym (c.entries.invariant.1 c.args.value (omega arith) ∙ ap (name_of_value c.args.value) empty ∙ no_entries c.args.value),
      λ other lt. c.entries.invariant.1 other (omega (arith, lt)) ∙ ap (name_of_value other) empty,
    )
