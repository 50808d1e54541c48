use Rattle.std.proofs.Common.{rules, arith, Some, None, Option, List, ℕ, ap, sym, ◌∙◌}
use Rattle.std.proofs.lemmas.Str.Pattern.{split_once_first}
use Rattle.kmip_ttlv_names.specs.ValueNames.{or_else, name_of_value}
use Rattle.kmip_ttlv_names.proofs.Lists.{first_names, last_names}
use Rattle.kmip_ttlv_names.proofs.values.value_name.Goals as goal

pub returns-in-Some-entry_name : goal.returns-in-Some-entry_name
returns-in-Some-entry_name c =
    let rest = c.entries.rest.now in
    let h = split_once_first 59 rest (Some (c.in-Some.entry, c.in-Some.more)) c.in-Some.ensures.cases (omega arith) in
    ap (λ (o : Option (List ℕ)). or_else o (name_of_value c.args.value c.in-Some.more.now)) c.in-Some-entry_name.ensures
    ∙ sym (first_names c.args.value rest c.in-Some.entry.now c.in-Some.more.now h.0 h.1 h.2) ∙ sym c.entries.invariant.1

pub entries-preserved : goal.entries-preserved
entries-preserved c =
    let rest = c.entries.rest.now in
    let h = split_once_first 59 rest (Some (c.in-Some.entry, c.in-Some.more)) c.in-Some.ensures.cases (omega arith) in (
      search rules,
      c.entries.invariant.1 ∙ first_names c.args.value rest c.in-Some.entry.now c.in-Some.more.now h.0 h.1 h.2
          ∙ ap (λ (o : Option (List ℕ)). or_else o (name_of_value c.args.value c.in-Some.more.now)) (sym c.in_default-entry_name.ensures),
    )

pub returns : goal.returns
returns c =
    let rest = c.entries.rest.now in
    let none = split_once_first 59 rest None c.in_default.ensures.cases (omega arith) in
    c.entry_name-2.ensures ∙ sym (last_names c.args.value rest none) ∙ sym c.entries.invariant.1
