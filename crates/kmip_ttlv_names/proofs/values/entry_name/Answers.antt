use Rattle.std.proofs.Common.{rules, arith, ℕ, Option, eqb, Some, None, ap, sym, refl, ◌∙◌}
use Rattle.std.proofs.lemmas.{Str.Pattern.split_once_first, Bool.eq-eqb}
use Rattle.std.specs.Option.{option_eq}
use Rattle.kmip_ttlv_names.proofs.Lists.{no_entry, named_is, named_not}
use Rattle.kmip_ttlv_names.proofs.values.entry_name.Goals as goal

pub returns-in_default : goal.returns-in_default
returns-in_default c = sym (no_entry c.args.value c.args.entry.now (split_once_first 61 c.args.entry.now None c.in_default.ensures.cases (omega arith)))

pub returns-then-named : goal.returns-then-named
returns-then-named c =
    let h = split_once_first 61 c.args.entry.now (Some (c.in-Some.digits, c.in-Some.name)) c.in-Some.ensures.cases (omega arith) in
    sym (named_is c.args.value c.args.entry.now c.in-Some.digits.now c.in-Some.name.now h.0 h.1 h.2 (sym c.number.ensures ∙ search rules))

pub returns-else-named : goal.returns-else-named
returns-else-named c =
    let h = split_once_first 61 c.args.entry.now (Some (c.in-Some.digits, c.in-Some.name)) c.in-Some.ensures.cases (omega arith) in
    sym (named_not c.args.value c.args.entry.now c.in-Some.digits.now c.in-Some.name.now h.0 h.1 h.2
    (λ is. absurd (let same = ap (λ (o : Option ℕ). option_eq eqb o (Some c.args.value)) (c.number.ensures ∙ is) ∙ eq-eqb c.args.value c.args.value refl in
    let not = c.if-named.ensures in cc)))
