use Rattle.std.proofs.Common.{arith, ◌≡◌, Some, None, ap, sym, ◌∙◌}
use Rattle.std.proofs.lemmas.Str.Pattern.{split_once_first}
use Rattle.kmip_ttlv_names.proofs.Lists.{no_entry, named_is, named_not}
use Rattle.ttlv_run.proofs.Bits.{some_one}
use Rattle.ttlv_run.proofs.masks.entry_for.Goals as goal

pub returns-in_default : goal.returns-in_default
returns-in_default c = λ other le. no_entry other c.args.entry.now (split_once_first 61 c.args.entry.now None c.in_default.ensures.cases (omega arith))

pub returns-in_default-number : goal.returns-in_default-number
returns-in_default-number c =
    let h = split_once_first 61 c.args.entry.now (Some (c.in-Some.digits, c.in-Some.name)) c.in-Some.ensures.cases (omega arith) in
    λ other le. named_not other c.args.entry.now c.in-Some.digits.now c.in-Some.name.now h.0 h.1 h.2
    (λ is. absurd (let not = sym c.in_default-number.is ∙ c.number.ensures ∙ is in cc))

pub returns-then-n-value : goal.returns-then-n-value
returns-then-n-value c =
    let h = split_once_first 61 c.args.entry.now (Some (c.in-Some.digits, c.in-Some.name)) c.in-Some.ensures.cases (omega arith) in
    λ other le. named_not other c.args.entry.now c.in-Some.digits.now c.in-Some.name.now h.0 h.1 h.2
    (λ is. omega (arith, le, c.if-n-value.true, some_one (sym c.in-Some-number.is ∙ c.number.ensures ∙ is)))

pub returns-then-n-value-2 : goal.returns-then-n-value-2
returns-then-n-value-2 c =
    let h = split_once_first 61 c.args.entry.now (Some (c.in-Some.digits, c.in-Some.name)) c.in-Some.ensures.cases (omega arith) in
    let own : c.in-Some-number.n ≡ c.args.value = omega (arith, c.if-n-value-2.true) in
    let named = named_is c.args.value c.args.entry.now c.in-Some.digits.now c.in-Some.name.now h.0 h.1 h.2 in (
      named (sym c.number.ensures ∙ c.in-Some-number.is ∙ ap Some own),
      λ other lt. named_not other c.args.entry.now c.in-Some.digits.now c.in-Some.name.now h.0 h.1 h.2
          (λ is. omega (arith, lt, own, some_one (sym c.in-Some-number.is ∙ c.number.ensures ∙ is))),
    )

pub returns-else-n-value-2 : goal.returns-else-n-value-2
returns-else-n-value-2 c =
    let h = split_once_first 61 c.args.entry.now (Some (c.in-Some.digits, c.in-Some.name)) c.in-Some.ensures.cases (omega arith) in
    named_not c.args.value c.args.entry.now c.in-Some.digits.now c.in-Some.name.now h.0 h.1 h.2
    (λ is. absurd (c.if-n-value-2.false (some_one (sym c.in-Some-number.is ∙ c.number.ensures ∙ is))))
