use Rattle.std.proofs.Common.{◌+◌, rules}
use Rattle.std.proofs.lemmas.Fmt.{parse-decimal}
use Rattle.kmip_operations.proofs.objects.numbered.Goals as goal

pub returns-in_default : goal.returns-in_default
returns-in_default c = λ id h e. absurd (cc (parse-decimal 64 (id + 1) _ _ h h e c.parse.ensures.value.0))

pub returns-then-number-eq0 : goal.returns-then-number-eq0
returns-then-number-eq0 c = λ id h e. let read = parse-decimal 64 (id + 1) _ _ h h e c.parse.ensures.value.0 in search rules

pub returns-then-ne : goal.returns-then-ne
returns-then-ne c = λ id h e. let read = parse-decimal 64 (id + 1) _ _ h h e c.parse.ensures.value.0 in search rules
