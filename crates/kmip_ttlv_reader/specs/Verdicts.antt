-- What the code returns of rules, against their definitions.
use Rattle.std.specs.Prelude.{ℕ, Option, Some, None, Result, Ok, Err}
use Rattle.kmip_ttlv_base.specs.Errors.{Mismatch, invalid_rule, invalid_tag}
use Rattle.kmip_ttlv_reader.specs.Rules.{Verdict, no_rule, holds, fails, refused, Choice, chosen, number_decides, choice_invalid}
use Rattle.kmip_ttlv_reader.specs.declared.rules.RuleError.{RuleError}
use Rattle.kmip_ttlv_reader.specs.declared.rules.RuleError.TheVariants as faults
use Rattle.kmip_ttlv_reader.specs.declared.rules.Verdict.{Verdict as Answer}
use Rattle.kmip_ttlv_reader.specs.declared.rules.Verdict.TheVariants as answers

-- why a rule is an error
abbrev pub mismatch_of : RuleError → Mismatch
mismatch_of (faults.InvalidVariantMatcherSyntax name) = invalid_rule name.now
mismatch_of (faults.InvalidTag name) = invalid_tag name.now

-- a verdict as its definition has it
abbrev pub verdict_of : Answer → Verdict
verdict_of answers.NoRule = no_rule
verdict_of answers.Holds = holds
verdict_of answers.Fails = fails
verdict_of (answers.Refused e) = refused (mismatch_of e)

-- a choice as its definition has it
abbrev pub choice_of : Result (Option ℕ) RuleError → Choice
choice_of (Ok (Some i)) = chosen i
choice_of (Ok None) = number_decides
choice_of (Err e) = choice_invalid (mismatch_of e)
