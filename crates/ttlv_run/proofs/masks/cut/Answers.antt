use Rattle.std.proofs.Common.{rules, arith, ℕ, List, Some, None, sym, subst}
use Rattle.std.proofs.lemmas.Str.{IsCharBoundary-after_ascii}
use Rattle.std.proofs.lemmas.Bool.{eqb-true}
use Rattle.memchr.specs.Find.{IsFirstByte, is_byte}
use Rattle.ttlv_run.proofs.Entries.{found, absent, all_first, none_other}
use Rattle.ttlv_run.proofs.masks.cut.Goals as goal

pub range_from-requires : goal.range_from-requires
range_from-requires c =
    let first = subst (λ (l : List ℕ). IsFirstByte (is_byte 59) l (Some c.in-Some.place)) c.as_bytes.ensures.value c.in-Some.ensures in
    λ some. IsCharBoundary-after_ascii c.args.list.now c.in-Some.place c.utf8.list first.0.high (omega (arith, eqb-true _ _ first.1))

pub returns-in-Some-clause-entry : goal.returns-in-Some-clause-entry
returns-in-Some-clause-entry c =
    let at = found c.args.list.now c.in-Some.place
    (subst (λ (l : List ℕ). IsFirstByte (is_byte 59) l (Some c.in-Some.place)) c.as_bytes.ensures.value c.in-Some.ensures) in
    rw at (search rules)

pub returns-in-Some-clause-others : goal.returns-in-Some-clause-others
returns-in-Some-clause-others c =
    let at = found c.args.list.now c.in-Some.place
    (subst (λ (l : List ℕ). IsFirstByte (is_byte 59) l (Some c.in-Some.place)) c.as_bytes.ensures.value c.in-Some.ensures) in
    rw at (search rules)

pub returns-in-None-clause-entry : goal.returns-in-None-clause-entry
returns-in-None-clause-entry c = sym (all_first c.args.list.now (absent c.args.list.now
    (subst (λ (l : List ℕ). IsFirstByte (is_byte 59) l None) c.as_bytes.ensures.value c.in-None.ensures)))

pub returns-in-None-clause-others : goal.returns-in-None-clause-others
returns-in-None-clause-others c = sym (none_other c.args.list.now (absent c.args.list.now
    (subst (λ (l : List ℕ). IsFirstByte (is_byte 59) l None) c.as_bytes.ensures.value c.in-None.ensures)))
