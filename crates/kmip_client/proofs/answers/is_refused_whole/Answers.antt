use Rattle.std.proofs.lemmas.Bool.{eq-eqb, eqb-true}
use Rattle.std.proofs.Common.{length, sym, ◌∙◌}
use Rattle.kmip_client.proofs.Refusing.{nothing_refuses, several_refuse_not, refuses_by, refuses_not}
use Rattle.kmip_client.proofs.answers.is_refused_whole.Goals as goal

pub returns-in_default : goal.returns-in_default
returns-in_default g c = nothing_refuses c.args.items.now c.in_default.ensures.cases

pub returns-then-not-is_empty : goal.returns-then-not-is_empty
returns-then-not-is_empty g c =
    several_refuse_not c.args.items.now c.in-Some.item.now c.in-Some.rest.now c.in-Some.ensures.cases.0
    (λ z. cc (eq-eqb (length c.in-Some.rest.now) 0 z, c.if-not-is_empty.true, c.is_empty.ensures))

pub returns-then-is_none : goal.returns-then-is_none
returns-then-is_none g c =
    refuses_by c.args.items.now c.in-Some.item.now c.in-Some.rest.now c.is_failed.result c.in-Some.ensures.cases.0
    (eqb-true (length c.in-Some.rest.now) 0 (sym c.is_empty.ensures ∙ c.if-not-is_empty.false)) c.if-is_none.ensures c.is_failed.ensures

pub returns-else-is_none : goal.returns-else-is_none
returns-else-is_none g c =
    refuses_not c.args.items.now c.in-Some.item.now c.in-Some.rest.now c.is_none.result c.in-Some.ensures.cases.0
    (eqb-true (length c.in-Some.rest.now) 0 (sym c.is_empty.ensures ∙ c.if-not-is_empty.false)) c.if-is_none.ensures c.if-is_none.false
