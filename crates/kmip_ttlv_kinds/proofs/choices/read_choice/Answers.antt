use Rattle.std.proofs.Common.{sym, ◌∙◌}
use Rattle.std.proofs.lemmas.Result.{err_from_is_err_and}
use Rattle.kmip_ttlv_reader.specs.Chosen.{unnamed}
use Rattle.kmip_ttlv_reader.proofs.ChosenLemmas.{chosen_at, enum_stops, never_read, none_holds, place_there}
use Rattle.kmip_ttlv_kinds.specs.Choices.{IsHeldAt}
use Rattle.kmip_ttlv_kinds.proofs.choices.read_choice.Goals as goal

pub returns-in_err-typ-clause-read : goal.returns-in_err-typ-clause-read
returns-in_err-typ-clause-read g c =
    let p = err_from_is_err_and c.from_residual.result c.from_residual.ensures.1 in
    let all = g.C.Choice.chosen in
    let scope = c.args.scope.now in
    let spot = c.args.cursor.now in
    rw (p.1, p.2) (enum_stops all.own all.variants scope.bytes.now scope.owner spot.stored spot.pos scope.end _ (rw c.pos.ensures at c.in_err-typ.ensures.step))

pub read_held-requires : goal.read_held-requires
read_held-requires g c =
    let all = g.C.Choice.chosen in
    let first = sym c.first_that_holds.ensures ∙ c.in-Some.is in
    record {
      within = c.requires.within;
      there = place_there all.variants c.variant_rules-rules.result.now _ c.in-Some.place c.variant_rules-rules.ensures first;
    }

pub returns-in-Some-clause-read : goal.returns-in-Some-clause-read
unfolding IsHeldAt
returns-in-Some-clause-read g c =
    let all = g.C.Choice.chosen in
    let scope = c.args.scope.now in
    let spot = c.args.cursor.now in
    let typed = rw c.pos.ensures at c.in_ok-typ.ensures.step in
    let first = rw c.stored_values.ensures at (sym c.first_that_holds.ensures ∙ c.in-Some.is) in
    rw (chosen_at all.own all.variants c.variant_rules-rules.result.now c.in-Some.place c.in_ok-typ.typ scope.bytes.now scope.owner spot.stored spot.pos
    scope.end c.variant_rules-rules.ensures typed first) c.read_held.ensures.read

pub returns-in-None-clause-read : goal.returns-in-None-clause-read
returns-in-None-clause-read g c =
    let all = g.C.Choice.chosen in
    let scope = c.args.scope.now in
    let spot = c.args.cursor.now in
    let typed = rw c.pos.ensures at c.in_ok-typ.ensures.step in
    let none = rw c.stored_values.ensures at (sym c.first_that_holds.ensures ∙ c.in-None.is) in
    let never = rw c.pos-in-None.ensures at c.unnamed.ensures in
    rw (none_holds all.own all.variants c.variant_rules-rules.result.now c.in_ok-typ.typ scope.bytes.now scope.owner spot.stored spot.pos scope.end
    c.variant_rules-rules.ensures typed none)
    (never_read all.value spot (unnamed scope.bytes.now scope.owner spot.pos c.in_ok-typ.typ) c.unnamed.result never)
