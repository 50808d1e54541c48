use Rattle.std.proofs.Common.{◌≡◌, ◌+◌, ◌<◌, ◌≤◌, ◌∙◌, length, ℕ, [], arith, sym}
use Rattle.kmip_ttlv_reader.specs.{RuleParts.holds, declared.rules.RuleParts.TheVariants.Texts}
use Rattle.kmip_ttlv_reader.proofs.PartLemmas.{first_place, held_by_found, no_place, not_held, passed_more}
use Rattle.kmip_ttlv_reader.proofs.choice.first_that_holds.Goals as goal
use Rattle.kmip_ttlv_reader.proofs.choice.first_that_holds.Goals.{in-Texts+in-Some, in-Texts+in-None, in_default-rules}

pub returns-then-holds : goal.returns-then-holds
returns-then-holds g c =
    let v = c.loop-at.invariant in
    first_place _ _ _ _ c.loop-at-test.true v.passed (
    elim c.match-rules-at.branch [
      | in-Texts+in-Some w ↦
          sym (held_by_found _ _ _ _ _ _ _ _ w.in-Texts.is w.if-asked-tag.true w.in-Some.is v.found) ∙ sym w.is_among.ensures ∙ sym w.holds-is ∙ c.if-holds.true
      | in-Texts+in-None w ↦ sym (not_held _ c.args.typ _ _ _ _ _ w.in-Texts.is w.if-asked-tag.true w.in-None.is v.found) ∙ sym w.holds-is ∙ c.if-holds.true
      | in_default-rules w ↦ sym w.parts_hold-holds.ensures ∙ sym w.holds-is ∙ c.if-holds.true
    ])

pub loop-at-preserved : goal.loop-at-preserved
loop-at-preserved g c =
    let v = c.loop-at.invariant in
    record {
      found = v.found;
      in_range = omega (arith, c.loop-at-test.true);
      passed = passed_more (λ rule. holds rule c.args.stored.now c.args.typ) c.args.rules.now c.loop-at.at (Texts 0 record { ref_ptr = (0, 0); now = [] })
          v.passed (
          elim c.match-rules-at.branch [
            | in-Texts+in-Some w ↦
                sym (held_by_found _ _ _ _ _ _ _ _ w.in-Texts.is w.if-asked-tag.true w.in-Some.is v.found)
                ∙ sym w.is_among.ensures ∙ sym w.holds-is ∙ c.if-holds.false
            | in-Texts+in-None w ↦
                sym (not_held _ c.args.typ _ _ _ _ _ w.in-Texts.is w.if-asked-tag.true w.in-None.is v.found) ∙ sym w.holds-is ∙ c.if-holds.false
            | in_default-rules w ↦ sym w.parts_hold-holds.ensures ∙ sym w.holds-is ∙ c.if-holds.false
          ]);
    }

pub returns : goal.returns
returns g c = let v = c.loop-at.invariant in no_place _ _ _ _ v.in_range c.loop-at-test.false v.passed
