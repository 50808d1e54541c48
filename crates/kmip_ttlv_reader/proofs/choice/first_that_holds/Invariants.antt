use Rattle.std.proofs.Common.{length, ◌-◌, ◌≡◌, ◌≤◌, ◌<◌, ℕ, [], false, get_or}
use Rattle.std.specs.Option.{option_copied}
use Rattle.kmip_ttlv_reader.specs.{RuleParts.holds, TagValues.last, declared.rules.RuleParts.TheVariants.Texts}
use Rattle.kmip_ttlv_reader.proofs.choice.first_that_holds.Given as goal

abbrev pub invariant-loop-at : goal.invariant-loop-at
invariant-loop-at g l = record {
  found : option_copied l.found ≡ last l.stored l.tag;
  in_range : l.at ≤ length l.rules;
  passed : (k : ℕ) → k < l.at → holds (get_or l.rules k (Texts 0 record { ref_ptr = (0, 0); now = [] })) l.stored l.typ ≡ false;
}

abbrev pub decreases-loop-at : goal.decreases-loop-at
decreases-loop-at g l = length l.rules - l.at
