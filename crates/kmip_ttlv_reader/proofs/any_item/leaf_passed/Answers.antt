use Rattle.std.proofs.Common.{refl, sym, ◌≡◌, true}
use Rattle.kmip_ttlv_types.specs.Places.{tag_at}
use Rattle.kmip_ttlv_reader.specs.Outcomes.{any_leaf_outcome}
use Rattle.kmip_ttlv_reader.specs.Reads.{is_full, leaf_under}
use Rattle.kmip_ttlv_reader.proofs.any_item.leaf_passed.Goals as goal

pub returns-clause-passed : goal.returns-clause-passed
unfolding any_leaf_outcome
returns-clause-passed g c =
    let full : is_full c.args.typ c.in_ok-content.content.now ≡ true = sym c.if-not-is_full.ensures in (
      leaf_under (tag_at c.args.scope.now.bytes.now c.args.pos) c.args.typ c.in_ok-content.content.now,
      rw (c.in_ok-content.ensures.step, full, c.in_ok-inside.ensures.step) refl,
    )
