use Rattle.std.proofs.Common.{◌≡◌, ◌+◌, ◌-◌, ◌≤◌, drop, length}
use Rattle.kmip_ttlv_reader.specs.StoredTexts.{row_for}
use Rattle.kmip_ttlv_reader.proofs.store.Rows.row_for.Given as goal

abbrev pub invariant-loop-at : goal.invariant-loop-at
invariant-loop-at l = (l.at ≤ length l.rows) × (row_for l.rows l.tag ≡ l.at + row_for (drop l.at l.rows) l.tag)

abbrev pub decreases-loop-at : goal.decreases-loop-at
decreases-loop-at l = length l.rows - l.at
