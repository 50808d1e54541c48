use Rattle.std.proofs.Common.{◌≡◌, drop, None}
use Rattle.kmip_ttlv_reader.specs.StoredTexts.{in_rows}
use Rattle.kmip_ttlv_reader.proofs.store.Rows.stored_text.Given as goal

abbrev pub invariant-loop-row : goal.invariant-loop-row
invariant-loop-row l = in_rows l.rows None l.tag ≡ in_rows (drop l.row-index l.rows) None l.tag
