use Rattle.std.proofs.Common.{sym, ◌∙◌}
use Rattle.kmip_ttlv_reader.proofs.StoredRows.{nothing_left}
use Rattle.kmip_ttlv_reader.proofs.store.Rows.stored_text.Goals as goal

pub returns : goal.returns
returns c = sym (c.loop-row.invariant ∙ nothing_left c.args.self.now.rows c.loop-row.row-index c.args.tag c.loop-row-test.false)
