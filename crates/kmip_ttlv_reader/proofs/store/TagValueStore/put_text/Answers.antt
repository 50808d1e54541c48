use Rattle.std.proofs.Common.{◌≡◌, ap, sym, ◌∙◌, ◌<◌, length, option_map, nat_cmp}
use Rattle.std.specs.BTreeMap.{get}
use Rattle.kmip_ttlv_reader.specs.{TagValues.last, TagValues.with_number, StoredValue.tag_value_of, StoredTexts.in_rows, StoredTexts.row_for}
use Rattle.kmip_ttlv_reader.proofs.RuleLemmas.{holds_more}
use Rattle.kmip_ttlv_reader.proofs.StoredRows.{taken, taken_beside, inserted}
use Rattle.kmip_ttlv_reader.proofs.store.TagValueStore.put_text.Goals as goal

pub invariant_of-self : goal.invariant_of-self
invariant_of-self g c =
    let rows = c.self.inside.rows.rows in
    let others = c.self.inside.others in
    let first : (c.in-Some.at ≡ row_for rows c.deref-tag.result.now) × (c.in-Some.at < length rows) = rw c.in-Some.is at c.row_for.ensures.there in
    let more = taken rows c.put.new.self.rows (get nat_cmp others) c.in-Some.at c.deref-tag.result.now c.args.one.now.tag c.args.stored_text first.0 first.1
    c.put.ensures c.deref-tag.ensures in
    λ t. holds_more (λ q. in_rows rows (get nat_cmp others q) q) (λ q. in_rows c.put.new.self.rows (get nat_cmp others q) q) c.self.inside.all.listed
    (tag_value_of c.args.one.now) c.args.stored_text c.requires c.self.invariant more t ∙ sym (ap (λ ks. option_map with_number (last ks t)) c.and.ensures)

pub invariant_of-self-2 : goal.invariant_of-self-2
invariant_of-self-2 g c =
    let rows = c.self.inside.rows.rows in
    let others = c.self.inside.others in
    let added = c.insert.new.self in
    let more = taken_beside rows (get nat_cmp others) (get nat_cmp added) c.deref-tag.result.now c.args.one.now.tag c.args.stored_text
    (c.row_for.ensures.full c.in_default.is) (inserted others added c.deref-tag.result.now c.args.stored_text c.in_ok-insert.ensures.updates.0)
    c.deref-tag.ensures in
    λ t. holds_more (λ q. in_rows rows (get nat_cmp others q) q) (λ q. in_rows rows (get nat_cmp added q) q) c.self.inside.all.listed
    (tag_value_of c.args.one.now) c.args.stored_text c.requires c.self.invariant more t
    ∙ sym (ap (λ ks. option_map with_number (last ks t)) c.and-2.ensures)
