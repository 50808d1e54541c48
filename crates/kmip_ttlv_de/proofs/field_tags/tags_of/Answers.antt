use Rattle.std.proofs.Common.{ℕ, ◌+◌, ◌||◌, drop, nat_cmp, ap, sym, ◌∙◌}
use Rattle.std.specs.BTreeSet.{contains}
use Rattle.kmip_ttlv_base.specs.Forms.{fields_of, form_of}
use Rattle.kmip_ttlv_reader.specs.Reads.{names_tag}
use Rattle.kmip_ttlv_reader.proofs.Front.{fields_at}
use Rattle.kmip_ttlv_de.proofs.FieldTagLemmas.{tag_put, no_tag_put}
use Rattle.kmip_ttlv_de.proofs.field_tags.tags_of.Goals.{in-Some+in_ok-insert, in_default}
use Rattle.kmip_ttlv_de.proofs.field_tags.tags_of.Goals as goal

pub loop-field-preserved : goal.loop-field-preserved
loop-field-preserved g c =
    let f = c.field-item.result in
    let rest = fields_of (drop (c.loop-field.field-index + 1) c.args.fields.now) in
    let from = fields_at c.args.fields.now c.loop-field.field-index f c.loop-field-test.true c.field-item.is in
    let before = λ (t : ℕ). ap (λ fs. contains nat_cmp c.loop-field.tags t || names_tag fs t) (sym from) ∙ c.loop-field.invariant t in
    elim c.match-from_name.branch [
      | in-Some+in_ok-insert w ↦ λ t. rw w.tags-is (tag_put c.loop-field.tags w.insert.new.self f.name.now (form_of f.shape) rest w.in-Some.tag t
          (sym c.from_name.ensures ∙ w.in-Some.is) (rw w.deref.ensures at w.in_ok-insert.ensures.updates.0) ∙ before t)
      | in_default w ↦ λ t. rw w.tags-is (no_tag_put c.loop-field.tags f.name.now (form_of f.shape) rest t (sym c.from_name.ensures ∙ w.in_default.is)
          ∙ before t)
    ]
