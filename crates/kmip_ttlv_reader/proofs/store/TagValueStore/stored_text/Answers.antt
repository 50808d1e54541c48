use Rattle.std.proofs.Common.{◌≡◌, ap, sym, ◌∙◌, option_map, Some, None, nat_cmp}
use Rattle.std.specs.{BTreeMap.get, Option.option_copied}
use Rattle.kmip_ttlv_reader.specs.{StoredTexts.stored_text_of, StoredTexts.in_rows, TagValues.last, TagValues.with_number}
use Rattle.kmip_ttlv_reader.proofs.StoredRows.{found_in, beside, alike}
use Rattle.kmip_ttlv_reader.proofs.store.TagValueStore.stored_text.Goals as goal

pub returns-in-Some : goal.returns-in-Some
returns-in-Some g c =
    let found : Some c.in-Some.stored_text.now ≡ in_rows c.self.inside.rows.rows None c.args.tag = ap option_copied (sym c.in-Some.is)
    ∙ c.stored_text.ensures in
    ap (option_map stored_text_of) (sym (found_in c.self.inside.rows.rows (get nat_cmp c.self.inside.others c.args.tag) c.args.tag c.in-Some.stored_text.now
    found)) ∙ c.self.invariant c.args.tag ∙ ap (λ ks. option_map with_number (last ks c.args.tag)) c.self.view_is

pub returns-in-None : goal.returns-in-None
returns-in-None g c =
    let found : None ≡ in_rows c.self.inside.rows.rows None c.args.tag = ap option_copied (sym c.in-None.is) ∙ c.stored_text.ensures in
    let there : option_copied c.get.result ≡ get nat_cmp c.self.inside.others c.args.tag = c.get.ensures.value in
    alike c.get.result ∙ ap (option_map stored_text_of) (there
    ∙ sym (beside c.self.inside.rows.rows (get nat_cmp c.self.inside.others c.args.tag) c.args.tag found)) ∙ c.self.invariant c.args.tag
    ∙ ap (λ ks. option_map with_number (last ks c.args.tag)) c.self.view_is
