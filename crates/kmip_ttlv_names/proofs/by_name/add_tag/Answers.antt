use Rattle.std.proofs.Common.{rules, ◌≡◌, ◌∙◌, None, ap, sym}
use Rattle.kmip_ttlv_names.specs.NameTables.{Said, first_of, tag_if, tag_in}
use Rattle.kmip_ttlv_names.proofs.ByName.{name_added}
use Rattle.kmip_ttlv_names.proofs.by_name.add_tag.Goals as goal

pub returns-in-Ok : goal.returns-in-Ok
returns-in-Ok g c = λ name.
    let old = c.args.tags.now in
    let own = c.in-Name.name.now in
    let none : tag_in old own ≡ None = search rules in
    name_added old c.insert.new.self own c.in-Name.tag c.in-Ok.ensures.updates none name
    ∙ ap (λ (s : Said). first_of (tag_in old name) (tag_if name s)) (sym c.in-Name.ensures)
