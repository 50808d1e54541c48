use Rattle.std.proofs.Common.{◌≡◌, refl, rules, string_bytes, sym, ◌∙◌}
use Rattle.kmip_attributes.specs.declared.attribute.Attribute.{Attribute}
use Rattle.kmip_operations.proofs.Listed.{adds_one, leaves_out, said_as}
use Rattle.kmip_operations.proofs.attributes.Listing.add.Goals as goal

pub returns-then-not-is_asked : goal.returns-then-not-is_asked
returns-then-not-is_asked g c = leaves_out _ c.args.self.now (sym c.is_asked.ensures ∙ c.if-not-is_asked.true)

pub returns : goal.returns
returns g c =
    let same : string_bytes c.in_ok-name.name ≡ c.args.name.now = search rules in
    let one : Attribute g.row.A.Denot = record { name = c.in_ok-name.name; index = c.args.index; value = c.args.value } in
    adds_one _ one c.args.self.now _ (sym c.is_asked.ensures ∙ c.if-not-is_asked.false) refl c.in_ok-push.ensures.items (said_as one c.args.name.now same)
