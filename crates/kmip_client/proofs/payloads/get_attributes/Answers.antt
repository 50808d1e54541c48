use Rattle.std.proofs.Common.{◌≡◌, true, false, rules}
use Rattle.kmip_client.specs.Payloads.{is_by_tags}
use Rattle.kmip_client.proofs.Tagging.{asked_by}
use Rattle.kmip_client.proofs.payloads.get_attributes.Goals as goal

pub returns-then-is_by_tags : goal.returns-then-is_by_tags
returns-then-is_by_tags g c =
    let e : is_by_tags c.args.version ≡ true = search rules in
    record { object = c.in_ok-unique_identifier.ensures; asked = asked_by _ _ _ _ e (c.new.ensures.items, c.in_ok-other_items.ensures) }

pub returns : goal.returns
returns g c =
    let e : is_by_tags c.args.version ≡ false = search rules in
    record { object = c.in_ok-unique_identifier.ensures; asked = asked_by _ _ _ _ e (c.in_ok-attribute_names.ensures, c.none.ensures) }
