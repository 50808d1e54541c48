use Rattle.std.proofs.Common.{◌∙◌, Some, ap}
use Rattle.kmip_ttlv_types.specs.Names.{tag_of}
use Rattle.kmip_attribute_set.specs.Names.{attribute_names, attribute_tag, tag_or}
use Rattle.kmip_attribute_set.proofs.names.attribute_tag.Goals as goal

pub returns-in-Some : goal.returns-in-Some
unfolding attribute_tag attribute_names
returns-in-Some c = ap (λ o. tag_or o (tag_of c.args.name.now)) c.in-Some.ensures

pub returns-in-Some-from_name : goal.returns-in-Some-from_name
unfolding attribute_tag attribute_names
returns-in-Some-from_name c =
    ap (λ t. Some t) c.deref.ensures ∙ c.in-Some-from_name.ensures ∙ ap (λ o. tag_or o (tag_of c.args.name.now)) c.in-None.ensures

pub returns-in-None-from_name : goal.returns-in-None-from_name
unfolding attribute_tag attribute_names
returns-in-None-from_name c = c.in-None-from_name.ensures ∙ ap (λ o. tag_or o (tag_of c.args.name.now)) c.in-None.ensures
