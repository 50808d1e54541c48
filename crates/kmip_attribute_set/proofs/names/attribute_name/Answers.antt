use Rattle.std.proofs.Common.{◌≡◌, ap, IfOk, string_bytes, subst}
use Rattle.kmip_attribute_set.specs.Names.{attribute_name, name_or}
use Rattle.kmip_attribute_set.proofs.names.attribute_name.Goals as goal

pub returns-in-Some : goal.returns-in-Some
unfolding attribute_name
returns-in-Some g c =
    subst (λ t. IfOk c.to_string.result (λ name. string_bytes name ≡ t))
    (ap (λ o. name_or o c.args.tag) (rw c.deref.ensures at c.in-Some.ensures)) c.to_string.ensures.ok

pub returns-in-None : goal.returns-in-None
unfolding attribute_name
returns-in-None g c =
    subst (λ t. IfOk c.digits_of.result (λ name. string_bytes name ≡ t))
    (ap (λ o. name_or o c.args.tag) (rw c.deref.ensures at c.in-None.ensures)) c.digits_of.ensures
