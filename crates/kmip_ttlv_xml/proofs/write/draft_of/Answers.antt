use Rattle.std.proofs.Common.{sym, subst, ◌∙◌}
use Rattle.kmip_ttlv_xml.specs.XmlWritings.{AreFound}
use Rattle.kmip_ttlv_xml.proofs.write.draft_of.Goals as goal

pub canonical_of-requires : goal.canonical_of-requires
canonical_of-requires g c = subst (AreFound c.args.message.now) (sym c.as_slice-found.ensures.value) c.in_ok-items.ensures.ok

pub returns-clause-held : goal.returns-clause-held
returns-clause-held g c =
    let found = subst (AreFound c.args.message.now) (sym c.as_slice-found.ensures.value) c.in_ok-items.ensures.ok in
    record { items = c.as_slice-found.result.now; lists = found.lists; first = sym c.in_ok-offset.ensures ∙ c.in_default.is }
