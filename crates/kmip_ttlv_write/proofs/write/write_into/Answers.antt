use Rattle.std.proofs.Common.{inr, ◌∙◌, map, refl}
use Rattle.kmip_ttlv_write.proofs.Stands.{text_of}
use Rattle.kmip_ttlv_write.proofs.write.write_into.Goals as goal

pub returns-else-length-out-clause-ok : goal.returns-else-length-out-clause-ok
returns-else-length-out-clause-ok g c =
    let k = c.in_ok-length.ensures.ok in
    let t = text_of c.args.lent.now (map g.T.GiveItem.given c.args.items.now) k.0 in
    record { text = t.text; written = t.written; length_is = k.1 ∙ t.length; buffer = inr (c.if-length-out.false, refl) }
