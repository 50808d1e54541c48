use Rattle.std.proofs.Common.{ap, sym, ◌∙◌, refl, replicate}
use Rattle.kmip_ttlv_ser.proofs.Sending.{leaf_bytes_are, wrote_leaf}
use Rattle.kmip_ttlv_ser.proofs.emitter.Emitter.put_leaf.Goals as goal

pub returns : goal.returns
returns g c = λ s h. wrote_leaf c.args.typ c.args.content.now h (sym c.tag.ensures ∙ c.in-Some.is)
    (leaf_bytes_are c.in-Some.tag c.args.typ c.args.content.now s.bytes _ (ap (λ n. replicate n 0) c.padding.ensures.value))
    (c.put_filling.ensures s.start _ (c.give.ensures s.start _ (c.put_header.ensures s.start s.bytes h.gave))) refl refl
