use Rattle.std.proofs.Common.{◌++◌, ap, sym, ◌∙◌, replicate}
use Rattle.kmip_ttlv_ser.specs.{Singles.writing, Waiting.filled}
use Rattle.kmip_ttlv_ser.proofs.{Filling.put_is, Sending.leaf_bytes_are}
use Rattle.kmip_ttlv_ser.proofs.single.Single.put_leaf.Goals as goal

pub returns : goal.returns
returns c =
    let old = filled c.args.self.now.room in
    let content = c.args.content.now in
    put_is (writing c.args.self.now) c.args.typ content (sym c.tag.ensures ∙ c.in-Some.is)
    (c.fill.ensures.written ∙ ap (λ b. b ++ replicate c.padding.result 0)
    (c.push-2.ensures.written ∙ ap (λ b. b ++ content) (c.push.ensures.written ∙ ap (λ b. old ++ b) c.header.ensures))
    ∙ leaf_bytes_are c.in-Some.tag c.args.typ content old _ (ap (λ n. replicate n 0) c.padding.ensures.value))
