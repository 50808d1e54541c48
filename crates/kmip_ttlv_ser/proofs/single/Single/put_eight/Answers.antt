use Rattle.std.proofs.Common.{◌++◌, ap, sym, ◌∙◌, append-nil}
use Rattle.std.specs.Int.{w64, to_be_bytes}
use Rattle.kmip_ttlv_types.specs.Trees.{leaf_bytes}
use Rattle.kmip_ttlv_ser.specs.{Singles.writing, Waiting.filled}
use Rattle.kmip_ttlv_ser.proofs.Filling.{put_is}
use Rattle.kmip_ttlv_ser.proofs.single.Single.put_eight.Goals as goal

pub returns : goal.returns
returns c =
    let content = to_be_bytes w64 c.args.number in
    put_is (writing c.args.self.now) c.args.typ content (sym c.tag.ensures ∙ c.in-Some.is)
    (c.push.ensures.written
    ∙ ap (λ b. filled c.args.self.now.room ++ b) (c.long_item.ensures ∙ sym (append-nil (leaf_bytes c.in-Some.tag c.args.typ content))))
