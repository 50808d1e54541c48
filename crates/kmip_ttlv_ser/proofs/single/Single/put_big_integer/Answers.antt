use Rattle.std.proofs.Common.{◌+◌, ◌++◌, length, ap, sym, ◌∙◌, replicate}
use Rattle.kmip_ttlv_types.specs.{declared.typ.TtlvType.TheVariants.BigInteger, Items.header, Primitives.sign_extended}
use Rattle.kmip_ttlv_ser.specs.{Singles.writing, Waiting.filled}
use Rattle.kmip_ttlv_ser.proofs.{Filling.put_is, Sending.big_integer_bytes_are}
use Rattle.kmip_ttlv_ser.proofs.single.Single.put_big_integer.Goals as goal

pub returns : goal.returns
returns c =
    let old = filled c.args.self.now.room in
    let bs = c.args.bytes.now in
    let n = c.padding-extending.result in
    put_is (writing c.args.self.now) BigInteger (sign_extended bs) (sym c.tag.ensures ∙ c.in-Some.is)
    (c.push-2.ensures.written ∙ ap (λ b. b ++ bs) (c.fill.ensures.written ∙ ap (λ b. b ++ replicate n c.sign_of.result)
    (c.push.ensures.written ∙ ap (λ b. old ++ b) c.header.ensures)
    ∙ ap (λ b. old ++ header c.in-Some.tag BigInteger (n + length bs) ++ replicate n b) c.sign_of.ensures)
    ∙ big_integer_bytes_are c.in-Some.tag bs old n c.padding-extending.ensures.value)
