use Rattle.std.proofs.Common.{◌+◌, ◌++◌, length, ap, sym, ◌∙◌, refl, replicate}
use Rattle.kmip_ttlv_types.specs.{declared.typ.TtlvType.TheVariants.BigInteger, Items.header, Primitives.sign_extended}
use Rattle.kmip_ttlv_ser.proofs.Sending.{big_integer_bytes_are, wrote_leaf}
use Rattle.kmip_ttlv_ser.proofs.emitter.Emitter.put_big_integer.Goals as goal

pub returns : goal.returns
returns g c = λ s h.
    let bs = c.args.bytes.now in
    let n = c.padding-extending.result in
    let gave = c.give.ensures s.start _ (c.put_filling.ensures s.start _ (c.put_header.ensures s.start s.bytes h.gave)) in
    let are = ap (λ b. ((s.bytes ++ header c.in-Some.tag BigInteger (n + length bs)) ++ replicate n b) ++ bs) c.sign_of.ensures
    ∙ big_integer_bytes_are c.in-Some.tag bs s.bytes n c.padding-extending.ensures.value in
    wrote_leaf BigInteger (sign_extended bs) h (sym c.tag.ensures ∙ c.in-Some.is) are gave refl refl
