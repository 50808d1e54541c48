use Rattle.std.proofs.Common.{◌++◌, ap, sym, ◌∙◌, refl, append-nil}
use Rattle.std.specs.Int.{w64, to_be_bytes}
use Rattle.kmip_ttlv_types.specs.Trees.{leaf_bytes}
use Rattle.kmip_ttlv_ser.proofs.Sending.{wrote_leaf}
use Rattle.kmip_ttlv_ser.proofs.emitter.Emitter.put_eight.Goals as goal

pub returns : goal.returns
returns g c = λ s h.
    let content = to_be_bytes w64 c.args.number in
    wrote_leaf c.args.typ content h (sym c.tag.ensures ∙ c.in-Some.is)
    (ap (λ b. s.bytes ++ b) (sym (append-nil (leaf_bytes c.in-Some.tag c.args.typ content)))) (c.put_long.ensures s.start s.bytes h.gave) refl refl
