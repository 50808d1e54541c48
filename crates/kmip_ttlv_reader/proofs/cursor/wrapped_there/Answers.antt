use Rattle.kmip_ttlv_base.specs.Values.{newtype_value}
use Rattle.kmip_ttlv_base.specs.Tags.{wrapper_name}
use Rattle.kmip_ttlv_reader.specs.{LeafForms.form_of_leaf, Reads.decoded_leaf}
use Rattle.kmip_ttlv_reader.proofs.{LeafLemmas.wrapped_is, Mapped.mapped_read}
use Rattle.kmip_ttlv_reader.proofs.cursor.wrapped_there.Goals as goal

pub returns-clause-read : goal.returns-clause-read
returns-clause-read g c =
    let l = c.args.leaf in
    rw (wrapped_is (wrapper_name c.args.tag) l c.args.scope.now.bytes.now c.args.scope.now.owner c.args.stored.now c.args.pos c.args.scope.now.end)
    (mapped_read (newtype_value (wrapper_name c.args.tag)) (λ x. decoded_leaf (form_of_leaf l) x.bytes.now) c.leaf_there.new.stored _ c.leaf_there.result
    c.leaf_there.ensures.read)
