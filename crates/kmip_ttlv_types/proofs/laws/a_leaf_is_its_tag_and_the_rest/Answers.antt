use Rattle.std.proofs.Common.{◌≡◌, ℕ, ◌%◌, List, ◌++◌, length, replicate, refl, arith, length-append}
use Rattle.std.proofs.lemmas.List.{length-replicate}
use Rattle.std.specs.Int.{bytes_high_first}
use Rattle.kmip_ttlv_types.specs.{declared.typ.TtlvType.TtlvType, ItemTypes.pad_len, Trees.leaf_bytes, Primitives.leaf_rest, Primitives.length_and_content}
use Rattle.kmip_ttlv_types.proofs.laws.a_leaf_is_its_tag_and_the_rest.Goals as goal

same : (tag : ℕ) (typ : TtlvType) (content : List ℕ) → leaf_bytes tag typ content ≡ bytes_high_first 3 tag ++ leaf_rest typ content
unfolding leaf_bytes leaf_rest length_and_content
same tag typ content = refl

fills : (tag : ℕ) (typ : TtlvType) (content : List ℕ) → length (leaf_bytes tag typ content) % 8 ≡ 0
unfolding leaf_bytes
fills tag typ content =
    let zero : ℕ = 0 in
    omega (arith, length-append content (replicate (pad_len (length content)) zero), length-replicate (pad_len (length content)) zero)

pub returns : goal.returns
returns c = λ tag typ content. (same tag typ content, fills tag typ content)
