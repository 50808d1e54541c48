-- Canonical bytes are split by the trees' items.
use Rattle.std.proofs.Common.{◌≡◌, ℕ, false, List, [], ◌∷◌, ◌++◌, map, length, replicate, refl, sym, ◌∙◌, append_assoc, append-nil, subst}
use Rattle.std.specs.List.{AllByRecursion}
use Rattle.std.proofs.Math.ListN.{length-replicate}
use Rattle.kmip_ttlv_types.specs.declared.typ.TtlvType.{TtlvType, TheVariants.Structure}
use Rattle.kmip_ttlv_types.specs.ItemTypes.{is_structure, pad_len, padding}
use Rattle.kmip_ttlv_types.specs.Items.{header, IsTextOf, Splits}
use Rattle.kmip_ttlv_types.specs.Trees.{Tree, leaf, node, leaf_bytes, node_bytes, bytes, bytes_below, bytes_all, raw_of}
use Rattle.kmip_ttlv_base.specs.Values.{Value}
use Rattle.kmip_ttlv_ser.specs.{EncodeResults.IsWrittenAs, WriteLaws.IsSound}
use Rattle.kmip_ttlv_ser.proofs.Sound.{items_sound}

padding_is : (t : TtlvType) (n : ℕ) → is_structure t ≡ false → padding t n ≡ pad_len n
padding_is Structure n h = absurd cc
padding_is _ n h = refl

tree_text : (t : Tree) → IsSound t → IsTextOf (raw_of t) (bytes t)
unfolding leaf_bytes node_bytes
tree_text (leaf tag typ c) h =
    let n = pad_len (length c) in
    let long = length-replicate n 0 ∙ sym (padding_is typ (length c) h.1) in
    let parts = sym (append_assoc (header tag typ (length c)) c (replicate n 0)) in
    record { tag_fits = h.0; length_fits = h.2; pad = replicate n 0; pad_length = long; parts = parts }
tree_text (node tag below) h =
    let parts = sym (append-nil (header tag Structure (length (bytes_below below)) ++ bytes_below below)) in
    record { tag_fits = h.0; length_fits = h.1; pad = []; pad_length = refl; parts = parts }

trees_split : (ts : List Tree) → AllByRecursion IsSound ts → Splits (map raw_of ts) (bytes_all ts)
trees_split [] h = refl
trees_split (t ∷ ts) h = (bytes t, bytes_all ts, tree_text t h.0, refl, trees_split ts h.1)

pub written_split : (v : Value) (n : ℕ) (bytes : List ℕ) → (h : IsWrittenAs v n bytes) → Splits (map raw_of h.trees) bytes
written_split v n bytes h = subst (Splits (map raw_of h.trees)) (sym h.bytes_are) (trees_split h.trees (items_sound v h.trees h.are h.fit.each))
