-- What a root form reads from.
use Rattle.std.proofs.Common.{◌≡◌, true, List, ◌∷◌}
use Rattle.kmip_ttlv_types.specs.{Items.Raw, declared.typ.TtlvType.TtlvType, declared.typ.TtlvType.TheVariants.Structure}
use Rattle.kmip_ttlv_base.specs.{Forms.Form, Forms.struct, Values.Value}
use Rattle.kmip_ttlv_reader.specs.TagValues.{TagValue}
use Rattle.kmip_ttlv_reader.specs.Reads.{Reads, leaf, wrap_some, wrap, structure, is_root, takes}

-- a form of leaves is no root
no_leaf : (s : Form) (t : TtlvType) → is_root s ≡ true → takes s t ≡ true → t ≡ Structure
no_leaf (struct name fs deny) t e h = absurd cc
no_leaf s t e h = absurd cc

-- what a root form reads from is a Structure
pub root_structure : {s : Form} {k k' : List TagValue} {x : Raw} {xs ys : List Raw} {v : Value} → is_root s ≡ true → Reads s k (x ∷ xs) v k' ys
    → x.typ ≡ Structure
root_structure e (leaf {s = s} {h = h} t v) = no_leaf s h.typ e t
root_structure e (wrap_some r) = root_structure e r
root_structure e (wrap r) = root_structure e r
root_structure e (structure n t z fs m) = t
root_structure e r = absurd cc
