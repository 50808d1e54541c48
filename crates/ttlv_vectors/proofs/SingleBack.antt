-- What a structure of one number is written as agrees with its form, as what it is read as.
use Rattle.std.proofs.Common.{ℤ, FitsSigned, refl}
use Rattle.std.specs.Int.{w32}
use Rattle.kmip_ttlv.specs.Names.{number, tag_of, transparent_name}
use Rattle.kmip_ttlv.specs.Agreements.{MessageAgrees, field_agrees, inner_agrees, leaf_agrees, newtype_wraps, no_field_agrees, struct_agrees, struct_encodes}
use Rattle.kmip_ttlv.specs.{Returns.as_int32, WrittenItems.take_tag}
use Rattle.ttlv_vectors.specs.Samples.{single_form, read_single, written_single}

pub single_agrees : (n : ℤ) → FitsSigned w32 n → MessageAgrees single_form (written_single n) (read_single n)
unfolding take_tag tag_of number transparent_name
single_agrees n fits =
    let number = inner_agrees (newtype_wraps refl refl) (leaf_agrees refl (as_int32 fits)) in
    (_, _, struct_agrees refl (struct_encodes refl) (field_agrees refl refl number no_field_agrees))
