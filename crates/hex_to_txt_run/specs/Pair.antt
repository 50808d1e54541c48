-- The pair of numbers that `flat` decodes and encodes.
use Rattle.std.specs.Prelude.{ℕ, ℤ, false, List, ◌++◌, codes}
use Rattle.std.specs.Int.{w32, to_be_bytes, cast_unsigned}
use Rattle.std.specs.Fmt.{signed_decimal}
use Rattle.hex.specs.Hex.{encode_upper}
use Rattle.kmip_ttlv.specs.declared.types.TtlvType.TheVariants.{Integer}
use Rattle.kmip_ttlv.specs.Trees.{Tree, leaf, node, tree, no_trees, bytes}
use Rattle.kmip_ttlv.specs.Values.{Value, i32_value, struct_value, newtype_value, no_values, value}
use Rattle.kmip_ttlv.specs.Forms.{Form, struct, int32, no_fields, field}

-- the form of a pair
abbrev pub pair_form : Form
pair_form = struct (codes "0xAAAAAA") (field (codes "0xBBBBBB") int32 (field (codes "0xCCCCCC") int32 no_fields)) false

-- what the pair of these numbers is decoded as
abbrev pub read_pair : ℤ → ℤ → Value
read_pair first second = struct_value (codes "0xAAAAAA") (value (i32_value first) (value (i32_value second) no_values))

-- what the pair of these numbers is encoded from
abbrev pub written_pair : ℤ → ℤ → Value
written_pair first second =
    struct_value (codes "0xAAAAAA") (
    value (newtype_value (codes "Transparent:0xBBBBBB") (i32_value first)) (
    value (newtype_value (codes "Transparent:0xCCCCCC") (i32_value second)) no_values))

-- the item that the pair of these numbers is encoded as
abbrev pub pair_tree : ℤ → ℤ → Tree
pair_tree first second = node 0xAAAAAA (tree (number_leaf 0xBBBBBB first) (tree (number_leaf 0xCCCCCC second) no_trees))
  where
    number_leaf : ℕ → ℤ → Tree
    number_leaf tag z = leaf tag Integer (to_be_bytes w32 (cast_unsigned w32 z))

-- the two numbers and the pair's canonical bytes, one per line
abbrev pub pair_text : ℤ → ℤ → List ℕ
pair_text first second =
    codes "0xBBBBBB "
    ++ (signed_decimal first
    ++ (codes "\n0xCCCCCC "
    ++ (signed_decimal second
    ++ (codes "\n"
    ++ (encode_upper (bytes (pair_tree first second)) ++ codes "\n")))))
