-- The values and forms of the sample types.
use Rattle.std.specs.Prelude.{ℕ, ℤ, false, codes}
use Rattle.kmip_ttlv.specs.Values.{Value, i32_value, struct_value, newtype_value, no_values, value}
use Rattle.kmip_ttlv.specs.Digits.{tag_text}
use Rattle.kmip_ttlv.specs.Tags.{wrapper_name}
use Rattle.kmip_ttlv.specs.Forms.{Form, struct, int32, no_fields, field}

-- a structure of one number
abbrev pub single_form : Form
single_form = struct (codes "0xAAAAAA") (field (codes "0xBBBBBB") int32 no_fields) false

-- what is read of a structure of one number
abbrev pub read_single : ℤ → Value
read_single n = struct_value (codes "0xAAAAAA") (value (i32_value n) no_values)

-- what is written of it: the number under a tag of its own
abbrev pub written_single : ℤ → Value
written_single n =
    struct_value (codes "0xAAAAAA") (value (newtype_value (codes "Transparent:0xBBBBBB") (i32_value n)) no_values)

-- a number under one tag, in a structure under another
abbrev pub enclosed : ℕ → ℕ → ℤ → Value
enclosed outer inner n = struct_value (tag_text outer) (value (newtype_value (wrapper_name inner) (i32_value n)) no_values)
