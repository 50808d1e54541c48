-- The forms of leaves.
use Rattle.kmip_ttlv_base.specs.Forms.{Form, int32, int64, boolean, text, octets, date_time, interval, big_integer}
use Rattle.kmip_ttlv_base.specs.Forms.{any_number}
use Rattle.kmip_ttlv_reader.specs.declared.leaf.Leaf.{Leaf}
use Rattle.kmip_ttlv_reader.specs.declared.leaf.Leaf.TheVariants as leaves

-- the form that a leaf's shape is
abbrev pub form_of_leaf : Leaf → Form
form_of_leaf leaves.I32 = int32
form_of_leaf leaves.I64 = int64
form_of_leaf leaves.Bool = boolean
form_of_leaf leaves.Text = text
form_of_leaf leaves.Bytes = octets
form_of_leaf leaves.DateTime = date_time
form_of_leaf leaves.Interval = interval
form_of_leaf leaves.BigInteger = big_integer
form_of_leaf leaves.U32 = any_number
