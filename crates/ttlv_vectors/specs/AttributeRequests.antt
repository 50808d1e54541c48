-- What a request for attributes is written as.
use Rattle.std.specs.Prelude.{ℕ, List, Option, codes}
use Rattle.kmip_ttlv.specs.Values.{Value, text_value, struct_value, newtype_value, values_of}
use Rattle.kmip_ttlv.specs.Visits.{optional_field, joined}

-- what names an object
abbrev pub identifier_value : List ℕ → Value
identifier_value text = newtype_value (codes "Transparent:0x420094") (text_value text)

-- what names an attribute
abbrev pub attribute_name_value : List ℕ → Value
attribute_name_value text = newtype_value (codes "Transparent:0x42000A") (text_value text)

-- the attributes of these names, of the object of this name where there is one
abbrev pub asked_value : Option Value → List Value → Value
asked_value identifier names = struct_value (codes "0x420079") (joined (optional_field identifier) (values_of names))
