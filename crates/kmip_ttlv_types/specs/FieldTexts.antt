-- How fields are printed.
use Rattle.std.specs.Prelude.{ℕ, List, codes}
use Rattle.kmip_ttlv_types.specs.declared.field.FieldType.{FieldType}
use Rattle.kmip_ttlv_types.specs.declared.field.FieldType.TheVariants.{Tag, Typ, Length, Value, LengthAndValue}
use Rattle.kmip_ttlv_types.specs.declared.field.FieldType.TheVariants.{TypeAndLengthAndValue}

-- the variant's name, and for `Typ` the word "Type"
abbrev pub field_text : FieldType → List ℕ
field_text Tag = codes "Tag"
field_text Typ = codes "Type"
field_text Length = codes "Length"
field_text Value = codes "Value"
field_text LengthAndValue = codes "LengthAndValue"
field_text TypeAndLengthAndValue = codes "TypeAndLengthAndValue"
