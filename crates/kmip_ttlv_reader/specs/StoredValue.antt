-- What a text in memory is stored as.
use Rattle.kmip_ttlv_reader.specs.TagValues.{TagValue}
use Rattle.kmip_ttlv_reader.specs.declared.history.StoredValue.{StoredValue}

-- what a text in memory is stored as
abbrev pub tag_value_of : StoredValue → TagValue
tag_value_of k = record { tag = k.tag; text = k.text.now }
