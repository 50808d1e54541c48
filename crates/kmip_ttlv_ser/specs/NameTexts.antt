-- The texts of names that tags are taken from.
use Rattle.std.specs.Prelude.{ℕ, List}
use Rattle.kmip_ttlv_types.specs.Digits.{tag_text}
use Rattle.kmip_ttlv_ser.specs.declared.names.Name.{Name}
use Rattle.kmip_ttlv_ser.specs.declared.names.Name.TheVariants.{Text, Number}

-- the text that a name is
abbrev pub text_of : Name → List ℕ
text_of (Text s) = s.now
text_of (Number n) = tag_text n
