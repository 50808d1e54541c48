-- Lines of readable texts: indents, tags with their names, numbers with leading zeros.
use Rattle.std.specs.Prelude.{ℕ, zero, suc, ◌-◌, List, [], ◌∷◌, ◌++◌, length, replicate, Option, Some, None, codes}
use Rattle.std.specs.Prelude.{nat_le, if◌then◌else◌}
use Rattle.std.specs.Fmt.{decimal}
use Rattle.kmip_ttlv_types.specs.declared.typ.TtlvType.{TtlvType}
use Rattle.kmip_ttlv_types.specs.declared.typ.TtlvType.TheVariants.{Structure}
use Rattle.kmip_ttlv_types.specs.TypeTexts.{type_text}
use Rattle.kmip_ttlv_util.specs.Outlines.{hex_upper}
use Rattle.kmip_ttlv_util.specs.declared.indentation.Indentation.{Indentation}
use Rattle.kmip_ttlv_util.specs.declared.indentation.Indentation.TheVariants.{Full, Bounded}

-- digits, with leading zeros up to a width
unfoldable pub at_least : ℕ → List ℕ → List ℕ
at_least width digits = replicate (width - length digits) 48 ++ digits

-- `0x` and digits up to a width
abbrev pub hex_padded : ℕ → ℕ → List ℕ
hex_padded width n = codes "0x" ++ at_least width (hex_upper n)

-- two spaces for each level
abbrev pub indent : ℕ → List ℕ
indent zero = []
indent (suc d) = 32 ∷ 32 ∷ indent d

-- a tag with at least so many digits; if it has a name, after the name and in brackets
abbrev pub tag_named : ℕ → Option (List ℕ) → ℕ → List ℕ
tag_named least None tag = hex_padded least tag
tag_named least (Some name) tag = name ++ (codes " (" ++ (hex_padded least tag ++ codes ")"))

-- the beginning of a line at a depth, up to the tag
abbrev pub part_of : ℕ → (ℕ → Option (List ℕ)) → ℕ → ℕ → List ℕ
part_of least names depth tag = indent depth ++ (codes "Tag: " ++ tag_named least (names tag) tag)

-- the same with four digits
abbrev pub tag_part : (ℕ → Option (List ℕ)) → ℕ → ℕ → List ℕ
tag_part names = part_of 4 names

-- what precedes the tag of an item in more than 64 structures: their number
unfoldable pub depth_mark : ℕ → List ℕ
depth_mark depth = indent 64 ++ (codes "[" ++ (decimal depth ++ codes "] "))

-- with six digits, and indented by at most 64 levels
unfoldable pub bounded_part : (ℕ → Option (List ℕ)) → ℕ → ℕ → List ℕ
bounded_part names depth tag =
    if nat_le depth 64 then part_of 6 names depth tag else depth_mark depth ++ part_of 6 names 0 tag

-- the beginning of a line, by how lines are indented
abbrev pub indented : Indentation → (ℕ → Option (List ℕ)) → ℕ → ℕ → List ℕ
indented Full names = tag_part names
indented Bounded names = bounded_part names

-- the beginning of a line, up to the type
abbrev pub typ_part : (ℕ → ℕ → List ℕ) → ℕ → ℕ → TtlvType → List ℕ
typ_part beginning depth tag typ = beginning depth tag ++ (codes ", Type: " ++ type_text typ)

-- what follows a tag, up to the value: a leaf has a space after `Data:`
abbrev pub data_part : TtlvType → List ℕ
data_part Structure = codes ", Type: " ++ (type_text Structure ++ codes ", Data:")
data_part typ = codes ", Type: " ++ (type_text typ ++ codes ", Data: ")

-- a whole line, with its data
unfoldable pub line : (ℕ → ℕ → List ℕ) → ℕ → ℕ → TtlvType → List ℕ → List ℕ
line beginning depth tag typ shown = typ_part beginning depth tag typ ++ (codes ", Data: " ++ (shown ++ (10 ∷ [])))

-- what is written in place of a hidden value
abbrev pub hidden : List ℕ
hidden = codes "<redacted>"
