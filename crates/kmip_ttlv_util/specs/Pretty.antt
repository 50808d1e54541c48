-- Readable texts of a tree, and of any bytes.
use Rattle.std.specs.Prelude.{◌≡◌, ℕ, suc, ◌+◌, ◌/◌, ◌%◌, Bool, true, false, List, [], ◌∷◌, ◌++◌, length, take, drop}
use Rattle.std.specs.Prelude.{Option, if◌then◌else◌, ◌==◌, codes}
use Rattle.std.specs.List.{flat_map}
use Rattle.std.specs.Int.{w32, w64, from_be_bytes, cast_signed}
use Rattle.std.specs.Fmt.{digit_glyph, decimal, signed_decimal}
use Rattle.kmip_ttlv_types.specs.declared.typ.TtlvType.{TtlvType}
use Rattle.kmip_ttlv_types.specs.declared.typ.TtlvType.TheVariants.{Structure, Integer, LongInteger, BigInteger}
use Rattle.kmip_ttlv_types.specs.declared.typ.TtlvType.TheVariants.{Enumeration, Boolean, TextString, ByteString}
use Rattle.kmip_ttlv_types.specs.declared.typ.TtlvType.TheVariants.{DateTime, Interval}
use Rattle.kmip_ttlv_types.specs.Places.{tag_at, length_at}
use Rattle.kmip_ttlv_types.specs.Trees.{Tree, Trees, leaf, node, no_trees, tree, IsTreeText, IsStructure, HasNoEmpty}
use Rattle.kmip_ttlv_util.specs.Lines.{hex_padded, tag_part, typ_part}
use Rattle.kmip_ttlv_util.specs.Traces.{Style, trace, printed_text}
use Rattle.kmip_ttlv_util.specs.WalkPlaces.{has_end}
use Rattle.kmip_ttlv_util.specs.Diagnostics.{exceeded}

-- a space, and a text in brackets
abbrev pub bracketed : List ℕ → List ℕ
bracketed text = codes " (" ++ (text ++ codes ")")

-- the two digits of a byte
abbrev pub two_digits : ℕ → List ℕ
two_digits b = digit_glyph true (b / 16) ∷ digit_glyph true (b % 16) ∷ []

-- bytes in uppercase hexadecimal
unfoldable pub hex_bytes : List ℕ → List ℕ
hex_bytes bytes = flat_map two_digits bytes

-- the value of a leaf: numbers as `0x` and at least six digits of the two's complement, then in decimal,
-- except dates; a Boolean as a word; a text as it is; bytes in hexadecimal
unfoldable pub value_shown : TtlvType → List ℕ → List ℕ
value_shown Structure content = []
value_shown Integer content =
    hex_padded 6 (from_be_bytes w32 content) ++ bracketed (signed_decimal (cast_signed w32 (from_be_bytes w32 content)))
value_shown LongInteger content =
    hex_padded 6 (from_be_bytes w64 content) ++ bracketed (signed_decimal (cast_signed w64 (from_be_bytes w64 content)))
value_shown BigInteger content = hex_bytes content
value_shown Enumeration content =
    hex_padded 6 (from_be_bytes w32 content) ++ bracketed (decimal (from_be_bytes w32 content))
value_shown Boolean content = if from_be_bytes w64 content == 0 then codes "false" else codes "true"
value_shown TextString content = content
value_shown ByteString content = hex_bytes content
value_shown DateTime content = hex_padded 6 (from_be_bytes w64 content)
value_shown Interval content =
    hex_padded 6 (from_be_bytes w32 content) ++ bracketed (decimal (from_be_bytes w32 content))

-- what follows `Data:`: a structure has nothing, not even the space
unfoldable pub data_shown : TtlvType → List ℕ → List ℕ
data_shown Structure content = []
data_shown typ content = 32 ∷ value_shown typ content

-- a line
unfoldable pub pretty_line : (ℕ → Option (List ℕ)) → ℕ → ℕ → TtlvType → List ℕ → List ℕ
pretty_line names depth tag typ content =
    typ_part (tag_part names) depth tag typ ++ (codes ", Data:" ++ (data_shown typ content ++ (10 ∷ [])))

-- the lines of a tree at a depth
abbrev mutual
  pub pretty : (ℕ → Option (List ℕ)) → ℕ → Tree → List ℕ
  pretty names depth (leaf tag typ content) = pretty_line names depth tag typ content
  pretty names depth (node tag below) = pretty_line names depth tag Structure [] ++ pretty_all names (suc depth) below

  pub pretty_all : (ℕ → Option (List ℕ)) → ℕ → Trees → List ℕ
  pretty_all names depth no_trees = []
  pretty_all names depth (tree t ts) = pretty names depth t ++ pretty_all names depth ts

-- the line after an empty structure that stays open
unfoldable pub warning : Bool → TtlvType → ℕ → List ℕ
warning closed Structure n = if has_end closed n then [] else codes "WARNING: TTLV structure length is zero\n"
warning closed typ n = []

-- a line for each entry that is read; nothing where a structure closes; and `ERROR: ` with some wording for
-- an entry that can't be read
abbrev pub pretty_style : (ℕ → Option (List ℕ)) → Bool → List ℕ → List ℕ → Style
pretty_style names closed bytes wording = record {
  item = λ depth p x t.
      pretty_line names depth (tag_at x.header 0) t (take (length_at x.header 0) (drop (p + 8) bytes))
      ++ warning closed t (length_at x.header 0);
  close = [];
  passed = exceeded;
  unreadable = codes "ERROR: " ++ wording;
}

-- the readable text of any bytes, with some wording
abbrev pub IsPrinted : (ℕ → Option (List ℕ)) → Bool → List ℕ → List ℕ → Type 0
IsPrinted names closed bytes text =
    (wording : List ℕ)
    × (text ≡ printed_text (pretty_style names closed bytes wording) closed (length bytes) (trace closed bytes))

-- the lines of a well-formed message, which has no empty structure unless these are closed
abbrev pub IsPretty : (ℕ → Option (List ℕ)) → Bool → List ℕ → List ℕ → Type 0
IsPretty names closed bytes text =
    (t : Tree)
    → IsTreeText t bytes
    → IsStructure t
    → (closed ≡ false → HasNoEmpty t)
    → text ≡ pretty names 0 t
