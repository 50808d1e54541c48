-- Items on the wire, their contents undecoded (KMIP 1.0, 9.1.1).
use Rattle.std.specs.Prelude.{◌≡◌, ℕ, ◌^◌, ◌<◌, List, [], ◌∷◌, ◌++◌, length}
use Rattle.std.specs.Int.{w32, to_be_bytes, bytes_high_first}
use Rattle.kmip_ttlv_types.specs.declared.typ.TtlvType.{TtlvType}
use Rattle.kmip_ttlv_types.specs.ItemTypes.{code, padding}

-- three bytes of tag, one of type, four of length
abbrev pub header : ℕ → TtlvType → ℕ → List ℕ
header tag typ len = bytes_high_first 3 tag ++ code typ ∷ to_be_bytes w32 len

-- one item, its content undecoded
pub record Raw : Type 0 where
  pub tag : ℕ
  pub typ : TtlvType
  pub content : List ℕ

-- bytes that encode an item: its header, its content, and padding of any value
pub record IsTextOf (x : Raw) (text : List ℕ) : Type 0 where
  pub tag_fits : x.tag < 2 ^ 24
  pub length_fits : length x.content < 2 ^ 32
  pub pad : List ℕ
  pub pad_length : length pad ≡ padding x.typ (length x.content)
  pub parts : text ≡ header x.tag x.typ (length x.content) ++ x.content ++ pad

-- the bytes are one encoding of each of these items, in order, and nothing else
abbrev pub Splits : List Raw → List ℕ → Type 0
Splits [] bytes = bytes ≡ []
Splits (x ∷ xs) bytes = (text : List ℕ) × (rest : List ℕ) × IsTextOf x text × (bytes ≡ text ++ rest) × Splits xs rest
