-- What a diagnostic is read back as: the lines of the longest list of parts that the text begins with; for an outline's
-- diagnostic, the outline's redacted lines.
use Rattle.std.specs.Prelude.{codes, ◌≡◌, ◌≢◌, ℕ, suc, ◌-◌, ◌<◌, ◌≤◌, List, [], ◌∷◌, ◌++◌, length, take, drop}
use Rattle.std.specs.Prelude.{Option, Some, None, if◌then◌else◌, ◌==◌}
use Rattle.std.specs.List.{prefix_len, AllByRecursion}
use Rattle.std.specs.Str.{trim_end}
use Rattle.kmip_ttlv_types.specs.declared.typ.TtlvType.{TtlvType}
use Rattle.kmip_ttlv_types.specs.declared.typ.TtlvType.TheVariants.{Structure, Enumeration}
use Rattle.kmip_ttlv_types.specs.Names.{tag_of}
use Rattle.kmip_ttlv_types.specs.Digits.{six_digits}
use Rattle.kmip_ttlv_util.specs.Outlines.{Outline, Outlines, leaf_outline, node_outline, no_outlines, outline}
use Rattle.kmip_ttlv_util.specs.Outlines.{IsOutline, hex_upper, diag}
use Rattle.kmip_ttlv_util.specs.Letters.{letter, type_of_letter, is_hex}
use Rattle.kmip_ttlv_util.specs.Lines.{tag_part, typ_part, line, hidden}

-- a part of a diagnostic: the close of a structure, or an item and what its line shows
pub data Part : Type 0 where
  close_part : Part
  item_part : (tag : ℕ) → (typ : TtlvType) → (shown : List ℕ) → Part

-- no element is a colon
abbrev pub NoColon : List ℕ → Type 0
NoColon cs = AllByRecursion (λ c. c ≢ 58) cs

-- what follows a letter: an enumeration's value and a colon; otherwise at least one character
abbrev pub IsPartTail : TtlvType → List ℕ → List ℕ → List ℕ → Type 0
IsPartTail Structure after shown rest = (shown ≡ []) × (rest ≡ after) × (0 < length rest)
IsPartTail Enumeration after shown rest = (0 < length shown) × NoColon shown × (after ≡ shown ++ (58 ∷ rest))
IsPartTail typ after shown rest = (shown ≡ hidden) × (rest ≡ after) × (0 < length rest)

-- the tag that a text begins with: all its leading digits, after `0x` and the prefix
abbrev pub tag_in_front : List ℕ → List ℕ → Option ℕ
tag_in_front prefix [] = None
tag_in_front prefix (c ∷ s) =
    if c == 93 then None else tag_of (codes "0x" ++ (prefix ++ take (prefix_len is_hex (c ∷ s)) (c ∷ s)))

-- the type that follows the digits
abbrev pub typ_in_front : List ℕ → Option TtlvType
typ_in_front [] = None
typ_in_front (c ∷ s) = type_of_letter c

-- a text at a depth begins with a part, and this is the rest
abbrev pub IsPartAt : List ℕ → ℕ → List ℕ → Part → List ℕ → Type 0
IsPartAt prefix depth s close_part rest = (0 < depth) × (s ≡ 93 ∷ rest)
IsPartAt prefix depth s (item_part tag typ shown) rest =
    (after : List ℕ)
    × (tag_in_front prefix s ≡ Some tag)
    × (drop (prefix_len is_hex s) s ≡ letter typ ∷ after)
    × IsPartTail typ after shown rest

-- the depth after a part
abbrev pub depth_behind : ℕ → Part → ℕ
depth_behind depth close_part = depth - 1
depth_behind depth (item_part tag Structure shown) = suc depth
depth_behind depth (item_part tag typ shown) = depth

-- a text begins with these parts; the depth after them, and the rest
abbrev pub StandAll : List ℕ → ℕ → List ℕ → List Part → ℕ → List ℕ → Type 0
StandAll prefix depth s [] deep rest = (deep ≡ depth) × (rest ≡ s)
StandAll prefix depth s (p ∷ ps) deep rest =
    (more : List ℕ) × IsPartAt prefix depth s p more × StandAll prefix (depth_behind depth p) more ps deep rest

-- the line of a part
abbrev pub part_line : (ℕ → ℕ → List ℕ) → ℕ → Part → List ℕ
part_line beginning depth close_part = []
part_line beginning depth (item_part tag typ shown) = line beginning depth tag typ shown

-- the lines of parts
abbrev pub part_lines : (ℕ → ℕ → List ℕ) → ℕ → List Part → List ℕ
part_lines beginning depth [] = []
part_lines beginning depth (p ∷ ps) = part_line beginning depth p ++ part_lines beginning (depth_behind depth p) ps

-- what is written of this tag and type
abbrev pub unfinished_by : (ℕ → ℕ → List ℕ) → ℕ → Option ℕ → Option TtlvType → List ℕ
unfinished_by beginning depth None o = []
unfinished_by beginning depth (Some tag) None = beginning depth tag
unfinished_by beginning depth (Some tag) (Some typ) = typ_part beginning depth tag typ

-- what is written of an unfinished part: its tag and type, as far as they are there
abbrev pub unfinished : (ℕ → ℕ → List ℕ) → List ℕ → ℕ → List ℕ → List ℕ
unfinished beginning prefix depth s =
    unfinished_by beginning depth (tag_in_front prefix s) (typ_in_front (drop (prefix_len is_hex s) s))

-- the longest list of parts that a text begins with
pub record Longest (beginning : ℕ → ℕ → List ℕ) (prefix : List ℕ) (depth : ℕ) (s text : List ℕ) : Type 0 where
  pub parts : List Part
  pub deep : ℕ
  pub rest : List ℕ
  pub stand : StandAll prefix depth s parts deep rest
  pub no_more : (p : Part) (more : List ℕ) → IsPartAt prefix deep rest p more → ⊥
  pub written : text ≡ part_lines beginning depth parts ++ unfinished beginning prefix deep rest

-- the result has the lines of the longest list of parts, then what is written of an unfinished part, trimmed at the end
abbrev pub ReadsLongest : (ℕ → Option (List ℕ)) → List ℕ → List ℕ → List ℕ → Type 0
ReadsLongest names prefix s answer =
    (text : List ℕ) × Longest (tag_part names) prefix 0 s text × (answer ≡ trim_end text)

-- reading ends at a place and a depth: the longest list of parts ends there, and the text has their lines, then
-- what is written of an unfinished part
pub record EndsAt
    (beginning : ℕ → ℕ → List ℕ) (prefix s text : List ℕ) (place deep : ℕ) : Type 0 where
  pub parts : List Part
  pub within : place ≤ length s
  pub stand : StandAll prefix 0 s parts deep (drop place s)
  pub no_more : (p : Part) (more : List ℕ) → IsPartAt prefix deep (drop place s) p more → ⊥
  pub written : text ≡ part_lines beginning 0 parts ++ unfinished beginning prefix deep (drop place s)

-- what an outline's line shows
abbrev pub shown : TtlvType → Option ℕ → List ℕ
shown Structure v = []
shown Enumeration (Some n) = hex_upper n
shown typ v = hidden

-- the lines of an outline at a depth
abbrev mutual
  pub lines : (ℕ → ℕ → List ℕ) → ℕ → Outline → List ℕ
  lines beginning depth (leaf_outline tag typ value) = line beginning depth tag typ (shown typ value)
  lines beginning depth (node_outline tag below) = line beginning depth tag Structure [] ++ lines_all beginning (suc depth) below

  pub lines_all : (ℕ → ℕ → List ℕ) → ℕ → Outlines → List ℕ
  lines_all beginning depth no_outlines = []
  lines_all beginning depth (outline o os) = lines beginning depth o ++ lines_all beginning depth os

-- a text begins with the prefix
abbrev pub HasPrefix : List ℕ → List ℕ → Type 0
HasPrefix prefix text = (rest : List ℕ) × (text ≡ prefix ++ rest)

-- every tag's six digits begin with the prefix
abbrev mutual
  pub AllBegin : List ℕ → Outline → Type 0
  AllBegin prefix (leaf_outline tag typ value) = HasPrefix prefix (six_digits tag)
  AllBegin prefix (node_outline tag below) = HasPrefix prefix (six_digits tag) × AllsBegin prefix below

  pub AllsBegin : List ℕ → Outlines → Type 0
  AllsBegin prefix no_outlines = Unit {0}
  AllsBegin prefix (outline o os) = AllBegin prefix o × AllsBegin prefix os

-- no structure is empty
abbrev mutual
  pub NoneEmpty : Outline → Type 0
  NoneEmpty (leaf_outline tag typ value) = Unit {0}
  NoneEmpty (node_outline tag no_outlines) = ⊥
  NoneEmpty (node_outline tag (outline o os)) = NoneEmpty o × AllNoneEmpty os

  pub AllNoneEmpty : Outlines → Type 0
  AllNoneEmpty no_outlines = Unit {0}
  AllNoneEmpty (outline o os) = NoneEmpty o × AllNoneEmpty os

-- the outline of a structure
abbrev pub IsNode : Outline → Type 0
IsNode (leaf_outline tag typ value) = ⊥
IsNode (node_outline tag below) = Unit {0}

-- for the diagnostic of a structure's outline, whose tags all begin with the prefix: its lines,
-- without the last line feed if no structure is empty
abbrev pub IsReadBack : (ℕ → Option (List ℕ)) → List ℕ → List ℕ → List ℕ → Type 0
IsReadBack names prefix text answer =
    (o : Outline) → IsOutline o → IsNode o → AllBegin prefix o → text ≡ diag prefix o
    → (answer ≡ trim_end (lines (tag_part names) 0 o)) × (NoneEmpty o → answer ++ (10 ∷ []) ≡ lines (tag_part names) 0 o)
