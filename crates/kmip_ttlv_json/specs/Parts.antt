-- The text of a message's JSON, item by item.
use Rattle.std.specs.Prelude.{ℕ, zero, suc, ◌-◌, ◌==◌, Bool, true, false, not, ◌&&◌, List, [], ◌∷◌, ◌++◌, nat_lt, codes}
use Rattle.std.specs.Prelude.{Option, Some, None, if◌then◌else◌}
use Rattle.hex.specs.Hex.{encode_upper}
use Rattle.serde_json.specs.{Data.Num, Written.comma_if, Written.number_text}
use Rattle.kmip_ttlv_types.specs.declared.typ.TtlvType.{TtlvType}
use Rattle.kmip_ttlv_types.specs.declared.typ.TtlvType.TheVariants.{Structure, Boolean, TextString, ByteString}
use Rattle.kmip_ttlv_types.specs.ItemTypes.{is_structure, type_of}
use Rattle.kmip_ttlv_write.specs.FlatWrites.{opened}
use Rattle.kmip_ttlv_write.specs.GivenItems.{Line}
use Rattle.kmip_ttlv_json.specs.declared.print.Spot.{Spot}
use Rattle.kmip_ttlv_json.specs.declared.print.Style.{Style}
use Rattle.kmip_ttlv_json.specs.declared.print.Style.TheVariants.{Names}
use Rattle.kmip_ttlv_json.specs.declared.print.Shown.{Shown}
use Rattle.kmip_ttlv_json.specs.Spellings.{spelled}
use Rattle.kmip_ttlv_json.specs.Jsons.{type_word, is_true, within, tag_text, words_for, number_for, is_hidden}

-- the ends of so many structures
abbrev pub closes : ℕ → List ℕ
closes zero = []
closes (suc n) = 93 ∷ 125 ∷ closes n

-- an item in so many structures is in a secret one
abbrev pub is_inside : Option ℕ → ℕ → Bool
is_inside None depth = false
is_inside (Some secret) depth = nat_lt secret depth

-- what is shown of an item's value
abbrev pub shown_at : (ℕ → Bool) → Shown → Spot → ℕ → ℕ → Shown
shown_at secrets shown s depth tag = within (within shown (is_inside s.secret depth)) (secrets tag)

-- where printing stands before the first item, and behind one
abbrev pub first_spot : Spot
first_spot = record { depth = 0; first = true; secret = None }

abbrev pub spot_after : (ℕ → Bool) → Spot → ℕ → ℕ → TtlvType → Spot
spot_after secrets s depth tag typ = record {
  depth = opened typ depth;
  first = is_structure typ;
  secret = if is_inside s.secret depth then s.secret else if secrets tag then Some depth else None;
}

-- what stands in front of an item: the ends of structures that it is not in, and a comma where another item was met in
-- the one around
abbrev pub gap : Spot → ℕ → List ℕ
gap s depth = closes (s.depth - depth) ++ comma_if (not (s.first && s.depth == depth))

-- an item up to the end of its tag, and from there to its value
abbrev pub tag_part : Style → ℕ → List ℕ
tag_part style tag = codes "{\"tag\":\"" ++ tag_text style tag

abbrev pub type_part : Style → TtlvType → List ℕ
type_part Names Structure = codes "\",\"value\":"
type_part style typ = codes "\",\"type\":\"" ++ (type_word typ ++ codes "\",\"value\":")

unfoldable pub opening : Style → ℕ → TtlvType → List ℕ
opening style tag typ = tag_part style tag ++ type_part style typ

-- digits as a JSON string, with what stands in front of them in it
abbrev pub digits_text : List ℕ → List ℕ → List ℕ
digits_text front content = front ++ (encode_upper content ++ codes "\"")

-- the text of a value by digits, and by its words or as a number, if it is one
abbrev pub plain_text : TtlvType → List ℕ → List ℕ
plain_text Boolean content = if is_true content then codes "true" else codes "false"
plain_text TextString content = spelled content
plain_text ByteString content = digits_text (codes "\"") content
plain_text typ content = digits_text (codes "\"0x") content

abbrev pub worded_text : Option (List ℕ) → Option Num → TtlvType → List ℕ → List ℕ
worded_text (Some words) num typ content = spelled words
worded_text None (Some num) typ content = number_text num
worded_text None None typ content = plain_text typ content

-- the text of a leaf's value
abbrev pub value_text : Style → Shown → ℕ → TtlvType → List ℕ → List ℕ
value_text style shown tag typ content =
    if is_hidden shown typ then codes "null" else worded_text (words_for style tag typ content) (number_for style tag typ content) typ content

-- the rest of an item: of a structure no more than where the items in it begin
abbrev pub value_part : Style → Shown → ℕ → TtlvType → List ℕ → List ℕ
value_part style shown tag Structure content = codes "["
value_part style shown tag typ content = value_text style shown tag typ content ++ codes "}"

-- an item with what stands in front of it
abbrev pub item_part : Style → (ℕ → Bool) → Shown → Spot → ℕ → ℕ → TtlvType → List ℕ → List ℕ
item_part style secrets shown s depth tag typ content =
    gap s depth ++ (opening style tag typ ++ value_part style (shown_at secrets shown s depth tag) tag typ content)

-- the type of a code
abbrev pub kind : ℕ → TtlvType
kind n = elim (type_of n) [ None ↦ Structure | Some typ ↦ typ ]

-- several items, one after the other; and where printing stands behind them
abbrev pub parts : Style → (ℕ → Bool) → Shown → Spot → List Line → List ℕ
parts style secrets shown s [] = []
parts style secrets shown s (l ∷ ls) =
    item_part style secrets shown s l.depth l.tag (kind l.code) l.content
    ++ parts style secrets shown (spot_after secrets s l.depth l.tag (kind l.code)) ls

abbrev pub spot_behind : (ℕ → Bool) → Spot → List Line → Spot
spot_behind secrets s [] = s
spot_behind secrets s (l ∷ ls) = spot_behind secrets (spot_after secrets s l.depth l.tag (kind l.code)) ls
