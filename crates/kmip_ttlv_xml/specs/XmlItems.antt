-- The item that an element of XML is (OASIS "KMIP Additional Message Encodings", XML), without the elements in it.
use Rattle.std.specs.Prelude.{ℕ, ◌-◌, ◌&&◌, ◌||◌, nat_lt, Bool, true, List, [], ◌∷◌, codes, if◌then◌else◌}
use Rattle.std.specs.Prelude.{Option, Some, None, option_map, option_and_then, Result, Ok, Err, map, length}
use Rattle.std.specs.Str.{bytes_eq}
use Rattle.std.specs.Int.{w32, w64, to_be_bytes}
use Rattle.kmip_ttlv_types.specs.declared.typ.TtlvType.{TtlvType}
use Rattle.kmip_ttlv_types.specs.declared.typ.TtlvType.TheVariants.{Structure, Integer, LongInteger, BigInteger}
use Rattle.kmip_ttlv_types.specs.declared.typ.TtlvType.TheVariants.{Enumeration, Boolean, TextString, ByteString}
use Rattle.kmip_ttlv_types.specs.declared.typ.TtlvType.TheVariants.{DateTime, Interval}
use Rattle.kmip_ttlv_types.specs.ItemTypes.{code}
use Rattle.kmip_ttlv_types.specs.Items.{Raw}
use Rattle.kmip_words.specs.Words.{number_of, tag_of_word, mask_of}
use Rattle.kmip_words.specs.Rows.{first_of}
use Rattle.kmip_words.specs.Dates.{date_of}
use Rattle.kmip_ttlv_write.specs.GivenItems.{Line, line}
use Rattle.kmip_ttlv_json.specs.declared.seen.Whole.{Whole}
use Rattle.kmip_ttlv_json.specs.JsonTrees.{behind_0x, bytes_of, type_named, tag_or_word, integer_of, interval_of, valid_in}
use Rattle.plain_xml.specs.Elements.{Pair, Flat}
use Rattle.kmip_ttlv_xml.specs.declared.failure.BadElement.{BadElement}
use Rattle.kmip_ttlv_xml.specs.declared.failure.BadElement.TheVariants.{Attributes, Tag, Typ, Value, Long}
use Rattle.kmip_ttlv_xml.specs.Decimals.{whole_of, long_of}

-- ---- the bytes that the text of a value stands for

-- an Integer: a whole number, or the words of a mask with spaces between them
abbrev pub integer_in : Option Whole → Option ℕ
integer_in whole = option_and_then (λ w. integer_of w.minus w.size) whole

abbrev pub integer_of_text : ℕ → List ℕ → Option ℕ
integer_of_text tag s = first_of (integer_in (whole_of s)) (mask_of tag 32 s)

-- a Long Integer, and an Interval: a whole number
abbrev pub long_in : Option Whole → Option ℕ
long_in whole = option_and_then (λ w. long_of w.minus w.size) whole

abbrev pub interval_in : Option Whole → Option ℕ
interval_in whole = option_and_then (λ w. interval_of w.minus w.size) whole

-- the number of a Boolean: true or false
abbrev pub truth_of : List ℕ → Option ℕ
truth_of s = if bytes_eq s (codes "true") then Some 1 else if bytes_eq s (codes "false") then Some 0 else None

-- by the type, of a text without 0x
abbrev pub plain_content : ℕ → TtlvType → List ℕ → Option (List ℕ)
plain_content tag Integer s = option_map (to_be_bytes w32) (integer_of_text tag s)
plain_content tag LongInteger s = option_map (to_be_bytes w64) (long_in (whole_of s))
plain_content tag BigInteger s = bytes_of s
plain_content tag Enumeration s = option_map (to_be_bytes w32) (number_of tag s)
plain_content tag Boolean s = option_map (to_be_bytes w64) (truth_of s)
plain_content tag DateTime s = option_map (to_be_bytes w64) (date_of s)
plain_content tag Interval s = option_map (to_be_bytes w32) (interval_in (whole_of s))
plain_content tag typ s = None

-- the digits behind 0x, or the text without
abbrev pub digits_or_plain : ℕ → TtlvType → List ℕ → Option (List ℕ) → Option (List ℕ)
digits_or_plain tag typ s (Some digits) = bytes_of digits
digits_or_plain tag typ s None = plain_content tag typ s

-- by the type, of any text
abbrev pub text_content : ℕ → TtlvType → List ℕ → Option (List ℕ)
text_content tag TextString s = Some s
text_content tag ByteString s = bytes_of s
text_content tag typ s = digits_or_plain tag typ s (behind_0x s)

-- ---- attributes

-- the value of the attribute of this name
abbrev pub attribute : List ℕ → List Pair → Option (List ℕ)
attribute name [] = None
attribute name (a ∷ others) = if bytes_eq a.0 name then Some a.1 else attribute name others

-- an attribute that an item may have: its own three, and two that say nothing of it
abbrev pub is_known : List ℕ → Bool
is_known name =
    bytes_eq name (codes "tag") || (bytes_eq name (codes "type") || (bytes_eq name (codes "value")
    || (bytes_eq name (codes "name") || bytes_eq name (codes "xmlns"))))

abbrev pub are_known : List Pair → Bool
are_known [] = true
are_known (a ∷ others) = is_known a.0 && are_known others

-- ---- items

-- an item without those in it: of a structure the content is empty
abbrev pub raw : ℕ → TtlvType → List ℕ → Raw
raw tag typ content = record { tag = tag; typ = typ; content = content }

-- a content's length has four bytes
abbrev pub short_in : Raw → List ℕ → Result Raw BadElement
short_in item content = if nat_lt 0xFFFF_FFFF (length content) then Err Long else Ok item

abbrev pub leaf_in : ℕ → TtlvType → Option (List ℕ) → Result Raw BadElement
leaf_in tag typ None = Err Value
leaf_in tag typ (Some content) = short_in (raw tag typ content) content

abbrev pub leaf_of : ℕ → TtlvType → Option (List ℕ) → Result Raw BadElement
leaf_of tag typ content = leaf_in tag typ (option_and_then (valid_in typ) content)

-- by the type and the value: a leaf has one, a Structure none
abbrev pub typed_item : ℕ → Option TtlvType → Option (List ℕ) → Result Raw BadElement
typed_item tag None value = Err Typ
typed_item tag (Some Structure) None = Ok (raw tag Structure [])
typed_item tag (Some Structure) (Some s) = Err Attributes
typed_item tag (Some typ) None = Err Attributes
typed_item tag (Some typ) (Some s) = leaf_of tag typ (text_content tag typ s)

-- the type: a Structure, where none is given
abbrev pub type_met : Option (List ℕ) → Option TtlvType
type_met None = Some Structure
type_met (Some s) = type_named s

-- the tag: of the element's name, or of the attribute of an element TTLV
abbrev pub tag_met : List ℕ → Option (List ℕ) → Option ℕ
tag_met name None = if bytes_eq name (codes "TTLV") then None else tag_of_word name
tag_met name (Some s) = if bytes_eq name (codes "TTLV") then tag_or_word s (behind_0x s) else None

abbrev pub tagged_item : Option ℕ → Option TtlvType → Option (List ℕ) → Result Raw BadElement
tagged_item None typ value = Err Tag
tagged_item (Some tag) typ value = typed_item tag typ value

-- the item of an element
unfoldable pub item_of : List ℕ → List Pair → Result Raw BadElement
item_of name attributes =
    if are_known attributes
    then tagged_item (tag_met name (attribute (codes "tag") attributes)) (type_met (attribute (codes "type") attributes))
    (attribute (codes "value") attributes)
    else Err Attributes

-- ---- all items of a text

-- the line of an item at a depth
abbrev pub line_at : ℕ → Result Raw BadElement → Result Line BadElement
line_at depth (Ok item) = Ok (line depth item.tag (code item.typ) item.content)
line_at depth (Err bad) = Err bad

abbrev pub line_in : Flat → Result Line BadElement
line_in e = line_at e.depth (item_of e.name e.attributes)

-- an element in one structure less
abbrev pub raised : Flat → Flat
raised e = record { depth = e.depth - 1; name = e.name; attributes = e.attributes }

-- the items of a text are in its root, if that is called KMIP; otherwise the root is one of them
abbrev pub is_wrapper : Flat → Bool
is_wrapper e = bytes_eq e.name (codes "KMIP")

unfoldable pub items_in : List Flat → List Flat
items_in [] = []
items_in (root ∷ es) = if is_wrapper root then map raised es else root ∷ es
