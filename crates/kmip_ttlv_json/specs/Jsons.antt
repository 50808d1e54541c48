-- A message as JSON (OASIS "KMIP Additional Message Encodings", JSON), in two styles: by digits, or with the standard's words.
use Rattle.std.specs.Prelude.{ℕ, Bool, true, false, List, [], ◌∷◌, ◌++◌, nat_lt, nat_le, ◌^◌, ℤ, pos, negsuc, unsigned_abs, codes, Option, Some, None}
use Rattle.std.specs.Prelude.{is_some, unwrap_or, if◌then◌else◌}
use Rattle.std.specs.Int.{w32, w64, from_be_bytes, bytes_high_first, cast_signed}
use Rattle.hex.specs.Hex.{encode_upper}
use Rattle.serde_json.specs.Data.{Num, unsigned, negative, Data, null, boolean, number, string, array, object, Items, no_items, item, Members, no_members}
use Rattle.serde_json.specs.Data.{member}
use Rattle.kmip_ttlv_types.specs.declared.typ.TtlvType.{TtlvType}
use Rattle.kmip_ttlv_types.specs.declared.typ.TtlvType.TheVariants.{Structure, Integer, LongInteger, BigInteger}
use Rattle.kmip_ttlv_types.specs.declared.typ.TtlvType.TheVariants.{Enumeration, Boolean, TextString, ByteString}
use Rattle.kmip_ttlv_types.specs.declared.typ.TtlvType.TheVariants.{DateTime, Interval}
use Rattle.kmip_words.specs.{Words.word_of, Words.tag_word, Dates.date_text}
use Rattle.kmip_ttlv_json.specs.declared.print.Style.{Style}
use Rattle.kmip_ttlv_json.specs.declared.print.Style.TheVariants.{Digits, Names}
use Rattle.kmip_ttlv_json.specs.declared.print.Shown.{Shown}
use Rattle.kmip_ttlv_json.specs.declared.print.Shown.TheVariants.{All, Enumerations, Nothing}
use Rattle.kmip_ttlv_types.specs.Trees.{Tree, Trees, leaf, node, no_trees, tree}
use Rattle.kmip_ttlv_json.specs.{Spellings.data_text, Masks.mask_text}

-- the name of a type
abbrev pub type_word : TtlvType → List ℕ
type_word Structure = codes "Structure"
type_word Integer = codes "Integer"
type_word LongInteger = codes "LongInteger"
type_word BigInteger = codes "BigInteger"
type_word Enumeration = codes "Enumeration"
type_word Boolean = codes "Boolean"
type_word TextString = codes "TextString"
type_word ByteString = codes "ByteString"
type_word DateTime = codes "DateTime"
type_word Interval = codes "Interval"

-- a number, by its bytes: `0x` and two digits for each
abbrev pub hex_text : List ℕ → List ℕ
hex_text bytes = 48 ∷ 120 ∷ encode_upper bytes

-- the value of a Boolean
abbrev pub is_true : List ℕ → Bool
is_true content = nat_lt 0 (from_be_bytes w64 content)

-- ---- words

-- the word of a tag, and words for a value: of an enumeration, of a mask, or the text of a date; where there are any
abbrev pub word_of_tag : Style → ℕ → Option (List ℕ)
word_of_tag Digits tag = None
word_of_tag Names tag = tag_word tag

abbrev pub value_words : ℕ → TtlvType → List ℕ → Option (List ℕ)
value_words tag Enumeration content = word_of tag (from_be_bytes w32 content)
value_words tag Integer content = mask_text tag 124 (from_be_bytes w32 content)
value_words tag DateTime content = date_text (from_be_bytes w64 content)
value_words tag typ content = None

abbrev pub words_for : Style → ℕ → TtlvType → List ℕ → Option (List ℕ)
words_for Digits tag typ content = None
words_for Names tag typ content = value_words tag typ content

-- ---- numbers

-- a number with its sign, and that if JSON may have it as a number: one of 2^52 at most
abbrev pub num_of : ℤ → Num
num_of (pos n) = unsigned n
num_of (negsuc n) = negative (negsuc n)

abbrev pub exact_num : ℤ → Option Num
exact_num z = if nat_le (unsigned_abs z) (2 ^ 52) then Some (num_of z) else None

-- a tag's numbers have words, as the bits of a mask have
abbrev pub has_words : ℕ → Bool
has_words tag = is_some (word_of tag 1)

-- the number of a value, if it is one; an Integer that is a mask is none
abbrev pub value_number : ℕ → TtlvType → List ℕ → Option Num
value_number tag Integer content = if has_words tag then None else exact_num (cast_signed w32 (from_be_bytes w32 content))
value_number tag LongInteger content = exact_num (cast_signed w64 (from_be_bytes w64 content))
value_number tag Interval content = exact_num (pos (from_be_bytes w32 content))
value_number tag typ content = None

abbrev pub number_for : Style → ℕ → TtlvType → List ℕ → Option Num
number_for Digits tag typ content = None
number_for Names tag typ content = value_number tag typ content

-- ---- items

-- a value by digits
abbrev pub plain_json : TtlvType → List ℕ → Data
plain_json Boolean content = boolean (is_true content)
plain_json TextString content = string content
plain_json ByteString content = string (encode_upper content)
plain_json typ content = string (hex_text content)

-- a value, by its words or as a number, if it is one
abbrev pub worded_json : Option (List ℕ) → Option Num → TtlvType → List ℕ → Data
worded_json (Some words) num typ content = string words
worded_json None (Some num) typ content = number num
worded_json None None typ content = plain_json typ content

-- the value of a leaf is hidden
abbrev pub is_hidden : Shown → TtlvType → Bool
is_hidden All typ = false
is_hidden Enumerations Enumeration = false
is_hidden Enumerations typ = true
is_hidden Nothing typ = true

-- the value of a leaf; null for one that is hidden
abbrev pub value_json : Style → Shown → ℕ → TtlvType → List ℕ → Data
value_json style shown tag typ content =
    if is_hidden shown typ then null else worded_json (words_for style tag typ content) (number_for style tag typ content) typ content

-- a tag: its word, if it has one, or its digits
abbrev pub tag_text : Style → ℕ → List ℕ
tag_text style tag = unwrap_or (word_of_tag style tag) (hex_text (bytes_high_first 3 tag))

-- an item: its tag, its type and its value; a Structure with names does without its type
abbrev pub typed_members : Style → TtlvType → Data → Members
typed_members Names Structure value = member (codes "value") value no_members
typed_members style typ value = member (codes "type") (string (type_word typ)) (member (codes "value") value no_members)

abbrev pub item_json : Style → ℕ → TtlvType → Data → Data
item_json style tag typ value = object (member (codes "tag") (string (tag_text style tag)) (typed_members style typ value))

-- what is shown of a leaf: nothing of one with a secret tag, or in an item with one
abbrev pub within : Shown → Bool → Shown
within shown false = shown
within shown true = Nothing

-- a tree, of whose values so much is shown; nothing of those of secret tags, and of what is in them
abbrev mutual
  pub tree_json : Style → (ℕ → Bool) → Shown → Tree → Data
  tree_json style secrets shown (leaf tag typ content) =
      item_json style tag typ (value_json style (within shown (secrets tag)) tag typ content)
  tree_json style secrets shown (node tag below) =
      item_json style tag Structure (array (trees_json style secrets (within shown (secrets tag)) below))

  pub trees_json : Style → (ℕ → Bool) → Shown → Trees → Items
  trees_json style secrets shown no_trees = no_items
  trees_json style secrets shown (tree t ts) = item (tree_json style secrets shown t) (trees_json style secrets shown ts)

-- the line of a message
abbrev pub json_line : Style → (ℕ → Bool) → Shown → Tree → List ℕ
json_line style secrets shown t = data_text (tree_json style secrets shown t) ++ 10 ∷ []
