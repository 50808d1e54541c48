-- The tree that JSON is, if it is the JSON of an item; otherwise what is wrong with the first item that isn't.
use Rattle.std.specs.Prelude.{ℕ, suc, ℤ, pos, negsuc, ◌-◌, ◌%◌, ◌^◌, ◌==◌, ◌&&◌, nat_lt, nat_le, Bool, true, false, List, ◌∷◌, codes, if◌then◌else◌, Option, Some, None, option_map, option_and_then, Result, Ok, Err}
use Rattle.std.specs.Option.{ok_or}
use Rattle.std.specs.Result.{result_ok}
use Rattle.std.specs.Str.{bytes_eq}
use Rattle.std.specs.Int.{w32, w64, from_be_bytes, to_be_bytes}
use Rattle.hex.specs.Hex.{decode_of, decode_sized}
use Rattle.serde_json.specs.Data.{Num, unsigned, negative, float, Data, array, object, Items, no_items, item, no_members, member}
use Rattle.serde_json.specs.Find.{as_str, as_bool, as_number}
use Rattle.kmip_ttlv_types.specs.declared.typ.TtlvType.{TtlvType}
use Rattle.kmip_ttlv_types.specs.declared.typ.TtlvType.TheVariants.{Structure, Integer, LongInteger, BigInteger}
use Rattle.kmip_ttlv_types.specs.declared.typ.TtlvType.TheVariants.{Enumeration, Boolean, TextString, ByteString}
use Rattle.kmip_ttlv_types.specs.declared.typ.TtlvType.TheVariants.{DateTime, Interval}
use Rattle.kmip_ttlv_types.specs.Leaves.{is_valid}
use Rattle.kmip_ttlv_types.specs.Trees.{Tree, Trees, leaf, node, no_trees, tree}
use Rattle.kmip_ttlv_json.specs.declared.failure.BadMember.{BadMember}
use Rattle.kmip_ttlv_json.specs.declared.failure.BadMember.TheVariants.{Members as BadMembers, Tag, Typ, Value}
use Rattle.kmip_words.specs.Words.{number_of, tag_of_word, mask_of}
use Rattle.kmip_words.specs.Dates.{date_of}
use Rattle.kmip_ttlv_json.specs.declared.seen.Whole.{Whole}
use Rattle.kmip_ttlv_json.specs.Jsons.{type_word}

-- what follows 0x
abbrev pub behind_0x : List ℕ → Option (List ℕ)
behind_0x (a ∷ b ∷ digits) = if a == 48 && b == 120 then Some digits else None
behind_0x _ = None

-- the bytes of hexadecimal digits of either case
abbrev pub bytes_of : List ℕ → Option (List ℕ)
bytes_of digits = result_ok (decode_of digits)

-- the type of a name
abbrev pub type_named : List ℕ → Option TtlvType
type_named s =
    if bytes_eq s (type_word Structure) then Some Structure else
    if bytes_eq s (type_word Integer) then Some Integer else
    if bytes_eq s (type_word LongInteger) then Some LongInteger else
    if bytes_eq s (type_word BigInteger) then Some BigInteger else
    if bytes_eq s (type_word Enumeration) then Some Enumeration else
    if bytes_eq s (type_word Boolean) then Some Boolean else
    if bytes_eq s (type_word TextString) then Some TextString else
    if bytes_eq s (type_word ByteString) then Some ByteString else
    if bytes_eq s (type_word DateTime) then Some DateTime else
    if bytes_eq s (type_word Interval) then Some Interval else None

-- the tag of six digits
abbrev pub tag_of_digits : List ℕ → Option ℕ
tag_of_digits digits = option_map (λ bytes. from_be_bytes w32 (0 ∷ bytes)) (result_ok (decode_sized digits 3))

-- the tag of a text, if there is one: 0x and six digits, or its word
abbrev pub tag_or_word : List ℕ → Option (List ℕ) → Option ℕ
tag_or_word s (Some digits) = tag_of_digits digits
tag_or_word s None = tag_of_word s

abbrev pub tag_of_text : Option (List ℕ) → Option ℕ
tag_of_text text = option_and_then (λ s. tag_or_word s (behind_0x s)) text

abbrev pub tag_in : Data → Option ℕ
tag_in d = tag_of_text (as_str d)

-- the type of a text, by its name
abbrev pub type_of_text : Option (List ℕ) → Option TtlvType
type_of_text text = option_and_then type_named text

abbrev pub type_in : Data → Option TtlvType
type_in d = type_of_text (as_str d)

-- ---- the bytes that a leaf's value stands for

-- a text: digits, a word, words of a mask, or a date
abbrev pub word_content : ℕ → TtlvType → List ℕ → Option (List ℕ)
word_content tag Integer s = option_map (to_be_bytes w32) (mask_of tag 124 s)
word_content tag Enumeration s = option_map (to_be_bytes w32) (number_of tag s)
word_content tag DateTime s = option_map (to_be_bytes w64) (date_of s)
word_content tag typ s = None

abbrev pub digits_or_word : ℕ → TtlvType → List ℕ → Option (List ℕ) → Option (List ℕ)
digits_or_word tag typ s (Some digits) = bytes_of digits
digits_or_word tag typ s None = word_content tag typ s

abbrev pub text_content : ℕ → TtlvType → List ℕ → Option (List ℕ)
text_content tag TextString s = Some s
text_content tag ByteString s = bytes_of s
text_content tag typ s = digits_or_word tag typ s (behind_0x s)

-- `true` or `false`
abbrev pub boolean_bytes : Bool → List ℕ
boolean_bytes b = to_be_bytes w64 (if b then 1 else 0)

abbrev pub truth_content : TtlvType → Bool → Option (List ℕ)
truth_content Boolean b = Some (boolean_bytes b)
truth_content typ b = None

-- a number without its sign
abbrev pub size_of : ℤ → ℕ
size_of (pos n) = n
size_of (negsuc n) = suc n

-- a whole number, by whether it is negative, and its size
abbrev pub whole_num : Num → Option Whole
whole_num (unsigned n) = Some (record { minus = false; size = n })
whole_num (negative z) = Some (record { minus = true; size = size_of z })
whole_num (float f) = None

-- the number that 32 bits are for an Integer, that 64 bits are for a number that JSON may have as one, and that of an Interval
abbrev pub integer_of : Bool → ℕ → Option ℕ
integer_of true n = if nat_lt 0 n && nat_le n (2 ^ 31) then Some (2 ^ 32 - n) else None
integer_of false n = if nat_lt n (2 ^ 31) then Some n else None

abbrev pub two_complement : Bool → ℕ → ℕ
two_complement true n = (2 ^ 64 - n) % 2 ^ 64
two_complement false n = n

abbrev pub long_of : Bool → ℕ → Option ℕ
long_of minus n = if nat_lt (2 ^ 52) n then None else Some (two_complement minus n)

abbrev pub interval_of : Bool → ℕ → Option ℕ
interval_of true n = None
interval_of false n = if nat_lt n (2 ^ 32) then Some n else None

abbrev pub number_content : TtlvType → Bool → ℕ → Option (List ℕ)
number_content Integer minus n = option_map (to_be_bytes w32) (integer_of minus n)
number_content LongInteger minus n = option_map (to_be_bytes w64) (long_of minus n)
number_content BigInteger minus n = option_map (to_be_bytes w64) (long_of minus n)
number_content Interval minus n = option_map (to_be_bytes w32) (interval_of minus n)
number_content typ minus n = None

-- a value, by what it is
abbrev pub content_of : ℕ → TtlvType → Option (List ℕ) → Option Bool → Option Whole → Option (List ℕ)
content_of tag typ (Some s) truth whole = text_content tag typ s
content_of tag typ None (Some b) whole = truth_content typ b
content_of tag typ None None whole = option_and_then (λ w. number_content typ w.minus w.size) whole

-- the whole number that JSON is
abbrev pub whole_of_data : Data → Option Whole
whole_of_data d = option_and_then whole_num (as_number d)

abbrev pub content_in : ℕ → TtlvType → Data → Option (List ℕ)
content_in tag typ value = content_of tag typ (as_str value) (as_bool value) (whole_of_data value)

-- they are valid for its type
abbrev pub valid_in : TtlvType → List ℕ → Option (List ℕ)
valid_in typ content = if is_valid typ content then Some content else None

-- a leaf
abbrev pub leaf_of : ℕ → TtlvType → Option (List ℕ) → Result Tree BadMember
leaf_of tag typ content = ok_or (option_map (leaf tag typ) (option_and_then (valid_in typ) content)) Value

abbrev pub leaf_in : ℕ → TtlvType → Data → Result Tree BadMember
leaf_in tag typ value = leaf_of tag typ (content_in tag typ value)

-- a structure of these trees
abbrev pub node_of : ℕ → Result Trees BadMember → Result Tree BadMember
node_of tag (Ok below) = Ok (node tag below)
node_of tag (Err bad) = Err bad

-- an item of this type: a leaf, or a structure of the trees in its value
abbrev pub typed_in : ℕ → Option TtlvType → Data → Result Trees BadMember → Result Tree BadMember
typed_in tag None value below = Err Typ
typed_in tag (Some Structure) value below = node_of tag below
typed_in tag (Some typ) value below = leaf_in tag typ value

-- an item with this tag
abbrev pub tagged_in : Option ℕ → Option TtlvType → Data → Result Trees BadMember → Result Tree BadMember
tagged_in None typ value below = Err Tag
tagged_in (Some tag) typ value below = typed_in tag typ value below

-- a tree before others
abbrev pub both : Result Tree BadMember → Result Trees BadMember → Result Trees BadMember
both (Ok t) (Ok ts) = Ok (tree t ts)
both (Ok t) (Err bad) = Err bad
both (Err bad) ts = Err bad

-- members have the names of an item's
abbrev pub are_named : List ℕ → List ℕ → List ℕ → Bool
are_named a b c = bytes_eq a (codes "tag") && bytes_eq b (codes "type") && bytes_eq c (codes "value")

-- members have those of a Structure without its type
abbrev pub are_two_named : List ℕ → List ℕ → Bool
are_two_named a c = bytes_eq a (codes "tag") && bytes_eq c (codes "value")

-- the tree that JSON is; the members of an object are in the order of their names, whatever their order in the text
abbrev mutual
  pub tree_of : Data → Result Tree BadMember
  tree_of (object (member a tag (member b typ (member c value no_members)))) =
      if are_named a b c then tagged_in (tag_in tag) (type_in typ) value (below_of value) else Err BadMembers
  tree_of (object (member a tag (member c value no_members))) =
      if are_two_named a c then tagged_in (tag_in tag) (Some Structure) value (below_of value) else Err BadMembers
  tree_of _ = Err BadMembers

  -- the trees in a structure's value
  pub below_of : Data → Result Trees BadMember
  below_of (array ds) = trees_of ds
  below_of _ = Err Value

  pub trees_of : Items → Result Trees BadMember
  trees_of no_items = Ok no_trees
  trees_of (item d ds) = both (tree_of d) (trees_of ds)
