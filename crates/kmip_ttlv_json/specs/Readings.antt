-- What reading a message back from JSON comes to.
use Rattle.std.specs.Prelude.{◌≡◌, ℕ, ◌+◌, ◌-◌, Bool, true, false, ◌||◌, nat_lt, List, [], ◌∷◌, codes, Some, None, Result, Ok, Err}
use Rattle.serde_json.specs.Data.{Data}
use Rattle.serde_json.specs.Read.{read, max_depth}
use Rattle.json.specs.Lex.{tokens}
use Rattle.json.specs.Token.{Token, begin_object, end_object, begin_array, end_array}
use Rattle.kmip_ttlv_types.specs.Trees.{Tree, leaf, node, bytes, IsStructure, Fits}
use Rattle.kmip_ttlv_json.specs.declared.failure.BadMember.{BadMember}
use Rattle.kmip_ttlv_json.specs.declared.failure.BadMember.TheVariants.{Members, Tag, Typ, Value}
use Rattle.kmip_ttlv_json.specs.declared.failure.JsonError.{JsonError}
use Rattle.kmip_ttlv_json.specs.declared.failure.JsonError.TheVariants.{NotJson, TooDeep, NotItem, NotStructure, TooLong, OutOfMemory}
use Rattle.kmip_ttlv_json.specs.JsonTrees.{tree_of}
use Rattle.kmip_ttlv_json.specs.Places.{offset_of}
use Rattle.kmip_ttlv_json.specs.Spots.{Breaks, Blamed}

-- the text is JSON, which reads as this tree, or not
pub record ReadsAs (text : List ℕ) (result : Result Tree BadMember) : Type 0 where
  pub json : Data
  pub parsed : read text ≡ Some json
  pub is : tree_of json ≡ result

-- the text is the JSON of a message with this tree
pub record Stands (text : List ℕ) (t : Tree) : Type 0 where
  pub reads : ReadsAs text (Ok t)
  pub root : IsStructure t
  pub fits : Fits t

-- the text is the JSON of a message, and these are its canonical bytes
pub record IsReadAs (text out : List ℕ) : Type 0 where
  pub message : Tree
  pub stands : Stands text message
  pub canonical : out ≡ bytes message

-- how many brackets are open behind a token, where so many are in front of it
abbrev pub depth_behind : ℕ → Token → ℕ
depth_behind depth begin_object = depth + 1
depth_behind depth begin_array = depth + 1
depth_behind depth end_object = depth - 1
depth_behind depth end_array = depth - 1
depth_behind depth token = depth

-- more than 127 are open behind one of some tokens
abbrev pub is_deep : ℕ → List Token → Bool
is_deep depth [] = false
is_deep depth (t ∷ ts) = nat_lt max_depth (depth_behind depth t) || is_deep (depth_behind depth t) ts

-- why a text is not read as a message
abbrev pub FailsToRead : List ℕ → JsonError → Type 0
FailsToRead text (NotJson offset) = (read text ≡ None) × Breaks text offset
FailsToRead text (TooDeep offset) = (read text ≡ None) × (is_deep 0 (tokens text) ≡ true) × Breaks text offset
FailsToRead text (NotItem bad offset) = ReadsAs text (Err bad) × Blamed text offset
FailsToRead text (NotStructure offset) = ((t : Tree) × ReadsAs text (Ok t) × ¬ (IsStructure t)) × (offset ≡ offset_of 0 text)
FailsToRead text (TooLong offset) = ((t : Tree) × ReadsAs text (Ok t) × IsStructure t × ¬ (Fits t)) × (offset ≡ offset_of 0 text)
FailsToRead text OutOfMemory = Unit {0}

-- the words for it
abbrev pub error_words : JsonError → List ℕ
error_words (NotJson offset) = codes "not JSON"
error_words (TooDeep offset) = codes "nested more than 127 deep"
error_words (NotItem Members offset) = codes "an item without exactly tag, type and value"
error_words (NotItem Tag offset) = codes "a tag is not 0x and six hexadecimal digits"
error_words (NotItem Typ offset) = codes "the name of a type is unknown"
error_words (NotItem Value offset) = codes "a value is none of its type"
error_words (NotStructure offset) = codes "the root is no Structure"
error_words (TooLong offset) = codes "a length has more than four bytes"
error_words OutOfMemory = codes "out of memory"

-- where it is
abbrev pub error_offset : JsonError → ℕ
error_offset (NotJson offset) = offset
error_offset (TooDeep offset) = offset
error_offset (NotItem bad offset) = offset
error_offset (NotStructure offset) = offset
error_offset (TooLong offset) = offset
error_offset OutOfMemory = 0

-- the same in a text that has so many bytes more in front
abbrev pub moved : ℕ → JsonError → JsonError
moved count (NotJson offset) = NotJson (offset + count)
moved count (TooDeep offset) = TooDeep (offset + count)
moved count (NotItem bad offset) = NotItem bad (offset + count)
moved count (NotStructure offset) = NotStructure (offset + count)
moved count (TooLong offset) = TooLong (offset + count)
moved count OutOfMemory = OutOfMemory

-- a tree is a structure
abbrev pub is_node : Tree → Bool
is_node (leaf tag typ content) = false
is_node (node tag below) = true
