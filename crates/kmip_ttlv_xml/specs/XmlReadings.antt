-- What reading messages back from XML comes to.
use Rattle.std.specs.Prelude.{◌≡◌, ℕ, ◌+◌, ◌<◌, ◌^◌, List, [], ◌∷◌, map, length, drop, take, codes, Result, Ok, Err, if◌then◌else◌}
use Rattle.std.specs.Str.{chars}
use Rattle.kmip_ttlv_types.specs.Trees.{Trees, AreTreeTexts, bytes_below}
use Rattle.kmip_ttlv_write.specs.declared.given.GivenItem.{GivenItem}
use Rattle.kmip_ttlv_write.specs.declared.given.BadKind.{BadKind}
use Rattle.kmip_ttlv_write.specs.declared.given.BadKind.TheVariants.{NotInside, TooLong as ItemTooLong}
use Rattle.kmip_ttlv_write.specs.GivenItems.{Line, lines_below, line_of}
use Rattle.kmip_ttlv_write.specs.FlatWrites.{IsFirstBad}
use Rattle.plain_xml.specs.declared.failure.Flaw.{Flaw}
use Rattle.plain_xml.specs.declared.failure.Flaw.TheVariants as flaw
use Rattle.plain_xml.specs.declared.failure.XmlError.TheVariants.{Malformed}
use Rattle.plain_xml.specs.Elements.{Flat, Tree as Element, flat}
use Rattle.plain_xml.specs.Forms.{IsXmlOf}
use Rattle.plain_xml.specs.Readings.{FailsFirst}
use Rattle.plain_xml.specs.Places.{element_offset}
use Rattle.kmip_ttlv_xml.specs.declared.failure.BadElement.{BadElement}
use Rattle.kmip_ttlv_xml.specs.declared.failure.BadElement.TheVariants.{Attributes, Tag, Typ, Value, Long}
use Rattle.kmip_ttlv_xml.specs.declared.failure.XmlError.{XmlError}
use Rattle.kmip_ttlv_xml.specs.declared.failure.XmlError.TheVariants.{NotXml, NotItem, InLeaf, TooLong, OutOfMemory}
use Rattle.kmip_ttlv_xml.specs.XmlItems.{line_in, items_in, is_wrapper}

-- elements that are lines
abbrev pub right : Line → Result Line BadElement
right l = Ok l

-- the items among some elements are, one by one, those of these trees
abbrev pub AreItemsOf : List Flat → Trees → Type 0
AreItemsOf es trees = map line_in (items_in es) ≡ map right (lines_below 0 trees)

-- the elements are those of some items, and these are their canonical bytes: values are valid for their types, and lengths have four bytes
pub record AreXmlOf (es : List Flat) (out : List ℕ) : Type 0 where
  pub trees : Trees
  pub are : AreItemsOf es trees
  pub texts : AreTreeTexts trees out
  pub canonical : out ≡ bytes_below trees
  pub total : length out < 2 ^ 64

-- the text is the XML of some items, and these are their canonical bytes
pub record IsReadAs (text out : List ℕ) : Type 0 where
  pub root : Element
  pub is : IsXmlOf (chars text) root
  pub stands : AreXmlOf (flat 0 root) out

-- the first of some elements that is no item, and what is wrong with it
pub record IsFirstWrong (es : List Flat) (bad : BadElement) (index : ℕ) : Type 0 where
  pub before : List Line
  pub are : map line_in (take index es) ≡ map right before
  pub element : Flat
  pub rest : List Flat
  pub there : drop index es ≡ element ∷ rest
  pub wrong : line_in element ≡ Err bad

-- all elements are items, and the first that can't follow those before it is this, by this kind
pub record CannotFollow (es : List Flat) (kind : BadKind) (index : ℕ) : Type 0 where
  pub items : List GivenItem
  pub lent : List ℕ
  pub are : map line_in es ≡ map right (map (line_of lent) items)
  pub first : IsFirstBad items lent (record { index = index; kind = kind })

-- how many elements are in front of the first item
abbrev pub around : List Flat → ℕ
around [] = 0
around (root ∷ es) = if is_wrapper root then 1 else 0

-- of a text's elements the one at this offset is wrong so
pub record IsWrongAt (wrong : List Flat → ℕ → Type 0) (text : List ℕ) (offset : ℕ) : Type 0 where
  pub root : Element
  pub is : IsXmlOf (chars text) root
  pub index : ℕ
  pub why : wrong (items_in (flat 0 root)) index
  pub place : offset ≡ element_offset (index + around (flat 0 root)) (chars text)

-- why a text is not read
abbrev pub FailsToRead : List ℕ → XmlError → Type 0
FailsToRead text (NotXml flaw offset) = FailsFirst (chars text) (Malformed flaw offset)
FailsToRead text (NotItem bad offset) = IsWrongAt (λ es index. IsFirstWrong es bad index) text offset
FailsToRead text (InLeaf offset) = IsWrongAt (λ es index. CannotFollow es NotInside index) text offset
FailsToRead text (TooLong offset) = IsWrongAt (λ es index. CannotFollow es ItemTooLong index) text offset
FailsToRead text OutOfMemory = Unit {0}

-- memory ran out
abbrev pub IsNoMemory : XmlError → Type 0
IsNoMemory OutOfMemory = Unit {0}
IsNoMemory _ = ⊥

-- what is wrong with a text that is no XML, in words
abbrev pub flaw_words : Flaw → List ℕ
flaw_words flaw.Character = codes "not XML: a character that XML can't hold"
flaw_words flaw.Unfinished = codes "not XML: the text ends too early"
flaw_words flaw.Text = codes "not XML here: text in an element"
flaw_words flaw.Declaration = codes "not XML here: a DOCTYPE or a CDATA section"
flaw_words flaw.Comment = codes "not XML: two hyphens in a comment"
flaw_words flaw.Tag = codes "not XML: a character that can't stand here in a tag"
flaw_words flaw.Value = codes "not XML: a character that can't stand in a value"
flaw_words flaw.Reference = codes "not XML here: & without one of the five entities or a character's number"
flaw_words flaw.Repeated = codes "not XML: an attribute is given twice"
flaw_words flaw.TooMany = codes "more attributes than an item can have"
flaw_words flaw.EndTag = codes "not XML: another element is open"
flaw_words flaw.SecondRoot = codes "not XML: a second root"

-- what is wrong, in words
abbrev pub error_words : XmlError → List ℕ
error_words (NotXml flaw offset) = flaw_words flaw
error_words (NotItem Attributes offset) = codes "the attributes are not those of an item"
error_words (NotItem Tag offset) = codes "the name is no tag's"
error_words (NotItem Typ offset) = codes "the name of a type is unknown"
error_words (NotItem Value offset) = codes "a value is none of its type"
error_words (NotItem Long offset) = codes "a length has more than four bytes"
error_words (InLeaf offset) = codes "an element in one that is no Structure"
error_words (TooLong offset) = codes "a length has more than four bytes"
error_words OutOfMemory = codes "out of memory"

-- where it is
abbrev pub error_offset : XmlError → ℕ
error_offset (NotXml flaw offset) = offset
error_offset (NotItem bad offset) = offset
error_offset (InLeaf offset) = offset
error_offset (TooLong offset) = offset
error_offset OutOfMemory = 0
