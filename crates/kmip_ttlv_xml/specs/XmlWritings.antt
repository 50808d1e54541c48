-- What writing messages as XML comes to.
use Rattle.std.specs.Prelude.{◌≡◌, ℕ, ◌+◌, Bool, true, false, not, List, [], ◌∷◌, ◌++◌, position, Option, Some, None, option_map}
use Rattle.std.specs.List.{AllByRecursion}
use Rattle.std.specs.Str.{chars}
use Rattle.kmip_ttlv_types.specs.declared.typ.TtlvType.{TtlvType}
use Rattle.kmip_ttlv_types.specs.declared.typ.TtlvType.TheVariants.{TextString}
use Rattle.kmip_ttlv_types.specs.Trees.{bytes}
use Rattle.kmip_ttlv_items.specs.declared.found.FoundItem.{FoundItem}
use Rattle.kmip_ttlv_items.specs.FoundItems.{Lists}
use Rattle.kmip_ttlv_items.specs.ItemWalks.{Judges, content_at}
use Rattle.kmip_words.specs.Rows.{first_of}
use Rattle.kmip_ttlv_json.specs.Printings.{IsThere}
use Rattle.plain_xml.specs.Characters.{is_character}
use Rattle.plain_xml.specs.Places.{bytes_before}
use Rattle.kmip_ttlv_xml.specs.declared.failure.WriteError.{WriteError}
use Rattle.kmip_ttlv_xml.specs.declared.failure.WriteError.TheVariants.{Malformed, NotHeld, NotReadBack, OutOfMemory}
use Rattle.kmip_ttlv_xml.specs.XmlReadings.{IsReadAs}

-- the items of a whole message, each of which is there as a whole
pub record AreFound (message : List ℕ) (items : List FoundItem) : Type 0 where
  pub lists : Lists message items
  pub there : AllByRecursion (IsThere message) items

-- where in the value of an item its first character is that XML can't hold, if it is a Text String
abbrev pub unheld_in : TtlvType → List ℕ → Option ℕ
unheld_in TextString text = option_map (bytes_before (chars text)) (position (λ c. not (is_character c)) (chars text))
unheld_in typ content = None

-- where in a message that of an item is, and the first of some items
abbrev pub unheld_of : List ℕ → FoundItem → Option ℕ
unheld_of message i = option_map (λ n. i.offset + 8 + n) (unheld_in i.typ (content_at message i.offset))

abbrev pub first_unheld : List ℕ → List FoundItem → Option ℕ
first_unheld message [] = None
first_unheld message (i ∷ items) = first_of (unheld_of message i) (first_unheld message items)

-- in a whole message, this is the first character that XML can't hold, or there is none
pub record HasUnheld (message : List ℕ) (offset : Option ℕ) : Type 0 where
  pub items : List FoundItem
  pub lists : Lists message items
  pub first : first_unheld message items ≡ offset

-- these are the canonical bytes of a whole message
pub record AreCanonical (message out : List ℕ) : Type 0 where
  pub items : List FoundItem
  pub lists : Lists message items
  pub is : out ≡ bytes lists.message

-- a text that was tried is read as these bytes
abbrev pub ReadsBack : List ℕ → List ℕ → Bool → Type 0
ReadsBack text out true = IsReadAs text out
ReadsBack text out false = Unit {0}

-- of a whole message a text was added which is read as its canonical bytes
pub record IsWrittenTo (message old new : List ℕ) : Type 0 where
  pub items : List FoundItem
  pub lists : Lists message items
  pub text : List ℕ
  pub all : new ≡ old ++ text
  pub reads : IsReadAs text (bytes lists.message)

-- the canonical bytes of a whole message were added
pub record IsAdded (message old new : List ℕ) : Type 0 where
  pub out : List ℕ
  pub are : AreCanonical message out
  pub all : new ≡ old ++ out

-- why a message is not written
abbrev pub WhyNot : List ℕ → WriteError → Type 0
WhyNot message (Malformed fault) = Judges message (Some fault)
WhyNot message (NotHeld offset) = HasUnheld message (Some offset)
WhyNot message NotReadBack = HasUnheld message None
WhyNot message OutOfMemory = Unit {0}

-- why a message is not added to a document, which is read back later
abbrev pub WhyNotAdded : List ℕ → WriteError → Type 0
WhyNotAdded message NotReadBack = ⊥
WhyNotAdded message error = WhyNot message error

-- why a document is not given, whose messages were added
abbrev pub WhyNotGiven : WriteError → Type 0
WhyNotGiven NotReadBack = Unit {0}
WhyNotGiven OutOfMemory = Unit {0}
WhyNotGiven _ = ⊥
