-- Messages in hexadecimal, each in a line of its own, and the document of XML that they are made into.
use Rattle.std.specs.Prelude.{◌≡◌, ◌⊎◌, ℕ, ◌+◌, Bool, true, false, List, [], length, drop, codes, Ok, Err, Some}
use Rattle.hex.specs.declared.error.FromHexError.{FromHexError}
use Rattle.hex.specs.Hex.{decode_of}
use Rattle.kmip_ttlv_items.specs.declared.found.Fault.{Fault}
use Rattle.kmip_ttlv_items.specs.ItemWalks.{Judges}
use Rattle.kmip_ttlv_xml.specs.XmlReadings.{IsReadAs}
use Rattle.kmip_ttlv_xml.specs.XmlWritings.{IsAdded, HasUnheld}
use Rattle.ttlv_run.specs.declared.document.Added.{Added}
use Rattle.ttlv_run.specs.declared.document.Added.TheVariants.{Message, Nothing, Unheld}
use Rattle.ttlv_run.specs.Backs.{IsOneLine, IsLineAt}

-- a line is the hexadecimal digits of a message
abbrev pub IsOf : List ℕ → List ℕ → Type 0
IsOf line message = decode_of line ≡ Ok message

-- it is those of a malformed one, or no digits
abbrev pub IsNone : List ℕ → Type 0
IsNone line =
    ((message : List ℕ) × IsOf line message × ((fault : Fault) × Judges message (Some fault)))
    ⊎ ((error : FromHexError) × (decode_of line ≡ Err error))

-- its message has a text with a character that XML can't hold
abbrev pub HasUnheldText : List ℕ → Type 0
HasUnheldText line = (message : List ℕ) × IsOf line message × ((offset : ℕ) × HasUnheld message (Some offset))

-- what a line added to a document, which is the canonical bytes of its messages
abbrev pub AddsLine : List ℕ → List ℕ → List ℕ → Added → Type 0
AddsLine line old new Message = (message : List ℕ) × IsOf line message × IsAdded message old new
AddsLine line old new Nothing = IsNone line × (new ≡ old)
AddsLine line old new Unheld = HasUnheldText line

-- up to a place lines are messages, and these are their canonical bytes, one after the other
pub data Collects (text : List ℕ) : ℕ → List ℕ → Type 0 where
  none_collected : Collects text 0 []
  one_more :
      (at next : ℕ) (old new line message : List ℕ)
      → Collects text at old
      → IsLineAt text at line
      → IsOf line message
      → IsAdded message old new
      → next ≡ at + length line + 1
      → Collects text next new

-- no line stands at a place, or one that is no message
abbrev pub Ends : List ℕ → ℕ → Type 0
Ends text at = IsOneLine (drop at text) ⊎ ((line : List ℕ) × IsLineAt text at line × IsNone line)

-- the canonical bytes of the messages up to the first line that is none; or a line before that has a text that XML can't hold
abbrev pub CollectsAll : List ℕ → List ℕ → Bool → Type 0
CollectsAll text out true = (at : ℕ) × Collects text at out × Ends text at
CollectsAll text out false =
    (at : ℕ) × (before : List ℕ) × Collects text at before × ((line : List ℕ) × IsLineAt text at line × HasUnheldText line)

-- a document is read as these messages
abbrev pub IsDocument : List ℕ → List ℕ → Type 0
IsDocument text made = (out : List ℕ) × CollectsAll text out true × IsReadAs made out

-- there is none, for this reason in words; no message is known of which the second is said
abbrev pub LacksDocument : List ℕ → List ℕ → Type 0
LacksDocument text words =
    ((out : List ℕ) × CollectsAll text out false × (words ≡ codes "a text has a character that XML can't hold"))
    ⊎ ((out : List ℕ) × CollectsAll text out true × (words ≡ codes "its XML is not read back as its messages"))
