-- What printing a message as JSON comes to.
use Rattle.std.specs.Prelude.{◌≡◌, ℕ, ◌+◌, Bool, true, false, List, [], Option, Some, None}
use Rattle.kmip_ttlv_util.specs.TagNames.{NameMap, name_in}
use Rattle.kmip_ttlv_items.specs.declared.found.FoundItem.{FoundItem}
use Rattle.kmip_ttlv_items.specs.declared.found.Fault.{Fault}
use Rattle.kmip_ttlv_items.specs.ItemWalks.{Ended, IsWhole}
use Rattle.kmip_ttlv_types.specs.Places.{size}
use Rattle.kmip_ttlv_json.specs.declared.print.Style.{Style}
use Rattle.kmip_ttlv_json.specs.declared.print.Style.TheVariants.{Digits, Names}
use Rattle.kmip_ttlv_json.specs.declared.print.Hiding.{Hiding}
use Rattle.kmip_ttlv_json.specs.declared.print.Hiding.TheVariants.{Secrets, Values}
use Rattle.kmip_ttlv_json.specs.declared.print.Shown.{Shown}
use Rattle.kmip_ttlv_json.specs.declared.print.Shown.TheVariants.{All, Enumerations}
use Rattle.kmip_ttlv_json.specs.Jsons.{json_line}

-- the style of items, with words at hand or not
abbrev pub style_of : {A : Type 0} → Option A → Style
style_of None = Digits
style_of (Some words) = Names

-- something is there
abbrev pub is_there : Option (List ℕ) → Bool
is_there None = false
is_there (Some name) = true

-- the tags that are secret, of those of a table
abbrev pub secrets_of : Hiding → (ℕ → Bool) → ℕ → Bool
secrets_of Secrets secrets tag = secrets tag
secrets_of hiding secrets tag = false

-- what is shown of leaves that are not secret
abbrev pub shown_of : Hiding → Shown
shown_of Values = Enumerations
shown_of hiding = All

-- a table has a line for the tag
abbrev pub has_line : NameMap → ℕ → Bool
has_line table tag = is_there (name_in table tag)

-- the line of a whole message; nothing of one with a fault
abbrev pub json_text : Style → (ℕ → Bool) → Shown → (bytes : List ℕ) → (found : List FoundItem) → (fault : Option Fault) → Ended bytes found fault → List ℕ
json_text style secrets shown bytes found None lists = json_line style secrets shown lists.message
json_text style secrets shown bytes found (Some fault) ended = []

-- this is the text of a message
pub record IsJson (style : Style) (secrets : ℕ → Bool) (shown : Shown) (bytes text : List ℕ) (fault : Option Fault) : Type 0 where
  pub found : List FoundItem
  pub ended : Ended bytes found fault
  pub is : text ≡ json_text style secrets shown bytes found fault ended

-- an item's own bytes are there, and a leaf has a value
abbrev pub IsThere : List ℕ → FoundItem → Type 0
IsThere bytes i = IsWhole bytes i.offset (i.offset + size i.typ i.length) i.depth i
