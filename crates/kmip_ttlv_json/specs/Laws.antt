-- Laws of the JSON of messages.
use Rattle.std.specs.Prelude.{◌≡◌, ◌≤◌, ℕ, Bool, false, List}
use Rattle.serde_json.specs.Data.{depth}
use Rattle.serde_json.specs.Read.{max_depth}
use Rattle.kmip_ttlv_items.specs.declared.found.FoundItem.{FoundItem}
use Rattle.kmip_ttlv_items.specs.FoundItems.{Lists}
use Rattle.kmip_ttlv_items.specs.ItemWalks.{AreBytes}
use Rattle.kmip_ttlv_json.specs.declared.print.Style.{Style}
use Rattle.kmip_ttlv_json.specs.declared.print.Shown.TheVariants.{All}
use Rattle.kmip_ttlv_json.specs.Spellings.{data_text}
use Rattle.kmip_ttlv_json.specs.Jsons.{tree_json, json_line}
use Rattle.kmip_ttlv_types.specs.Trees.{Tree, bytes, IsTreeText}
use Rattle.kmip_ttlv_json.specs.Readings.{Stands}

-- no tag is secret
abbrev pub no_secrets : ℕ → Bool
no_secrets tag = false

-- whole messages with the same line, whatever the style of each, in which nothing is hidden, have the same tags, types and contents
abbrev pub DeterminesAll : Type 0
DeterminesAll =
    (style other : Style) (a b : List ℕ) (xs ys : List FoundItem)
    → AreBytes a
    → AreBytes b
    → (h : Lists a xs)
    → (k : Lists b ys)
    → json_line style no_secrets All h.message ≡ json_line other no_secrets All k.message
    → h.message ≡ k.message

-- the line of a whole message in either style, without its line feed, is the JSON of that message
abbrev pub ComesBack : Type 0
ComesBack =
    (style : Style) (bytes : List ℕ) (xs : List FoundItem)
    → AreBytes bytes
    → (h : Lists bytes xs)
    → depth (tree_json style no_secrets All h.message) ≤ max_depth
    → Stands (data_text (tree_json style no_secrets All h.message)) h.message

-- what a text stands for is a whole message: its canonical bytes encode it
abbrev pub ReadsMessages : Type 0
ReadsMessages = (text : List ℕ) (t : Tree) → Stands text t → IsTreeText t (bytes t)
