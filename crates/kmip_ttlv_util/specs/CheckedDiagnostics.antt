-- What a checked diagnostic shows: a whole message, or nothing.
use Rattle.std.specs.Prelude.{◌≡◌, ℕ, Bool, List, length, Some}
use Rattle.kmip_ttlv_types.specs.Trees.{Tree, IsTreeText, IsStructure}
use Rattle.kmip_ttlv_items.specs.ItemWalks.{Judges}
use Rattle.kmip_ttlv_util.specs.Outlines.{outline_of, shown}
use Rattle.kmip_ttlv_util.specs.Traces.{trace}
use Rattle.kmip_ttlv_util.specs.Diagnostics.{hostile}
use Rattle.kmip_ttlv_util.specs.PrintResults.{IsExact}
use Rattle.kmip_ttlv_util.specs.declared.checked.CheckedError.{CheckedError}
use Rattle.kmip_ttlv_util.specs.declared.checked.CheckedError.TheVariants.{Malformed, OutOfMemory}

-- bytes are one whole well-formed message, and this is its diagnostic, a text of its outline
pub record ShowsMessage (prefix : List ℕ) (closed : Bool) (bytes text : List ℕ) : Type 0 where
  pub message : Tree
  pub whole : IsTreeText message bytes
  pub root : IsStructure message
  pub is : text ≡ hostile prefix closed (length bytes) (trace closed bytes)
  pub exact : IsExact prefix closed bytes text
  pub outline : text ≡ shown prefix closed (outline_of message)

-- why nothing is shown: the bytes are not one whole message, and this is the first fault
abbrev pub ShowsNothing : List ℕ → CheckedError → Type 0
ShowsNothing bytes (Malformed fault) = Judges bytes (Some fault)
ShowsNothing bytes OutOfMemory = Unit {0}
