-- Lines of a server's log: what they say of messages.
use Rattle.std.specs.Prelude.{◌≡◌, ◌⊎◌, ◌++◌, ℕ, List, length, codes, true, Some}
use Rattle.std.specs.Fmt.{decimal}
use Rattle.kmip_ttlv_items.specs.declared.found.FaultKind.{FaultKind}
use Rattle.kmip_ttlv_items.specs.declared.found.FaultKind.TheVariants as faults
use Rattle.kmip_ttlv_items.specs.declared.found.Fault.{Fault}
use Rattle.kmip_ttlv_items.specs.ItemWalks.{Judges}
use Rattle.kmip_ttlv_util.specs.CheckedDiagnostics.{ShowsMessage}

-- what is wrong, in words
abbrev pub fault_words : FaultKind → List ℕ
fault_words faults.Cut = codes "cut"
fault_words faults.NoStructure = codes "no structure"
fault_words faults.UnknownType = codes "unknown type"
fault_words faults.PartialHeader = codes "partial header"
fault_words faults.WrongLength = codes "wrong length"
fault_words faults.Overlong = codes "overlong"
fault_words faults.InvalidValue = codes "invalid value"
fault_words faults.Surplus = codes "surplus"

-- what is said of bytes that aren't one whole message: what is wrong first, where, and how many bytes they are
abbrev pub fault_text : FaultKind → ℕ → ℕ → List ℕ
fault_text kind offset size = fault_words kind ++ (codes " at byte " ++ (decimal offset ++ (codes " of " ++ decimal size)))

-- what is said of bytes: the outline of the message that they are, or else a fault, where it is, and how many they are. Neither shows a
-- value but those of Enumerations
abbrev pub IsOutline : List ℕ → List ℕ → Type 0
IsOutline bytes text = ShowsMessage (codes "4200") true bytes text ⊎ ((fault : Fault) × Judges bytes (Some fault) × (text ≡ fault_text fault.kind fault.offset (length bytes)))

-- a line of the log: who sent the bytes, and what is said of them
pub record IsLine (who bytes line : List ℕ) : Type 0 where
  pub outline : List ℕ
  pub is_outline : IsOutline bytes outline
  pub is : line ≡ who ++ (outline ++ codes "\n")
