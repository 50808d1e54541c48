-- A text that was read back.
use Rattle.std.proofs.Common.{◌≡◌, Bool, true, false, not, List, ℕ, refl}
use Rattle.kmip_ttlv_xml.specs.XmlReadings.{IsReadAs}
use Rattle.kmip_ttlv_xml.specs.XmlWritings.{ReadsBack}

pub reads_true : (text out : List ℕ) (b : Bool) → ReadsBack text out b → b ≡ true → IsReadAs text out
reads_true text out true h e = h
reads_true text out false h e = absurd cc

pub yes_of : (b : Bool) → not b ≡ false → b ≡ true
yes_of true e = refl
yes_of false e = absurd cc
