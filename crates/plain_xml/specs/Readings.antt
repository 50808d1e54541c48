-- Which error reading a text returns.
use Rattle.std.specs.Prelude.{◌≡◌, ℕ, ◌-◌, List, length, take, Err, encode_utf8_all}
use Rattle.plain_xml.specs.declared.failure.Fault.{Fault}
use Rattle.plain_xml.specs.declared.failure.Stop.{Stop}
use Rattle.plain_xml.specs.declared.failure.Stop.TheVariants.{NoMemory, At}
use Rattle.plain_xml.specs.declared.failure.XmlError.{XmlError}
use Rattle.plain_xml.specs.declared.failure.XmlError.TheVariants.{Malformed, OutOfMemory}
use Rattle.plain_xml.specs.Documents.{document}

-- memory ran out
abbrev pub IsNoMemory : XmlError → Type 0
IsNoMemory (Malformed flaw offset) = ⊥
IsNoMemory OutOfMemory = Unit {0}

-- a fault with the offset of its first character, in bytes
abbrev pub IsFirstFault : List ℕ → Fault → XmlError → Type 0
IsFirstFault text fault (Malformed flaw offset) =
    (flaw ≡ fault.flaw) × (offset ≡ length (encode_utf8_all (take (length text - fault.left) text)))
IsFirstFault text fault OutOfMemory = ⊥

-- what is returned where reading stops so
abbrev pub IsErrorOf : List ℕ → Stop → XmlError → Type 0
IsErrorOf text NoMemory error = error ≡ OutOfMemory
IsErrorOf text (At fault) error = IsFirstFault text fault error

-- it is the first fault of the text, or memory ran out
abbrev pub FailsFirst : List ℕ → XmlError → Type 0
FailsFirst text (Malformed flaw offset) = (fault : Fault) × (document text ≡ Err fault) × IsFirstFault text fault (Malformed flaw offset)
FailsFirst text OutOfMemory = Unit {0}
