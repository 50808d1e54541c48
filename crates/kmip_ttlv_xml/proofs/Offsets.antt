-- Where a text is wrong is within it.
use Rattle.std.proofs.Common.{◌≡◌, ℕ, ◌-◌, ◌≤◌, List, length, ap, sym, ◌∙◌, arith, subst}
use Rattle.std.specs.Prelude.{encode_utf8_all, take}
use Rattle.std.specs.Str.{chars, IsUtf8}
use Rattle.std.proofs.lemmas.Str.{encodes-chars}
use Rattle.plain_xml.specs.Elements.{Flat}
use Rattle.plain_xml.specs.Places.{element_offset, from_element, or_nothing, bytes_before}
use Rattle.plain_xml.proofs.Offsets.{length_encodes_take}
use Rattle.kmip_ttlv_xml.specs.declared.failure.XmlError.{XmlError}
use Rattle.kmip_ttlv_xml.specs.declared.failure.XmlError.TheVariants.{NotXml, NotItem, InLeaf, TooLong, OutOfMemory}
use Rattle.kmip_ttlv_xml.specs.XmlReadings.{FailsToRead, IsWrongAt, error_offset, around}

front_within : (text : List ℕ) (n : ℕ) → IsUtf8 text → length (encode_utf8_all (take n (chars text))) ≤ length text
front_within text n utf8 = omega (arith, length_encodes_take n (chars text), ap length (encodes-chars text utf8))

element_within : (text : List ℕ) (n : ℕ) → IsUtf8 text → element_offset n (chars text) ≤ length text
unfolding element_offset
element_within text n utf8 = front_within text (length (chars text) - length (or_nothing (from_element n (chars text)))) utf8

wrong_within : (wrong : List Flat → ℕ → Type 0) (text : List ℕ) (offset : ℕ) → IsUtf8 text → IsWrongAt wrong text offset → offset ≤ length text
wrong_within wrong text offset utf8 h = subst (λ (k : ℕ). k ≤ length text) (sym h.place) (element_within text _ utf8)

pub error_within : (text : List ℕ) (e : XmlError) → IsUtf8 text → FailsToRead text e → error_offset e ≤ length text
error_within text (NotXml flaw offset) utf8 h = subst (λ (k : ℕ). k ≤ length text) (sym h.2.1) (front_within text _ utf8)
error_within text (NotItem bad offset) utf8 h = wrong_within _ text offset utf8 h
error_within text (InLeaf offset) utf8 h = wrong_within _ text offset utf8 h
error_within text (TooLong offset) utf8 h = wrong_within _ text offset utf8 h
error_within text OutOfMemory utf8 h = omega arith
