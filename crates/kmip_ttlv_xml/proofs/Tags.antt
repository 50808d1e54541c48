-- The tag of an element has three bytes.
use Rattle.std.proofs.Common.{◌≡◌, ℕ, ◌<◌, ◌^◌, Bool, true, false, List, if◌then◌else◌, Option, Some, None}
use Rattle.std.specs.Prelude.{codes}
use Rattle.std.specs.Str.{bytes_eq}
use Rattle.kmip_words.specs.Words.{tag_of_word}
use Rattle.kmip_words.proofs.Back.{word_small}
use Rattle.kmip_ttlv_json.specs.JsonTrees.{behind_0x, tag_or_word}
use Rattle.kmip_ttlv_json.proofs.Sounding.{text_small}
use Rattle.kmip_ttlv_xml.specs.XmlItems.{tag_met}

named_small : (other : Bool) (name : List ℕ) (n : ℕ) → (if other then None else tag_of_word name) ≡ Some n → n < 2 ^ 24
named_small true name n h = absurd cc
named_small false name n h = word_small name n h

given_small : (same : Bool) (s : List ℕ) (n : ℕ) → (if same then tag_or_word s (behind_0x s) else None) ≡ Some n → n < 2 ^ 24
given_small true s n h = text_small s (behind_0x s) n h
given_small false s n h = absurd cc

pub met_small : (name : List ℕ) (attribute : Option (List ℕ)) (n : ℕ) → tag_met name attribute ≡ Some n → n < 2 ^ 24
met_small name None n h = named_small (bytes_eq name (codes "TTLV")) name n h
met_small name (Some s) n h = given_small (bytes_eq name (codes "TTLV")) s n h
