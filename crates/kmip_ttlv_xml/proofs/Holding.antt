-- Texts that XML may not hold.
use Rattle.std.proofs.Common.{◌≡◌, ℕ, ◌+◌, ◌≤◌, true, List, length, drop, Option, Some, None, ap, subst, arith}
use Rattle.std.specs.Prelude.{option_map}
use Rattle.std.specs.Str.{chars, IsUtf8}
use Rattle.std.proofs.lemmas.List.{length-take, length-drop}
use Rattle.std.proofs.lemmas.Str.{IsUtf8-from_is_utf8, encodes-chars}
use Rattle.kmip_ttlv_types.specs.declared.typ.TtlvType.{TtlvType}
use Rattle.kmip_ttlv_types.specs.declared.typ.TtlvType.TheVariants.{Structure, TextString}
use Rattle.kmip_ttlv_types.specs.Leaves.{is_valid}
use Rattle.kmip_ttlv_types.specs.Places.{length_at}
use Rattle.kmip_ttlv_items.specs.declared.found.FoundItem.{FoundItem}
use Rattle.kmip_ttlv_items.specs.ItemWalks.{content_at, own_size}
use Rattle.kmip_ttlv_json.specs.Printings.{IsThere}
use Rattle.plain_xml.specs.Places.{bytes_before}
use Rattle.plain_xml.proofs.Offsets.{length_encodes_take}

-- a valid Text String is UTF-8
pub text_utf8 : (typ : TtlvType) (s : List ℕ) → typ ≡ TextString → is_valid typ s ≡ true → IsUtf8 s
text_utf8 typ s is valid = IsUtf8-from_is_utf8 s (subst (λ (t : TtlvType). is_valid t s ≡ true) is valid)

-- what is in front of a character of a text is no longer than the text
pub before_short : (s : List ℕ) (o : Option ℕ) (n : ℕ) → IsUtf8 s → option_map (bytes_before (chars s)) o ≡ Some n → n ≤ length s
before_short s None n utf8 e = absurd cc
before_short s (Some at) n utf8 e =
    let is : bytes_before (chars s) at ≡ n = cc in
    omega (arith, is, length_encodes_take at (chars s), ap length (encodes-chars s utf8))

-- nor is it behind the end of the message
pub text_fits : (w : List ℕ) (i : FoundItem) (o : Option ℕ) (n : ℕ) → IsThere w i → i.typ ≡ TextString
    → option_map (bytes_before (chars (content_at w i.offset))) o ≡ Some n → i.offset + 8 + n ≤ length w
text_fits w i o n h is e =
    let valid : is_valid i.typ (content_at w i.offset) ≡ true = h.valid (λ (other : i.typ ≡ Structure). absurd cc) in
    let short = before_short (content_at w i.offset) o n (text_utf8 i.typ (content_at w i.offset) is valid) e in
    let there = subst (λ (t : TtlvType). i.offset + own_size t i.length ≤ length w) is h.there in
    omega (arith, there, short, length-take (length_at w i.offset) (drop (i.offset + 8) w), length-drop (i.offset + 8) w)
