-- The item of an element is right: a Structure without content, or a leaf with a valid one.
use Rattle.std.proofs.Common.{◌≡◌, ◌≢◌, ◌⊎◌, ℕ, ◌<◌, ◌^◌, Bool, true, false, cond, List, [], length, Option, Some, None, Result, Ok, Err}
use Rattle.std.proofs.Common.{refl, subst, inl, inr, arith}
use Rattle.std.specs.Prelude.{nat_lt, codes}
use Rattle.kmip_ttlv_types.specs.declared.typ.TtlvType.{TtlvType}
use Rattle.kmip_ttlv_types.specs.declared.typ.TtlvType.TheVariants.{Structure, Integer, LongInteger, BigInteger}
use Rattle.kmip_ttlv_types.specs.declared.typ.TtlvType.TheVariants.{Enumeration, Boolean, TextString, ByteString}
use Rattle.kmip_ttlv_types.specs.declared.typ.TtlvType.TheVariants.{DateTime, Interval}
use Rattle.kmip_ttlv_types.specs.Items.{Raw}
use Rattle.kmip_ttlv_types.specs.Leaves.{is_valid}
use Rattle.kmip_ttlv_json.specs.JsonTrees.{valid_in}
use Rattle.plain_xml.specs.Elements.{Pair}
use Rattle.kmip_ttlv_xml.specs.declared.failure.BadElement.{BadElement}
use Rattle.kmip_ttlv_xml.specs.declared.failure.BadElement.TheVariants.{Attributes}
use Rattle.kmip_ttlv_xml.specs.XmlItems.{raw, short_in, leaf_in, leaf_of, text_content, typed_item, tagged_item}
use Rattle.kmip_ttlv_xml.specs.XmlItems.{tag_met, type_met, attribute, are_known, item_of}
use Rattle.kmip_ttlv_xml.specs.GivenElements.{IsSound}
use Rattle.kmip_ttlv_xml.proofs.Tags.{met_small}

abbrev given : Raw → Result Raw BadElement
given item = Ok item

given_is : (x y : Raw) → given x ≡ given y → x ≡ y
given_is x y e = cc

cases : (b : Bool) → (b ≡ true) ⊎ (b ≡ false)
cases true = inl refl
cases false = inr refl

not_above : (n : ℕ) → nat_lt 0xFFFF_FFFF n ≡ false → n < 2 ^ 32
not_above n e = grind (arith, e)

leaf_sound : (tag : ℕ) (typ : TtlvType) (content : List ℕ) → tag < 2 ^ 24 → typ ≢ Structure → is_valid typ content ≡ true
    → nat_lt 0xFFFF_FFFF (length content) ≡ false → IsSound (raw tag typ content)
leaf_sound tag typ content small ne valid short =
    record { tag = small; short = not_above (length content) short; empty = λ e. absurd (ne e); valid = λ other. valid }

short_sound : (tag : ℕ) (typ : TtlvType) (content : List ℕ) (item : Raw) → tag < 2 ^ 24 → typ ≢ Structure → is_valid typ content ≡ true
    → short_in (raw tag typ content) content ≡ Ok item → IsSound item
short_sound tag typ content item small ne valid e = elim (cases (nat_lt 0xFFFF_FFFF (length content))) [
  | inl long ↦ absurd (cc (rw long at e))
  | inr short ↦ subst IsSound (given_is (raw tag typ content) item (rw short at e)) (leaf_sound tag typ content small ne valid short)
]

valid_sound : (tag : ℕ) (typ : TtlvType) (content : List ℕ) (item : Raw) → tag < 2 ^ 24 → typ ≢ Structure
    → leaf_in tag typ (valid_in typ content) ≡ Ok item → IsSound item
valid_sound tag typ content item small ne e = elim (cases (is_valid typ content)) [
  | inl valid ↦ short_sound tag typ content item small ne valid (rw valid at e)
  | inr other ↦ absurd (cc (rw other at e))
]

content_sound : (tag : ℕ) (typ : TtlvType) (content : Option (List ℕ)) (item : Raw) → tag < 2 ^ 24 → typ ≢ Structure
    → leaf_of tag typ content ≡ Ok item → IsSound item
content_sound tag typ None item small ne e = absurd cc
content_sound tag typ (Some content) item small ne e = valid_sound tag typ content item small ne e

typed_sound : (tag : ℕ) (typ : Option TtlvType) (value : Option (List ℕ)) (item : Raw) → tag < 2 ^ 24 → typed_item tag typ value ≡ Ok item → IsSound item
typed_sound tag None value item small e = absurd cc
typed_sound tag (Some Structure) None item small e =
    subst IsSound (given_is (raw tag Structure []) item e)
    (record { tag = small; short = omega arith; empty = λ same. refl; valid = λ other. absurd (other refl) })
typed_sound tag (Some Structure) (Some s) item small e = absurd cc
typed_sound tag (Some Integer) None item small e = absurd cc
typed_sound tag (Some LongInteger) None item small e = absurd cc
typed_sound tag (Some BigInteger) None item small e = absurd cc
typed_sound tag (Some Enumeration) None item small e = absurd cc
typed_sound tag (Some Boolean) None item small e = absurd cc
typed_sound tag (Some TextString) None item small e = absurd cc
typed_sound tag (Some ByteString) None item small e = absurd cc
typed_sound tag (Some DateTime) None item small e = absurd cc
typed_sound tag (Some Interval) None item small e = absurd cc
typed_sound tag (Some Integer) (Some s) item small e = content_sound tag Integer (text_content tag Integer s) item small (λ is. cc) e
typed_sound tag (Some LongInteger) (Some s) item small e = content_sound tag LongInteger (text_content tag LongInteger s) item small (λ is. cc) e
typed_sound tag (Some BigInteger) (Some s) item small e = content_sound tag BigInteger (text_content tag BigInteger s) item small (λ is. cc) e
typed_sound tag (Some Enumeration) (Some s) item small e = content_sound tag Enumeration (text_content tag Enumeration s) item small (λ is. cc) e
typed_sound tag (Some Boolean) (Some s) item small e = content_sound tag Boolean (text_content tag Boolean s) item small (λ is. cc) e
typed_sound tag (Some TextString) (Some s) item small e = content_sound tag TextString (text_content tag TextString s) item small (λ is. cc) e
typed_sound tag (Some ByteString) (Some s) item small e = content_sound tag ByteString (text_content tag ByteString s) item small (λ is. cc) e
typed_sound tag (Some DateTime) (Some s) item small e = content_sound tag DateTime (text_content tag DateTime s) item small (λ is. cc) e
typed_sound tag (Some Interval) (Some s) item small e = content_sound tag Interval (text_content tag Interval s) item small (λ is. cc) e

tagged_sound : (tag : Option ℕ) (typ : Option TtlvType) (value : Option (List ℕ)) (item : Raw) → ((n : ℕ) → tag ≡ Some n → n < 2 ^ 24)
    → tagged_item tag typ value ≡ Ok item → IsSound item
tagged_sound None typ value item small e = absurd cc
tagged_sound (Some tag) typ value item small e = typed_sound tag typ value item (small tag refl) e

known_sound : (known : Bool) (r : Result Raw BadElement) (item : Raw) → cond known r (Err Attributes) ≡ Ok item → r ≡ Ok item
known_sound true r item e = e
known_sound false r item e = absurd cc

pub item_sound : (name : List ℕ) (attributes : List Pair) (item : Raw) → item_of name attributes ≡ Ok item → IsSound item
unfolding item_of
item_sound name attributes item e =
    let tag = tag_met name (attribute (codes "tag") attributes) in
    let small = met_small name (attribute (codes "tag") attributes) in
    let typ = type_met (attribute (codes "type") attributes) in
    let value = attribute (codes "value") attributes in
    tagged_sound tag typ value item small (known_sound (are_known attributes) (tagged_item tag typ value) item e)
