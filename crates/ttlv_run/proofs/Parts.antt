-- The value of an item in its line.
use Rattle.std.proofs.Common.{◌≡◌, ◌≢◌, ℕ, ◌+◌, ◌-◌, Bool, List, [], ◌∷◌, ◌++◌, Option, take, drop, ap, sym, refl, ◌∙◌, arith}
use Rattle.std.specs.Prelude.{codes}
use Rattle.kmip_ttlv_types.specs.{declared.typ.TtlvType.TtlvType, declared.typ.TtlvType.TheVariants.Structure, Places.length_at}
use Rattle.kmip_ttlv_util.specs.Pretty.{value_shown}
use Rattle.kmip_ttlv_items.specs.{declared.found.FoundItem.FoundItem, ItemWalks.content_at}
use Rattle.ttlv_run.specs.declared.{job.Look.Look, job.Values.Values, lines.Reach.Reach}
use Rattle.ttlv_run.specs.Attributes.{naming_tag}
use Rattle.ttlv_run.specs.Texts.{Names, value_text, paint, painted_value, values_shown, value_part, bare_text, bare_line, content_bytes, own_bytes}
use Rattle.kmip_ttlv_types.specs.declared.typ.TtlvType.TheVariants.{Integer, LongInteger, BigInteger, Enumeration, Boolean, TextString, ByteString}
use Rattle.kmip_ttlv_types.specs.declared.typ.TtlvType.TheVariants.{DateTime, Interval}

painted_leaf : (colored : Bool) (t : TtlvType) (text : List ℕ) → t ≢ Structure → paint colored (27 ∷ codes "[32m") text ≡ painted_value colored t text
painted_leaf colored Structure text ne = absurd (ne refl)
painted_leaf colored t text ne = refl

-- the content of an item, as the code takes it out of the bytes
pub content_is : (bytes : List ℕ) (i : FoundItem) → i.length ≡ length_at bytes i.offset
    → take (i.offset + 8 + i.length - (i.offset + 8)) (drop (i.offset + 8) bytes) ≡ content_at bytes i.offset
content_is bytes i len =
    let n : i.offset + 8 + i.length - (i.offset + 8) ≡ length_at bytes i.offset = omega (arith, len) in
    ap (λ (m : ℕ). take m (drop (i.offset + 8) bytes)) n

module _ (names : Names) (look : Look) (r : Reach) (bytes : List ℕ) (i : FoundItem) where
  -- of a content
  abbrev said : TtlvType → List ℕ → List ℕ
  said typ content = value_text names (values_shown look r.secret i) look.width (naming_tag r.attribute i) typ content

  -- a structure has none
  pub value_structure : i.typ ≡ Structure → [] ≡ value_part names look r bytes i
  unfolding value_part
  value_structure is = sym (ap (λ (t : TtlvType). painted_value look.colored t (said t (content_at bytes i.offset))) is)

  -- that of a leaf, as the code takes it out of the bytes, and says what is said of it
  pub value_leaf : (values : Values) (tag : ℕ) → values ≡ values_shown look r.secret i → tag ≡ naming_tag r.attribute i
      → i.typ ≢ Structure → i.length ≡ length_at bytes i.offset
      → paint look.colored (27 ∷ codes "[32m")
      (value_text names values look.width tag i.typ (take (i.offset + 8 + i.length - (i.offset + 8)) (drop (i.offset + 8) bytes)))
      ≡ value_part names look r bytes i
  unfolding value_part
  value_leaf values tag v t leaf len =
      rw (v, t, content_is bytes i len) (painted_leaf look.colored i.typ (said i.typ (content_at bytes i.offset)) leaf)

-- ---- values alone

-- a structure's is the same whatever is taken for its content
bare_same : (names : Names) (values : Values) (width : Option ℕ) (tag : ℕ) (typ : TtlvType) (a b : List ℕ) → (typ ≢ Structure → a ≡ b)
    → bare_text names values width tag typ a ≡ bare_text names values width tag typ b
unfolding bare_text
bare_same names values width tag Structure a b h = refl
bare_same names values width tag Integer a b h = ap (bare_text names values width tag Integer) (h (λ is. absurd (cc)))
bare_same names values width tag LongInteger a b h = ap (bare_text names values width tag LongInteger) (h (λ is. absurd (cc)))
bare_same names values width tag BigInteger a b h = ap (bare_text names values width tag BigInteger) (h (λ is. absurd (cc)))
bare_same names values width tag Enumeration a b h = ap (bare_text names values width tag Enumeration) (h (λ is. absurd (cc)))
bare_same names values width tag Boolean a b h = ap (bare_text names values width tag Boolean) (h (λ is. absurd (cc)))
bare_same names values width tag TextString a b h = ap (bare_text names values width tag TextString) (h (λ is. absurd (cc)))
bare_same names values width tag ByteString a b h = ap (bare_text names values width tag ByteString) (h (λ is. absurd (cc)))
bare_same names values width tag DateTime a b h = ap (bare_text names values width tag DateTime) (h (λ is. absurd (cc)))
bare_same names values width tag Interval a b h = ap (bare_text names values width tag Interval) (h (λ is. absurd (cc)))

-- the line of a value alone, by its parts as the code has them
pub bare_line_is : (names : Names) (look : Look) (r : Reach) (bytes : List ℕ) (i : FoundItem) (values : Values) (tag : ℕ) (content : List ℕ)
    → values ≡ values_shown look r.secret i → tag ≡ naming_tag r.attribute i → (i.typ ≢ Structure → content ≡ content_at bytes i.offset)
    → bare_text names values look.width tag i.typ content ++ 10 ∷ [] ≡ bare_line names look r bytes i
unfolding bare_line
bare_line_is names look r bytes i values tag content v t is = rw (v, t) (ap (λ (s : List ℕ). s ++ 10 ∷ [])
    (bare_same names (values_shown look r.secret i) look.width (naming_tag r.attribute i) i.typ content (content_at bytes i.offset) is))

-- ---- bytes

-- a structure's are the same whatever is taken for its content
content_same : (width : Option ℕ) (typ : TtlvType) (a b : List ℕ) → (typ ≢ Structure → a ≡ b) → content_bytes width typ a ≡ content_bytes width typ b
content_same width Structure a b h = refl
content_same width Integer a b h = ap (content_bytes width Integer) (h (λ is. absurd (cc)))
content_same width LongInteger a b h = ap (content_bytes width LongInteger) (h (λ is. absurd (cc)))
content_same width BigInteger a b h = ap (content_bytes width BigInteger) (h (λ is. absurd (cc)))
content_same width Enumeration a b h = ap (content_bytes width Enumeration) (h (λ is. absurd (cc)))
content_same width Boolean a b h = ap (content_bytes width Boolean) (h (λ is. absurd (cc)))
content_same width TextString a b h = ap (content_bytes width TextString) (h (λ is. absurd (cc)))
content_same width ByteString a b h = ap (content_bytes width ByteString) (h (λ is. absurd (cc)))
content_same width DateTime a b h = ap (content_bytes width DateTime) (h (λ is. absurd (cc)))
content_same width Interval a b h = ap (content_bytes width Interval) (h (λ is. absurd (cc)))

-- the bytes of an item, by its parts as the code has them
pub own_bytes_are : (width : Option ℕ) (bytes : List ℕ) (i : FoundItem) (header content : List ℕ)
    → header ≡ take 8 (drop i.offset bytes) → (i.typ ≢ Structure → content ≡ content_at bytes i.offset)
    → value_shown ByteString header ++ (content_bytes width i.typ content ++ codes "\t") ≡ own_bytes width bytes i
unfolding own_bytes
own_bytes_are width bytes i header content is own =
    ap (λ (s : List ℕ). value_shown ByteString s ++ (content_bytes width i.typ content ++ codes "\t")) is
    ∙ ap (λ (s : List ℕ). value_shown ByteString (take 8 (drop i.offset bytes)) ++ (s ++ codes "\t"))
    (content_same width i.typ content (content_at bytes i.offset) own)
