-- Redacted lines are those of an outline.
use Rattle.std.proofs.Common.{◌≡◌, ◌∙◌, ◌==◌, ℕ, Bool, true, false, if◌then◌else◌, List, [], ◌∷◌, ◌++◌, drop, get_or, Option, None, ap, ap₂, refl, sym}
use Rattle.std.specs.Prelude.{codes}
use Rattle.kmip_ttlv_types.specs.declared.typ.TtlvType.{TtlvType}
use Rattle.kmip_ttlv_types.specs.declared.typ.TtlvType.TheVariants.{Structure, Enumeration}
use Rattle.kmip_ttlv_util.specs.Lines.{bounded_part, data_part}
use Rattle.kmip_ttlv_items.specs.{declared.found.FoundItem.FoundItem, ItemWalks.content_at}
use Rattle.ttlv_run.specs.declared.{attributes.Attribute.Attribute, job.Values.TheVariants.Hidden, lines.Reach.Reach}
use Rattle.ttlv_run.specs.Attributes.{attribute_name, attribute_after, still_inside, naming_tag}
use Rattle.ttlv_run.specs.Redactions.{redacted_look, seen_value, item_seen, outline}
use Rattle.ttlv_run.specs.Texts.{Names, paint, painted_value, value_text, tag_part, value_part, item_line, item_text, reach_after, lines_from}

module _ (names : Names) (width : Option ℕ) (colored : Bool) where
  -- a line, of what is seen and the content
  abbrev line : ℕ → ℕ → TtlvType → List ℕ → List ℕ
  line depth tag typ content = paint colored (27 ∷ codes "[36m") (bounded_part names.tags depth tag)
      ++ (data_part typ ++ (painted_value colored typ (value_text names Hidden width tag typ content) ++ 10 ∷ []))

  -- no attribute is named where values are hidden
  unnamed : (bytes : List ℕ) (i : FoundItem) → attribute_after names.named Hidden bytes None i ≡ None
  unnamed bytes i = by (i.tag == attribute_name)
    where
      by : (is_name : Bool) → (if is_name then None else still_inside i.depth None) ≡ None
      by true = refl
      by false = refl

  unnamed_after : (bytes : List ℕ) (r : Reach) (i : FoundItem) → r.attribute ≡ None
      → (reach_after names (redacted_look width colored) bytes r i).attribute ≡ None
  unnamed_after bytes r i none = ap (λ (a : Option Attribute). attribute_after names.named Hidden bytes a i) none ∙ unnamed bytes i

  line_is : (r : Reach) (at : ℕ) (bytes : List ℕ) (i : FoundItem) → r.attribute ≡ None → item_text names (redacted_look width colored) r at bytes i
      ≡ line i.depth i.tag i.typ (content_at bytes i.offset)
  unfolding item_text item_line tag_part value_part
  line_is r at bytes i none = ap (λ (a : Option Attribute). paint colored (27 ∷ codes "[36m") (bounded_part names.tags i.depth i.tag)
      ++ (data_part i.typ ++ (painted_value colored i.typ (value_text names Hidden width (naming_tag a i) i.typ (content_at bytes i.offset)) ++ 10 ∷ []))) none

  -- of the content only an enumeration's counts
  content_free : (depth tag : ℕ) (typ : TtlvType) (v w : List ℕ) → seen_value typ v ≡ seen_value typ w → line depth tag typ v ≡ line depth tag typ w
  unfolding value_text
  content_free depth tag Structure v w e = refl
  content_free depth tag Enumeration v w e = ap (line depth tag Enumeration) e
  content_free depth tag typ v w e = refl

  line_same : (d c t u : ℕ) (k l : TtlvType) (v w : List ℕ) → d ≡ c → t ≡ u → k ≡ l → seen_value k v ≡ seen_value l w → line d t k v ≡ line c u l w
  line_same d c t u k l v w p q o e =
      let value : seen_value l v ≡ seen_value l w = sym (ap (λ (x : TtlvType). seen_value x v) o) ∙ e in
      rw (p, q, o) (content_free c u l v w value)

  item_same : (r s : Reach) (at other : ℕ) (a b : List ℕ) (i j : FoundItem) → r.attribute ≡ None → s.attribute ≡ None → item_seen a i ≡ item_seen b j
      → item_text names (redacted_look width colored) r at a i ≡ item_text names (redacted_look width colored) s other b j
  item_same r s at other a b i j none nothing e =
      line_is r at a i none
      ∙ line_same i.depth j.depth i.tag j.tag i.typ j.typ (content_at a i.offset) (content_at b j.offset) (ap (λ x. x.depth) e) (ap (λ x. x.tag) e)
      (ap (λ x. x.typ) e) (ap (λ x. x.value) e)
      ∙ sym (line_is s other b j nothing)

  pub lines_same : (r s : Reach) (at other : ℕ) (a b : List ℕ) (xs ys : List FoundItem) → r.attribute ≡ None → s.attribute ≡ None
      → outline a xs ≡ outline b ys
      → lines_from names (redacted_look width colored) at a r xs ≡ lines_from names (redacted_look width colored) other b s ys
  lines_same r s at other a b [] [] none nothing e = refl
  lines_same r s at other a b [] (y ∷ ys) none nothing e = absurd (cc)
  lines_same r s at other a b (x ∷ xs) [] none nothing e = absurd (cc)
  lines_same r s at other a b (x ∷ xs) (y ∷ ys) none nothing e =
      let look = redacted_look width colored in
      let t = reach_after names look a r x in
      let u = reach_after names look b s y in
      let unnamed_t = unnamed_after a r x none in
      let unnamed_u = unnamed_after b s y nothing in
      ap₂ (λ (v w : List ℕ). v ++ w)
      (item_same t u at other a b x y unnamed_t unnamed_u (ap (λ l. get_or l 0 (item_seen a x)) e))
      (lines_same t u at other a b xs ys unnamed_t unnamed_u (ap (λ l. drop 1 l) e))
