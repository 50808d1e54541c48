-- Items that are made of elements, one after the other.
use Rattle.std.proofs.Common.{◌≡◌, ◌≢◌, ◌⊎◌, ℕ, ◌+◌, ◌-◌, ◌<◌, ◌≤◌, List, [], ◌∷◌, ◌++◌, length, map, take, drop, get_or, Some, Ok, Err}
use Rattle.std.proofs.Common.{refl, sym, ap, subst, ◌∙◌, inl, inr, arith}
use Rattle.std.specs.List.{AllByRecursion}
use Rattle.std.proofs.Math.Seq.{drop-append_seam}
use Rattle.std.proofs.lemmas.List.{take_all, take-append-le, drop-append-le, length-append, length-drop, map_push, length-map, get_or-map, drop_more, take_more}
use Rattle.kmip_ttlv_types.specs.declared.typ.TtlvType.{TtlvType}
use Rattle.kmip_ttlv_types.specs.declared.typ.TtlvType.TheVariants.{Structure}
use Rattle.kmip_ttlv_types.specs.ItemTypes.{code, type_of}
use Rattle.kmip_ttlv_types.specs.Items.{Raw}
use Rattle.kmip_ttlv_types.specs.Leaves.{is_valid}
use Rattle.kmip_ttlv_types.proofs.PlaceLemmas.{type_of-code}
use Rattle.kmip_ttlv_write.specs.declared.given.GivenItem.{GivenItem}
use Rattle.kmip_ttlv_write.specs.GivenItems.{Line, line, line_of, given_content}
use Rattle.kmip_ttlv_write.proofs.Stands.{line_structure, line_leaf}
use Rattle.plain_xml.specs.Elements.{Flat}
use Rattle.kmip_ttlv_xml.specs.declared.failure.BadElement.{BadElement}
use Rattle.kmip_ttlv_xml.specs.XmlItems.{item_of, line_at, line_in}
use Rattle.kmip_ttlv_xml.specs.XmlReadings.{right, IsFirstWrong}
use Rattle.kmip_ttlv_xml.specs.GivenElements.{IsSound, IsGood, AreGiven, Adds}

-- a type is Structure, or it isn't
pub node_or_leaf : (t : TtlvType) → (t ≡ Structure) ⊎ (t ≢ Structure)
node_or_leaf Structure = inl refl
node_or_leaf _ = inr (λ e. cc)

-- ---- a value behind others

pub pushed_content : (lent content : List ℕ) → 8 ≤ length lent → take (length content) (drop (length lent - 8 + 8) (lent ++ content)) ≡ content
pushed_content lent content le =
    let n : length lent - 8 + 8 ≡ length lent = omega arith in
    rw n (ap (take (length content)) (drop-append_seam lent content) ∙ take_all (length content) content (omega arith))

-- an item whose value is behind so many bytes
abbrev pub given_at : ℕ → ℕ → Raw → GivenItem
given_at len depth item = record { offset = len - 8; depth = depth; tag = item.tag; typ = code item.typ; length = length item.content }

pub pushed_line : (lent : List ℕ) (depth : ℕ) (item : Raw) → 8 ≤ length lent → IsSound item
    → line_of (lent ++ item.content) (given_at (length lent) depth item) ≡ line depth item.tag (code item.typ) item.content
pushed_line lent depth item le sound = elim (node_or_leaf item.typ) [
  | inl is ↦
      let e : type_of (code item.typ) ≡ Some Structure = type_of-code item.typ ∙ ap (λ (t : TtlvType). Some t) is in
      line_structure (lent ++ item.content) (given_at (length lent) depth item) e
      ∙ ap (λ (t : TtlvType). line depth item.tag (code t) []) (sym is)
      ∙ ap (λ (c : List ℕ). line depth item.tag (code item.typ) c) (sym (sound.empty is))
  | inr ne ↦
      line_leaf (lent ++ item.content) (given_at (length lent) depth item) item.typ ne (type_of-code item.typ)
      ∙ ap (λ (c : List ℕ). line depth item.tag (code item.typ) c) (pushed_content lent item.content le)
]

pub pushed_good : (lent : List ℕ) (depth : ℕ) (item : Raw) → 8 ≤ length lent → IsSound item
    → IsGood (lent ++ item.content) (given_at (length lent) depth item)
pushed_good lent depth item le sound = record {
  tag = sound.tag;
  typ = item.typ;
  typed = type_of-code item.typ;
  value = λ ne. record {
    short = sound.short;
    inside = omega (arith, length-append lent item.content);
    valid = ap (is_valid item.typ) (pushed_content lent item.content le) ∙ sound.valid ne;
  };
}

-- ---- more bytes behind those that were lent

content_grows : (lent more : List ℕ) (i : GivenItem) → i.offset + 8 + i.length ≤ length lent → given_content (lent ++ more) i ≡ given_content lent i
content_grows lent more i le =
    ap (take i.length) (drop-append-le (i.offset + 8) lent more (omega arith))
    ∙ take-append-le i.length (drop (i.offset + 8) lent) more (omega (arith, length-drop (i.offset + 8) lent))

good_grows : (lent more : List ℕ) (i : GivenItem) → IsGood lent i → IsGood (lent ++ more) i
good_grows lent more i g = record {
  tag = g.tag;
  typ = g.typ;
  typed = g.typed;
  value = λ ne. record {
    short = (g.value ne).short;
    inside = let h = (g.value ne).inside in omega (arith, h, length-append lent more);
    valid = ap (is_valid g.typ) (content_grows lent more i (g.value ne).inside) ∙ (g.value ne).valid;
  };
}

line_grows : (lent more : List ℕ) (i : GivenItem) → IsGood lent i → line_of (lent ++ more) i ≡ line_of lent i
line_grows lent more i g = elim (node_or_leaf g.typ) [
  | inl is ↦
      let e : type_of i.typ ≡ Some Structure = g.typed ∙ ap (λ (t : TtlvType). Some t) is in
      line_structure (lent ++ more) i e ∙ sym (line_structure lent i e)
  | inr ne ↦
      line_leaf (lent ++ more) i g.typ ne g.typed
      ∙ ap (λ (c : List ℕ). line i.depth i.tag (code g.typ) c) (content_grows lent more i (g.value ne).inside)
      ∙ sym (line_leaf lent i g.typ ne g.typed)
]

all_grow : (lent more : List ℕ) (xs : List GivenItem) → AllByRecursion (IsGood lent) xs → AllByRecursion (IsGood (lent ++ more)) xs
all_grow lent more [] h = tt
all_grow lent more (x ∷ xs) h = (good_grows lent more x h.0, all_grow lent more xs h.1)

lines_grow : (lent more : List ℕ) (xs : List GivenItem) → AllByRecursion (IsGood lent) xs → map (line_of (lent ++ more)) xs ≡ map (line_of lent) xs
lines_grow lent more [] h = refl
lines_grow lent more (x ∷ xs) h =
    ap (λ (l : Line). l ∷ map (line_of (lent ++ more)) xs) (line_grows lent more x h.0)
    ∙ ap (λ (ls : List Line). line_of lent x ∷ ls) (lines_grow lent more xs h.1)

pub all_push : {X : Type 0} (P : X → Type 0) (xs : List X) (x : X) → AllByRecursion P xs → P x → AllByRecursion P (xs ++ x ∷ [])
all_push P [] x h g = (g, tt)
all_push P (y ∷ ys) x h g = (h.0, all_push P ys x h.1 g)

-- ---- one more element

module _ {es : List Flat} {items more_items : List GivenItem} {lent more_lent : List ℕ} (given : AreGiven es items lent) (f : Flat) (item : Raw)
    (is : item_of f.name f.attributes ≡ Ok item) (adds : Adds items more_items lent more_lent f.depth item) where
  last : line_in f ≡ right (line_of more_lent adds.one)
  last = ap (line_at f.depth) is ∙ ap right (sym adds.is)

  before : map (line_of more_lent) items ≡ map (line_of lent) items
  before = subst (λ (b : List ℕ). map (line_of b) items ≡ map (line_of lent) items) (sym adds.bytes) (lines_grow lent item.content items given.good)

  goods : AllByRecursion (IsGood more_lent) items
  goods = subst (λ (b : List ℕ). AllByRecursion (IsGood b) items) (sym adds.bytes) (all_grow lent item.content items given.good)

  made : map line_in (es ++ f ∷ []) ≡ map right (map (line_of more_lent) (items ++ adds.one ∷ []))
  made =
      map_push line_in es f
      ∙ ap (λ ls. ls ++ line_in f ∷ []) (given.are ∙ ap (map right) (sym before))
      ∙ ap (λ l. map right (map (line_of more_lent) items) ++ l ∷ []) last
      ∙ sym (map_push right (map (line_of more_lent) items) (line_of more_lent adds.one))
      ∙ ap (map right) (sym (map_push (line_of more_lent) items adds.one))

  pub given_more : AreGiven (es ++ f ∷ []) more_items more_lent
  given_more = record {
    are = made ∙ ap (λ (xs : List GivenItem). map right (map (line_of more_lent) xs)) (sym adds.all);
    good = subst (AllByRecursion (IsGood more_lent)) (sym adds.all) (all_push (IsGood more_lent) items adds.one goods adds.good);
    filled = omega (arith, given.filled, ap length adds.bytes, length-append lent item.content);
  }

-- an element of a list, as it is seen
module _ {T : Type 0} (view : T → Flat) (ts : List T) (k : ℕ) {t : T} (lt : k < length ts) (is : t ≡ get_or ts k t) where
  long : k < length (map view ts)
  long = omega (arith, length-map ts view)

  here : get_or (map view ts) k (view t) ≡ view t
  here = get_or-map view ts k t (view t) lt ∙ ap view (sym is)

  pub at_element : drop k (map view ts) ≡ view t ∷ drop (k + 1) (map view ts)
  at_element = drop_more (map view ts) k (view t) long ∙ ap (λ (y : Flat). y ∷ drop (k + 1) (map view ts)) here

  pub more_elements : take (k + 1) (map view ts) ≡ take k (map view ts) ++ view t ∷ []
  more_elements = take_more (map view ts) k (view t) long ∙ ap (λ (y : Flat). take k (map view ts) ++ y ∷ []) here

-- the first that is no item
pub first_wrong : (es : List Flat) (k index : ℕ) (items : List GivenItem) (lent : List ℕ) (f : Flat) (rest : List Flat) (bad : BadElement) → index ≡ k
    → AreGiven (take k es) items lent → drop k es ≡ f ∷ rest → item_of f.name f.attributes ≡ Err bad → IsFirstWrong es bad index
first_wrong es k index items lent f rest bad same given there wrong = record {
  before = map (line_of lent) items;
  are = ap (λ (n : ℕ). map line_in (take n es)) same ∙ given.are;
  element = f;
  rest = rest;
  there = ap (λ (n : ℕ). drop n es) same ∙ there;
  wrong = ap (line_at f.depth) wrong;
}

pub pushed : (old new : List GivenItem) (lent more_lent : List ℕ) (depth : ℕ) (item : Raw) (x : GivenItem) → 8 ≤ length lent → IsSound item
    → new ≡ old ++ x ∷ [] → more_lent ≡ lent ++ item.content → x ≡ given_at (length lent) depth item
    → Adds old new lent more_lent depth item
pushed old new lent more_lent depth item x le sound all bytes is = record {
  one = x;
  all = all;
  bytes = bytes;
  is = rw (is, bytes) (pushed_line lent depth item le sound);
  good = rw (is, bytes) (pushed_good lent depth item le sound);
}
