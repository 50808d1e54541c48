-- From elements to messages.
use Rattle.std.proofs.Common.{◌≡◌, ℕ, ◌+◌, ◌-◌, ◌<◌, ◌≤◌, ◌^◌, true, false, Bool, cond, List, [], ◌∷◌, length, map, take, drop, Some, Result, Ok, Err}
use Rattle.std.proofs.Common.{refl, sym, ap, subst, ◌∙◌, inl, inr, arith}
use Rattle.std.specs.Prelude.{IfOk, IfErr}
use Rattle.std.specs.List.{AllByRecursion}
use Rattle.std.specs.Str.{chars}
use Rattle.std.proofs.lemmas.List.{length-map, length-drop, drop-map, take_all}
use Rattle.kmip_ttlv_types.specs.declared.typ.TtlvType.{TtlvType}
use Rattle.kmip_ttlv_types.specs.declared.typ.TtlvType.TheVariants.{Structure}
use Rattle.kmip_ttlv_types.specs.ItemTypes.{type_of}
use Rattle.kmip_ttlv_items.proofs.Spans.{code_is}
use Rattle.kmip_ttlv_write.specs.declared.given.GivenItem.{GivenItem}
use Rattle.kmip_ttlv_write.specs.declared.given.BadKind.{BadKind}
use Rattle.kmip_ttlv_write.specs.declared.given.BadKind.TheVariants.{NotInside, TooLong as ItemTooLong}
use Rattle.kmip_ttlv_write.specs.GivenItems.{Line, line_of, lines_below, IsInside, IsWritten}
use Rattle.kmip_ttlv_write.specs.FlatWrites.{HasNone}
use Rattle.plain_xml.specs.declared.element.Element.{Element}
use Rattle.plain_xml.specs.Elements.{Flat, element_view}
use Rattle.plain_xml.specs.Forms.{AreElementsOf}
use Rattle.plain_xml.specs.Places.{element_offset}
use Rattle.kmip_ttlv_xml.specs.declared.failure.BadElement.{BadElement}
use Rattle.kmip_ttlv_xml.specs.declared.failure.XmlError.{XmlError}
use Rattle.kmip_ttlv_xml.specs.declared.given.Refusal.{Refusal}
use Rattle.kmip_ttlv_xml.specs.declared.given.Refusal.TheVariants.{NoMemory, Wrong, InLeaf, TooLong}
use Rattle.kmip_ttlv_xml.specs.XmlItems.{line_in, is_wrapper, raised, items_in}
use Rattle.kmip_ttlv_xml.specs.XmlReadings.{right, AreXmlOf, IsReadAs, IsFirstWrong, CannotFollow, IsWrongAt, FailsToRead, IsNoMemory, around}
use Rattle.kmip_ttlv_xml.specs.GivenElements.{IsGood, moved_view, AreGiven, AreUngiven, AreUnwritten, IsRefused, IsOut, Places, refused_at}
use Rattle.kmip_ttlv_xml.proofs.Giving.{node_or_leaf}

-- ---- the elements that are items

not_moved : {Z : Type 0} (es : List (Element Z)) → map (moved_view 0) es ≡ map element_view es
not_moved [] = refl
not_moved (e ∷ es) =
    let n : e.depth - 0 ≡ e.depth = omega arith in
    ap (λ (d : ℕ). record { depth = d; name = (element_view e).name; attributes = (element_view e).attributes } ∷ map (moved_view 0) es) n
    ∙ ap (λ fs. element_view e ∷ fs) (not_moved es)

all_raised : {Z : Type 0} (es : List (Element Z)) → map raised (map element_view es) ≡ map (moved_view 1) es
all_raised [] = refl
all_raised (e ∷ es) = ap (λ fs. moved_view 1 e ∷ fs) (all_raised es)

-- by how many elements are in front
abbrev count_of : Bool → ℕ
count_of wrapper = cond wrapper 1 0

wrapped_by : {Z : Type 0} (wrapper : Bool) (root : Element Z) (es : List (Element Z))
    → cond wrapper (map raised (map element_view es)) (element_view root ∷ map element_view es)
    ≡ map (moved_view (count_of wrapper)) (drop (count_of wrapper) (root ∷ es))
wrapped_by true root es = all_raised es
wrapped_by false root es = sym (not_moved (root ∷ es))

pub wrapped : {Z : Type 0} (es : List (Element Z))
    → items_in (map element_view es) ≡ map (moved_view (around (map element_view es))) (drop (around (map element_view es)) es)
unfolding items_in
wrapped [] = refl
wrapped (root ∷ es) = wrapped_by (is_wrapper (element_view root)) root es

around_by : {Z : Type 0} (wrapper : Bool) (root : Element Z) (es : List (Element Z)) → count_of wrapper ≤ length (root ∷ es)
around_by true root es = omega arith
around_by false root es = omega arith

around_within : {Z : Type 0} (es : List (Element Z)) → around (map element_view es) ≤ length es
around_within [] = omega arith
around_within (root ∷ es) = around_by (is_wrapper (element_view root)) root es

-- the slice of them
pub wrapped_slice : {Z : Type 0} (es : List (Element Z)) (count : ℕ) → count ≡ around (map element_view es)
    → items_in (map element_view es) ≡ map (moved_view count) (take (length es - count) (drop count es))
wrapped_slice es count is =
    let all : take (length es - count) (drop count es) ≡ drop count es = take_all (length es - count) (drop count es) (omega (arith, length-drop count es)) in
    rw all (rw is (wrapped es))

-- how many elements there are
pub count_items : {Z : Type 0} (es : List (Element Z)) → length (items_in (map element_view es)) + around (map element_view es) ≡ length es
count_items es =
    let n = around (map element_view es) in
    omega (arith, ap length (wrapped es), length-map (drop n es) (moved_view n), length-drop n es, around_within es)

-- ---- lines

right_is : (a b : Line) → right a ≡ right b → a ≡ b
right_is a b e = cc

right_injective : (ls bs : List Line) → map right ls ≡ map right bs → ls ≡ bs
right_injective [] [] e = refl
right_injective [] (b ∷ bs) e = absurd cc
right_injective (a ∷ more) [] e = absurd cc
right_injective (a ∷ more) (b ∷ bs) e =
    let first : right a ≡ right b = cc in
    let rest : map right more ≡ map right bs = cc in
    ap (λ l. l ∷ more) (right_is a b first) ∙ ap (λ ls. b ∷ ls) (right_injective more bs rest)

-- a line is no error
right_not_wrong : (l : Line) (bad : BadElement) → right l ≡ Err bad → ⊥
right_not_wrong l bad e = cc

head_wrong : (l : Result Line BadElement) (more : List (Result Line BadElement)) (ls : List Line) (bad : BadElement) → l ∷ more ≡ map right ls → l ≡ Err bad → ⊥
head_wrong l more [] bad e wrong = cc
head_wrong l more (a ∷ ls) bad e wrong = let first : l ≡ right a = cc in right_not_wrong a bad (sym first ∙ wrong)

-- elements of which one is no item are none of messages
first_never : (fs : List Flat) (ls : List Line) (bad : BadElement) (index : ℕ) → IsFirstWrong fs bad index → map line_in fs ≡ map right ls → ⊥
first_never fs ls bad index h e =
    let front : map line_in (h.element ∷ h.rest) ≡ map right (drop index ls) =
    ap (map line_in) (sym h.there) ∙ sym (drop-map line_in index fs) ∙ ap (drop index) e ∙ drop-map right index ls in
    head_wrong (line_in h.element) (map line_in h.rest) (drop index ls) bad front h.wrong

-- ---- written items

inside_one : (lent : List ℕ) (x : GivenItem) → IsGood lent x → IsInside lent x
inside_one lent x g = elim (node_or_leaf g.typ) [
  | inl is ↦
      let e : type_of x.typ ≡ Some Structure = g.typed ∙ ap (λ (t : TtlvType). Some t) is in
      inl (sym (code_is x.typ Structure e))
  | inr ne ↦ inr (g.value ne).inside
]

inside_of : (lent : List ℕ) (xs : List GivenItem) → AllByRecursion (IsGood lent) xs → AllByRecursion (IsInside lent) xs
inside_of lent [] h = tt
inside_of lent (x ∷ xs) h = (inside_one lent x h.0, inside_of lent xs h.1)

module _ (es : List Flat) {fs : List Flat} (same : items_in es ≡ fs) {items : List GivenItem} {lent : List ℕ} (given : AreGiven fs items lent) where
  -- what is written of the items is that of the elements
  pub xml_of : (out : List ℕ) → IsWritten items lent out → AreXmlOf es out
  xml_of out w = record {
    trees = w.trees;
    are = ap (map line_in) same ∙ given.are ∙ ap (map right) w.are;
    texts = w.texts;
    canonical = w.canonical;
    total = w.total;
  }

  pub written_of : (out : List ℕ) → AreXmlOf es out → IsWritten items lent out
  written_of out h = record {
    trees = h.trees;
    are = right_injective _ _ (sym given.are ∙ ap (map line_in) (sym same) ∙ h.are);
    inside = inside_of lent items given.good;
    texts = h.texts;
    canonical = h.canonical;
    total = h.total;
  }

  follows_not : (kind : BadKind) (index : ℕ) → HasNone items lent (record { index = index; kind = kind }) → CannotFollow (items_in es) kind index
  follows_not kind index h = record { items = items; lent = lent; are = ap (map line_in) same ∙ given.are; first = h.first }

  pub unwritten_refused : (e : Refusal) → AreUnwritten items lent e → IsRefused (items_in es) e
  unwritten_refused NoMemory h = tt
  unwritten_refused (Wrong bad index) h = absurd h
  unwritten_refused (InLeaf index) h = follows_not NotInside index h
  unwritten_refused (TooLong index) h = follows_not ItemTooLong index h

module _ (es : List Flat) {fs : List Flat} (same : items_in es ≡ fs) where
  pub ungiven_refused : (e : Refusal) → AreUngiven fs e → IsRefused (items_in es) e
  ungiven_refused NoMemory h = tt
  ungiven_refused (Wrong bad index) h = subst (λ (l : List Flat). IsFirstWrong l bad index) (sym same) h
  ungiven_refused (InLeaf index) h = absurd h
  ungiven_refused (TooLong index) h = absurd h

  pub ungiven_only : (e : Refusal) (out : List ℕ) → AreUngiven fs e → AreXmlOf es out → IsOut e
  ungiven_only NoMemory out h x = tt
  ungiven_only (Wrong bad index) out h x = absurd (first_never fs (lines_below 0 x.trees) bad index h (ap (map line_in) (sym same) ∙ x.are))
  ungiven_only (InLeaf index) out h x = absurd h
  ungiven_only (TooLong index) out h x = absurd h

-- ---- where what is refused stands

drop_some : {X : Type 0} (n : ℕ) (xs : List X) (x : X) (rest : List X) → drop n xs ≡ x ∷ rest → n < length xs
drop_some n xs x rest e = omega (arith, ap length e, length-drop n xs)

item_count : (fs : List Flat) (kind : BadKind) (index : ℕ) → (h : CannotFollow fs kind index) → length h.items ≡ length fs
item_count fs kind index h =
    omega (arith, ap length h.are, length-map fs line_in, length-map (map (line_of h.lent) h.items) right, length-map h.items (line_of h.lent))

follows_below : (fs : List Flat) (kind : BadKind) (index : ℕ) → CannotFollow fs kind index → index < length fs
follows_below fs kind index h =
    omega (arith, drop_some index h.items h.first.item h.first.rest h.first.there, item_count fs kind index h)

pub refused_below : (fs : List Flat) (e : Refusal) (count all : ℕ) → IsRefused fs e → length fs + count ≤ all → all < 2 ^ 64 → refused_at e + count < 2 ^ 64
refused_below fs NoMemory count all h le lt = omega arith
refused_below fs (Wrong bad index) count all h le lt = omega (arith, drop_some index fs h.element h.rest h.there)
refused_below fs (InLeaf index) count all h le lt = omega (arith, follows_below fs NotInside index h)
refused_below fs (TooLong index) count all h le lt = omega (arith, follows_below fs ItemTooLong index h)

-- ---- the whole text

module _ (text : List ℕ) (es : List Flat) (found : AreElementsOf (chars text) es) where
  pub read_as : (out : List ℕ) → AreXmlOf es out → IsReadAs text out
  read_as out h = record { root = found.root; is = found.is; stands = subst (λ (l : List Flat). AreXmlOf l out) found.flat_is h }

  wrong_at : (wrong : List Flat → ℕ → Type 0) (index offset : ℕ) → wrong (items_in es) index
      → offset ≡ element_offset (index + around es) (chars text) → IsWrongAt wrong text offset
  wrong_at wrong index offset h place = record {
    root = found.root;
    is = found.is;
    index = index;
    why = subst (λ (l : List Flat). wrong (items_in l) index) found.flat_is h;
    place = place ∙ ap (λ (l : List Flat). element_offset (index + around l) (chars text)) found.flat_is;
  }

  pub fails : (e : Refusal) (error : XmlError) → IsRefused (items_in es) e → Places (chars text) (around es) e error → FailsToRead text error
  fails NoMemory error h is = subst (FailsToRead text) (sym is) tt
  fails (Wrong bad index) error h is =
      subst (FailsToRead text) (sym is) (wrong_at (λ fs k. IsFirstWrong fs bad k) index (element_offset (index + around es) (chars text)) h refl)
  fails (InLeaf index) error h is =
      subst (FailsToRead text) (sym is) (wrong_at (λ fs k. CannotFollow fs NotInside k) index (element_offset (index + around es) (chars text)) h refl)
  fails (TooLong index) error h is =
      subst (FailsToRead text) (sym is) (wrong_at (λ fs k. CannotFollow fs ItemTooLong k) index (element_offset (index + around es) (chars text)) h refl)

pub out_only : (text : List ℕ) (count : ℕ) (e : Refusal) (error : XmlError) → IsOut e → Places text count e error → IsNoMemory error
out_only text count NoMemory error h is = subst IsNoMemory (sym is) tt
out_only text count (Wrong bad index) error h is = absurd h
out_only text count (InLeaf index) error h is = absurd h
out_only text count (TooLong index) error h is = absurd h

-- what is known of a result, and follows from it
pub ok_then : {T E : Type 0} (r : Result T E) (P Q : T → Type 0) → ((x : T) → P x → Q x) → IfOk r P → IfOk r Q
ok_then (Ok x) P Q f h = f x h
ok_then (Err e) P Q f h = tt

pub err_then : {T E : Type 0} (r : Result T E) (P Q : E → Type 0) → ((x : E) → P x → Q x) → IfErr r P → IfErr r Q
err_then (Ok x) P Q f h = tt
err_then (Err e) P Q f h = f e h
