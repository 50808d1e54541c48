-- What a form reads from items by its rules, reading gives from the bytes where they stand; and it is of the form.
use Rattle.std.proofs.Common.{◌≡◌, ◌==◌, ◌&&◌, ℕ, zero, suc, ◌+◌, ◌<◌, ◌≤◌, List, [], ◌∷◌, ◌++◌, Bool, true, false, length, nat_lt, refl, ap, sym, ◌∙◌, arith}
use Rattle.std.proofs.Common.{not, ◌||◌, if◌then◌else◌, drop, Some, None, subst, cond, inl, inr}
use Rattle.std.specs.Str.{bytes_eq}
use Rattle.std.proofs.lemmas.Bool.{le-ltb, eq-eqb, eqb-true, ne_eqb, lt-ltb, and_parts, not-true}
use Rattle.std.proofs.lemmas.{List.take-append-drop, Slice.Eq.bytes_eq-Decides}
use Rattle.kmip_ttlv_types.specs.{declared.typ.TtlvType.TtlvType, Items.Raw, Items.Splits, ItemTypes.fixed_length}
use Rattle.kmip_ttlv_types.specs.declared.typ.TtlvType.TheVariants.{BigInteger, Boolean, DateTime, Enumeration, Integer, Interval, LongInteger, Structure}
use Rattle.kmip_ttlv_types.specs.declared.typ.TtlvType.TheVariants.{TextString}
use Rattle.kmip_ttlv_types.specs.{Digits.tag_text, ItemTypes.is_structure, Leaves.is_valid, Names.tag_of}
use Rattle.kmip_ttlv_types.specs.Places.{ItemAt, ItemsAt, tag_at, length_at, size}
use Rattle.kmip_ttlv_types.proofs.PlaceLemmas.{type_of-code, items_at_splits, item_at_text, items_in_order}
use Rattle.kmip_ttlv_base.specs.Forms.{Form, Fields, Variants, Content, Forms, option, int32, no_variants, variant, unit}
use Rattle.kmip_ttlv_base.specs.Gives.{AreItems, ContentGives, EachGives, FieldsGive, FormsGive, Gives, IsAnItem, IsLeaf, VariantsGive}
use Rattle.kmip_ttlv_base.specs.Values.{Value, Values, none_value, unit_variant_value, some_value, newtype_value, newtype_variant_value, struct_value}
use Rattle.kmip_ttlv_reader.specs.TagValues.{TagValue}
use Rattle.kmip_ttlv_reader.specs.Reads.{is_option, is_struct, has_tag, is_like, names_tag, has_fields, may_ignore, may_follow, takes, decoded_leaf}
use Rattle.kmip_ttlv_reader.specs.Reads.{first_named, number_text, Reads, ReadsVariant, ReadsContent, ReadsForms, ReadsRun, ReadsFields, ReadsField, Begins}
use Rattle.kmip_ttlv_reader.specs.Reads.{is_root, leaf, wrap_some, wrap, run, structure, by_rule, by_number, here, there, whole, parts, no_part, part, ends}
use Rattle.kmip_ttlv_reader.specs.Reads.{more, done, next, absent, named, inner, kept, AreAny, IsAny, any_leaf, any_structure, form_of_type, no_item, one_item}
use Rattle.kmip_ttlv_reader.specs.Steps.{Outcome, gives, Read, Reader, reads, ◌>>=◌, mapped}
use Rattle.kmip_ttlv_reader.specs.Outcomes.{type_there, tag_wanted, length_there, structure_wanted, inside, end_there, length_wanted, content_there}
use Rattle.kmip_ttlv_reader.specs.Outcomes.{type_wanted, leaf_outcome, opened, item_end, ignored, rest_outcome, all_outcome, struct_outcome, field_outcome}
use Rattle.kmip_ttlv_reader.specs.Outcomes.{goes_on, run_outcome, seq_outcome, outcome, fields_outcome, forms_outcome, variant_outcome, content_outcome}
use Rattle.kmip_ttlv_reader.specs.Outcomes.{number_outcome, tuple_outcome, part_outcome, enum_outcome, first_outcome, root_outcome}
use Rattle.kmip_ttlv_reader.specs.Outcomes.{any_leaf_outcome, any_outcome, each_outcome, node_outcome}
use Rattle.kmip_ttlv_reader.proofs.NumberLemmas.{valid_length, number_length}

-- ---- what the rules read, the form gives

leaf_gives : (s : Form) (t : TtlvType) (c : List ℕ) → takes s t ≡ true → Gives s (decoded_leaf s c)
leaf_gives int32 t c e = tt
leaf_gives s t c e = grind arith

absent_gives : (s : Form) → is_option s ≡ true → Gives s none_value
absent_gives (option s) e = tt
absent_gives s e = absurd cc

-- the first variant of a name, where it is a unit
unit_gives : (name vname : List ℕ) (vs : Variants) → first_named vname vs ≡ Some unit → VariantsGive name vs (unit_variant_value name vname)
unit_gives name vname no_variants e = absurd cc
unit_gives name vname (variant n c vs) e =
    elim (bytes_eq n vname) as (λ b. bytes_eq n vname ≡ b → cond b (Some c) (first_named vname vs) ≡ Some unit
    → VariantsGive name (variant n c vs) (unit_variant_value name vname)) [
      | true ↦ λ t h. inl (let is : c ≡ unit = cc in rw is (refl, sym ((bytes_eq-Decides n vname).0 t)))
      | false ↦ λ t h. inr (unit_gives name vname vs h)
    ] refl e

-- a leaf of any type
leaf_valued : (t : TtlvType) (c : List ℕ) → IsLeaf (decoded_leaf (form_of_type t) c)
leaf_valued Integer c = tt
leaf_valued LongInteger c = tt
leaf_valued BigInteger c = tt
leaf_valued Enumeration c = tt
leaf_valued Boolean c = tt
leaf_valued TextString c = tt
leaf_valued DateTime c = tt
leaf_valued Interval c = tt
leaf_valued t c = tt

-- items of any tags and types
mutual
  item_valued : {d : ℕ} {h : Raw} {v : Value} → IsAny d h v → IsAnItem v
  item_valued (any_leaf {h = h} plain valid full) = leaf_valued h.typ h.content
  item_valued (any_structure is splits are) = items_valued are

  items_valued : {d : ℕ} {xs : List Raw} {vs : Values} → AreAny d xs vs → AreItems vs
  items_valued no_item = tt
  items_valued (one_item i are) = (item_valued i, items_valued are)

-- and each rule takes an item at least
mutual
  read_is : {s : Form} {k k' : List TagValue} {xs ys : List Raw} {v : Value} → Reads s k xs v k' ys → Gives s v × (length ys < length xs)
  read_is (leaf {s = s} {h = h} t v) = (leaf_gives s h.typ h.content t, omega arith)
  read_is (wrap_some r) = read_is r
  read_is (wrap r) = let i = read_is r in ((refl, i.0), i.1)
  read_is (run r rs) = let i = read_is r in let j = run_is rs in ((i.0, j.0), omega (arith, i.1, j.1))
  read_is (structure n t z fs m) = ((refl, fields_give fs), omega arith)
  read_is (by_rule e r) = variant_is r
  read_is (by_number {name = name} {vs = vs} {h = h} e t v f) = (unit_gives name (number_text h.content) vs f, omega arith)

  variant_is : {name : List ℕ} {vs : Variants} {i : ℕ} {k k' : List TagValue} {xs ys : List Raw} {v : Value} → ReadsVariant name vs i k xs v k' ys
      → VariantsGive name vs v × (length ys < length xs)
  variant_is (here r) = let i = content_is r in (inl i.0, i.1)
  variant_is (there r) = let i = variant_is r in (inr i.0, i.1)

  content_is : {name vname : List ℕ} {c : Content} {k k' : List TagValue} {xs ys : List Raw} {v : Value} → ReadsContent name vname c k xs v k' ys
      → ContentGives name vname c v × (length ys < length xs)
  content_is (whole r) = let i = read_is r in ((refl, refl, i.0), i.1)
  content_is (parts t z r) = ((refl, refl, forms_give r), omega arith)

  forms_give : {ss : Forms} {k k' : List TagValue} {xs ys : List Raw} {vs : Values} → ReadsForms ss k xs vs k' ys → FormsGive ss vs
  forms_give no_part = tt
  forms_give (part r rs) = ((read_is r).0, forms_give rs)

  run_is : {s : Form} {h : Raw} {k k' : List TagValue} {xs ys : List Raw} {vs : Values} → ReadsRun s h k xs vs k' ys → EachGives (Gives s) vs
      × (length ys ≤ length xs)
  run_is (ends e) = (tt, omega arith)
  run_is (more e r rs) = let i = read_is r in let j = run_is rs in ((i.0, j.0), omega (arith, i.1, j.1))

  fields_give : {fs : Fields} {k k' : List TagValue} {xs ys : List Raw} {vs : Values} → ReadsFields fs k xs vs k' ys → FieldsGive fs vs
  fields_give done = tt
  fields_give (next (absent {s = s} o n) rs) = (absent_gives s o, fields_give rs)
  fields_give (next (named n o r) rs) = ((read_is r).0, fields_give rs)
  fields_give (next (inner o r) rs) = ((read_is r).0, fields_give rs)
  fields_give (kept are) = items_valued are

pub reads_gives : {s : Form} {k k' : List TagValue} {xs ys : List Raw} {v : Value} → Reads s k xs v k' ys → Gives s v
reads_gives r = (read_is r).0

-- what bytes begin with, the form gives
pub begins_gives : (s : Form) (b : List ℕ) (v : Value) → Begins s b v → Gives s v
begins_gives s b v g = reads_gives g.reads

-- ---- an item's header

type_given : (b : List ℕ) (p : ℕ) (x : Raw) → ItemAt b p x → type_there b p ≡ gives x.typ
unfolding type_there
type_given b p x item = rw (le-ltb (length b) (p + 4) (omega (arith, item.there)), ← item.typ, type_of-code x.typ) refl

length_given : (b : List ℕ) (p : ℕ) (x : Raw) → ItemAt b p x → length_there b p ≡ gives (length_at b p)
unfolding length_there
length_given b p x item = rw (le-ltb (length b) (p + 8) (omega (arith, item.there))) refl

-- a name that is a tag's
tag_named : (name : List ℕ) (n : ℕ) → has_tag name n ≡ true → tag_of name ≡ Some n
tag_named name n e = elim (tag_of name) as (λ o. tag_of name ≡ o → o ≡ Some n) [
  | None ↦ λ h. absurd (let no : has_tag name n ≡ false = rw (has_tag, h) refl in cc)
  | (Some m) ↦ λ h. ap Some (eqb-true m n (let yes : has_tag name n ≡ (m == n) = rw (has_tag, h) refl in cc))
] refl

-- ---- leaves

-- a valid leaf has the length that its type wants
fixed_given : (b : List ℕ) (p after : ℕ) (t : TtlvType) (c : List ℕ) → length c ≡ length_at b p → is_valid t c ≡ true
    → length_wanted b p after t (fixed_length t) ≡ gives tt
fixed_given b p after t c len valid =
    elim (fixed_length t) as (λ o. fixed_length t ≡ o → length_wanted b p after t o ≡ gives tt) [
      | None ↦ λ h. refl
      | (Some w) ↦ λ h. rw (← len, valid_length t c w valid h) refl
    ] refl

content_given : (b : List ℕ) (p : ℕ) (x : Raw) → ItemAt b p x → is_valid x.typ x.content ≡ true
    → content_there b p x.typ ≡ gives (x.content, p + size x.typ (length_at b p))
unfolding content_there end_there
content_given b p x item valid =
    let past : nat_lt (length b) (p + 8 + length_at b p) ≡ false = le-ltb _ _ (omega (arith, item.there)) in
    rw (
      length_given b p x item,
      fixed_given b p 8 x.typ x.content item.len valid,
      past,
      ← item.content,
      valid,
      le-ltb (length b) (p + size x.typ (length_at b p)) item.there,
    ) refl

-- what reading gives: the value, the texts kept, and a place from which the other items stand
record Given {V : Type 0} (o : Outcome (Read V)) (b : List ℕ) (e : ℕ) (v : V) (k : List TagValue) (ys : List Raw) : Type 0 where
  next : ℕ
  is : o ≡ reads v k next
  behind : ItemsAt b next e ys

-- each item takes a byte at least
pub in_order : (b : List ℕ) (p e : ℕ) (xs : List Raw) → ItemsAt b p e xs → p + length xs ≤ e
in_order b p e [] items = omega (arith, items)
in_order b p e (x ∷ xs) items = omega (arith, in_order b (p + size x.typ (length_at b p)) e xs items.1)

-- the first item ends within the structure around it
first_inside : (b : List ℕ) (p e : ℕ) (x : Raw) (xs : List Raw) → ItemsAt b p e (x ∷ xs) → inside b p e x.typ (p + size x.typ (length_at b p)) ≡ gives tt
unfolding inside
first_inside b p e x xs items = rw (le-ltb e (p + size x.typ (length_at b p)) (omega (arith, in_order b _ e xs items.1))) refl

leaf_is : (s : Form) (t : TtlvType) → takes s t ≡ true → outcome s ≡ leaf_outcome s
unfolding outcome
leaf_is int32 t e = refl
leaf_is s t e = cc

-- a value in another
mapped_given : {V W : Type 0} {o : Outcome (Read V)} {b : List ℕ} {e : ℕ} {v : V} {k : List TagValue} {ys : List Raw} (f : V → W) → Given o b e v k ys
    → Given (mapped f o) b e (f v) k ys
mapped_given f g = record { next = g.next; is = ap (mapped f) g.is; behind = g.behind }

-- the same outcome gives the same
as_given : {V : Type 0} {o o' : Outcome (Read V)} {b : List ℕ} {e : ℕ} {v : V} {k : List TagValue} {ys : List Raw} → Given o' b e v k ys → o ≡ o'
    → Given o b e v k ys
as_given g same = record { next = g.next; is = same ∙ g.is; behind = g.behind }

-- ---- structures

-- a structure has no padding: the items behind it stand from the end of its content
behind_structure : (b : List ℕ) (p e : ℕ) (x : Raw) (xs : List Raw) → x.typ ≡ Structure → ItemsAt b p e (x ∷ xs) → ItemsAt b (p + 8 + length_at b p) e xs
behind_structure b p e x xs is items = let same : p + size x.typ (length_at b p) ≡ p + 8 + length_at b p = rw is (omega arith) in
    subst (λ n. ItemsAt b n e xs) same items.1

-- it ends within the structure around it
structure_inside : (b : List ℕ) (p e : ℕ) (x : Raw) (xs : List Raw) → x.typ ≡ Structure → ItemsAt b p e (x ∷ xs)
    → inside b p e Structure (p + 8 + length_at b p) ≡ gives tt
unfolding inside
structure_inside b p e x xs is items = rw (le-ltb e (p + 8 + length_at b p) (omega (arith, in_order b _ e xs (behind_structure b p e x xs is items)))) refl

opened_given : (name b : List ℕ) (p : ℕ) (x : Raw) → ItemAt b p x → has_tag name x.tag ≡ true → x.typ ≡ Structure
    → opened name b p ≡ gives (p + 8 + length_at b p)
unfolding opened tag_wanted structure_wanted
opened_given name b p x item tag_is is = rw (
  type_given b p x item,
  tag_named name x.tag tag_is,
  eq-eqb x.tag (tag_at b p) item.tag,
  is,
  length_given b p x item,
) refl

-- the items of a structure's content
content_items : (b : List ℕ) (p : ℕ) (x : Raw) (zs : List Raw) → ItemAt b p x → Splits zs x.content → ItemsAt b (p + 8) (p + 8 + length_at b p) zs
content_items b p x zs item splits =
    let n = length_at b p in
    let d = drop (p + 8) b in
    let at : d ≡ x.content ++ drop n d = sym (take-append-drop n d) ∙ ap (λ (c : List ℕ). c ++ drop n d) (sym item.content) in
    items_at_splits b (p + 8) (p + 8 + n) zs (drop n d) x.content (omega (arith, item.there)) at (omega (arith, item.len)) splits

ignored_given : (fs : Fields) (deny : Bool) (b : List ℕ) (o p e : ℕ) (x : Raw) (xs : List Raw) → ItemsAt b p e (x ∷ xs) → may_ignore fs deny x ≡ true
    → ignored fs deny b o p e ≡ gives (p + size x.typ (length_at b p))
unfolding ignored item_end end_there
ignored_given fs deny b o p e x xs items ok =
    let f = and_parts (has_fields fs) (not deny && (not (names_tag fs x.tag) && (is_structure x.typ || is_valid x.typ x.content))) ok in
    let g = and_parts (not deny) (not (names_tag fs x.tag) && (is_structure x.typ || is_valid x.typ x.content)) f.1 in
    let h = and_parts (not (names_tag fs x.tag)) (is_structure x.typ || is_valid x.typ x.content) g.1 in
    let behind : item_end b p x.typ ≡ gives (p + size x.typ (length_at b p)) =
    elim (is_structure x.typ) as (λ s. (s || is_valid x.typ x.content) ≡ true
    → (if s then (length_there b p >>= end_there b p x.typ) else (content_there b p x.typ >>= λ c. gives c.1)) ≡ gives (p + size x.typ (length_at b p))) [
      | true ↦ λ _. rw (length_given b p x items.0, le-ltb (length b) (p + size x.typ (length_at b p)) items.0.there) refl
      | false ↦ λ valid. rw (content_given b p x items.0 valid) refl
    ] h.1 in
    rw (type_given b p x items.0, f.0, ← items.0.tag, not-true _ h.0, not-true _ g.0, behind, first_inside b p e x xs items) refl

-- as many steps as there are items, and one more
rest_given : (n : ℕ) (fs : Fields) (deny : Bool) (b : List ℕ) (o p e : ℕ) (xs : List Raw) → length xs < n → ItemsAt b p e xs → may_follow fs deny xs ≡ true
    → rest_outcome n fs deny b o p e ≡ gives e
unfolding rest_outcome
rest_given zero fs deny b o p e xs lt items ok = absurd (omega arith)
rest_given (suc n) fs deny b o p e [] lt items ok = rw (le-ltb p e (omega (arith, items))) (ap gives items)
rest_given (suc n) fs deny b o p e (x ∷ xs) lt items ok =
    let each = and_parts (may_ignore fs deny x) (may_follow fs deny xs) ok in
    rw (lt-ltb p e (omega (arith, in_order b _ e xs items.1)), ignored_given fs deny b o p e x xs items each.0)
    (rest_given n fs deny b o _ e xs (omega arith) items.1 each.1)

-- all that a structure contains
all_given : {vs : Values} {k' : List TagValue} {xs : List Raw} (fs : Fields) (deny : Bool) (read : Reader Values) (b : List ℕ) (o : ℕ) (k : List TagValue)
    (p e : ℕ) → e ≤ length b → Given (read b o k p e) b e vs k' xs → may_follow fs deny xs ≡ true → all_outcome fs deny read b o k p e ≡ reads vs k' e
unfolding all_outcome
all_given {xs = xs} fs deny read b o k p e le g ok =
    rw (g.is, rest_given (suc (length b)) fs deny b o g.next e xs (omega (arith, in_order b g.next e xs g.behind)) g.behind ok) refl

-- ---- fields

option_no_struct : (s : Form) → is_option s ≡ true → is_struct s ≡ false
option_no_struct (option s) e = refl
option_no_struct s e = absurd cc

-- where an item stands, the structure around it doesn't end
goes_past : (b : List ℕ) (p e : ℕ) (xs : List Raw) → 0 < length xs → ItemsAt b p e xs → (p == e) ≡ false
goes_past b p e xs lt items = ne_eqb p e (omega (arith, in_order b p e xs items))

-- ---- sequences

goes_given : (b : List ℕ) (first p e : ℕ) (h : Raw) (xs : List Raw) → ItemAt b first h → ItemsAt b p e xs → goes_on b first p e ≡ gives (is_like h xs)
unfolding goes_on
goes_given b first p e h [] at items = rw (eq-eqb p e items) refl
goes_given b first p e h (x ∷ xs) at items = rw (
  goes_past b p e (x ∷ xs) (omega arith) items,
  type_given b p x items.0,
  items.0.tag,
  items.0.typ,
  at.tag,
  at.typ,
) refl

-- ---- items of any tags and types

mutual
  unfolding any_outcome any_leaf_outcome node_outcome each_outcome

  any_given : {d : ℕ} {h : Raw} {v : Value} → IsAny d h v → (b : List ℕ) (p e : ℕ) (xs : List Raw) → ItemsAt b p e (h ∷ xs)
      → any_outcome d b p e ≡ gives (v, p + size h.typ (length_at b p))
  any_given (any_leaf {h = h} plain valid full) b p e xs items =
      rw (type_given b p h items.0, plain, content_given b p h items.0 valid, full, first_inside b p e h xs items, ← items.0.tag) refl
  any_given (any_structure {h = h} {zs = zs} {vs = vs} is splits are) b p e xs items =
      let content = content_items b p h zs items.0 splits in
      let steps : length zs < suc (length b) = omega (arith, items.0.there, in_order b (p + 8) (p + 8 + length_at b p) zs content) in
      let each = each_given are (suc (length b)) b (p + 8) (p + 8 + length_at b p) steps content in
      rw (type_given b p h items.0, is, length_given b p h items.0, each, structure_inside b p e h xs is items, ← items.0.tag)
      (ap (λ (q : ℕ). gives (struct_value (tag_text h.tag) vs, q)) (omega arith))

  -- as many steps as there are items, and one more
  pub each_given : {d : ℕ} {xs : List Raw} {vs : Values} → AreAny d xs vs → (n : ℕ) (b : List ℕ) (p e : ℕ) → length xs < n → ItemsAt b p e xs
      → each_outcome n (any_outcome d) b p e ≡ gives vs
  each_given are zero b p e lt items = absurd (omega arith)
  each_given no_item (suc n) b p e lt items = rw (le-ltb p e (omega (arith, items))) refl
  each_given (one_item {h = h} {xs = xs} i are) (suc n) b p e lt items =
      let next = p + size h.typ (length_at b p) in
      rw (lt-ltb p e (omega (arith, in_order b next e xs items.1)), any_given i b p e xs items, each_given are n b next e (omega arith) items.1) refl

-- ---- forms

-- an item of this type comes first
abbrev Leads : List Raw → TtlvType → Type 0
Leads [] t = ⊥
Leads (x ∷ xs) t = x.typ ≡ t

mutual
  unfolding outcome leaf_outcome fields_outcome variant_outcome content_outcome forms_outcome seq_outcome struct_outcome tuple_outcome part_outcome enum_outcome
      field_outcome number_outcome type_wanted structure_wanted run_outcome

  given : {s : Form} {k k' : List TagValue} {xs ys : List Raw} {v : Value} → Reads s k xs v k' ys → (b : List ℕ) (o p e : ℕ) → e ≤ length b → ItemsAt b p e xs
      → Given (outcome s b o k p e) b e v k' ys
  given (leaf {s = s} {h = h} {xs = xs} t v) b o p e le items = record {
    next = p + size h.typ (length_at b p);
    is = rw (leaf_is s h.typ t, type_given b p h items.0, t, content_given b p h items.0 v, first_inside b p e h xs items, ← items.0.tag) refl;
    behind = items.1;
  }
  given (wrap_some r) b o p e le items = mapped_given some_value (given r b o p e le items)
  given (wrap {name = name} r) b o p e le items = mapped_given (newtype_value name) (given r b o p e le items)
  given (run {ys = ys} r rs) b o p e le items =
      let g = given r b o p e le items in
      let i = given_run rs (suc (length b)) b o p g.next e (omega (arith, in_order b g.next e ys g.behind)) le items.0 g.behind in
      record { next = i.next; is = rw (g.is, i.is) refl; behind = i.behind }
  given (structure {name = name} {fs = fs} {deny = deny} {h = h} {xs = xs} {zs = zs} n t z r m) b o p e le items =
      let within_b : p + 8 + length_at b p ≤ length b = omega (arith, items.0.there) in
      let g = given_fields r b (tag_at b p) (p + 8) (p + 8 + length_at b p) within_b (content_items b p h zs items.0 z) in
      record {
        next = p + 8 + length_at b p;
        is = rw (
          opened_given name b p h items.0 n t,
          all_given fs deny (fields_outcome fs) b (tag_at b p) _ (p + 8) (p + 8 + length_at b p) within_b g m,
          structure_inside b p e h xs t items,
        ) refl;
        behind = behind_structure b p e h xs t items;
      }
  given (by_rule {h = h} c r) b o p e le items = as_given (given_variant r h.typ refl b o p e le items) (rw (type_given b p h items.0, c) refl)
  given (by_number {h = h} {xs = xs} c t v f) b o p e le items =
      let four : (length_at b p == 4) ≡ true = ap (λ (n : ℕ). n == 4) (sym items.0.len) ∙ valid_length h.typ h.content 4 v (number_length h.typ t) in
      record {
        next = p + size h.typ (length_at b p);
        is = rw (
          type_given b p h items.0,
          c,
          t,
          length_given b p h items.0,
          four,
          content_given b p h items.0 v,
          f,
          first_inside b p e h xs items,
          ← items.0.tag,
        ) refl;
        behind = items.1;
      }

  given_variant : {name : List ℕ} {vs : Variants} {i : ℕ} {k k' : List TagValue} {xs ys : List Raw} {v : Value} → ReadsVariant name vs i k xs v k' ys
      → (t : TtlvType) → Leads xs t → (b : List ℕ) (o p e : ℕ) → e ≤ length b → ItemsAt b p e xs → Given (variant_outcome name vs i t b o k p e) b e v k' ys
  given_variant (here r) t first b o p e le items = given_content r t first b o p e le items
  given_variant (there r) t first b o p e le items = given_variant r t first b o p e le items

  given_content : {name vname : List ℕ} {c : Content} {k k' : List TagValue} {xs ys : List Raw} {v : Value} → ReadsContent name vname c k xs v k' ys
      → (t : TtlvType) → Leads xs t → (b : List ℕ) (o p e : ℕ) → e ≤ length b → ItemsAt b p e xs → Given (content_outcome name vname c t b o k p e) b e v k' ys
  given_content (whole {name = name} {vname = vname} r) t first b o p e le items = mapped_given (newtype_variant_value name vname) (given r b o p e le items)
  given_content (parts {h = h} {xs = xs} {zs = zs} is z r) t first b o p e le items =
      let g = given_forms r b o (p + 8) (p + 8 + length_at b p) (omega (arith, items.0.there)) (content_items b p h zs items.0 z) in
      record {
        next = p + 8 + length_at b p;
        is = rw (
          ← first,
          is,
          length_given b p h items.0,
          g.is,
          g.behind,
          le-ltb (p + 8 + length_at b p) (p + 8 + length_at b p) (omega arith),
          structure_inside b p e h xs is items,
        ) refl;
        behind = behind_structure b p e h xs is items;
      }

  given_forms : {ss : Forms} {k k' : List TagValue} {xs ys : List Raw} {vs : Values} → ReadsForms ss k xs vs k' ys → (b : List ℕ) (o p e : ℕ) → e ≤ length b
      → ItemsAt b p e xs → Given (forms_outcome ss b o k p e) b e vs k' ys
  given_forms no_part b o p e le items = record { next = p; is = refl; behind = items }
  given_forms (part {xs = xs} r rs) b o p e le items =
      let g = given r b o p e le items in
      let i = given_forms rs b o g.next e le g.behind in
      record { next = i.next; is = rw (goes_past b p e xs (omega (arith, (read_is r).1)) items, g.is, i.is) refl; behind = i.behind }

  given_run : {s : Form} {h : Raw} {k k' : List TagValue} {xs ys : List Raw} {vs : Values} → ReadsRun s h k xs vs k' ys → (n : ℕ) (b : List ℕ) (o first p e : ℕ)
      → length xs < n → e ≤ length b → ItemAt b first h → ItemsAt b p e xs → Given (run_outcome n (outcome s) first b o k p e) b e vs k' ys
  given_run r zero b o first p e lt le at items = absurd (omega arith)
  given_run (ends {h = h} {xs = xs} c) (suc n) b o first p e lt le at items =
      record { next = p; is = rw (goes_given b first p e h xs at items, c) refl; behind = items }
  given_run (more {h = h} {xs = xs} c r rs) (suc n) b o first p e lt le at items =
      let g = given r b o p e le items in
      let i = given_run rs n b o first g.next e (omega (arith, (read_is r).1)) le at g.behind in
      record { next = i.next; is = rw (goes_given b first p e h xs at items, c, g.is, i.is) refl; behind = i.behind }

  given_fields : {fs : Fields} {k k' : List TagValue} {xs ys : List Raw} {vs : Values} → ReadsFields fs k xs vs k' ys → (b : List ℕ) (o p e : ℕ) → e ≤ length b
      → ItemsAt b p e xs → Given (fields_outcome fs b o k p e) b e vs k' ys
  given_fields done b o p e le items = record { next = p; is = refl; behind = items }
  given_fields (next r rs) b o p e le items =
      let g = given_field r b o p e le items in
      let i = given_fields rs b o g.next e le g.behind in
      record { next = i.next; is = rw (g.is, i.is) refl; behind = i.behind }
  given_fields (kept {xs = xs} are) b o p e le items =
      record { next = e; is = rw (each_given are (suc (length b)) b p e (omega (arith, le, in_order b p e xs items)) items) refl; behind = refl }

  given_field : {name : List ℕ} {s : Form} {k k' : List TagValue} {xs ys : List Raw} {v : Value} → ReadsField name s k xs v k' ys → (b : List ℕ) (o p e : ℕ)
      → e ≤ length b → ItemsAt b p e xs → Given (field_outcome name s (outcome s) b o k p e) b e v k' ys
  given_field (absent {xs = []} opt none) b o p e le items = record { next = p; is = rw (eq-eqb p e items, opt) refl; behind = items }
  given_field (absent {s = s} {xs = x ∷ xs} opt none) b o p e le items = record {
    next = p;
    is = rw (goes_past b p e (x ∷ xs) (omega arith) items, option_no_struct s opt, type_given b p x items.0, ← items.0.tag, none, opt) refl;
    behind = items;
  }
  given_field (named {xs = []} n plain r) b o p e le items = absurd cc
  given_field (named {xs = x ∷ xs} n plain r) b o p e le items =
      as_given (given r b o p e le items) (rw (goes_past b p e (x ∷ xs) (omega arith) items, plain, type_given b p x items.0, ← items.0.tag, n) refl)
  given_field (inner {xs = xs} is r) b o p e le items =
      as_given (given r b o p e le items) (rw (goes_past b p e xs (omega (arith, (read_is r).1)) items, is) refl)

-- what the rules read from items that stand from p to e, reading gives there
pub given_at : (s : Form) (b : List ℕ) (o : ℕ) (k k' : List TagValue) (p e : ℕ) (xs ys : List Raw) (v : Value) → p ≤ length b → ItemsAt b p e xs
    → Reads s k xs v k' ys → (q : ℕ) × (outcome s b o k p e ≡ reads v k' q) × ItemsAt b q e ys
given_at s b o k k' p e xs ys v le items r =
    let g = given r b o p e (items_in_order b p e xs le items).1 items in
    (g.next, g.is, g.behind)

-- ---- whole messages

leaf_no_root : (s : Form) (t : TtlvType) → takes s t ≡ true → is_root s ≡ true → ⊥
leaf_no_root int32 t e f = cc
leaf_no_root s t e f = cc

given_message : {s : Form} {k k' : List TagValue} {xs ys : List Raw} {v : Value} → Reads s k xs v k' ys → k ≡ [] → is_root s ≡ true → (b : List ℕ) (e : ℕ)
    → ItemsAt b 0 e xs → root_outcome s b ≡ gives v
unfolding root_outcome first_outcome
given_message (leaf {s = s} {h = h} t v) none root b e items = absurd (leaf_no_root s h.typ t root)
given_message (wrap_some r) none root b e items = rw (given_message r none root b e items) refl
given_message (wrap r) none root b e items = rw (given_message r none root b e items) refl
given_message (structure {name = name} {fs = fs} {deny = deny} {h = h} {zs = zs} n t z r m) none root b e items =
    let within_b : 8 + length_at b 0 ≤ length b = omega (arith, items.0.there) in
    let g = given_fields r b (tag_at b 0) 8 (8 + length_at b 0) within_b (content_items b 0 h zs items.0 z) in
    rw (
      tag_named name h.tag n,
      opened_given name b 0 h items.0 n t,
      ← none,
      all_given fs deny (fields_outcome fs) b (tag_at b 0) _ 8 (8 + length_at b 0) within_b g m,
    ) refl
given_message r none root b e items = absurd cc

-- what a message begins with by the rules, reading gives
pub given_root : (s : Form) (b : List ℕ) (v : Value) → Begins s b v → root_outcome s b ≡ gives v
given_root s b v g =
    let item : ItemAt b 0 g.item = item_at_text b 0 g.item g.item_text g.after (omega arith) g.parts g.is_text in
    given_message g.reads refl g.root b (0 + size g.item.typ (length_at b 0)) (item, refl)

-- so it begins with one value at most
pub begins_one : (s : Form) (b : List ℕ) (v w : Value) → Begins s b v → Begins s b w → v ≡ w
begins_one s b v w g h = let i = given_root s b v g in let j = given_root s b w h in cc
