-- What reading gives, the form reads; and bytes that begin with whole items don't end early.
use Rattle.std.proofs.Common.{◌≡◌, ◌==◌, ◌&&◌, not, ℕ, zero, suc, ◌+◌, ◌-◌, ◌<◌, ◌≤◌, List, [], ◌∷◌, Bool, true, false, length, take, drop, nat_lt, Option}
use Rattle.std.proofs.Common.{Some, None, refl, ap, sym, ◌∙◌, subst, arith}
use Rattle.std.proofs.lemmas.Bool.{ltb-false, ltb-true, eqb-true, eqb-false}
use Rattle.std.proofs.lemmas.List.{length-take-le, length-drop, take-append-drop}
use Rattle.kmip_ttlv_types.specs.{declared.typ.TtlvType.TtlvType, declared.typ.TtlvType.TheVariants.Enumeration, declared.typ.TtlvType.TheVariants.Structure}
use Rattle.kmip_ttlv_types.specs.{ItemTypes.code, ItemTypes.is_structure, Items.Raw, Items.Splits, Names.tag_of}
use Rattle.kmip_ttlv_types.specs.Places.{ItemAt, ItemsAt, code_at, length_at, size, tag_at}
use Rattle.kmip_ttlv_types.proofs.PlaceLemmas.{code_one, items_in_order, plain_bytes, raw_with, splits_items_at, text_at_item}
use Rattle.kmip_ttlv_base.specs.Forms.{Content, Fields, Form, Forms, Variants, any_items, enum, field, form, newtype, no_fields, no_forms, no_variants, option}
use Rattle.kmip_ttlv_base.specs.Forms.{seq}
use Rattle.kmip_ttlv_base.specs.Forms.{struct, tuple, unit, variant, wrapped}
use Rattle.kmip_ttlv_base.specs.Values.{Value, Values, newtype_value, no_values, seq_value, some_value, struct_value, tuple_variant_value, value}
use Rattle.kmip_ttlv_reader.specs.{TagValues.TagValue, ReadLaws.AreBytes, Wholes.AreWhole, Wholes.BeginsWhole}
use Rattle.kmip_ttlv_reader.specs.Outcomes.{all_outcome, by_index, content_outcome, enum_outcome, field_outcome, fields_outcome, first_outcome, first_type}
use Rattle.kmip_ttlv_reader.specs.Outcomes.{forms_outcome, goes_on, ignored, leaf_outcome, named_first, number_outcome, outcome, part_outcome, picked}
use Rattle.kmip_ttlv_reader.specs.Outcomes.{rest_outcome, root_outcome, run_outcome, seq_outcome, struct_outcome, tuple_outcome, unit_wanted, variant_outcome}
use Rattle.kmip_ttlv_reader.specs.Outcomes.{ItemReader, any_leaf_outcome, any_outcome, each_outcome, node_outcome, opened}
use Rattle.kmip_ttlv_reader.specs.Reads.{Begins, Reads, ReadsContent, ReadsField, ReadsFields, ReadsForms, ReadsRun, ReadsVariant, absent, by_number, by_rule}
use Rattle.kmip_ttlv_reader.specs.Reads.{done, ends, first_named, has_fields, has_tag, here, inner, is_like, is_number_type, is_option, is_root, is_struct}
use Rattle.kmip_ttlv_reader.specs.Reads.{leaf, may_follow, more, named, names, names_tag, next, no_part, number_text, part, parts, run, structure, takes, there}
use Rattle.kmip_ttlv_reader.specs.Reads.{whole, wrap, wrap_some, kept, AreAny, IsAny, any_leaf, any_structure, is_full, most_levels, no_item}
use Rattle.kmip_ttlv_reader.specs.Reads.{one_item}
use Rattle.kmip_ttlv_reader.specs.Rules.{Choice, Verdict, number_decides, choice, choice_invalid, chosen, fails as rule_fails, first_by, holds, no_rule, past}
use Rattle.kmip_ttlv_reader.specs.Rules.{refused, rule}
use Rattle.kmip_ttlv_reader.specs.Steps.{Outcome, Read, Reader, ends_early, gives, within}
use Rattle.kmip_ttlv_reader.proofs.Onward.{ContentAt, Onward, StructureAt, content_at, content_is, early_has, failed, given, given_has, inside_is, item_end_is}
use Rattle.kmip_ttlv_reader.proofs.Onward.{is_structure_is, length_is, must_is, must_not_is, on_early, on_if, on_map, on_then, on_within, opened_is, sized_is}
use Rattle.kmip_ttlv_reader.proofs.Onward.{structure_is}
use Rattle.kmip_ttlv_reader.proofs.Onward.{tag_is, type_is, wanted_is}
use Rattle.kmip_ttlv_reader.proofs.Wholeness.{NotWhole, head_cut, item_after, item_cut, message_cut, structure_cut}

-- ---- what is found

-- from any items behind, the items from a place on exist, and stand so to those behind; where whole items stand, whole
-- items are left; what is found takes n bytes at least
record Found (n : ℕ) (P : List Raw → List Raw → Type 0) (b : List ℕ) (p e q : ℕ) : Type 0 where
  not_back : n + p ≤ q
  not_past : q ≤ e
  there : q ≤ length b
  items : AreBytes b → (ys : List Raw) → ItemsAt b q e ys → (xs : List Raw) × ItemsAt b p e xs × P xs ys
  whole_left : AreWhole b p e → AreWhole b q e

-- what an outcome gives is found, and where whole items stand it is no early end
abbrev IsFound : {V : Type 0} → ℕ → (List Raw → V → List TagValue → List Raw → Type 0) → List ℕ → ℕ → ℕ → Outcome (Read V) → Type 0
IsFound n P b p e o = Onward (NotWhole n b p e) (λ r. Found n (λ xs ys. P xs r.value r.stored ys) b p e r.next) o

-- what a reader gives is found, wherever it reads
abbrev Finds : {V : Type 0} → ℕ → Reader V → (List TagValue → List Raw → V → List TagValue → List Raw → Type 0) → List ℕ → Type 0
Finds {V} n read P b = (o : ℕ) (k : List TagValue) (p e : ℕ) → p ≤ e → p ≤ length b → IsFound n (P k) b p e (read b o k p e)

-- the same items, seen in another way
found_map : {n m : ℕ} {P Q : List Raw → List Raw → Type 0} {b : List ℕ} {p e q : ℕ} → m ≤ n → Found n P b p e q
    → ((xs ys : List Raw) → ItemsAt b p e xs → P xs ys → Q xs ys) → Found m Q b p e q
found_map le h f = record {
  not_back = omega (arith, h.not_back);
  not_past = h.not_past;
  there = h.there;
  items = λ bytes ys at. let x = h.items bytes ys at in (x.0, x.1, f x.0 ys x.1 x.2);
  whole_left = h.whole_left;
}

-- one thing behind another
found_then : {n : ℕ} {P Q R : List Raw → List Raw → Type 0} {b : List ℕ} {p e q m : ℕ} → Found n P b p e q → Found 0 Q b q e m
    → ((xs ys zs : List Raw) → ItemsAt b p e xs → P xs ys → Q ys zs → R xs zs) → Found n R b p e m
found_then g h f = record {
  not_back = omega (arith, g.not_back, h.not_back);
  not_past = h.not_past;
  there = h.there;
  items = λ bytes zs at. let y = h.items bytes zs at in let x = g.items bytes y.0 y.1 in (x.0, x.1, f x.0 y.0 zs x.1 x.2 y.2);
  whole_left = λ w. h.whole_left (g.whole_left w);
}

-- where what is behind isn't whole, nor is the whole
behind_cut : {n : ℕ} {P : List Raw → List Raw → Type 0} {b : List ℕ} {p e q : ℕ} (m : ℕ) → Found n P b p e q → NotWhole 0 b q e → NotWhole m b p e
behind_cut m h never w lt = never (h.whole_left w) (omega (arith, h.not_past))

-- nothing
found_none : {P : List Raw → List Raw → Type 0} (b : List ℕ) (p e : ℕ) → p ≤ e → p ≤ length b → ((ys : List Raw) → ItemsAt b p e ys → P ys ys)
    → Found 0 P b p e p
found_none b p e le in_bytes f = record {
  not_back = omega arith;
  not_past = le;
  there = in_bytes;
  items = λ bytes ys at. (ys, at, f ys at);
  whole_left = λ w. w;
}

item_made : (b : List ℕ) (p : ℕ) (t : TtlvType) (c : List ℕ) (q : ℕ) → AreBytes b → code t ≡ code_at b p → ContentAt b p t c q
    → ItemAt b p (raw_with (tag_at b p) t c)
item_made b p t c q bytes typ at =
    let len : length (content_at b p) ≡ length_at b p = length-take-le (length_at b p) (drop (p + 8) b) (omega (arith, at.there, length-drop (p + 8) b)) in
    record { plain = plain_bytes b p bytes; tag = refl; typ = typ; len = ap length at.content ∙ len; content = at.content; there = at.there }

-- one item
found_item : {P : List Raw → List Raw → Type 0} (b : List ℕ) (p e : ℕ) (t : TtlvType) (c : List ℕ) (q : ℕ) → code t ≡ code_at b p → ContentAt b p t c q → q ≤ e
    → (AreBytes b → (ys : List Raw) → P (raw_with (tag_at b p) t c ∷ ys) ys) → Found 1 P b p e q
found_item b p e t c q typ at le f = record {
  not_back = omega (arith, at.behind);
  not_past = le;
  there = omega (arith, at.behind, at.there);
  items = λ bytes ys behind. (
    raw_with (tag_at b p) t c ∷ ys,
    (item_made b p t c q bytes typ at, subst (λ (m : ℕ). ItemsAt b m e ys) at.behind behind),
    f bytes ys,
  );
  whole_left = λ w. subst (λ (m : ℕ). AreWhole b m e) (sym at.behind) (item_after b p e t typ (omega (arith, at.behind)) w).1;
}

-- no items are left at the end
items_none : (b : List ℕ) (q e : ℕ) (ys : List Raw) → q ≤ length b → e ≤ q → ItemsAt b q e ys → ys ≡ []
items_none b q e [] le same items = refl
items_none b q e (y ∷ ys) le same items =
    absurd (omega (arith, items.0.there, (items_in_order b (q + size y.typ (length_at b q)) e ys items.0.there items.1).0))

-- ---- leaves

leaf_found : (s : Form) (b : List ℕ) → Finds 1 (leaf_outcome s) (Reads s) b
unfolding leaf_outcome
leaf_found s b o k p e le in_bytes = on_then (type_is b p (head_cut b p e)) (λ t typ.
    on_then (wanted_is (takes s t) (first_type s) b p t) (λ _ taken.
    on_then (content_is b p t (item_cut b p e t typ)) (λ c at.
    on_then (inside_is b p e t c.1) (λ _ in_e. given (found_item b p e t c.0 c.1 typ at.0 in_e (λ bytes ys. leaf taken at.1))))))

-- ---- structures

-- the content of a structure that ends in the bytes
structure_content : (b : List ℕ) (p stop : ℕ) → StructureAt b p stop → stop ≤ length b → ContentAt b p Structure (content_at b p) stop
structure_content b p stop at le = let is = at.stops in record { content = refl; behind = omega arith; there = omega arith }

-- the items of a structure, which are its content
structure_items : {P : List Raw → List Raw → Type 0} (b : List ℕ) (p stop q : ℕ) → StructureAt b p stop → stop ≤ q → Found 0 P b (p + 8) stop q → AreBytes b
    → (zs : List Raw) × Splits zs (content_at b p) × P zs []
structure_items b p stop q at reached found bytes =
    let x = found.items bytes [] (omega (arith, found.not_past)) in
    let width : stop - (p + 8) ≡ length_at b p = omega (arith, at.stops) in
    (x.0, subst (λ (m : ℕ). Splits x.0 (take m (drop (p + 8) b))) width (splits_items_at b (p + 8) stop x.0 at.content_there x.1), x.2)

-- a structure whose items are used up
structure_found : {P R : List Raw → List Raw → Type 0} (b : List ℕ) (p e stop q : ℕ) → StructureAt b p stop → stop ≤ q → Found 0 P b (p + 8) stop q → stop ≤ e
    → ((zs ys : List Raw) → Splits zs (content_at b p) → P zs [] → R (raw_with (tag_at b p) Structure (content_at b p) ∷ ys) ys) → Found 1 R b p e stop
structure_found b p e stop q at reached found le f =
    found_item b p e Structure _ stop at.typ (structure_content b p stop at (omega (arith, found.there))) le (λ bytes ys. let x =
    structure_items b p stop q at reached found bytes in f x.0 ys x.1 x.2)

-- what follows may follow the fields, if what is behind may
abbrev Follows : Fields → Bool → List Raw → List Raw → Type 0
Follows fs deny xs ys = may_follow fs deny ys ≡ true → may_follow fs deny xs ≡ true

all_five : (a b c d e : Bool) → a ≡ true → b ≡ false → c ≡ false → d ≡ true → e ≡ true → ((a && (not b && (not c && d))) && e) ≡ true
all_five a b c d e ha hb hc hd he = rw (ha, hb, hc, hd, he) refl

ignored_found : (fs : Fields) (deny : Bool) (b : List ℕ) (o p e : ℕ) → Onward (NotWhole 1 b p e) (Found 1 (Follows fs deny) b p e) (ignored fs deny b o p e)
unfolding ignored
ignored_found fs deny b o p e = on_then (type_is b p (head_cut b p e)) (λ t typ.
    on_then (must_is (has_fields fs) _) (λ _ some.
    on_then (must_not_is (names_tag fs (tag_at b p)) _) (λ _ other.
    on_then (must_not_is deny _) (λ _ ignores.
    on_then (item_end_is b p t (item_cut b p e t typ)) (λ q at.
    on_then (inside_is b p e t q) (λ _ in_e. given
    (found_item b p e t _ q typ at.0 in_e (λ bytes ys rest. all_five (has_fields fs) deny (names_tag fs (tag_at b p)) _ (may_follow fs deny ys) some ignores
    other at.1 rest))))))))

-- what follows the fields, up to the end: each step goes further, so that there are steps enough
rest_found : (n : ℕ) (fs : Fields) (deny : Bool) (b : List ℕ) (o p e : ℕ) → length b < p + n → p ≤ e → p ≤ length b
    → Onward (NotWhole 0 b p e) (λ q. (e ≤ q) × Found 0 (Follows fs deny) b p e q) (rest_outcome n fs deny b o p e)
unfolding rest_outcome
rest_found zero fs deny b o p e fuel le in_bytes = absurd (omega arith)
rest_found (suc n) fs deny b o p e fuel le in_bytes = on_if (nat_lt p e) _ _
    (λ lt. on_then (on_early (λ never w _. never w (omega (arith, ltb-true p e lt))) (ignored_found fs deny b o p e)) (λ q one.
    on_map (behind_cut 0 one) (λ r rest. (rest.0, found_map (omega arith) (found_then one rest.1 (λ xs ys zs _ f g h. f (g h))) (λ xs ys _ x. x)))
    (rest_found n fs deny b o q e (omega (arith, one.not_back)) one.not_past one.there)))
    (λ over. given (ltb-false _ _ over, found_none b p e le in_bytes (λ ys _ h. h)))

-- all that a structure contains: the fields, and what may follow them
abbrev ReadsAll : Fields → Bool → List TagValue → List Raw → Values → List TagValue → List Raw → Type 0
ReadsAll fs deny k xs vs k' ys = (rest : List Raw) × ReadsFields fs k xs vs k' rest × Follows fs deny rest ys

all_found : (fs : Fields) (deny : Bool) (read : Reader Values) (b : List ℕ) → Finds 0 read (ReadsFields fs) b → (o : ℕ) (k : List TagValue) (p e : ℕ) → p ≤ e
    → p ≤ length b → Onward (NotWhole 0 b p e) (λ r. (e ≤ r.next) × Found 0 (λ xs ys. ReadsAll fs deny k xs r.value r.stored ys) b p e r.next)
    (all_outcome fs deny read b o k p e)
unfolding all_outcome
all_found fs deny read b one o k p e le in_bytes = on_then (one o k p e le in_bytes) (λ x head.
    on_then (on_early (behind_cut 0 head) (rest_found (suc (length b)) fs deny b o x.next e (omega arith) head.not_past head.there)) (λ q rest.
    given (rest.0, found_then head rest.1 (λ xs ys zs _ f g. (ys, f, g)))))

struct_found : (name : List ℕ) (fs : Fields) (deny : Bool) (read : Reader Values) (b : List ℕ) → Finds 0 read (ReadsFields fs) b
    → Finds 1 (struct_outcome name fs deny read) (λ k xs vs k' ys. Reads (struct name fs deny) k xs (struct_value name vs) k' ys) b
unfolding struct_outcome
struct_found name fs deny read b one o k p e le in_bytes = on_then (opened_is name b p (head_cut b p e)) (λ stop at.
    on_then (on_within (tag_at b p)
    (on_early (structure_cut b p e stop at.1) (all_found fs deny read b one (tag_at b p) k (p + 8) stop (omega (arith, at.1.stops)) at.1.content_there)))
    (λ a all.
    on_then (inside_is b p e Structure stop)
    (λ _ in_e. given (structure_found b p e stop a.next at.1 all.0 all.1 in_e (λ zs ys splits x. structure at.0 refl splits x.1 (x.2 refl))))))

-- ---- fields

-- the name at a place is the first item's
names_at : (name b : List ℕ) (p e : ℕ) (xs : List Raw) → 1 + p ≤ e → ItemsAt b p e xs → names name xs ≡ has_tag name (tag_at b p)
names_at name b p e [] lt items = absurd (omega (arith, items))
names_at name b p e (x ∷ xs) lt items = ap (has_tag name) items.0.tag

field_found : (name : List ℕ) (s : Form) (read : Reader Value) (b : List ℕ) → Finds 1 read (Reads s) b
    → Finds 0 (field_outcome name s read) (ReadsField name s) b
unfolding field_outcome
field_found name s read b one o k p e le in_bytes = on_if (p == e) _ _ (λ at_end. on_if (is_option s) _ _
    (λ op. given (found_none b p e le in_bytes
    (λ ys items. absent op (ap (names name) (items_none b p e ys in_bytes (omega (arith, eqb-true p e at_end)) items))))) (λ _. failed))
    (λ differ. let lt : 1 + p ≤ e = omega (arith, eqb-false p e differ) in
    on_if (is_struct s) _ _ (λ st. on_map (λ never w _. never w lt) (λ r h. found_map (omega arith) h (λ xs ys items x. inner st x)) (one o k p e le in_bytes))
    (λ st.
    on_then (type_is b p (λ short w _. head_cut b p e short w lt)) (λ t _.
    on_if (has_tag name (tag_at b p)) _ _
    (λ yes. on_map (λ never w _. never w lt) (λ r h. found_map (omega arith) h (λ xs ys items x. named (names_at name b p e xs lt items ∙ yes) st x))
    (one o k p e le in_bytes)) (λ other.
    on_if (is_option s) _ _ (λ op. given (found_none b p e le in_bytes (λ ys items. absent op (names_at name b p e ys lt items ∙ other)))) (λ _.
    on_then (tag_is name b p t) (λ _ wanted. absurd cc))))))

-- ---- sequences

-- the first item is like one of the first place's tag and type, if reading goes on
abbrev LikeFirst : List ℕ → ℕ → ℕ → ℕ → Bool → Type 0
LikeFirst b first p e t = (h : Raw) (xs : List Raw) → h.tag ≡ tag_at b first → code h.typ ≡ code_at b first → ItemsAt b p e xs → is_like h xs ≡ t

like_first : (b : List ℕ) (first p e : ℕ) → 1 + p ≤ e → LikeFirst b first p e ((tag_at b p == tag_at b first) && (code_at b p == code_at b first))
like_first b first p e lt h [] tag typ items = absurd (omega (arith, items))
like_first b first p e lt h (x ∷ xs) tag typ items = rw (items.0.tag, items.0.typ, tag, typ) refl

goes_is : (b : List ℕ) (first p e : ℕ) → p ≤ e → p ≤ length b → Onward (NotWhole 0 b p e) (λ t. (t ≡ true → 1 + p ≤ e) × LikeFirst b first p e t)
    (goes_on b first p e)
unfolding goes_on
goes_is b first p e le in_bytes = on_if (p == e) _ _
    (λ at_end. given ((λ is. absurd cc), λ h xs tag typ items. ap (is_like h) (items_none b p e xs in_bytes (omega (arith, eqb-true p e at_end)) items)))
    (λ differ. let lt : 1 + p ≤ e = omega (arith, eqb-false p e differ) in
    on_then (type_is b p (λ short w _. head_cut b p e short w lt)) (λ t _. given ((λ _. lt), like_first b first p e lt)))

-- a run of items like any of the first place's tag and type
abbrev RunOf : Form → List ℕ → ℕ → List TagValue → List Raw → Values → List TagValue → List Raw → Type 0
RunOf s b first k xs vs k' ys = (h : Raw) → h.tag ≡ tag_at b first → code h.typ ≡ code_at b first → ReadsRun s h k xs vs k' ys

run_found : (s : Form) (read : Reader Value) (b : List ℕ) → Finds 1 read (Reads s) b → (n first o : ℕ) (k : List TagValue) (p e : ℕ) → length b < p + n → p ≤ e
    → p ≤ length b → IsFound 0 (RunOf s b first k) b p e (run_outcome n read first b o k p e)
unfolding run_outcome
run_found s read b one zero first o k p e fuel le in_bytes = absurd (omega arith)
run_found s read b one (suc n) first o k p e fuel le in_bytes = on_then (goes_is b first p e le in_bytes) (λ go is.
    on_if go _ _
    (λ yes. on_then (on_early (λ never w _. never w (is.0 yes)) (one o k p e le in_bytes)) (λ x head.
    on_then (on_early (behind_cut 0 head) (run_found s read b one n first o x.stored x.next e (omega (arith, head.not_back)) head.not_past head.there))
    (λ rs tail.
    given (found_map (omega arith) (found_then head tail (λ xs ys zs items f g h tag typ. more (is.1 h xs tag typ items ∙ yes) f (g h tag typ)))
    (λ xs ys _ x. x)))))
    (λ other. given (found_none b p e le in_bytes (λ ys items h tag typ. ends (is.1 h ys tag typ items ∙ other)))))

seq_reads : (s : Form) (b : List ℕ) (p e : ℕ) (k k' k'' : List TagValue) (xs ys zs : List Raw) (v : Value) (vs : Values) → 1 + p ≤ e → ItemsAt b p e xs
    → Reads s k xs v k' ys → RunOf s b p k' ys vs k'' zs → Reads (seq s) k xs (seq_value (value v vs)) k'' zs
seq_reads s b p e k k' k'' [] ys zs v vs lt items x f = absurd (omega (arith, items))
seq_reads s b p e k k' k'' (h ∷ xs) ys zs v vs lt items x f = run x (f h items.0.tag items.0.typ)

seq_found : (s : Form) (read : Reader Value) (b : List ℕ) → Finds 1 read (Reads s) b
    → Finds 1 (seq_outcome read) (λ k xs vs k' ys. Reads (seq s) k xs (seq_value vs) k' ys) b
unfolding seq_outcome
seq_found s read b one o k p e le in_bytes = on_then (one o k p e le in_bytes) (λ x head.
    on_then (on_early (behind_cut 1 head) (run_found s read b one (suc (length b)) p o x.stored x.next e (omega arith) head.not_past head.there)) (λ rs tail.
    given (found_then head tail (λ xs ys zs items f g. seq_reads s b p e k x.stored rs.stored xs ys zs x.value rs.value
    (omega (arith, head.not_back, head.not_past)) items f g))))

-- ---- enums

-- what is chosen behind the first variant is chosen among the others
past_is : (x : Choice) (i : ℕ) → past 1 x ≡ chosen (suc i) → x ≡ chosen i
past_is (chosen j) i e = let same : 1 + j ≡ suc i = cc in ap chosen (omega arith)
past_is _ i e = absurd cc

later_is : (v : Verdict) (x : Choice) (i : ℕ) → first_by v x ≡ chosen (suc i) → x ≡ chosen i
later_is no_rule x i e = past_is x i e
later_is rule_fails x i e = past_is x i e
later_is holds x i e = let same : 0 ≡ suc i = cc in absurd (omega arith)
later_is (refused m) x i e = absurd cc

unit_is : {E : Type 0} (b : List ℕ) (o p : ℕ) (t : TtlvType) (c : Option Content) → Onward E (λ _. c ≡ Some unit) (unit_wanted b o p t c)
unit_is b o p t (Some unit) = given refl
unit_is b o p t _ = failed

number_found : (name : List ℕ) (vs : Variants) (t : TtlvType) (b : List ℕ) (o : ℕ) (k : List TagValue) (p e : ℕ) → choice vs k t ≡ number_decides
    → code t ≡ code_at b p → IsFound 1 (Reads (enum name vs) k) b p e (number_outcome name vs t b o k p e)
unfolding number_outcome
number_found name vs t b o k p e by_it typ = on_then (wanted_is (is_number_type t) Enumeration b p t) (λ _ taken.
    on_then (length_is b p (head_cut b p e)) (λ _ _.
    on_then (sized_is b p 4 t (Some 4)) (λ _ _.
    on_then (content_is b p t (item_cut b p e t typ)) (λ c at.
    on_then (unit_is b o p t (first_named (number_text c.0) vs)) (λ _ has.
    on_then (inside_is b p e t c.1) (λ _ in_e. given (found_item b p e t c.0 c.1 typ at.0 in_e (λ bytes ys. by_number by_it taken at.1 has))))))))

rule_reads : (name : List ℕ) (vs : Variants) (b : List ℕ) (p e i : ℕ) (t : TtlvType) (k k' : List TagValue) (xs ys : List Raw) (v : Value)
    → code t ≡ code_at b p → choice vs k t ≡ chosen i → 1 + p ≤ e → ItemsAt b p e xs → ReadsVariant name vs i k xs v k' ys → Reads (enum name vs) k xs v k' ys
rule_reads name vs b p e i t k k' [] ys v typ c lt items r = absurd (omega (arith, items))
rule_reads name vs b p e i t k k' (h ∷ xs) ys v typ c lt items r =
    by_rule (subst (λ (u : TtlvType). choice vs k u ≡ chosen i) (code_one t h.typ (typ ∙ sym items.0.typ)) c) r

-- the reader of a variant finds it where it is chosen
abbrev FindsVariants : List ℕ → Variants → (ℕ → TtlvType → Reader Value) → List ℕ → Type 0
FindsVariants name vs at b = (i : ℕ) (t : TtlvType) (o : ℕ) (k : List TagValue) (p e : ℕ) → choice vs k t ≡ chosen i → code t ≡ code_at b p → p ≤ e
    → p ≤ length b → IsFound 1 (ReadsVariant name vs i k) b p e (at i t b o k p e)

-- what a choice picks
abbrev Picks : Choice → Option ℕ → Type 0
Picks c (Some i) = c ≡ chosen i
Picks c None = c ≡ number_decides

picked_is : {E : Type 0} (c : Choice) (b : List ℕ) (p : ℕ) (t : TtlvType) → Onward E (Picks c) (picked c b p t)
picked_is (chosen i) b p t = given refl
picked_is number_decides b p t = given refl
picked_is (choice_invalid m) b p t = failed

index_found : (name : List ℕ) (vs : Variants) (at : ℕ → TtlvType → Reader Value) (b : List ℕ) → FindsVariants name vs at b
    → (i : Option ℕ) (t : TtlvType) (o : ℕ) (k : List TagValue) (p e : ℕ) → Picks (choice vs k t) i → code t ≡ code_at b p → p ≤ e → p ≤ length b
    → IsFound 1 (Reads (enum name vs) k) b p e (by_index i at (number_outcome name vs) t b o k p e)
index_found name vs at b one None t o k p e is typ le in_bytes = number_found name vs t b o k p e is typ
index_found name vs at b one (Some i) t o k p e is typ le in_bytes =
    on_map (λ x. x) (λ r h. found_map (omega arith) h (λ xs ys items x. rule_reads name vs b p e i t k r.stored xs ys r.value typ is
    (omega (arith, h.not_back, h.not_past)) items x)) (one i t o k p e is typ le in_bytes)

enum_found : (name : List ℕ) (vs : Variants) (at : ℕ → TtlvType → Reader Value) (b : List ℕ) → FindsVariants name vs at b
    → Finds 1 (enum_outcome name vs at) (Reads (enum name vs)) b
unfolding enum_outcome
enum_found name vs at b one o k p e le in_bytes = on_then (type_is b p (head_cut b p e)) (λ t typ.
    on_then (picked_is (choice vs k t) b p t) (λ i is. index_found name vs at b one i t o k p e is typ le in_bytes))

-- ---- tuples

part_found : (s : Form) (read : Reader Value) (b : List ℕ) → Finds 1 read (Reads s) b → Finds 0 (part_outcome read) (Reads s) b
unfolding part_outcome
part_found s read b one o k p e le in_bytes =
    on_if (p == e) _ _ (λ _. failed) (λ differ. on_map (λ never w _. never w (omega (arith, eqb-false p e differ)))
    (λ r h. found_map (omega arith) h (λ xs ys items x. x)) (one o k p e le in_bytes))

tuple_found : (name vname : List ℕ) (ss : Forms) (t : TtlvType) (read : Reader Values) (b : List ℕ) → Finds 0 read (ReadsForms ss) b
    → (o : ℕ) (k : List TagValue) (p e : ℕ) → code t ≡ code_at b p
    → IsFound 1 (λ xs vs k' ys. ReadsContent name vname (tuple ss) k xs (tuple_variant_value name vname vs) k' ys) b p e (tuple_outcome t read b o k p e)
unfolding tuple_outcome
tuple_found name vname ss t read b one o k p e typ = on_then (structure_is b p t) (λ _ is.
    on_then (length_is b p (head_cut b p e)) (λ n len.
    let at : StructureAt b p (p + 8 + n) = record { typ = ap code (sym is) ∙ typ; content_there = len.1; stops = ap (λ (m : ℕ). p + 8 + m) len.0 } in
    on_then (on_early (structure_cut b p e (p + 8 + n) at) (one o k (p + 8) (p + 8 + n) (omega arith) len.1)) (λ rs h.
    on_then (must_not_is (nat_lt rs.next (p + 8 + n)) _) (λ _ used.
    on_then (inside_is b p e t (p + 8 + n))
    (λ _ in_e. given (structure_found b p e (p + 8 + n) rs.next at (ltb-false _ _ used) h in_e (λ zs ys splits x. parts refl splits x)))))))

-- ---- items of any tags and types

-- an item that is read so is the first
abbrev Leads : ℕ → Value → List Raw → List Raw → Type 0
Leads d v xs ys = (h : Raw) × (xs ≡ h ∷ ys) × IsAny d h v

-- what an item's reader gives is found, wherever it reads
abbrev FindsAny : ℕ → ItemReader → List ℕ → Type 0
FindsAny d read b = (p e : ℕ) → p ≤ e → p ≤ length b → Onward (NotWhole 1 b p e) (λ x. Found 1 (Leads d x.0) b p e x.1) (read b p e)

-- where no other item follows
abbrev Alone : ℕ → Values → List Raw → List Raw → Type 0
Alone d vs xs ys = ys ≡ [] → AreAny d xs vs

one_leads : (d : ℕ) (v : Value) (vs : Values) (xs ys zs : List Raw) → Leads d v xs ys → Alone d vs ys zs → Alone d (value v vs) xs zs
one_leads d v vs xs ys zs (h, is, item) others none = subst (λ (l : List Raw). AreAny d l (value v vs)) (sym is) (one_item item (others none))

-- each step goes further, so that there are steps enough
each_found : (n d : ℕ) (read : ItemReader) (b : List ℕ) → FindsAny d read b → (p e : ℕ) → length b < p + n → p ≤ e → p ≤ length b
    → Onward (NotWhole 0 b p e) (λ vs. Found 0 (Alone d vs) b p e e) (each_outcome n read b p e)
unfolding each_outcome
each_found zero d read b one p e fuel le in_bytes = absurd (omega arith)
each_found (suc n) d read b one p e fuel le in_bytes = on_if (nat_lt p e) _ _
    (λ lt. on_then (on_early (λ never w _. never w (omega (arith, ltb-true p e lt))) (one p e le in_bytes)) (λ x head.
    on_then (on_early (behind_cut 0 head) (each_found n d read b one x.1 e (omega (arith, fuel, head.not_back)) head.not_past head.there))
    (λ vs tail. given (found_map (omega arith) (found_then head tail (λ xs ys zs at. one_leads d x.0 vs xs ys zs)) (λ xs ys _ f. f)))))
    (λ over. let at_end : p ≡ e = omega (arith, le, ltb-false p e over) in
    given (subst (λ (q : ℕ). Found 0 (Alone d no_values) b p e q) at_end
    (found_none b p e le in_bytes (λ ys _ none. subst (λ (l : List Raw). AreAny d l no_values) (sym none) no_item))))

any_leaf_found : (d : ℕ) (t : TtlvType) (b : List ℕ) (p e : ℕ) → is_structure t ≡ false → code t ≡ code_at b p
    → Onward (NotWhole 1 b p e) (λ x. Found 1 (Leads (suc d) x.0) b p e x.1) (any_leaf_outcome t b p e)
unfolding any_leaf_outcome
any_leaf_found d t b p e plain typ = on_then (content_is b p t (item_cut b p e t typ)) (λ c at.
    on_then (must_is (is_full t c.0) _) (λ _ full.
    on_then (inside_is b p e t c.1) (λ _ in_e. given (found_item b p e t c.0 c.1 typ at.0 in_e (λ bytes ys.
    (raw_with (tag_at b p) t c.0, refl, any_leaf plain at.1 full))))))

node_found : (d : ℕ) (read : ItemReader) (b : List ℕ) → FindsAny d read b → (p e : ℕ) → code Structure ≡ code_at b p
    → Onward (NotWhole 1 b p e) (λ x. Found 1 (Leads (suc d) x.0) b p e x.1) (node_outcome read b p e)
unfolding node_outcome
node_found d read b one p e typ = on_then (length_is b p (head_cut b p e)) (λ n len.
    let at : StructureAt b p (p + 8 + n) = record { typ = typ; content_there = len.1; stops = ap (λ (m : ℕ). p + 8 + m) len.0 } in
    on_then (on_within (tag_at b p) (on_early (structure_cut b p e (p + 8 + n) at)
    (each_found (suc (length b)) d read b one (p + 8) (p + 8 + n) (omega arith) (omega arith) len.1))) (λ vs h.
    on_then (inside_is b p e Structure (p + 8 + n)) (λ _ in_e.
    given (structure_found b p e (p + 8 + n) (p + 8 + n) at (omega arith) h in_e (λ zs ys splits x.
    (raw_with (tag_at b p) Structure (content_at b p), refl, any_structure refl splits (x refl)))))))

any_found : (d : ℕ) (b : List ℕ) → FindsAny d (any_outcome d) b
unfolding any_outcome
any_found zero b p e le in_bytes = on_then (type_is b p (head_cut b p e)) (λ t typ. failed)
any_found (suc d) b p e le in_bytes = on_then (type_is b p (head_cut b p e)) (λ t typ.
    on_if (is_structure t) _ _ (λ yes. node_found d (any_outcome d) b (any_found d b) p e (ap code (sym (is_structure_is t yes)) ∙ typ))
    (λ plain. any_leaf_found d t b p e plain typ))

-- the items from which items of any tags and types are read
pub items_there : (d : ℕ) (b : List ℕ) (p e : ℕ) (vs : Values) → AreBytes b → p ≤ e → p ≤ length b
    → each_outcome (suc (length b)) (any_outcome d) b p e ≡ gives vs
    → (xs : List Raw) × ItemsAt b p e xs × AreAny d xs vs
items_there d b p e vs bytes le in_bytes is =
    let h = given_has vs (each_found (suc (length b)) d (any_outcome d) b (any_found d b) p e (omega arith) le in_bytes) is in
    let x = h.items bytes [] refl in
    (x.0, x.1, x.2 refl)

-- ---- forms

mutual
  unfolding outcome fields_outcome variant_outcome content_outcome forms_outcome

  outcome_found : (s : Form) (b : List ℕ) → Finds 1 (outcome s) (Reads s) b
  outcome_found (struct name fs deny) b o k p e le in_bytes = on_then (struct_found name fs deny (fields_outcome fs) b (fields_found fs b) o k p e le in_bytes)
      (λ r h. given h)
  outcome_found (option s) b o k p e le in_bytes =
      on_then (outcome_found s b o k p e le in_bytes) (λ r h. given (found_map (omega arith) h (λ xs ys items x. wrap_some x)))
  outcome_found (newtype name s) b o k p e le in_bytes =
      on_then (outcome_found s b o k p e le in_bytes) (λ r h. given (found_map (omega arith) h (λ xs ys items x. wrap x)))
  outcome_found (seq s) b o k p e le in_bytes = on_then (seq_found s (outcome s) b (outcome_found s b) o k p e le in_bytes) (λ r h. given h)
  outcome_found (enum name vs) b o k p e le in_bytes = enum_found name vs (variant_outcome name vs) b (variant_found name vs b) o k p e le in_bytes
  outcome_found s b o k p e le in_bytes = leaf_found s b o k p e le in_bytes

  fields_found : (fs : Fields) (b : List ℕ) → Finds 0 (fields_outcome fs) (ReadsFields fs) b
  fields_found no_fields b o k p e le in_bytes = given (found_none b p e le in_bytes (λ ys items. done))
  fields_found (field name s fs) b o k p e le in_bytes =
      on_then (field_found name s (outcome s) b (outcome_found s b) o k p e le in_bytes) (λ x head.
      on_then (on_early (behind_cut 0 head) (fields_found fs b o x.stored x.next e head.not_past head.there)) (λ rs tail.
      given (found_then head tail (λ xs ys zs items f g. next f g))))
  fields_found any_items b o k p e le in_bytes =
      on_then (each_found (suc (length b)) most_levels (any_outcome most_levels) b (any_found most_levels b) p e (omega arith) le in_bytes)
      (λ vs h. given record {
        not_back = h.not_back;
        not_past = h.not_past;
        there = h.there;
        items = λ bytes ys at.
            let x = h.items bytes ys at in
            let none = items_none b e e ys h.there (omega arith) at in
            (x.0, x.1, subst (ReadsFields any_items k x.0 vs k) (sym none) (kept (x.2 none)));
        whole_left = h.whole_left;
      })

  variant_found : (name : List ℕ) (vs : Variants) (b : List ℕ) → FindsVariants name vs (variant_outcome name vs) b
  variant_found name no_variants b i t o k p e is typ le in_bytes = absurd cc
  variant_found name (variant vname c vs) b zero t o k p e is typ le in_bytes =
      on_map (λ x. x) (λ r h. found_map (omega arith) h (λ xs ys items x. here x)) (content_found name vname c b t o k p e typ le in_bytes)
  variant_found name (variant vname c vs) b (suc i) t o k p e is typ le in_bytes =
      on_map (λ x. x) (λ r h. found_map (omega arith) h (λ xs ys items x. there x))
      (variant_found name vs b i t o k p e (later_is (rule vname k t) (choice vs k t) i is) typ le in_bytes)

  content_found : (name vname : List ℕ) (c : Content) (b : List ℕ) (t : TtlvType) (o : ℕ) (k : List TagValue) (p e : ℕ) → code t ≡ code_at b p → p ≤ e
      → p ≤ length b → IsFound 1 (ReadsContent name vname c k) b p e (content_outcome name vname c t b o k p e)
  content_found name vname unit b t o k p e typ le in_bytes = failed
  content_found name vname (wrapped s) b t o k p e typ le in_bytes =
      on_then (outcome_found s b o k p e le in_bytes) (λ r h. given (found_map (omega arith) h (λ xs ys items x. whole x)))
  content_found name vname (tuple ss) b t o k p e typ le in_bytes = on_then (tuple_found name vname ss t (forms_outcome ss) b (forms_found ss b) o k p e typ)
      (λ r h. given h)

  forms_found : (ss : Forms) (b : List ℕ) → Finds 0 (forms_outcome ss) (ReadsForms ss) b
  forms_found no_forms b o k p e le in_bytes = given (found_none b p e le in_bytes (λ ys items. no_part))
  forms_found (form s ss) b o k p e le in_bytes =
      on_then (part_found s (outcome s) b (outcome_found s b) o k p e le in_bytes) (λ x head.
      on_then (on_early (behind_cut 0 head) (forms_found ss b o x.stored x.next e head.not_past head.there)) (λ rs tail.
      given (found_then head tail (λ xs ys zs items f g. part f g))))

-- what reading gives at a place, the form reads from the items there
pub found_at : (s : Form) (b : List ℕ) (o : ℕ) (k : List TagValue) (p e : ℕ) (r : Read Value) → AreBytes b → p ≤ e → p ≤ length b
    → outcome s b o k p e ≡ gives r → (ys : List Raw) → ItemsAt b r.next e ys → (xs : List Raw) × ItemsAt b p e xs × Reads s k xs r.value r.stored ys
found_at s b o k p e r bytes le in_bytes is ys items = (given_has r (outcome_found s b o k p e le in_bytes) is).items bytes ys items

-- ---- whole messages

begins_struct : (name : List ℕ) (fs : Fields) (deny : Bool) (b : List ℕ) (k : List TagValue) (stop q : ℕ) (vs : Values) → has_tag name (tag_at b 0) ≡ true
    → StructureAt b 0 stop → stop ≤ q → Found 0 (λ xs ys. ReadsAll fs deny [] xs vs k ys) b 8 stop q → AreBytes b
    → Begins (struct name fs deny) b (struct_value name vs)
begins_struct name fs deny b k stop q vs named_so at reached all bytes =
    let c = content_at b 0 in
    let n = size Structure (length_at b 0) in
    let x = structure_items b 0 stop q at reached all bytes in
    let item = item_made b 0 Structure c stop bytes at.typ (structure_content b 0 stop at (omega (arith, all.there))) in
    record {
      root = refl;
      item = raw_with (tag_at b 0) Structure c;
      item_text = take n b;
      after = drop n b;
      stored = k;
      is_text = text_at_item b 0 (raw_with (tag_at b 0) Structure c) item;
      is_structure = refl;
      parts = sym (take-append-drop n b);
      reads = structure named_so refl x.1 x.2.1 (x.2.2 refl);
    }

-- a name that is a tag or not: neither ends early
named_any : {E : Type 0} (name : List ℕ) (o : Option ℕ) → Onward E (λ _. Unit {0}) (named_first name o)
named_any name None = failed
named_any name (Some n) = given tt

first_found : (name : List ℕ) (fs : Fields) (deny : Bool) (b : List ℕ)
    → Onward (BeginsWhole b → ⊥) (λ vs. AreBytes b → Begins (struct name fs deny) b (struct_value name vs)) (first_outcome name fs deny (fields_outcome fs) b)
unfolding first_outcome
first_found name fs deny b = on_then (named_any name (tag_of name)) (λ _ _.
    on_then (opened_is name b 0 (λ short. message_cut b (λ e. head_cut b 0 e short))) (λ stop at.
    on_then (on_within (tag_at b 0) (on_early (λ never. message_cut b (λ e. structure_cut b 0 e stop at.1 never))
    (all_found fs deny (fields_outcome fs) b (fields_found fs b) (tag_at b 0) [] 8 stop (omega (arith, at.1.stops)) at.1.content_there))) (λ a all.
    given (begins_struct name fs deny b a.stored stop a.next a.value at.0 at.1 all.0 all.1))))

-- another form around it, which reads as much
begins_around : (s t : Form) (b : List ℕ) (v w : Value) → is_root t ≡ is_root s → ((k k' : List TagValue) (xs ys : List Raw) → Reads s k xs v k' ys
    → Reads t k xs w k' ys) → Begins s b v → Begins t b w
begins_around s t b v w same f h = record {
  root = same ∙ h.root;
  item = h.item;
  item_text = h.item_text;
  after = h.after;
  stored = h.stored;
  is_text = h.is_text;
  is_structure = h.is_structure;
  parts = h.parts;
  reads = f [] h.stored (h.item ∷ []) [] h.reads;
}

-- what a message is read as, the form reads from its item, and whole messages don't end early
root_found : (s : Form) (b : List ℕ) → Onward (BeginsWhole b → ⊥) (λ v. AreBytes b → Begins s b v) (root_outcome s b)
unfolding root_outcome
root_found (struct name fs deny) b = on_then (first_found name fs deny b) (λ vs h. given h)
root_found (option s) b = on_then (root_found s b)
    (λ v h. given (λ bytes. begins_around s (option s) b v (some_value v) refl (λ k k' xs ys x. wrap_some x) (h bytes)))
root_found (newtype name s) b =
    on_then (root_found s b) (λ v h. given (λ bytes. begins_around s (newtype name s) b v (newtype_value name v) refl (λ k k' xs ys x. wrap x) (h bytes)))
root_found _ b = failed

pub found_root : (s : Form) (b : List ℕ) (v : Value) → AreBytes b → root_outcome s b ≡ gives v → Begins s b v
found_root s b v bytes is = given_has v (root_found s b) is bytes

pub whole_root : (s : Form) (b : List ℕ) → BeginsWhole b → root_outcome s b ≡ ends_early → ⊥
whole_root s b w is = early_has (root_found s b) is w

-- where all that a structure contains is read, it ends among the bytes
pub content_ends : (name : List ℕ) (fs : Fields) (deny : Bool) (b : List ℕ) (stop : ℕ) (r : Read Values) → opened name b 0 ≡ gives stop
    → within (tag_at b 0) (all_outcome fs deny (fields_outcome fs) b (tag_at b 0) [] 8 stop) ≡ gives r
    → stop ≤ length b
content_ends name fs deny b stop r opens is =
    let at = given_has stop (opened_is name b 0 (λ short. short)) opens in
    let content = all_found fs deny (fields_outcome fs) b (fields_found fs b) (tag_at b 0) [] 8 stop (omega (arith, at.1.stops)) at.1.content_there in
    let all = given_has r (on_within (tag_at b 0) content) is in
    omega (arith, all.0, all.1.there)
