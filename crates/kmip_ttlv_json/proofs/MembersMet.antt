-- The members of an object that were met, and the item that they make.
use Rattle.std.proofs.Common.{◌≡◌, ◌≢◌, ◌∙◌, ℕ, ◌+◌, ◌-◌, ◌≤◌, Bool, true, false, not, ◌&&◌, ◌||◌, List, ◌++◌, length, take, drop, Option}
use Rattle.std.proofs.Common.{Some, None, Ordering, Less, Equal, Greater, inl, inr}
use Rattle.std.proofs.Common.{Result, Ok, Err, refl, ap, sym, subst, arith, length-append, append_assoc}
use Rattle.std.proofs.lemmas.List.{take_at, drop_at}
use Rattle.std.proofs.lemmas.Map.Lookups.{exact_bytes}
use Rattle.std.specs.Prelude.{codes, if◌then◌else◌, IfOk, IfErr}
use Rattle.std.specs.Ordering.{nat_cmp, match_ordering}
use Rattle.std.specs.Cmp.Lexicographic.{slice_cmp}
use Rattle.std.specs.Str.{bytes_eq}
use Rattle.serde_json.specs.Data.{Data, object, Members, no_members, member, put}
use Rattle.serde_json.specs.Find.{as_str, as_bool}
use Rattle.kmip_ttlv_types.specs.declared.typ.TtlvType.{TtlvType, TheVariants.Structure}
use Rattle.kmip_ttlv_types.specs.Items.{header}
use Rattle.kmip_ttlv_types.specs.Trees.{Trees, node, bytes, node_bytes, bytes_below}
use Rattle.kmip_ttlv_json.specs.declared.failure.BadMember.{BadMember}
use Rattle.kmip_ttlv_json.specs.declared.failure.BadMember.TheVariants.{Members as BadMembers, Tag, Typ}
use Rattle.kmip_ttlv_json.specs.declared.seen.Seen.{Seen}
use Rattle.kmip_ttlv_json.specs.declared.seen.Seen.TheVariants.{Text, Truth, Items as SeenItems, Item as SeenItem, Number, Null}
use Rattle.kmip_ttlv_json.specs.declared.failure.BadItem.{BadItem}
use Rattle.kmip_ttlv_json.specs.Spots.{is_open, is_tagged_open, is_typed_open, IsEndPlaced}
use Rattle.kmip_ttlv_json.specs.declared.members.Members.{Members as SeenMembers}
use Rattle.kmip_ttlv_json.specs.JsonTrees.{tag_in, tag_of_text, type_in, type_of_text, whole_of_data, content_of}
use Rattle.kmip_ttlv_json.specs.JsonTrees.{leaf_in, leaf_of, node_of, typed_in, tagged_in, tree_of, below_of}
use Rattle.kmip_ttlv_json.specs.Events.{text_in, truth_in, whole_in, type_met, items_in, items_at, is_items}
use Rattle.kmip_ttlv_json.specs.Events.{placed, unplaced, room, AddsItem, AreSeen, IsItem, IsSeen}
use Rattle.kmip_ttlv_json.specs.Events.{is_other, has_other, three, HasText, HasValue, AreThree}
use Rattle.kmip_ttlv_json.specs.Events.{AreMet, Meets}

-- ---- members with other names

either : (a b : Bool) → b ≡ true → (a || b) ≡ true
either true b h = refl
either false b h = h

put_keeps : (o : Ordering) (a b c : Members) → has_other a ≡ true → has_other b ≡ true → has_other c ≡ true
    → has_other (match_ordering o a b c) ≡ true
put_keeps Less a b c p q r = p
put_keeps Equal a b c p q r = q
put_keeps Greater a b c p q r = r

later : (x y z : Bool) → (x || y) ≡ true → (y ≡ true → z ≡ true) → (x || z) ≡ true
later true y z h f = refl
later false y z h f = f h

other_stays : (k : List ℕ) (d : Data) (ms : Members) → has_other ms ≡ true → has_other (put k d ms) ≡ true
other_stays k d no_members h = absurd (cc)
other_stays k d (member l e ms) h =
    put_keeps (slice_cmp nat_cmp k l) (member k d (member l e ms)) (member l d ms) (member l e (put k d ms))
    (either (is_other k) (has_other (member l e ms)) h) h (later (is_other l) (has_other ms) (has_other (put k d ms)) h (other_stays k d ms))

front_other : (x y : Bool) → x ≡ true → (x || y) ≡ true
front_other true y h = refl
front_other false y h = absurd (cc)

-- the comparison's answer is looked at, and what it means
put_front : (o : Ordering) (k l : List ℕ) (d e : Data) (ms : Members) → slice_cmp nat_cmp k l ≡ o → is_other k ≡ true
    → has_other (put k d ms) ≡ true
    → has_other (match_ordering o (member k d (member l e ms)) (member l d ms) (member l e (put k d ms))) ≡ true
put_front Less k l d e ms is h more = front_other (is_other k) (has_other (member l e ms)) h
put_front Equal k l d e ms is h more = front_other (is_other l) (has_other ms) (subst (λ n. is_other n ≡ true) (exact_bytes k l is) h)
put_front Greater k l d e ms is h more = either (is_other l) (has_other (put k d ms)) more

other_put : (k : List ℕ) (d : Data) (ms : Members) → is_other k ≡ true → has_other (put k d ms) ≡ true
other_put k d no_members h = front_other (is_other k) false h
other_put k d (member l e ms) h = put_front (slice_cmp nat_cmp k l) k l d e ms refl h (other_put k d ms h)

named_none : {A : Type 0} (a b c a2 a3 b1 b3 c1 c2 : Bool) (x y : A)
    → (not (a || (a2 || a3)) || (not (b1 || (b || b3)) || (not (c1 || (c2 || c)) || false))) ≡ true
    → (if a && b && c then x else y) ≡ y
named_none false b c a2 a3 b1 b3 c1 c2 x y h = refl
named_none true false c a2 a3 b1 b3 c1 c2 x y h = refl
named_none true true false a2 a3 b1 b3 c1 c2 x y h = refl
named_none true true true a2 a3 true b3 true c2 x y h = absurd (cc)
named_none true true true a2 a3 true b3 false true x y h = absurd (cc)
named_none true true true a2 a3 true b3 false false x y h = absurd (cc)
named_none true true true a2 a3 false b3 true c2 x y h = absurd (cc)
named_none true true true a2 a3 false b3 false true x y h = absurd (cc)
named_none true true true a2 a3 false b3 false false x y h = absurd (cc)

-- of two members likewise
two_none : {A : Type 0} (a b a2 a3 b1 b2 : Bool) (x y : A) → (not (a || (a2 || a3)) || (not (b1 || (b2 || b)) || false)) ≡ true
    → (if a && b then x else y) ≡ y
two_none false b a2 a3 b1 b2 x y h = refl
two_none true false a2 a3 b1 b2 x y h = refl
two_none true true a2 a3 true b2 x y h = absurd (cc)
two_none true true a2 a3 false true x y h = absurd (cc)
two_none true true a2 a3 false false x y h = absurd (cc)

-- an object with another member is no item
other_none : (ms : Members) → has_other ms ≡ true → tree_of (object ms) ≡ Err BadMembers
other_none no_members h = refl
other_none (member a d no_members) h = refl
other_none (member a d (member c f no_members)) h =
    two_none (bytes_eq a (codes "tag")) (bytes_eq c (codes "value")) (bytes_eq a (codes "type")) (bytes_eq a (codes "value"))
    (bytes_eq c (codes "tag")) (bytes_eq c (codes "type")) (tagged_in (tag_in d) (Some Structure) f (below_of f)) (Err BadMembers) h
other_none (member a d (member b e (member c f no_members))) h =
    named_none (bytes_eq a (codes "tag")) (bytes_eq b (codes "type")) (bytes_eq c (codes "value")) (bytes_eq a (codes "type")) (bytes_eq a (codes "value"))
    (bytes_eq b (codes "tag")) (bytes_eq b (codes "value")) (bytes_eq c (codes "tag")) (bytes_eq c (codes "type"))
    (tagged_in (tag_in d) (type_in e) f (below_of f))
    (Err BadMembers) h
other_none (member a d (member b e (member c f (member k g ms)))) h = refl

other_closed : (ms : Members) → has_other ms ≡ true → is_open (object ms) ≡ false
other_closed no_members h = refl
other_closed (member a d no_members) h = refl
other_closed (member a d (member c f no_members)) h =
    two_none (bytes_eq a (codes "tag")) (bytes_eq c (codes "value")) (bytes_eq a (codes "type")) (bytes_eq a (codes "value"))
    (bytes_eq c (codes "tag")) (bytes_eq c (codes "type")) (is_tagged_open (tag_in d) (Some Structure) f) false h
other_closed (member a d (member b e (member c f no_members))) h =
    named_none (bytes_eq a (codes "tag")) (bytes_eq b (codes "type")) (bytes_eq c (codes "value")) (bytes_eq a (codes "type")) (bytes_eq a (codes "value"))
    (bytes_eq b (codes "tag")) (bytes_eq b (codes "value")) (bytes_eq c (codes "tag")) (bytes_eq c (codes "type"))
    (is_tagged_open (tag_in d) (type_in e) f) false h
other_closed (member a d (member b e (member c f (member k g ms)))) h = refl

-- ---- members of an item

put_tag : (d : Data) (a b c : Option Data) → put (codes "tag") d (three a b c) ≡ three (Some d) b c
put_tag d (Some x) b c = refl
put_tag d None (Some y) c = refl
put_tag d None None (Some z) = refl
put_tag d None None None = refl

put_type : (d : Data) (a b c : Option Data) → put (codes "type") d (three a b c) ≡ three a (Some d) c
put_type d (Some x) (Some y) c = refl
put_type d (Some x) None (Some z) = refl
put_type d (Some x) None None = refl
put_type d None (Some y) c = refl
put_type d None None (Some z) = refl
put_type d None None None = refl

put_value : (d : Data) (a b c : Option Data) → put (codes "value") d (three a b c) ≡ three a b (Some d)
put_value d (Some x) (Some y) (Some z) = refl
put_value d (Some x) (Some y) None = refl
put_value d (Some x) None (Some z) = refl
put_value d (Some x) None None = refl
put_value d None (Some y) (Some z) = refl
put_value d None (Some y) None = refl
put_value d None None (Some z) = refl
put_value d None None None = refl

abbrev now_tag : SeenMembers → Seen → SeenMembers
now_tag met seen = record { tag = Some seen; typ = met.typ; value = met.value; others = met.others }

abbrev now_type : SeenMembers → Seen → SeenMembers
now_type met seen = record { tag = met.tag; typ = Some seen; value = met.value; others = met.others }

abbrev now_value : SeenMembers → Seen → SeenMembers
now_value met seen = record { tag = met.tag; typ = met.typ; value = Some seen; others = met.others }

abbrev now_others : SeenMembers → SeenMembers
now_others met = record { tag = met.tag; typ = met.typ; value = met.value; others = true }

module _ (json : Members) (met : SeenMembers) (d : Data) (seen : Seen) where
  tag_met : (others : Bool) (added : List ℕ) → as_str d ≡ text_in seen → AreMet others json met added
      → AreMet others (put (codes "tag") d json) (now_tag met seen) added
  tag_met true added is m = other_stays (codes "tag") d json m
  tag_met false added is m = record {
    tag = Some d;
    typ = m.typ;
    value = m.value;
    are = ap (put (codes "tag") d) m.are ∙ put_tag d m.tag m.typ m.value;
    has_tag = is;
    has_type = m.has_type;
    has_value = m.has_value;
  }

  typ_met : (others : Bool) (added : List ℕ) → as_str d ≡ text_in seen → AreMet others json met added
      → AreMet others (put (codes "type") d json) (now_type met seen) added
  typ_met true added is m = other_stays (codes "type") d json m
  typ_met false added is m = record {
    tag = m.tag;
    typ = Some d;
    value = m.value;
    are = ap (put (codes "type") d) m.are ∙ put_type d m.tag m.typ m.value;
    has_tag = m.has_tag;
    has_type = is;
    has_value = m.has_value;
  }

  value_met : (others : Bool) (added more : List ℕ) → IsSeen seen d more → AreMet others json met added
      → AreMet others (put (codes "value") d json) (now_value met seen) more
  value_met true added more is m = other_stays (codes "value") d json m
  value_met false added more is m = record {
    tag = m.tag;
    typ = m.typ;
    value = Some d;
    are = ap (put (codes "value") d) m.are ∙ put_value d m.tag m.typ m.value;
    has_tag = m.has_tag;
    has_type = m.has_type;
    has_value = is;
  }

-- a member is met, of which the bytes go or stay
module _ (name : List ℕ) (met : SeenMembers) (d : Data) (seen : Seen) (json : Members) (front old new : List ℕ) (m : Meets json met front old) where
  pub meets_tag : name ≡ codes "tag" → as_str d ≡ text_in seen → new ≡ old
      → Meets (put name d json) (now_tag met seen) front new
  meets_tag e is same = record {
    added = m.added;
    all = same ∙ m.all;
    are = subst (λ k. AreMet met.others (put k d json) (now_tag met seen) m.added) (sym e) (tag_met json met d seen met.others m.added is m.are);
  }

  pub meets_type : name ≡ codes "type" → as_str d ≡ text_in seen → new ≡ old
      → Meets (put name d json) (now_type met seen) front new
  meets_type e is same = record {
    added = m.added;
    all = same ∙ m.all;
    are = subst (λ k. AreMet met.others (put k d json) (now_type met seen) m.added) (sym e) (typ_met json met d seen met.others m.added is m.are);
  }

  pub meets_value : name ≡ codes "value" → (more : List ℕ) → IsSeen seen d more → new ≡ take (length front) old ++ more
      → Meets (put name d json) (now_value met seen) front new
  meets_value e more is all =
      let start : take (length front) old ≡ front = ap (take (length front)) m.all ∙ take_at front m.added (length front) refl in
      record {
        added = more;
        all = all ∙ ap (λ (s : List ℕ). s ++ more) start;
        are = subst (λ k. AreMet met.others (put k d json) (now_value met seen) more) (sym e) (value_met json met d seen met.others m.added more is m.are);
      }

  pub meets_other : is_other name ≡ true → new ≡ old
      → Meets (put name d json) (now_others met) front new
  meets_other other same = record { added = m.added; all = same ∙ m.all; are = other_put name d json other }

-- ---- an item

-- a member that is there or not
text_there : (a : Option Data) (o : Option Seen) (s : Seen) → HasText a o → o ≡ Some s → (d : Data) × (a ≡ Some d) × (as_str d ≡ text_in s)
text_there None None s h e = absurd (cc)
text_there None (Some t) s h e = absurd h
text_there (Some d) None s h e = absurd h
text_there (Some d) (Some t) s h e = (d, refl, subst (HasText (Some d)) e h)

value_there : (added : List ℕ) (a : Option Data) (o : Option Seen) (s : Seen) → HasValue a o added → o ≡ Some s
    → (d : Data) × (a ≡ Some d) × IsSeen s d added
value_there added None None s h e = absurd (cc)
value_there added None (Some t) s h e = absurd h
value_there added (Some d) None s h e = absurd h
value_there added (Some d) (Some t) s h e = (d, refl, subst (λ o. HasValue (Some d) o added) e h)

text_lacks : (a : Option Data) (o : Option Seen) → HasText a o → o ≡ None → a ≡ None
text_lacks None o h e = refl
text_lacks (Some d) None h e = absurd h
text_lacks (Some d) (Some t) h e = absurd (cc)

value_lacks : (added : List ℕ) (a : Option Data) (o : Option Seen) → HasValue a o added → o ≡ None → a ≡ None
value_lacks added None o h e = refl
value_lacks added (Some d) None h e = absurd h
value_lacks added (Some d) (Some t) h e = absurd (cc)

lacks_tag : (b c : Option Data) → (tree_of (object (three None b c)) ≡ Err BadMembers) × (is_open (object (three None b c)) ≡ false)
lacks_tag None None = (refl, refl)
lacks_tag None (Some z) = (refl, refl)
lacks_tag (Some y) None = (refl, refl)
lacks_tag (Some y) (Some z) = (refl, refl)

lacks_value : (a b : Option Data) → (tree_of (object (three a b None)) ≡ Err BadMembers) × (is_open (object (three a b None)) ≡ false)
lacks_value None None = (refl, refl)
lacks_value None (Some y) = (refl, refl)
lacks_value (Some x) None = (refl, refl)
lacks_value (Some x) (Some y) = (refl, refl)

-- an object is wrong itself
abbrev pub IsWrong : Members → Type 0
IsWrong ms = (tree_of (object ms) ≡ Err BadMembers) × (is_open (object ms) ≡ false)

module _ (json : Members) (met : SeenMembers) (front out : List ℕ) (m : Meets json met front out) where
  -- it is no item, and the bytes stay
  pub no_item : (bad : BadMember) → tree_of (object json) ≡ Err bad → AddsItem (tree_of (object json)) front out (Err bad)
  no_item bad e = record { added = m.added; all = m.all; is = e }

  pub has_others : met.others ≡ true → tree_of (object json) ≡ Err BadMembers
  has_others e = other_none json (subst (λ b. AreMet b json met m.added) e m.are)

  pub others_closed : met.others ≡ true → is_open (object json) ≡ false
  others_closed e = other_closed json (subst (λ b. AreMet b json met m.added) e m.are)

  module _ (only : met.others ≡ false) where
    are_three : AreThree json met m.added
    are_three = subst (λ b. AreMet b json met m.added) only m.are

    lacking_tag : met.tag ≡ None → IsWrong json
    lacking_tag e =
        let t = are_three in
        subst IsWrong (sym (t.are ∙ ap (λ a. three a t.typ t.value) (text_lacks t.tag met.tag t.has_tag e))) (lacks_tag t.typ t.value)

    lacking_value : met.value ≡ None → IsWrong json
    lacking_value e =
        let t = are_three in
        subst IsWrong (sym (t.are ∙ ap (three t.tag t.typ) (value_lacks m.added t.value met.value t.has_value e))) (lacks_value t.tag t.typ)

    pub has_no_tag : met.tag ≡ None → tree_of (object json) ≡ Err BadMembers
    has_no_tag e = (lacking_tag e).0

    pub has_no_value : met.value ≡ None → tree_of (object json) ≡ Err BadMembers
    has_no_value e = (lacking_value e).0

    pub no_tag_closed : met.tag ≡ None → is_open (object json) ≡ false
    no_tag_closed e = (lacking_tag e).1

    pub no_value_closed : met.value ≡ None → is_open (object json) ≡ false
    no_value_closed e = (lacking_value e).1

    -- room for a header is there if the value is items
    pub room_is_there : (seen : Seen) → met.value ≡ Some seen → items_in seen ≡ Ok tt → length front + 8 ≤ length out
    room_is_there seen e ok =
        let t = are_three in
        let v = value_there m.added t.value met.value seen t.has_value e in
        let b = subst (λ r. AreSeen (below_of v.0) r m.added) ok v.2.below in
        omega (arith, ap length m.all, length-append front m.added, ap length b.2, length-append room (bytes_below b.0))

-- the type of an item, where a member gives it, and else that of a Structure
abbrev type_given : Option Data → Option TtlvType
type_given None = Some Structure
type_given (Some d) = type_in d

type_there : (b : Option Data) (o : Option Seen) → HasText b o → type_given b ≡ type_met o
type_there None None h = refl
type_there None (Some t) h = absurd h
type_there (Some d) None h = absurd h
type_there (Some d) (Some t) h = ap type_of_text h

-- the members that make an item
record Complete (json : Members) (tag : Seen) (typ : Option Seen) (value : Seen) (added : List ℕ) : Type 0 where
  a : Data
  b : Option Data
  c : Data
  is : json ≡ three (Some a) b (Some c)
  tag_text : as_str a ≡ text_in tag
  type_is : type_given b ≡ type_met typ
  seen : IsSeen value c added

complete : (json : Members) (met : SeenMembers) (added : List ℕ) (tag value : Seen) → AreThree json met added → met.tag ≡ Some tag
    → met.value ≡ Some value → Complete json tag met.typ value added
complete json met added tag value m e g =
    let x = text_there m.tag met.tag tag m.has_tag e in
    let z = value_there added m.value met.value value m.has_value g in
    record {
      a = x.0;
      b = m.typ;
      c = z.0;
      is = m.are ∙ ap (λ o. three o m.typ m.value) x.1 ∙ ap (λ o. three (Some x.0) m.typ o) z.1;
      tag_text = x.2;
      type_is = type_there m.typ met.typ m.has_type;
      seen = z.2;
    }

-- what they make
item_of : (a : Data) (b : Option Data) (c : Data) → tree_of (object (three (Some a) b (Some c))) ≡ tagged_in (tag_in a) (type_given b) c (below_of c)
item_of a None c = refl
item_of a (Some b) c = refl

open_of : (a : Data) (b : Option Data) (c : Data) → is_open (object (three (Some a) b (Some c))) ≡ is_tagged_open (tag_in a) (type_given b) c
open_of a None c = refl
open_of a (Some b) c = refl

pub items_plain : (at : ℕ) (seen : Seen) → items_in seen ≡ unplaced (items_at at seen)
items_plain at (SeenItems r) = refl
items_plain at (SeenItem r) = refl
items_plain at (Text s) = refl
items_plain at (Truth b) = refl
items_plain at (Number w) = refl
items_plain at Null = refl

-- what is wrong with a leaf, with its place and without
pub placed_plain : (at : ℕ) (r : Result Bool BadMember) → unplaced (placed at r) ≡ r
placed_plain at (Ok structure) = refl
placed_plain at (Err why) = refl

typed_leaf : (tag : ℕ) (typ : TtlvType) (v : Data) (r : Result Trees BadMember) → typ ≢ Structure → typed_in tag (Some typ) v r ≡ leaf_in tag typ v
typed_leaf tag Structure v r ne = absurd (ne refl)
typed_leaf tag typ v r ne = refl

closed_leaf : (typ : TtlvType) (v : Data) → typ ≢ Structure → is_typed_open (Some typ) v ≡ false
closed_leaf Structure v ne = absurd (ne refl)
closed_leaf typ v ne = refl

-- where something wrong is said to be
abbrev place_in : {A : Type 0} → Result A BadItem → ℕ
place_in (Ok a) = 0
place_in (Err bad) = bad.at

module _ (json : Members) (met : SeenMembers) (front out : List ℕ) (m : Meets json met front out) (only : met.others ≡ false)
    (tag value : Seen) (has_tag : met.tag ≡ Some tag) (has_value : met.value ≡ Some value) where
  all : Complete json tag met.typ value m.added
  all = complete json met m.added tag value (are_three json met front out m only) has_tag has_value

  tagged : (o : Option ℕ) → tag_of_text (text_in tag) ≡ o → tree_of (object json) ≡ tagged_in o (type_met met.typ) all.c (below_of all.c)
  tagged o e =
      ap (λ ms. tree_of (object ms)) all.is ∙ item_of all.a all.b all.c
      ∙ ap (λ s. tagged_in (tag_of_text s) (type_given all.b) all.c (below_of all.c)) all.tag_text
      ∙ ap (λ t. tagged_in t (type_given all.b) all.c (below_of all.c)) e ∙ ap (λ k. tagged_in o k all.c (below_of all.c)) all.type_is

  open_as : (o : Option ℕ) → tag_of_text (text_in tag) ≡ o → is_open (object json) ≡ is_tagged_open o (type_met met.typ) all.c
  open_as o e =
      ap (λ ms. is_open (object ms)) all.is ∙ open_of all.a all.b all.c ∙ ap (λ s. is_tagged_open (tag_of_text s) (type_given all.b) all.c) all.tag_text
      ∙ ap (λ t. is_tagged_open t (type_given all.b) all.c) e ∙ ap (λ k. is_tagged_open o k all.c) all.type_is

  pub bad_tag : tag_of_text (text_in tag) ≡ None → tree_of (object json) ≡ Err Tag
  bad_tag e = tagged None e

  pub bad_tag_closed : tag_of_text (text_in tag) ≡ None → is_open (object json) ≡ false
  bad_tag_closed e = open_as None e

  module _ (t : ℕ) (tag_is : tag_of_text (text_in tag) ≡ Some t) where
    typed : (p : Option TtlvType) → type_met met.typ ≡ p → tree_of (object json) ≡ typed_in t p all.c (below_of all.c)
    typed p e = tagged (Some t) tag_is ∙ ap (λ k. typed_in t k all.c (below_of all.c)) e

    open_typed : (p : Option TtlvType) → type_met met.typ ≡ p → is_open (object json) ≡ is_typed_open p all.c
    open_typed p e = open_as (Some t) tag_is ∙ ap (λ k. is_typed_open k all.c) e

    pub bad_type : type_met met.typ ≡ None → tree_of (object json) ≡ Err Typ
    bad_type e = typed None e

    pub bad_type_closed : type_met met.typ ≡ None → is_open (object json) ≡ false
    bad_type_closed e = open_typed None e

    -- a leaf is wrong itself
    pub leaf_placed : (at : ℕ) (k : TtlvType) → k ≢ Structure → type_met met.typ ≡ Some k → (r : Result Bool BadMember)
        → IsEndPlaced at met.value (object json) (placed at r)
    leaf_placed at k ne e (Ok structure) = tt
    leaf_placed at k ne e (Err why) = inl (refl, open_typed (Some k) e ∙ closed_leaf k all.c ne)

    -- and a structure, unless its value is items
    value_is : (at : ℕ) (seen : Seen) (bad : BadItem) → items_at at seen ≡ Err bad → is_open (object json) ≡ is_items seen → met.value ≡ Some seen
        → IsEndPlaced at met.value (object json) (Err bad)
    value_is at (SeenItems (Ok u)) bad e is there = absurd (cc)
    value_is at (SeenItems (Err b)) bad e is there = inr (is, there ∙ ap (λ (r : Result (Unit {0}) BadItem). Some (SeenItems r)) e)
    value_is at (SeenItem r) bad e is there = inl (sym (ap place_in e), is)
    value_is at (Text s) bad e is there = inl (sym (ap place_in e), is)
    value_is at (Truth b) bad e is there = inl (sym (ap place_in e), is)
    value_is at (Number w) bad e is there = inl (sym (ap place_in e), is)
    value_is at Null bad e is there = inl (sym (ap place_in e), is)

    pub structure_placed : (at : ℕ) → type_met met.typ ≡ Some Structure → (r : Result Bool BadItem)
        → (Q : Type 0) → IfErr r (λ bad. (items_at at value ≡ Err bad) × Q) → IsEndPlaced at met.value (object json) r
    structure_placed at e (Ok structure) Q err = tt
    structure_placed at e (Err bad) Q err = value_is at value bad err.0 (open_typed (Some Structure) e ∙ all.seen.array) has_value

    module _ (top : ℕ) (top_is : length front ≡ top) (new : List ℕ) where
      -- the header of a structure is put in
      structure_bytes : (below : Trees) → m.added ≡ room ++ bytes_below below
          → new ≡ take top out ++ (header t Structure (length out - (top + 8)) ++ drop (top + 8) out) → new ≡ front ++ bytes (node t below)
      unfolding node_bytes
      structure_bytes below e put_in =
          let d = bytes_below below in
          let held : out ≡ front ++ (room ++ d) = m.all ∙ ap (λ (s : List ℕ). front ++ s) e in
          let flat : out ≡ (front ++ room) ++ d = held ∙ sym (append_assoc front room d) in
          let start : take top out ≡ front = ap (take top) held ∙ take_at front (room ++ d) top top_is in
          let eight : length (front ++ room) ≡ top + 8 = omega (arith, length-append front room, top_is) in
          let end : drop (top + 8) out ≡ d = ap (drop (top + 8)) flat ∙ drop_at (front ++ room) d (top + 8) eight in
          let n : length out - (top + 8) ≡ length d = omega (arith, ap length flat, length-append (front ++ room) d, eight) in
          put_in ∙ rw (start, end, n) refl

      structure_item : (r : Result Bool BadMember) (below : Result Trees BadMember) (items : Result (Unit {0}) BadMember)
          → tree_of (object json) ≡ node_of t below → AreSeen below items m.added
          → IfOk r (λ structure. (structure ≡ true) × (items ≡ Ok tt)
          × (new ≡ take top out ++ (header t Structure (length out - (top + 8)) ++ drop (top + 8) out)))
          → IfErr r (λ bad. (items ≡ Err bad) × (new ≡ out)) → AddsItem (tree_of (object json)) front new r
      structure_item (Ok structure) below items is seen ok err =
          let b = subst (λ i. AreSeen below i m.added) ok.1 seen in
          record {
            added = bytes (node t b.0);
            all = structure_bytes b.0 b.2 ok.2;
            is = (node t b.0, is ∙ ap (node_of t) b.1, ok.0, refl);
          }
      structure_item (Err bad) below items is seen ok err =
          let b = subst (λ i. AreSeen below i m.added) err.0 seen in
          record { added = m.added; all = err.1 ∙ m.all; is = is ∙ ap (node_of t) b }

      pub structure_ends : (at : ℕ) (r : Result Bool BadItem) → type_met met.typ ≡ Some Structure
          → IfOk r (λ structure. (structure ≡ true) × (items_at at value ≡ Ok tt)
          × (new ≡ take top out ++ (header t Structure (length out - (top + 8)) ++ drop (top + 8) out)))
          → IfErr r (λ bad. (items_at at value ≡ Err bad) × (new ≡ out)) → AddsItem (tree_of (object json)) front new (unplaced r)
      structure_ends at (Ok s) e ok err =
          structure_item (Ok s) (below_of all.c) (items_in value) (typed (Some Structure) e) all.seen.below
          (ok.0, items_plain at value ∙ ap unplaced ok.1, ok.2) tt
      structure_ends at (Err bad) e ok err =
          structure_item (Err bad.bad) (below_of all.c) (items_in value) (typed (Some Structure) e) all.seen.below tt
          (items_plain at value ∙ ap unplaced err.0, err.1)

      pub leaf_ends : (k : TtlvType) → k ≢ Structure → type_met met.typ ≡ Some k → (r : Result Bool BadMember)
          → AddsItem (leaf_of t k (content_of t k (text_in value) (truth_in value) (whole_in value))) (take top out) new r
          → AddsItem (tree_of (object json)) front new r
      leaf_ends k ne e r h =
          let start : take top out ≡ front = ap (take top) m.all ∙ take_at front m.added top top_is in
          let is : tree_of (object json) ≡ leaf_of t k (content_of t k (text_in value) (truth_in value) (whole_in value)) =
          typed (Some k) e ∙ typed_leaf t k all.c (below_of all.c) ne
          ∙ ap (λ s. leaf_of t k (content_of t k s (as_bool all.c) (whole_of_data all.c))) all.seen.text
          ∙ ap (λ b. leaf_of t k (content_of t k (text_in value) b (whole_of_data all.c))) all.seen.truth
          ∙ ap (λ w. leaf_of t k (content_of t k (text_in value) (truth_in value) w)) all.seen.whole in
          record {
            added = h.added;
            all = h.all ∙ ap (λ (s : List ℕ). s ++ h.added) start;
            is = subst (λ tree. IsItem tree r h.added) (sym is) h.is;
          }
