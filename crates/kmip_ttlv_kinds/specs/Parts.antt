-- What is known of an item, of a part of a structure and of a list of parts: what is written of it, what it is read as, which are sound, and
-- that of a sound one what is written comes back. Each kind of part makes this of what is known of its element, and a list of its parts.
use Rattle.std.proofs.Common.{◌≡◌, ◌==◌, ◌%◌, ◌^◌, ◌<◌, ◌∙◌, ap, refl, subst, sym, ℕ, Bool as Boole, true, false, List, [], ◌∷◌, length, Option, Some, None, option_map}
use Rattle.std.specs.Prelude.{◌&&◌, not, All, IfSome, ◌↔◌, IsTrue}
use Rattle.std.specs.{Option.option_eq, Cmp.Lexicographic.pointwise}
use Rattle.std.proofs.lemmas.Bool.{and_parts, eqb-true, not-true}
use Rattle.kmip_ttlv_types.specs.{declared.typ.TtlvType.TtlvType, Digits.tag_text}
use Rattle.kmip_ttlv_types.specs.declared.typ.TtlvType.TheVariants as types
use Rattle.kmip_ttlv_base.specs.Forms.{Form, option, seq, Fields, no_fields, field}
use Rattle.kmip_ttlv_base.specs.Values.{Value, seq_value, Values, no_values, value}
use Rattle.kmip_ttlv_base.specs.Visits.{joined, optional_field, Event, ReceivesEach, visited_in}
use Rattle.kmip_ttlv_base.proofs.Visiting.{visited_joined}
use Rattle.kmip_ttlv_reader.specs.{Reads.has_tag, Reads.names_tag, TagValues.TagValue}
use Rattle.kmip_ttlv_reader.specs.Spots.{optional_value, optional_values, structure_form, structure_value, values_by}
use Rattle.kmip_ttlv_parts.specs.{Boxes.boxed, Boxes.IsBoxed, declared.boxed.Boxed.Boxed}
use Rattle.kmip_ttlv_parts.specs.{Agreements.Head, Agreements.MessageAgrees, Agreements.is_run, MessageParts.sequence}
use Rattle.kmip_ttlv_parts.specs.Agreements.{Agrees, none_pending, absent_agrees, field_agrees, option_agrees}
use Rattle.kmip_ttlv_parts.proofs.{Equal.any_equal, Equal.in_structure, Equal.last_equal, Equal.options_equal, Equal.part_equal, Equal.several_equal}
use Rattle.kmip_ttlv_parts.proofs.Known.{Finds, Known, finds_left, finds_less, left}
use Rattle.kmip_ttlv_parts.proofs.TagNumbers.{IsTag, has_that, in_its_field, is_first, is_tagged, named_is_tagged}
use Rattle.kmip_ttlv_parts.proofs.MessageParts.{PartAgrees, PartsAgree, any_then, ends, every_agrees, head_or, if_present, neither_tagged, nothing_left}
use Rattle.kmip_ttlv_parts.proofs.MessageParts.{optional_then, part_then, several_then}
use Rattle.kmip_ttlv_parts.proofs.MessageRules.{PartKeeps, optional_stored_then, stored_then}
use Rattle.kmip_ttlv_parts.proofs.MessageParts as messages

-- ---- items

-- of a type whose values are read as one item: its tag and type, and what is written of it; of a sound one this comes back, and what is read
-- from it is equal; what it says is the text that is kept of it, by which a rule may choose a later part
pub record ItemRules (H : Type 0) (form : Form) (as_value : H → Value) : Type 1 where
  pub number : ℕ
  pub typ : TtlvType
  pub written : H → Value
  pub IsSound : H → Type 0
  pub eq : H → H → Boole
  pub single : (x : H) → is_run (as_value x) ≡ false
  pub agrees : IsTag number → (x : H) → IsSound x → PartAgrees form (written x) record { tag = number; typ = typ } (as_value x)
  pub says : Option (H → List ℕ)
  pub keeps : IsTag number → IfSome says (λ text. (x : H) → IsSound x
      → PartKeeps form (written x) record { tag = number; typ = typ } (as_value x) record { tag = number; text = text x })
  pub same : (x y : H) → as_value x ≡ as_value y → eq x y ≡ true

-- ---- parts

-- where these parts follow, these do with a part of this tag in front: with the head of their first item, which has no tag but these
pub record PartFollows (t : ℕ) (known : List Known) (fs : Fields) (ws : Values) (y : Option Head) (vs : Values) : Type 0 where
  pub head : Option Head
  pub other : (u : ℕ) → (u == t) ≡ false → is_tagged u y ≡ false → is_tagged u head ≡ false
  pub follows : PartsAgree known fs ws head vs

-- where what it needs is known, a part of this tag that is written so comes back, in front of any parts that do
abbrev pub PartLaw : ℕ → Form → Values → Value → (List Known → Type 0) → (List Known → List Known) → Type 0
PartLaw t s ws v Needs after =
    (known : List Known) (fs : Fields) (us : Values) (y : Option Head) (vs : Values)
    → IsTag t
    → is_tagged t y ≡ false
    → Needs known
    → PartsAgree (after known) fs us y vs
    → PartFollows t known (field (tag_text t) s fs) (joined ws us) y (value v vs)

-- of a part: its tag, and what is written of what it holds; `fits` is that its element has this tag, `free` that it needs nothing to be known
-- of what stands before it; `after` is what is known after it
pub record PartRules (H : Type 0) (form : Form) (as_value : H → Value) : Type 1 where
  pub tag : ℕ
  pub fits : Boole
  pub written : H → Values
  pub IsSound : H → Type 0
  pub Needs : H → List Known → Type 0
  pub after : H → List Known → List Known
  pub free : Boole
  pub enough : free ≡ true → (x : H) (known : List Known) → Needs x known
  pub eq : H → H → Boole
  pub agrees : fits ≡ true → (x : H) → IsSound x → PartLaw tag form (written x) (as_value x) (Needs x) (after x)
  pub same : (x y : H) → as_value x ≡ as_value y → eq x y ≡ true

-- nothing has to be known
abbrev pub NeedsNothing : {H : Type 0} → H → List Known → Type 0
NeedsNothing x known = Unit {0}

-- what is known after an item of this tag and form: what it says, if it says anything, and otherwise what it leaves
abbrev pub after_one : {H : Type 0} → ℕ → Form → Option (H → List ℕ) → H → List Known → List Known
after_one t s None x known = left known t s
after_one t s (Some text) x known = record { tag = t; text = Some (text x) } ∷ known

item_then : {H : Type 0} {s : Form} {g : H → Value} {fs : Fields} {us vs : Values} {y : Option Head} (i : ItemRules H s g) (says : Option (H → List ℕ)) (x : H)
    (known : List Known) → IsTag i.number
    → IfSome says (λ text. (z : H) → i.IsSound z
    → PartKeeps s (i.written z) record { tag = i.number; typ = i.typ } (g z) record { tag = i.number; text = text z })
    → i.IsSound x
    → PartsAgree (after_one i.number s says x known) fs us y vs
    → PartsAgree known (field (tag_text i.number) s fs) (value (i.written x) us) (Some record { tag = i.number; typ = i.typ }) (value (g x) vs)
item_then i None x known is keeps sound rest = part_then i.number is (i.single x) (i.agrees is x sound) rest
item_then i (Some text) x known is keeps sound rest = stored_then i.number is (i.single x) (keeps x sound) rest

pub one_law : {H : Type 0} {s : Form} {g : H → Value} (i : ItemRules H s g) (x : H) → i.IsSound x
    → PartLaw i.number s (value (i.written x) no_values) (g x) (NeedsNothing x) (after_one i.number s i.says x)
one_law i x sound known fs us y vs is apart needs rest = record {
  head = Some record { tag = i.number; typ = i.typ };
  other = λ u differs next. differs;
  follows = item_then i i.says x known is (i.keeps is) sound rest;
}

-- exactly one item
abbrev pub one : {H : Type 0} {s : Form} {g : H → Value} → ItemRules H s g → PartRules H s g
one {s = s} i = record {
  tag = i.number;
  fits = true;
  written = λ x. value (i.written x) no_values;
  IsSound = i.IsSound;
  Needs = NeedsNothing;
  after = after_one i.number s i.says;
  free = true;
  enough = λ free x known. tt;
  eq = i.eq;
  agrees = λ fits. one_law i;
  same = i.same;
}

-- the same after one that may be absent
abbrev pub after_maybe : {H : Type 0} → ℕ → Form → Option (H → List ℕ) → Option H → List Known → List Known
after_maybe t s None o known = left known t (option s)
after_maybe t s (Some text) o known = record { tag = t; text = option_map text o } ∷ known

maybe_then : {H : Type 0} {s : Form} {g : H → Value} {fs : Fields} {us vs : Values} {y : Option Head} (i : ItemRules H s g) (says : Option (H → List ℕ))
    (o : Option H) (known : List Known) → IsTag i.number
    → is_tagged i.number y ≡ false
    → IfSome says (λ text. (x : H) → i.IsSound x
    → PartKeeps s (i.written x) record { tag = i.number; typ = i.typ } (g x) record { tag = i.number; text = text x })
    → IfSome o i.IsSound
    → PartsAgree (after_maybe i.number s says o known) fs us y vs
    → PartsAgree known (field (tag_text i.number) (option s) fs) (joined (optional_field (option_map i.written o)) us)
    (head_or o record { tag = i.number; typ = i.typ } y) (value (optional_value g o) vs)
maybe_then {g = g} i None o known is apart keeps sound rest =
    optional_then i.written g record { tag = i.number; typ = i.typ } o is apart (if_present (i.agrees is) i.single o sound) rest
maybe_then {g = g} i (Some text) o known is apart keeps sound rest =
    optional_stored_then i.written g record { tag = i.number; typ = i.typ } text o is apart keeps i.single sound rest

pub maybe_law : {H : Type 0} {s : Form} {g : H → Value} (i : ItemRules H s g) (o : Option H) → IfSome o i.IsSound
    → PartLaw i.number (option s) (optional_field (option_map i.written o)) (optional_value g o) (NeedsNothing o) (after_maybe i.number s i.says o)
maybe_law {g = g} i o sound known fs us y vs is apart needs rest =
    let x : Head = record { tag = i.number; typ = i.typ } in
    record {
      head = head_or o x y;
      other = λ u differs next. neither_tagged u o x y differs next;
      follows = maybe_then i i.says o known is apart (i.keeps is) sound rest;
    }

-- what is true of a part of one tag is true of one of the same tag
pub at_tag : (s : Form) (ws : Values) (v : Value) (Needs : List Known → Type 0) (after : ℕ → List Known → List Known) (n t : ℕ) → (n == t) ≡ true
    → PartLaw n s ws v Needs (after n)
    → PartLaw t s ws v Needs (after t)
at_tag s ws v Needs after n t same law = subst (λ u. PartLaw u s ws v Needs (after u)) (eqb-true n t same) law

pub maybe_same : {H : Type 0} {s : Form} {g : H → Value} (i : ItemRules H s g) (x y : Option H) → optional_value g x ≡ optional_value g y
    → option_eq i.eq x y ≡ true
maybe_same {g = g} i None None e = options_equal g i.eq i.same None None e
maybe_same {g = g} i None (Some y) e = options_equal g i.eq i.same None (Some y) e
maybe_same {g = g} i (Some x) None e = options_equal g i.eq i.same (Some x) None e
maybe_same {g = g} i (Some x) (Some y) e = options_equal g i.eq i.same (Some x) (Some y) e

-- an item of this tag, or none
abbrev pub maybe : {H : Type 0} {s : Form} {g : H → Value} (t : ℕ) → ItemRules H s g → PartRules (Option H) (option s) (optional_value g)
maybe {s = s} t i = record {
  tag = t;
  fits = i.number == t;
  written = λ o. optional_field (option_map i.written o);
  IsSound = λ o. IfSome o i.IsSound;
  Needs = NeedsNothing;
  after = after_maybe t s i.says;
  free = true;
  enough = λ free o known. tt;
  eq = option_eq i.eq;
  agrees = λ fits o sound.
      at_tag _ (optional_field (option_map i.written o)) _ (NeedsNothing o) (λ u. after_maybe u s i.says o) i.number t fits
      (maybe_law i o sound);
  same = maybe_same i;
}

-- each of these is sound
unfoldable pub AreAll : {H : Type 0} → (H → Type 0) → List H → Type 0
AreAll P xs = All P xs

pub all_of : {H : Type 0} (P : H → Type 0) (xs : List H) → AreAll P xs → All P xs
unfolding AreAll
all_of P xs all = all

pub several_law : {H : Type 0} {s : Form} {g : H → Value} (i : ItemRules H s g) (xs : List H) → 0 < length xs → All i.IsSound xs
    → PartLaw i.number (seq s) (value (sequence i.written xs) no_values) (seq_value (values_by g xs)) (NeedsNothing xs) (λ known. left known i.number (seq s))
several_law {g = g} i xs some sound known fs us y vs is apart needs rest = record {
  head = Some record { tag = i.number; typ = i.typ };
  other = λ u differs next. differs;
  follows = several_then i.written g record { tag = i.number; typ = i.typ } xs is apart some (every_agrees (i.agrees is) i.single xs sound) rest;
}

-- items of this tag, at least one
abbrev pub several : {L H : Type 0} {s : Form} {g : H → Value} (t : ℕ) (items : L → List H) → ItemRules H s g
    → PartRules L (seq s) (λ l. seq_value (values_by g (items l)))
several {s = s} {g = g} t items i = record {
  tag = t;
  fits = i.number == t;
  written = λ l. value (sequence i.written (items l)) no_values;
  IsSound = λ l. (0 < length (items l)) × AreAll i.IsSound (items l);
  Needs = NeedsNothing;
  after = λ l known. left known t (seq s);
  free = true;
  enough = λ free l known. tt;
  eq = λ l m. pointwise i.eq (items l) (items m);
  agrees = λ fits l sound.
      at_tag _ (value (sequence i.written (items l)) no_values) _ (NeedsNothing l) (λ u known. left known u (seq s)) i.number t fits
      (several_law i (items l) sound.0 (all_of i.IsSound (items l) sound.1));
  same = λ l m e. several_equal g i.eq i.same (items l) (items m) e;
}

pub any_law : {H : Type 0} {s : Form} {g : H → Value} (i : ItemRules H s g) (xs : List H) → All i.IsSound xs
    → PartLaw i.number (option (seq s)) (value (sequence i.written xs) no_values) (optional_values g xs) (NeedsNothing xs)
    (λ known. left known i.number (option (seq s)))
any_law {g = g} i [] sound known fs us y vs is apart needs rest = record {
  head = y;
  other = λ u differs next. next;
  follows = any_then i.written g record { tag = i.number; typ = i.typ } [] is apart tt rest;
}
any_law {g = g} i (x ∷ xs) sound known fs us y vs is apart needs rest = record {
  head = Some record { tag = i.number; typ = i.typ };
  other = λ u differs next. differs;
  follows = any_then i.written g record { tag = i.number; typ = i.typ } (x ∷ xs) is apart (every_agrees (i.agrees is) i.single (x ∷ xs) sound) rest;
}

pub any_same : {H : Type 0} {s : Form} {g : H → Value} (i : ItemRules H s g) (xs ys : List H) → optional_values g xs ≡ optional_values g ys
    → pointwise i.eq xs ys ≡ true
any_same {g = g} i [] [] e = any_equal g i.eq i.same [] [] e
any_same {g = g} i [] (y ∷ ys) e = any_equal g i.eq i.same [] (y ∷ ys) e
any_same {g = g} i (x ∷ xs) [] e = any_equal g i.eq i.same (x ∷ xs) [] e
any_same {g = g} i (x ∷ xs) (y ∷ ys) e = any_equal g i.eq i.same (x ∷ xs) (y ∷ ys) e

-- items of this tag, any number
abbrev pub any : {L H : Type 0} {s : Form} {g : H → Value} (t : ℕ) (items : L → List H) → ItemRules H s g
    → PartRules L (option (seq s)) (λ l. optional_values g (items l))
any {s = s} t items i = record {
  tag = t;
  fits = i.number == t;
  written = λ l. value (sequence i.written (items l)) no_values;
  IsSound = λ l. AreAll i.IsSound (items l);
  Needs = NeedsNothing;
  after = λ l known. left known t (option (seq s));
  free = true;
  enough = λ free l known. tt;
  eq = λ l m. pointwise i.eq (items l) (items m);
  agrees = λ fits l sound.
      at_tag _ (value (sequence i.written (items l)) no_values) _ (NeedsNothing l) (λ u known. left known u (option (seq s))) i.number t fits
      (any_law i (items l) (all_of i.IsSound (items l) sound));
  same = λ l m e. any_same i (items l) (items m) e;
}

-- ---- lists of parts

-- this tag is none of those
abbrev pub is_none_of : ℕ → List ℕ → Boole
is_none_of t [] = true
is_none_of t (u ∷ us) = not (t == u) && is_none_of t us

-- each of the tags has three bytes, and no two are the same
abbrev pub are_distinct : List ℕ → Boole
are_distinct [] = true
are_distinct (t ∷ ts) = (t % 2 ^ 24 == t) && (is_none_of t ts && are_distinct ts)

-- no field has the tag of the first item behind them, if there is one
abbrev pub is_apart : Fields → Option ℕ → Boole
is_apart fs None = true
is_apart fs (Some t) = not (names_tag fs t)

-- parts of these tags that are written so come back, with this tag on the first item behind them, if there is one; their first item has no tag
-- but these
pub record ListFollows (ts : List ℕ) (behind : Option ℕ) (known : List Known) (fs : Fields) (ws vs : Values) : Type 0 where
  pub head : Option Head
  pub other : (u : ℕ) → is_none_of u ts ≡ true → is_first u behind ≡ false → is_tagged u head ≡ false
  pub follows : PartsAgree known fs ws head vs

-- of a list of parts: their tags, and what is written of what they hold; `behind` is the tag of the first item that is kept behind them, `ends`
-- that none ever is; `fit` is that each part has the tag of its element, `free` that none needs anything to be known
pub record ListRules (H : Type 0) (fields : Fields) (values : H → Values) : Type 1 where
  pub tags : List ℕ
  pub behind : H → Option ℕ
  pub ends : Boole
  pub nothing : ends ≡ true → (x : H) → behind x ≡ None
  pub fit : Boole
  pub written : H → Values
  pub IsSound : H → Type 0
  pub Needs : H → List Known → Type 0
  pub free : Boole
  pub enough : free ≡ true → (x : H) (known : List Known) → Needs x known
  pub eq : H → H → Boole
  pub agree : fit ≡ true → are_distinct tags ≡ true → (x : H) → IsSound x → is_apart fields (behind x) ≡ true → (known : List Known) → Needs x known
      → ListFollows tags (behind x) known fields (written x) (values x)
  pub same : (x y : H) → values x ≡ values y → eq x y ≡ true

not_same : (a b : Boole) → not a && b ≡ true → (a ≡ false) × (b ≡ true)
not_same a b e = let each = and_parts (not a) b e in (not-true a each.0, each.1)

neither : (a b : Boole) → not (elim a [ true ↦ true | false ↦ b ]) ≡ true → (a ≡ false) × (not b ≡ true)
neither true b e = absurd cc
neither false b e = (refl, e)

-- a tag that is apart from a field and others is not the field's, and apart from the others
apart_parts : (s : Form) (fs : Fields) (t : ℕ) (o : Option ℕ) → IsTag t → is_apart (field (tag_text t) s fs) o ≡ true
    → (is_first t o ≡ false) × (is_apart fs o ≡ true)
apart_parts s fs t None is e = (refl, refl)
apart_parts s fs t (Some u) is e =
    let each = neither (has_tag (tag_text t) u) (names_tag fs u) e in
    (sym (has_that t u is) ∙ each.0, each.1)

pub then_law : {t : ℕ} {ts : List ℕ} {s : Form} {us vs : Values} {v : Value} {fs : Fields} {Needs : List Known → Type 0} {after : List Known → List Known}
    (ws : Values) (known : List Known) (o : Option ℕ) → are_distinct (t ∷ ts) ≡ true
    → is_apart (field (tag_text t) s fs) o ≡ true
    → PartLaw t s ws v Needs after
    → Needs known
    → (are_distinct ts ≡ true → is_apart fs o ≡ true → ListFollows ts o (after known) fs us vs)
    → ListFollows (t ∷ ts) o known (field (tag_text t) s fs) (joined ws us) (value v vs)
then_law {t} {ts} {s = s} {fs = fs} ws known o distinct apart part needs rest =
    let tags = and_parts (t % 2 ^ 24 == t) (is_none_of t ts && are_distinct ts) distinct in
    let others = and_parts (is_none_of t ts) (are_distinct ts) tags.1 in
    let is = eqb-true (t % 2 ^ 24) t tags.0 in
    let from = apart_parts s fs t o is apart in
    let r = rest others.1 from.1 in
    let p = part known _ _ r.head _ is (r.other t others.0 from.0) needs r.follows in
    record {
      head = p.head;
      other = λ u e first. let each = not_same (u == t) (is_none_of u ts) e in p.other u each.0 (r.other u each.1 first);
      follows = p.follows;
    }

pub nothing_follows : (known : List Known) → ListFollows [] None known no_fields no_values no_values
nothing_follows known = record { head = None; other = λ u e first. refl; follows = nothing_left }

-- one part, with no other behind it
abbrev pub last : {H : Type 0} {s : Form} {g : H → Value} (p : PartRules H s g) → ListRules H (field (tag_text p.tag) s no_fields) (λ x. value (g x) no_values)
last p = record {
  tags = p.tag ∷ [];
  behind = λ x. None;
  ends = true;
  nothing = λ ends x. refl;
  fit = p.fits;
  written = λ x. joined (p.written x) no_values;
  IsSound = p.IsSound;
  Needs = p.Needs;
  free = p.free;
  enough = p.enough;
  eq = p.eq;
  agree = λ fit distinct x sound apart known needs.
      then_law (p.written x) known None distinct refl (p.agrees fit x sound) needs (λ d a. nothing_follows (p.after x known));
  same = λ x y e. last_equal (p.same x y) e;
}

-- a part, and others behind it
abbrev pub then : {H K : Type 0} {s : Form} {g : H → Value} {fs : Fields} {vs : K → Values} (p : PartRules H s g) → ListRules K fs vs
    → ListRules (H × K) (field (tag_text p.tag) s fs) (λ x. value (g x.0) (vs x.1))
then p r = record {
  tags = p.tag ∷ r.tags;
  behind = λ x. r.behind x.1;
  ends = r.ends;
  nothing = λ ends x. r.nothing ends x.1;
  fit = p.fits && r.fit;
  written = λ x. joined (p.written x.0) (r.written x.1);
  IsSound = λ x. p.IsSound x.0 × r.IsSound x.1;
  Needs = λ x known. p.Needs x.0 known × r.Needs x.1 (p.after x.0 known);
  free = p.free && r.free;
  enough = λ free x known. let each = and_parts p.free r.free free in (p.enough each.0 x.0 known, r.enough each.1 x.1 (p.after x.0 known));
  eq = λ x y. p.eq x.0 y.0 && r.eq x.1 y.1;
  agree = λ fit distinct x sound apart known needs.
      let fits = and_parts p.fits r.fit fit in
      then_law (p.written x.0) known (r.behind x.1) distinct apart (p.agrees fits.0 x.0 sound.0) needs.0
      (λ d a. r.agree fits.1 d x.1 sound.1 a (p.after x.0 known) needs.1);
  same = λ x y e. part_equal (p.same x.0 y.0) (r.same x.1 y.1) e;
}

-- the same of what holds them in another way
abbrev pub of : {H K : Type 0} {fs : Fields} {vs : K → Values} (f : H → K) → ListRules K fs vs → ListRules H fs (λ x. vs (f x))
of f r = record {
  tags = r.tags;
  behind = λ x. r.behind (f x);
  ends = r.ends;
  nothing = λ ends x. r.nothing ends (f x);
  fit = r.fit;
  written = λ x. r.written (f x);
  IsSound = λ x. r.IsSound (f x);
  Needs = λ x. r.Needs (f x);
  free = r.free;
  enough = λ free x. r.enough free (f x);
  eq = λ x y. r.eq (f x) (f y);
  agree = λ fit distinct x. r.agree fit distinct (f x);
  same = λ x y. r.same (f x) (f y);
}

-- what is written of parts, one after the other
unfoldable pub block : List Values → Values
block [] = no_values
block (ws ∷ others) = joined ws (block others)

-- what is written of four parts, and of those behind them
unfoldable pub blocks : Values → Values → Values
blocks ws others = joined ws others

-- two, three and four parts are sound
unfoldable pub AreTwo : Type 0 → Type 0 → Type 0
AreTwo A B = A × B

unfoldable pub AreThree : Type 0 → Type 0 → Type 0 → Type 0
AreThree A B C = A × (B × C)

unfoldable pub AreFour : Type 0 → Type 0 → Type 0 → Type 0 → Type 0
AreFour A B C D = A × (B × (C × D))

pub two_of : {A B : Type 0} → AreTwo A B → A × B
unfolding AreTwo
two_of is = is

pub three_of : {A B C : Type 0} → AreThree A B C → A × (B × C)
unfolding AreThree
three_of is = is

pub four_of : {A B C D : Type 0} → AreFour A B C D → A × (B × (C × D))
unfolding AreFour
four_of is = is

pub more_of : {A B C D E : Type 0} → AreFour A B C D × E → A × (B × (C × (D × E)))
unfolding AreFour
more_of is = (is.0.0, (is.0.1.0, (is.0.1.1.0, (is.0.1.1.1, is.1))))

-- the same list, where what is written and what is sound is said in blocks
abbrev pub in_blocks : {H : Type 0} {fs : Fields} {vs : H → Values} (f : H → Values) (P : H → Type 0) (r : ListRules H fs vs) → ((x : H) → r.written x ≡ f x)
    → ((x : H) → P x → r.IsSound x)
    → ListRules H fs vs
in_blocks {fs = fs} {vs = vs} f P r equal sound_of = record {
  tags = r.tags;
  behind = r.behind;
  ends = r.ends;
  nothing = r.nothing;
  fit = r.fit;
  written = f;
  IsSound = P;
  Needs = r.Needs;
  free = r.free;
  enough = r.enough;
  eq = r.eq;
  agree = λ fit distinct x sound apart known needs.
      subst (λ ws. ListFollows r.tags (r.behind x) known fs ws (vs x)) (equal x) (r.agree fit distinct x (sound_of x sound) apart known needs);
  same = r.same;
}

pub is_one : (a : Values) → joined a no_values ≡ block (a ∷ [])
unfolding block
is_one a = refl

pub are_two : (a b : Values) → joined a (joined b no_values) ≡ block (a ∷ b ∷ [])
unfolding block
are_two a b = refl

pub are_three : (a b c : Values) → joined a (joined b (joined c no_values)) ≡ block (a ∷ b ∷ c ∷ [])
unfolding block
are_three a b c = refl

pub are_four : (a b c d : Values) → joined a (joined b (joined c (joined d no_values))) ≡ block (a ∷ b ∷ c ∷ d ∷ [])
unfolding block
are_four a b c d = refl

joined_first : (a b c : Values) → joined a (joined b c) ≡ joined (joined a b) c
joined_first no_values b c = refl
joined_first (value v vs) b c = ap (value v) (joined_first vs b c)

-- one, and those behind it
pub is_one_more : (a behind : Values) → joined a behind ≡ blocks (block (a ∷ [])) behind
unfolding block blocks
is_one_more a behind = joined_first a no_values behind

-- four, and those behind them
pub are_more : (a b c d behind : Values) → joined a (joined b (joined c (joined d behind))) ≡ blocks (block (a ∷ b ∷ c ∷ d ∷ [])) behind
unfolding block blocks
are_more a b c d behind =
    ap (λ ws. joined a (joined b (joined c ws))) (joined_first d no_values behind)
    ∙ ap (λ ws. joined a (joined b ws)) (joined_first c (joined d no_values) behind)
    ∙ ap (joined a) (joined_first b (joined c (joined d no_values)) behind)
    ∙ joined_first a (joined b (joined c (joined d no_values))) behind

-- ---- structures

-- no two of these parts have one tag, and each has that of its element
abbrev pub are_fit : {H : Type 0} {fs : Fields} {vs : H → Values} → ListRules H fs vs → Boole
are_fit r = r.fit && are_distinct r.tags

-- and nothing is kept behind them
abbrev pub is_fit : {H : Type 0} {fs : Fields} {vs : H → Values} → ListRules H fs vs → Boole
is_fit r = are_fit r && r.ends

-- and none needs anything to be known
abbrev pub is_good : {H : Type 0} {fs : Fields} {vs : H → Values} → ListRules H fs vs → Boole
is_good r = is_fit r && r.free

-- no two of these parts have one tag, each has that of its element, and none needs anything to be known
abbrev pub are_good : {H : Type 0} {fs : Fields} {vs : H → Values} → ListRules H fs vs → Boole
are_good r = are_fit r && r.free

-- what a walk is told: what is written, and whether it is sound
pub record Told : Type 1 where
  pub written : Values
  pub IsSound : Type 0

-- of an item
abbrev pub told_item : {H : Type 0} {s : Form} {g : H → Value} → ItemRules H s g → H → Told
told_item i x = record { written = value (i.written x) no_values; IsSound = i.IsSound x }

-- of four parts, and of those behind them
abbrev pub told_both : Told → Told → Told
told_both t u = record { written = blocks t.written u.written; IsSound = t.IsSound × u.IsSound }

-- of what is sound only if this holds too
abbrev pub and_told : Told → Type 0 → Told
and_told t P = record { written = t.written; IsSound = t.IsSound × P }

-- of parts
abbrev pub told_parts : Values → Type 0 → Told
told_parts ws P = record { written = ws; IsSound = P }

-- of a type that is a structure under any tag: its parts' names and forms, whether an item behind them is an error, what it is read as, what is
-- written of it, which are sound, and that these come back
pub record StructureRules (H : Type 0) : Type 1 where
  pub fields : Fields
  pub closed : Boole
  pub values : H → Values
  pub written : H → Values
  pub IsSound : H → Type 0
  pub eq : H → H → Boole
  pub agrees : (n : ℕ) → IsTag n → (x : H) → IsSound x
      → PartAgrees (structure_form n fields closed) (structure_value n written x) record { tag = n; typ = types.Structure } (structure_value n values x)
  pub same : (x y : H) → values x ≡ values y → eq x y ≡ true

pub list_agrees : {K : Type 0} {fs : Fields} {vs : K → Values} (n : ℕ) (closed : Boole) (r : ListRules K fs vs) → are_fit r ≡ true → IsTag n
    → (k : K) → r.IsSound k
    → is_apart fs (r.behind k) ≡ true
    → r.Needs k []
    → PartAgrees (structure_form n fs closed) (structure_value n r.written k) record { tag = n; typ = types.Structure } (structure_value n vs k)
list_agrees n closed r fit is k sound apart needs =
    let each = and_parts r.fit (are_distinct r.tags) fit in
    messages.structure n is (r.agree each.0 each.1 k sound apart [] needs).follows

-- where nothing is kept behind parts, they are apart from it
pub nothing_apart : {K : Type 0} {fs : Fields} {vs : K → Values} (r : ListRules K fs vs) → r.ends ≡ true → (k : K) → is_apart fs (r.behind k) ≡ true
nothing_apart r ends k = rw (r.nothing ends k) refl

-- a structure of these parts, by the `==` of its type
abbrev pub structure : {H K : Type 0} {fs : Fields} {vs : K → Values} (closed : Boole) (r : ListRules K fs vs) (parts : H → K) → is_good r ≡ true
    → (eq : H → H → Boole)
    → ((x y : H) → r.eq (parts x) (parts y) ≡ true → eq x y ≡ true)
    → StructureRules H
structure {fs = fs} {vs = vs} closed r parts good eq equal =
    let each = and_parts (is_fit r) r.free good in
    let fit = and_parts (are_fit r) r.ends each.0 in
    record {
      fields = fs;
      closed = closed;
      values = λ x. vs (parts x);
      written = λ x. r.written (parts x);
      IsSound = λ x. r.IsSound (parts x);
      eq = eq;
      agrees = λ n is x sound.
          list_agrees n closed r fit.0 is (parts x) sound (nothing_apart r fit.1 (parts x)) (r.enough each.1 (parts x) []);
      same = λ x y e. equal x y (r.same (parts x) (parts y) e);
    }

-- what is kept behind the parts of a structure begins with no item of a part's tag
abbrev pub IsApart : {H K : Type 0} {fs : Fields} {vs : K → Values} → ListRules K fs vs → (H → K) → H → Type 0
IsApart {fs = fs} r parts x = is_apart fs (r.behind (parts x)) ≡ true

-- a structure of these parts that keeps what stands behind them: it is sound if they are, and this begins with no item of a part's tag
abbrev pub keeping_structure : {H K : Type 0} {fs : Fields} {vs : K → Values} (r : ListRules K fs vs) (parts : H → K) → are_good r ≡ true
    → (eq : H → H → Boole)
    → ((x y : H) → r.eq (parts x) (parts y) ≡ true → eq x y ≡ true)
    → StructureRules H
keeping_structure {fs = fs} {vs = vs} r parts good eq equal =
    let each = and_parts (are_fit r) r.free good in
    record {
      fields = fs;
      closed = true;
      values = λ x. vs (parts x);
      written = λ x. r.written (parts x);
      IsSound = λ x. r.IsSound (parts x) × IsApart r parts x;
      eq = eq;
      agrees = λ n is x sound. list_agrees n true r each.0 is (parts x) sound.0 sound.1 (r.enough each.1 (parts x) []);
      same = λ x y e. equal x y (r.same (parts x) (parts y) e);
    }

-- one with parts that need something to be known: it is sound if its parts are, and what is decided of it is true, from which this follows
abbrev pub structure_where : {H K : Type 0} {fs : Fields} {vs : K → Values} (closed : Boole) (r : ListRules K fs vs) (parts : H → K) → is_fit r ≡ true
    → (Decides : H → Type 0)
    → ((x : H) → Decides x → r.Needs (parts x) [])
    → (eq : H → H → Boole)
    → ((x y : H) → r.eq (parts x) (parts y) ≡ true → eq x y ≡ true)
    → StructureRules H
structure_where {fs = fs} {vs = vs} closed r parts good Decides needed eq equal =
    let fit = and_parts (are_fit r) r.ends good in
    record {
      fields = fs;
      closed = closed;
      values = λ x. vs (parts x);
      written = λ x. r.written (parts x);
      IsSound = λ x. r.IsSound (parts x) × Decides x;
      eq = eq;
      agrees = λ n is x sound. list_agrees n closed r fit.0 is (parts x) sound.0 (nothing_apart r fit.1 (parts x)) (needed x sound.1);
      same = λ x y e. equal x y (r.same (parts x) (parts y) e);
    }

-- what a walk is told of a structure
abbrev pub told_of : {H : Type 0} → StructureRules H → H → Told
told_of s x = record { written = s.written x; IsSound = s.IsSound x }

-- ---- walks

-- what becomes of the state of a walk: where something is told, and where something is checked. What is told of four parts, and then of those
-- behind them, is told of all; what was told is sound only if what is then checked holds too
pub record Steps (S : Type 0) : Type 1 where
  pub Takes : S → Told → S → Type 0
  pub Checks : S → Type 0 → S → Type 0
  pub behind : (from between to : S) (t u : Told) → Takes from t between → Takes between u to → Takes from (told_both t u) to
  pub checked : (from between to : S) (t : Told) (P : Type 0) → Takes from t between → Checks between P to → Takes from (and_told t P) to

visited_blocks : {S : Type 0} (step : Event → S → S) (ws vs : Values) (s : S) → visited_in step (blocks ws vs) s ≡ visited_in step vs (visited_in step ws s)
unfolding blocks
visited_blocks step ws vs s = visited_joined step ws vs s

-- a visitor that is called with these, and then with those, is called with both
pub blocks_received : {V S : Type 0} (knows : V → S → Type 0) (step : Event → S → S) (ws vs : Values) (old between new : V)
    → ReceivesEach knows step ws old between
    → ReceivesEach knows step vs between new
    → ReceivesEach knows step (blocks ws vs) old new
blocks_received knows step ws vs old between new parts behind =
    λ s known. subst (knows new) (sym (visited_blocks step ws vs s)) (behind _ (parts s known))

-- of the walk that calls a visitor
abbrev pub visiting : {V S : Type 0} (knows : V → S → Type 0) (step : Event → S → S) → Steps V
visiting knows step = record {
  Takes = λ old t new. ReceivesEach knows step t.written old new;
  Checks = λ old P new. new ≡ old;
  behind = λ from between to t u first then. blocks_received knows step t.written u.written from between to first then;
  checked = λ from between to t P told same. subst (ReceivesEach knows step t.written from) (sym same) told;
}

pub judged_both : {old between new : Boole} {A B : Type 0} → IsTrue between ↔ (IsTrue old × A) → IsTrue new ↔ (IsTrue between × B)
    → IsTrue new ↔ (IsTrue old × (A × B))
judged_both first then = (
  λ is. let each = then.0 is in let before = first.0 each.0 in (before.0, (before.1, each.1)),
  λ all. then.1 (first.1 (all.0, all.1.0), all.1.1),
)

-- of the walk that asks whether all is sound
abbrev pub judging : Steps Boole
judging = record {
  Takes = λ old t new. IsTrue new ↔ (IsTrue old × t.IsSound);
  Checks = λ old P new. IsTrue new ↔ (IsTrue old × P);
  behind = λ from between to t u first then. judged_both first then;
  checked = λ from between to t P told both. judged_both told both;
}

-- what a function gives of a structure within another: not looked into, so that no proof computes all that is in it
unfoldable pub within : {H : Type 0} → (H → Values) → H → Values
within f x = f x

-- the same of what holds of it
unfoldable pub IsWithinSound : {H : Type 0} → (H → Type 0) → H → Type 0
IsWithinSound P x = P x

pub nested_agrees : {H : Type 0} (n : ℕ) (s : StructureRules H) → IsTag n → (x : H) → IsWithinSound s.IsSound x
    → PartAgrees (structure_form n s.fields s.closed) (structure_value n (within s.written) x) record { tag = n; typ = types.Structure }
    (structure_value n (within s.values) x)
unfolding within IsWithinSound
nested_agrees n s is x sound = s.agrees n is x sound

pub nested_same : {H : Type 0} (n : ℕ) (s : StructureRules H) (x y : H) → structure_value n (within s.values) x ≡ structure_value n (within s.values) y
    → s.eq x y ≡ true
unfolding within
nested_same n s x y e = s.same x y (in_structure e)

-- a structure as an item of this tag
abbrev pub structure_item : {H : Type 0} (n : ℕ) (s : StructureRules H)
    → ItemRules H (structure_form n s.fields s.closed) (structure_value n (within s.values))
structure_item n s = record {
  number = n;
  typ = types.Structure;
  written = structure_value n (within s.written);
  IsSound = IsWithinSound s.IsSound;
  eq = s.eq;
  single = λ x. refl;
  agrees = nested_agrees n s;
  says = None;
  keeps = λ is. tt;
  same = nested_same n s;
}

-- an item that is held as something of which this makes it
abbrev pub item_of : {H K : Type 0} {s : Form} {g : K → Value} (f : H → K) → ItemRules K s g → ItemRules H s (λ x. g (f x))
item_of f i = record {
  number = i.number;
  typ = i.typ;
  written = λ x. i.written (f x);
  IsSound = λ x. i.IsSound (f x);
  eq = λ x y. i.eq (f x) (f y);
  single = λ x. i.single (f x);
  agrees = λ is x. i.agrees is (f x);
  says = None;
  keeps = λ is. tt;
  same = λ x y. i.same (f x) (f y);
}

-- an item on the heap: what is in the box
abbrev pub in_a_box : {H A : Type 0} {s : Form} {g : H → Value} → ItemRules H s g → ItemRules (Boxed H A) s (boxed g)
in_a_box i = record {
  number = i.number;
  typ = i.typ;
  written = boxed i.written;
  IsSound = IsBoxed i.IsSound;
  eq = λ x y. i.eq x.inner.value y.inner.value;
  single = λ x. i.single x.inner.value;
  agrees = λ is x sound. i.agrees is x.inner.value sound;
  says = None;
  keeps = λ is. tt;
  same = λ x y e. i.same x.inner.value y.inner.value e;
}

-- a whole message
pub message_agrees : {H : Type 0} {s : Form} {g : H → Value} (i : ItemRules H s g) → IsTag i.number → (x : H) → i.IsSound x
    → MessageAgrees s (i.written x) (g x)
message_agrees i is x sound = messages.message (i.agrees is x sound)

-- ---- choices

-- where this is known, the value agrees with the form as the other, as an item of this head
pub record KnownAgrees (known : List Known) (s : Form) (w : Value) (x : Head) (v : Value) : Type 0 where
  pub stored : List TagValue → List TagValue
  pub agrees : (k : List TagValue) → Finds known k → Agrees s k none_pending w x v (stored k)

-- of a type whose values are read as one item of one tag, by a rule: `Needs` is what has to be known so that the rule chooses what it holds;
-- `free` is that this is nothing
pub record ChoiceRules (H : Type 0) (form : Form) (as_value : H → Value) : Type 1 where
  pub number : ℕ
  pub typ : H → TtlvType
  pub written : H → Value
  pub IsSound : H → Type 0
  pub Needs : H → List Known → Type 0
  pub free : Boole
  pub enough : free ≡ true → (x : H) (known : List Known) → Needs x known
  pub eq : H → H → Boole
  pub single : (x : H) → is_run (as_value x) ≡ false
  pub agrees : IsTag number → (x : H) → IsSound x → (known : List Known) → Needs x known
      → KnownAgrees known form (written x) record { tag = number; typ = typ x } (as_value x)
  pub same : (x y : H) → as_value x ≡ as_value y → eq x y ≡ true

-- a part that a rule chooses
choice_then : {known : List Known} {typ : TtlvType} {s : Form} {fs : Fields} {w v : Value} {us vs : Values} {y : Option Head} (t : ℕ) → IsTag t
    → is_run v ≡ false
    → KnownAgrees known s w record { tag = t; typ = typ } v
    → PartsAgree (left known t s) fs us y vs
    → PartsAgree known (field (tag_text t) s fs) (value w us) (Some record { tag = t; typ = typ }) (value v vs)
choice_then {known = known} {typ = typ} {s = s} {v = v} {y = y} t is single p rest =
    let x : Head = record { tag = t; typ = typ } in
    record {
      stored = λ k. rest.stored (p.stored k);
      agrees = λ k found. let a = p.agrees k found in
          field_agrees (in_its_field s x is) (ends v x y single) a (rest.agrees (p.stored k) (finds_left known a found));
    }

pub choice_law : {H : Type 0} {s : Form} {g : H → Value} (c : ChoiceRules H s g) (x : H) → c.IsSound x
    → PartLaw c.number s (value (c.written x) no_values) (g x) (c.Needs x) (λ known. left known c.number s)
choice_law c x sound known fs us y vs is apart needs rest = record {
  head = Some record { tag = c.number; typ = c.typ x };
  other = λ u differs next. differs;
  follows = choice_then c.number is (c.single x) (c.agrees is x sound known needs) rest;
}

-- exactly one item of this tag, which a rule chooses
abbrev pub one_of : {H : Type 0} {s : Form} {g : H → Value} (t : ℕ) → ChoiceRules H s g → PartRules H s g
one_of {s = s} t c = record {
  tag = t;
  fits = c.number == t;
  written = λ x. value (c.written x) no_values;
  IsSound = c.IsSound;
  Needs = c.Needs;
  after = λ x known. left known t s;
  free = c.free;
  enough = c.enough;
  eq = c.eq;
  agrees = λ fits x sound.
      at_tag _ (value (c.written x) no_values) _ (c.Needs x) (λ u known. left known u s) c.number t fits (choice_law c x sound);
  same = c.same;
}

pub maybe_choice_law : {H : Type 0} {s : Form} {g : H → Value} (c : ChoiceRules H s g) (o : Option H) → IfSome o c.IsSound
    → PartLaw c.number (option s) (optional_field (option_map c.written o)) (optional_value g o) (λ known. IfSome o (λ x. c.Needs x known))
    (λ known. left known c.number (option s))
maybe_choice_law {s = s} c None sound known fs us y vs is apart needs rest = record {
  head = y;
  other = λ u differs next. next;
  follows = record {
    stored = rest.stored;
    agrees = λ k found. absent_agrees (named_is_tagged c.number y is ∙ apart) (rest.agrees k (finds_less known k c.number (option s) found));
  };
}
maybe_choice_law c (Some x) sound known fs us y vs is apart needs rest =
    let p = c.agrees is x sound known needs in
    record {
      head = Some record { tag = c.number; typ = c.typ x };
      other = λ u differs next. differs;
      follows = choice_then c.number is (c.single x) record { stored = p.stored; agrees = λ k found. option_agrees (p.agrees k found) } rest;
    }

pub all_enough : {H : Type 0} {P : H → Type 0} (o : Option H) → ((x : H) → P x) → IfSome o P
all_enough None p = tt
all_enough (Some x) p = p x

pub maybe_choice_same : {H : Type 0} {s : Form} {g : H → Value} (c : ChoiceRules H s g) (x y : Option H) → optional_value g x ≡ optional_value g y
    → option_eq c.eq x y ≡ true
maybe_choice_same {g = g} c None None e = options_equal g c.eq c.same None None e
maybe_choice_same {g = g} c None (Some y) e = options_equal g c.eq c.same None (Some y) e
maybe_choice_same {g = g} c (Some x) None e = options_equal g c.eq c.same (Some x) None e
maybe_choice_same {g = g} c (Some x) (Some y) e = options_equal g c.eq c.same (Some x) (Some y) e

-- an item of this tag, which a rule chooses, or none
abbrev pub maybe_one_of : {H : Type 0} {s : Form} {g : H → Value} (t : ℕ) → ChoiceRules H s g → PartRules (Option H) (option s) (optional_value g)
maybe_one_of {s = s} t c = record {
  tag = t;
  fits = c.number == t;
  written = λ o. optional_field (option_map c.written o);
  IsSound = λ o. IfSome o c.IsSound;
  Needs = λ o known. IfSome o (λ x. c.Needs x known);
  after = λ o known. left known t (option s);
  free = c.free;
  enough = λ free o known. all_enough o (λ x. c.enough free x known);
  eq = option_eq c.eq;
  agrees = λ fits o sound.
      at_tag _ (optional_field (option_map c.written o)) _ (λ known. IfSome o (λ x. c.Needs x known)) (λ u known. left known u (option s)) c.number t fits
      (maybe_choice_law c o sound);
  same = maybe_choice_same c;
}

-- what a walk is told of a choice
abbrev pub told_choice : {H : Type 0} {s : Form} {g : H → Value} → ChoiceRules H s g → H → Told
told_choice c x = record { written = value (c.written x) no_values; IsSound = c.IsSound x }
