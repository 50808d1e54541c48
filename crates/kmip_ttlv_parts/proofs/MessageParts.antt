-- Structures whose parts agree with themselves, field by field: lemmas for a message type's own proof.
use Rattle.std.proofs.Common.{◌≡◌, ◌<◌, subst, FitsSigned, ℤ, ℕ, Bool as Boole, true, false, List, [], ◌++◌, ◌∷◌, Some, None, Option, option_map, map, length}
use Rattle.std.proofs.Common.{◌==◌, refl, sym, ap, ◌∙◌, arith, String, string_bytes}
use Rattle.std.proofs.{Math.Bool.and-false, lemmas.Bool.or_parts}
use Rattle.std.proofs.lemmas.{Bool.eqb-true, Bool.false≢true, List.Elements.recursion_from_All, Str.IsUtf8-string_bytes, Str.is_utf8-from_IsUtf8, Int.to_z-of_z}
use Rattle.std.specs.Prelude.{◌||◌, ◌%◌, All, IfSome}
use Rattle.std.specs.{List.AllByRecursion, Int.w32, Int.w64, Str.is_utf8}
use Rattle.kmip_ttlv_types.specs.{declared.typ.TtlvType.TtlvType, Primitives.sign_extended, Names.number, Names.transparent_name, Digits.tag_text}
use Rattle.kmip_ttlv_types.specs.declared.typ.TtlvType.TheVariants.{Structure, Integer, LongInteger, BigInteger, Enumeration, Boolean, TextString, ByteString}
use Rattle.kmip_ttlv_types.specs.declared.typ.TtlvType.TheVariants.{DateTime, Interval}
use Rattle.kmip_ttlv_base.specs.Forms.{Form, big_integer, date_time, int32, int64, struct, option, newtype, enum, seq, Fields, no_fields, field, Variants}
use Rattle.kmip_ttlv_base.specs.Values.{Value, big_integer_value, date_time_value, i32_value, i64_value, newtype_value, unit_variant_value, some_value}
use Rattle.kmip_ttlv_base.specs.Values.{none_value, seq_value, struct_value, Values, no_values, value, values_of}
use Rattle.kmip_ttlv_base.specs.Visits.{joined, optional_field}
use Rattle.kmip_ttlv_base.proofs.TagNames.{transparent_wrapper}
use Rattle.kmip_ttlv_parts.specs.MessageParts.{by_bits, optional as read_optional, optional_sequence, sequence, tagged}
use Rattle.kmip_ttlv_ser.specs.declared.pending.PendingTag.{PendingTag, TheVariants.Nothing}
use Rattle.kmip_ttlv_ser.specs.WrittenItems.{take_tag, pending_tag}
use Rattle.kmip_ttlv_reader.specs.{TagValues.TagValue, Reads.has_tag, Spots.wrapped_leaf}
use Rattle.kmip_ttlv_parts.specs.Agreements.{Head, Agrees, FieldsAgree, IsNumbered, MessageAgrees, RunAgrees, Wraps, absent_agrees, field_agrees, inner_agrees}
use Rattle.kmip_ttlv_parts.specs.Agreements.{is_alike, is_named, is_field_of, is_run, goes_on, last_agrees, leaf_agrees, leaf_type, newtype_agrees}
use Rattle.kmip_ttlv_parts.specs.Agreements.{newtype_encodes, newtype_wraps, next_agrees, no_field_agrees, nothing_agrees, number_agrees, option_agrees}
use Rattle.kmip_ttlv_parts.specs.Agreements.{seq_agrees, struct_agrees, struct_encodes, unit_is_numbered}
use Rattle.kmip_ttlv_parts.proofs.Returns.{leaf_of}
use Rattle.kmip_ttlv_parts.proofs.TagNumbers.{IsTag, has_own, in_its_field, is_tagged, named_is_tagged, takes_tag}
use Rattle.kmip_ttlv_parts.proofs.Known.{Finds, Known, finds_left, finds_less, finds_none, left}
use Rattle.kmip_ttlv_parts.specs.Returns.{ComesBack, as_big_integer, as_date_time, as_int32, as_int64, NamesUnit, text_of_number}

-- whatever was kept before, the value agrees with the form as the other, as an item of this head
pub record PartAgrees (s : Form) (w : Value) (x : Head) (v : Value) : Type 0 where
  pub stored : List TagValue → List TagValue
  pub agrees : (k : List TagValue) → Agrees s k Nothing w x v (stored k)

-- the same for fields, where these texts are known; of their items, if there are any, the first has this head
pub record PartsAgree (known : List Known) (fs : Fields) (ws : Values) (y : Option Head) (vs : Values) : Type 0 where
  pub stored : List TagValue → List TagValue
  pub agrees : (k : List TagValue) → Finds known k → FieldsAgree fs k ws y vs (stored k)

-- the bytes of a text are UTF-8
pub text_is_utf8 : {A : Type 0} (s : String A) → is_utf8 (string_bytes s) ≡ true
text_is_utf8 s = is_utf8-from_IsUtf8 (string_bytes s) (IsUtf8-string_bytes s)

-- no fields are left
pub nothing_left : {known : List Known} → PartsAgree known no_fields no_values None no_values
nothing_left = record { stored = λ k. k; agrees = λ k found. no_field_agrees }

-- a value that is no sequence isn't continued
pub ends : (v : Value) (x : Head) (y : Option Head) → is_run v ≡ false → goes_on v x y ≡ false
ends v x y single = rw single refl

-- a field: what follows doesn't continue it, and after it is known what it leaves
pub field_then : {known : List Known} {name : List ℕ} {s : Form} {fs : Fields} {w v : Value} {ws vs : Values} {x : Head} {y : Option Head}
    → is_field_of name s x ≡ true → goes_on v x y ≡ false → PartAgrees s w x v → PartsAgree (left known x.tag s) fs ws y vs
    → PartsAgree known (field name s fs) (value w ws) (Some x) (value v vs)
field_then {known} named apart p rest = record {
  stored = λ k. rest.stored (p.stored k);
  agrees = λ k found. field_agrees named apart (p.agrees k) (rest.agrees (p.stored k) (finds_left known (p.agrees k) found));
}

-- a leaf in a newtype of the name `Transparent:TAG`
pub named_leaf : {name inner : List ℕ} {s : Form} {w v : Value} {t : ℕ} → transparent_name name ≡ Some inner → take_tag Nothing inner ≡ Some t → ComesBack s w v
    → PartAgrees (newtype name s) (newtype_value name w) record { tag = t; typ = leaf_type w } (newtype_value name v)
named_leaf wraps takes back = record { stored = _; agrees = λ k. newtype_agrees (inner_agrees (newtype_wraps wraps takes) (leaf_agrees refl back)) }

-- a field that is no sequence, in the field of its tag
pub part_then : {known : List Known} {typ : TtlvType} {s : Form} {fs : Fields} {w v : Value} {ws vs : Values} {y : Option Head} (t : ℕ) → IsTag t
    → is_run v ≡ false → PartAgrees s w record { tag = t; typ = typ } v → PartsAgree (left known t s) fs ws y vs
    → PartsAgree known (field (tag_text t) s fs) (value w ws) (Some record { tag = t; typ = typ }) (value v vs)
part_then {typ = typ} {s = s} {v = v} {y = y} t is single p rest =
    let x : Head = record { tag = t; typ = typ } in
    field_then (in_its_field s x is) (ends v x y single) p rest

-- a leaf under this tag
pub leaf_part : {s : Form} {w v : Value} (t : ℕ) → IsTag t → ComesBack s w v
    → PartAgrees (wrapped_leaf t s) (tagged t w) record { tag = t; typ = leaf_type w } (tagged t v)
leaf_part t is back = named_leaf (transparent_wrapper t) (takes_tag t is) back

-- the same in the field of that tag
pub leaf_then : {known : List Known} {s : Form} {fs : Fields} {w v : Value} {ws vs : Values} {y : Option Head} (t : ℕ) → IsTag t → ComesBack s w v
    → PartsAgree (left known t (wrapped_leaf t s)) fs ws y vs → PartsAgree known (field (tag_text t) (wrapped_leaf t s) fs) (value (tagged t w) ws)
    (Some record { tag = t; typ = leaf_type w }) (value (tagged t v) vs)
leaf_then {s = s} {w = w} {v = v} t is back rest = part_then t is (leaf_of s w v back).single (leaf_part t is back) rest

-- a unit by its number
pub unit_agrees : {tag vname name : List ℕ} {vs : Variants} {t n : ℕ} → take_tag Nothing tag ≡ Some t → number vname ≡ Some n → text_of_number n ≡ name
    → (k : List TagValue) → NamesUnit vs k n → Agrees (enum tag vs) k Nothing (unit_variant_value tag vname) record { tag = t; typ = Enumeration }
    (unit_variant_value tag name) (k ++ record { tag = t; text = text_of_number n } ∷ [])
unit_agrees {tag} {vname} {name} {vs} {t} {n} takes numbered text k units =
    let P : List ℕ → Type 0 = λ m. Agrees (enum tag vs) k Nothing (unit_variant_value tag vname) record { tag = t; typ = Enumeration }
    (unit_variant_value tag m) (k ++ record { tag = t; text = text_of_number n } ∷ []) in
    subst P text (number_agrees (unit_is_numbered takes numbered) units)

-- an Enumeration of several numbers, of which this is one
pub unit_part : {tag vname : List ℕ} {vs : Variants} {t n : ℕ} → take_tag Nothing tag ≡ Some t → number vname ≡ Some n → text_of_number n ≡ vname
    → ((k : List TagValue) → NamesUnit vs k n) → PartAgrees (enum tag vs) (unit_variant_value tag vname) record { tag = t; typ = Enumeration }
    (unit_variant_value tag vname)
unit_part {t = t} {n = n} takes numbered text units = record {
  stored = λ k. k ++ record { tag = t; text = text_of_number n } ∷ [];
  agrees = λ k. unit_agrees takes numbered text k (units k);
}

-- an Enumeration of one number
pub constant_then : {known : List Known} {own vname : List ℕ} {vs : Variants} {fs : Fields} {ws us : Values} {n : ℕ} {y : Option Head} (t : ℕ) → IsTag t
    → take_tag Nothing own ≡ Some t → number vname ≡ Some n → text_of_number n ≡ vname → ((k : List TagValue) → NamesUnit vs k n)
    → PartsAgree (left known t (enum own vs)) fs ws y us → PartsAgree known (field (tag_text t) (enum own vs) fs) (value (unit_variant_value own vname) ws)
    (Some record { tag = t; typ = Enumeration }) (value (unit_variant_value own vname) us)
constant_then t is takes numbered text units rest = part_then t is refl (unit_part takes numbered text units) rest

-- what is true of fields where less is known
where_more_is_known : {known : List Known} {fs : Fields} {ws vs : Values} {y : Option Head} (u : ℕ) (s : Form) → PartsAgree (left known u s) fs ws y vs
    → PartsAgree known fs ws y vs
where_more_is_known {known} u s rest = record { stored = rest.stored; agrees = λ k found. rest.agrees k (finds_less known k u s found) }

-- an option that is left out
pub absent_then : {known : List Known} {name : List ℕ} {s : Form} {fs : Fields} {ws vs : Values} {y : Option Head} → is_named name y ≡ false
    → PartsAgree known fs ws y vs → PartsAgree known (field name (option s) fs) ws y (value none_value vs)
absent_then other rest = record { stored = rest.stored; agrees = λ k found. absent_agrees other (rest.agrees k found) }

-- an option that is there
pub present_then : {known : List Known} {name : List ℕ} {s : Form} {fs : Fields} {w v : Value} {ws vs : Values} {x : Head} {y : Option Head}
    → is_field_of name (option s) x ≡ true → is_run v ≡ false → PartAgrees s w x v → PartsAgree (left known x.tag (option s)) fs ws y vs
    → PartsAgree known (field name (option s) fs) (value w ws) (Some x) (value (some_value v) vs)
present_then {v = v} {x = x} {y = y} named single p rest =
    field_then named (ends (some_value v) x y single) record { stored = p.stored; agrees = λ k. option_agrees (p.agrees k) } rest

-- a structure of such fields, by its name
pub named_structure : {name : List ℕ} {fs : Fields} {deny : Boole} {ws vs : Values} {t : ℕ} {y : Option Head} → has_tag name t ≡ true
    → take_tag Nothing name ≡ Some t → PartsAgree [] fs ws y vs
    → PartAgrees (struct name fs deny) (struct_value name ws) record { tag = t; typ = Structure } (struct_value name vs)
named_structure named takes parts = record { stored = parts.stored; agrees = λ k. struct_agrees named (struct_encodes takes) (parts.agrees k (finds_none k)) }

-- and by its tag
pub structure : {fs : Fields} {deny : Boole} {ws vs : Values} {y : Option Head} (t : ℕ) → IsTag t → PartsAgree [] fs ws y vs
    → PartAgrees (struct (tag_text t) fs deny) (struct_value (tag_text t) ws) record { tag = t; typ = Structure } (struct_value (tag_text t) vs)
structure t is parts = named_structure (has_own t is) (takes_tag t is) parts

-- as a whole message
pub message : {s : Form} {w v : Value} {x : Head} → PartAgrees s w x v → MessageAgrees s w v
message {s} {w} {v} {x} p = (x, p.stored [], p.agrees [])

-- the heads of items: a tag and a type
abbrev pub a_structure : ℕ → Head
a_structure t = record { tag = t; typ = Structure }

abbrev pub an_integer : ℕ → Head
an_integer t = record { tag = t; typ = Integer }

abbrev pub a_long_integer : ℕ → Head
a_long_integer t = record { tag = t; typ = LongInteger }

abbrev pub a_big_integer : ℕ → Head
a_big_integer t = record { tag = t; typ = BigInteger }

abbrev pub an_enumeration : ℕ → Head
an_enumeration t = record { tag = t; typ = Enumeration }

abbrev pub a_boolean : ℕ → Head
a_boolean t = record { tag = t; typ = Boolean }

abbrev pub a_text_string : ℕ → Head
a_text_string t = record { tag = t; typ = TextString }

abbrev pub a_byte_string : ℕ → Head
a_byte_string t = record { tag = t; typ = ByteString }

abbrev pub a_date_time : ℕ → Head
a_date_time t = record { tag = t; typ = DateTime }

abbrev pub an_interval : ℕ → Head
an_interval t = record { tag = t; typ = Interval }

-- a Big Integer of so many bytes that its sign isn't extended comes back as itself
pub as_whole : (s : List ℕ) → length s % 8 ≡ 0 → ComesBack big_integer (big_integer_value s) (big_integer_value s)
unfolding sign_extended
as_whole s whole =
    let same : sign_extended s ≡ s = rw whole refl in
    subst (λ t. ComesBack big_integer (big_integer_value s) (big_integer_value t)) same as_big_integer

-- a number in an option that is encoded by its bits comes back as itself
pub as_int32_by_bits : (z : ℤ) → FitsSigned w32 z → ComesBack int32 (i32_value (by_bits w32 z)) (i32_value z)
as_int32_by_bits z fits = rw (to_z-of_z w32 z fits) (as_int32 fits)

pub as_int64_by_bits : (z : ℤ) → FitsSigned w64 z → ComesBack int64 (i64_value (by_bits w64 z)) (i64_value z)
as_int64_by_bits z fits = rw (to_z-of_z w64 z fits) (as_int64 fits)

pub as_date_time_by_bits : (z : ℤ) → FitsSigned w64 z → ComesBack date_time (date_time_value (by_bits w64 z)) (date_time_value z)
as_date_time_by_bits z fits = rw (to_z-of_z w64 z fits) (as_date_time fits)

-- ---- leaves, units and structures alone, as elements of a sequence and as the content of a variant

-- a leaf that is encoded in a wrapper, and decoded without one
pub unwrapped_leaf : {s : Form} {w u v : Value} {h : PendingTag} {t : ℕ} → Wraps Nothing w h u → pending_tag h ≡ Some t → ComesBack s u v
    → PartAgrees s w record { tag = t; typ = leaf_type u } v
unwrapped_leaf wraps pending back = record { stored = _; agrees = λ k. inner_agrees wraps (leaf_agrees pending back) }

-- the number that a name of an Enumeration says: its text is the name, and it is a unit of these
pub record IsUnit (vs : Variants) (name : List ℕ) : Type 0 where
  pub n : ℕ
  pub numbered : number name ≡ Some n
  pub text : text_of_number n ≡ name
  pub units : (k : List TagValue) → NamesUnit vs k n

-- an Enumeration of listed numbers
pub enumeration_part : {tag name : List ℕ} {vs : Variants} {t : ℕ} → take_tag Nothing tag ≡ Some t → IsUnit vs name
    → PartAgrees (enum tag vs) (unit_variant_value tag name) record { tag = t; typ = Enumeration } (unit_variant_value tag name)
enumeration_part takes u = unit_part takes u.numbered u.text u.units

-- one that is encoded in a wrapper, under any name, and decoded by an enum of another
pub unwrapped_unit : {own name : List ℕ} {vs : Variants} {w u : Value} {h : PendingTag} {t n : ℕ} → Wraps Nothing w h u → IsNumbered h u t n
    → text_of_number n ≡ name → ((k : List TagValue) → NamesUnit vs k n) → PartAgrees (enum own vs) w record { tag = t; typ = Enumeration }
    (unit_variant_value own name)
unwrapped_unit {own} {name} {vs} {w} {u} {h} {t} {n} wraps numbered text units =
    let P : List ℕ → List TagValue → Type 0 = λ m k. Agrees (enum own vs) k Nothing w record { tag = t; typ = Enumeration } (unit_variant_value own m)
    (k ++ record { tag = t; text = text_of_number n } ∷ []) in
    record { stored = _; agrees = λ k. subst (λ m. P m k) text (inner_agrees wraps (number_agrees numbered (units k))) }

-- a structure that is encoded as a newtype which is no wrapper
pub newtype_structure : {own name : List ℕ} {fs : Fields} {deny : Boole} {w : Value} {vs : Values} {t : ℕ} {y : Option Head} → has_tag own t ≡ true
    → transparent_name name ≡ None → take_tag Nothing name ≡ Some t → PartsAgree [] fs (value w no_values) y vs
    → PartAgrees (struct own fs deny) (newtype_value name w) record { tag = t; typ = Structure } (struct_value own vs)
newtype_structure named plain takes parts =
    record { stored = parts.stored; agrees = λ k. struct_agrees named (newtype_encodes plain takes) (parts.agrees k (finds_none k)) }

-- ---- options, whether they are there or not

-- the head of what comes first, if it may be absent
abbrev pub head_or : {T : Type 0} → Option T → Head → Option Head → Option Head
head_or None x y = y
head_or (Some z) x y = Some x

-- what is true of both heads is true of that one
pub either_head : {T : Type 0} (P : Option Head → Type 0) (o : Option T) {x : Head} {y : Option Head} → P (Some x) → P y → P (head_or o x y)
either_head P None there absent = absent
either_head P (Some z) there absent = there

-- a name that is neither head's
pub neither_named : {T : Type 0} (name : List ℕ) (o : Option T) (x : Head) (y : Option Head) → is_named name (Some x) ≡ false → is_named name y ≡ false
    → is_named name (head_or o x y) ≡ false
neither_named name o x y there absent = either_head (λ z. is_named name z ≡ false) o there absent

-- a tag that neither head has
pub neither_tagged : {T : Type 0} (t : ℕ) (o : Option T) (x : Head) (y : Option Head) → is_tagged t (Some x) ≡ false → is_tagged t y ≡ false
    → is_tagged t (head_or o x y) ≡ false
neither_tagged t o x y there absent = either_head (λ z. is_tagged t z ≡ false) o there absent

-- what stands behind a part: the head of what comes first, if there is one, and which tags the heads have that may come first
pub record Behind : Type 0 where
  pub head : Option Head
  pub has : ℕ → Boole
  pub other : (t : ℕ) → has t ≡ false → is_tagged t head ≡ false

-- nothing
abbrev pub nothing_behind : Behind
nothing_behind = record { head = None; has = λ t. false; other = λ t none. refl }

-- a part that is always there
abbrev pub part_behind : Head → Behind
part_behind x = record { head = Some x; has = λ t. is_tagged t (Some x); other = λ t none. none }

pub other_behind : {T : Type 0} (o : Option T) (x : Head) (b : Behind) (t : ℕ) → (is_tagged t (Some x) || b.has t) ≡ false
    → is_tagged t (head_or o x b.head) ≡ false
other_behind o x b t none =
    let both = or_parts (is_tagged t (Some x)) (b.has t) none in
    neither_tagged t o x b.head both.0 (b.other t both.1)

-- a part that may be absent, and what stands behind it
abbrev pub option_behind : {T : Type 0} → Option T → Head → Behind → Behind
option_behind o x b = record { head = head_or o x b.head; has = λ t. is_tagged t (Some x) || b.has t; other = other_behind o x b }

-- what is there agrees
abbrev pub PresentAgrees : {T : Type 0} → (T → Value) → (T → Value) → Form → Head → Option T → Type 0
PresentAgrees f g s x None = Unit {0}
PresentAgrees f g s x (Some z) = PartAgrees s (f z) x (g z) × (is_run (g z) ≡ false)

-- this follows from what is known of what is there
pub if_present : {T : Type 0} {P : T → Type 0} {f g : T → Value} {s : Form} {x : Head} → ((t : T) → P t → PartAgrees s (f t) x (g t))
    → ((t : T) → is_run (g t) ≡ false) → (o : Option T) → IfSome o P → PresentAgrees f g s x o
if_present agrees single None is = tt
if_present agrees single (Some t) is = (agrees t is, single t)

-- the same where nothing has to be known
pub present : {T : Type 0} {f g : T → Value} {s : Form} {x : Head} → ((t : T) → PartAgrees s (f t) x (g t)) → ((t : T) → is_run (g t) ≡ false) → (o : Option T)
    → PresentAgrees f g s x o
present agrees single None = tt
present agrees single (Some t) = (agrees t, single t)

-- the same where the head is by what is there
pub present_as : {T : Type 0} {P : T → Type 0} {f g : T → Value} {s : Form} (h : Option T → Head) → ((t : T) → P t → PartAgrees s (f t) (h (Some t)) (g t))
    → ((t : T) → is_run (g t) ≡ false) → (o : Option T) → IfSome o P → PresentAgrees f g s (h o) o
present_as h agrees single None is = tt
present_as h agrees single (Some t) is = (agrees t is, single t)

-- an option, there or left out: the next item has another tag
pub optional_then : {T : Type 0} {known : List Known} {s : Form} {fs : Fields} {ws vs : Values} {y : Option Head} (f g : T → Value) (x : Head) (o : Option T)
    → IsTag x.tag → is_tagged x.tag y ≡ false → PresentAgrees f g s x o → PartsAgree (left known x.tag (option s)) fs ws y vs
    → PartsAgree known (field (tag_text x.tag) (option s) fs) (joined (optional_field (option_map f o)) ws) (head_or o x y) (value (read_optional g o) vs)
optional_then {s = s} {y = y} f g x None is other p rest =
    absent_then (named_is_tagged x.tag y is ∙ other) (where_more_is_known x.tag (option s) rest)
optional_then {s = s} f g x (Some z) is other p rest = present_then (in_its_field (option s) x is) p.1 p.0 rest

-- the same where what is decoded is what was encoded
pub optional_same_then : {T : Type 0} {known : List Known} {s : Form} {fs : Fields} {ws vs : Values} {y : Option Head} (f : T → Value) (x : Head) (o : Option T)
    → IsTag x.tag → is_tagged x.tag y ≡ false → PresentAgrees f f s x o → PartsAgree (left known x.tag (option s)) fs ws y vs
    → PartsAgree known (field (tag_text x.tag) (option s) fs) (joined (optional_field (option_map f o)) ws) (head_or o x y) (value (read_optional f o) vs)
optional_same_then f = optional_then f f

-- ---- sequences

-- what is last in a structure; it may be a sequence
pub last_then : {known : List Known} {name : List ℕ} {s : Form} {w v : Value} {x : Head} → is_field_of name s x ≡ true → PartAgrees s w x v
    → PartsAgree known (field name s no_fields) (value w no_values) (Some x) (value v no_values)
last_then {v = v} named p = field_then named (and-false (is_run v)) p nothing_left

-- and a sequence ends before what isn't like its items
pub run_ends : (v : Value) (x : Head) (y : Option Head) → is_alike x y ≡ false → goes_on v x y ≡ false
run_ends v x y other = rw other (and-false (is_run v))

-- a field that may be a sequence: what follows isn't like its items
pub run_then : {known : List Known} {name : List ℕ} {s : Form} {fs : Fields} {w v : Value} {ws vs : Values} {x : Head} {y : Option Head}
    → is_field_of name s x ≡ true → is_alike x y ≡ false → PartAgrees s w x v → PartsAgree (left known x.tag s) fs ws y vs
    → PartsAgree known (field name s fs) (value w ws) (Some x) (value v vs)
run_then {v = v} {x = x} {y = y} named other p rest = field_then named (run_ends v x y other) p rest

-- each of these agrees, and none is a sequence itself
abbrev pub EachAgrees : {T : Type 0} → (T → Value) → (T → Value) → Form → Head → List T → Type 0
EachAgrees f g s x [] = Unit {0}
EachAgrees f g s x (t ∷ ts) = PartAgrees s (f t) x (g t) × (is_run (g t) ≡ false) × EachAgrees f g s x ts

-- this follows from what is known of each
pub each_agrees : {T : Type 0} {P : T → Type 0} {f g : T → Value} {s : Form} {x : Head} → ((t : T) → P t → PartAgrees s (f t) x (g t))
    → ((t : T) → is_run (g t) ≡ false) → (ts : List T) → AllByRecursion P ts → EachAgrees f g s x ts
each_agrees agrees single [] all = tt
each_agrees agrees single (t ∷ ts) all = (agrees t all.0, single t, each_agrees agrees single ts all.1)

-- the same of what is known of each by its place
pub every_agrees : {T : Type 0} {P : T → Type 0} {f g : T → Value} {s : Form} {x : Head} → ((t : T) → P t → PartAgrees s (f t) x (g t))
    → ((t : T) → is_run (g t) ≡ false) → (ts : List T) → All P ts → EachAgrees f g s x ts
every_agrees {P = P} agrees single ts all = each_agrees agrees single ts (recursion_from_All P ts all)

-- the same where nothing has to be known
pub all_agree : {T : Type 0} {f g : T → Value} {s : Form} {x : Head} → ((t : T) → PartAgrees s (f t) x (g t)) → ((t : T) → is_run (g t) ≡ false) → (ts : List T)
    → EachAgrees f g s x ts
all_agree agrees single [] = tt
all_agree agrees single (t ∷ ts) = (agrees t, single t, all_agree agrees single ts)

-- what is kept after one or more of them
abbrev pub run_stored : {T : Type 0} (f g : T → Value) (s : Form) (x : Head) (t : T) (ts : List T) → EachAgrees f g s x (t ∷ ts) → List TagValue → List TagValue
run_stored f g s x t [] e k = e.0.stored k
run_stored f g s x t (u ∷ us) e k = run_stored f g s x u us e.2 (e.0.stored k)

run_agrees : {T : Type 0} (f g : T → Value) (s : Form) (x : Head) (t : T) (ts : List T) (e : EachAgrees f g s x (t ∷ ts)) (k : List TagValue)
    → RunAgrees s k Nothing (values_of (map f (t ∷ ts))) x (values_of (map g (t ∷ ts))) (run_stored f g s x t ts e k)
run_agrees f g s x t [] e k = last_agrees (e.0.agrees k)
run_agrees f g s x t (u ∷ us) e k = next_agrees (e.0.agrees k) e.1 (run_agrees f g s x u us e.2 (e.0.stored k))

-- a sequence of one or more of them
pub sequence_agrees : {T : Type 0} (f g : T → Value) (s : Form) (x : Head) (t : T) (ts : List T) → EachAgrees f g s x (t ∷ ts)
    → PartAgrees (seq s) (seq_value (values_of (map f (t ∷ ts)))) x (seq_value (values_of (map g (t ∷ ts))))
sequence_agrees f g s x t ts e = record { stored = run_stored f g s x t ts e; agrees = λ k. seq_agrees (run_agrees f g s x t ts e k) }

-- the same for a list that isn't empty
pub sequence_part : {T : Type 0} {s : Form} {x : Head} (f g : T → Value) (ts : List T) → 0 < length ts → EachAgrees f g s x ts
    → PartAgrees (seq s) (sequence f ts) x (sequence g ts)
sequence_part f g [] some e = absurd (omega arith)
sequence_part {s = s} {x = x} f g (t ∷ ts) some e = sequence_agrees f g s x t ts e

-- ---- sequences that may be empty

-- the first of these, if there is one
abbrev pub first_of : {T : Type 0} → List T → Option T
first_of [] = None
first_of (t ∷ ts) = Some t

-- what has another name isn't like the items of this one
pub unlike : (name : List ℕ) (s : Form) (x : Head) (y : Option Head) → is_field_of name (option s) x ≡ true → is_named name y ≡ false → is_alike x y ≡ false
unlike name s x None named other = refl
unlike name s x (Some z) named other = by_tag (z.tag == x.tag) refl
  where
    by_tag : (b : Boole) → (z.tag == x.tag) ≡ b → is_alike x (Some z) ≡ false
    by_tag false differ = rw differ refl
    by_tag true same = absurd (false≢true (sym other ∙ ap (has_tag name) (eqb-true z.tag x.tag same) ∙ named))

-- a sequence of one or more, also the last part: the next item has another tag
pub several_then : {T : Type 0} {known : List Known} {s : Form} {fs : Fields} {ws vs : Values} {y : Option Head} (f g : T → Value) (x : Head) (ts : List T)
    → IsTag x.tag → is_tagged x.tag y ≡ false → 0 < length ts → EachAgrees f g s x ts → PartsAgree (left known x.tag (seq s)) fs ws y vs
    → PartsAgree known (field (tag_text x.tag) (seq s) fs) (value (sequence f ts) ws) (Some x) (value (sequence g ts) vs)
several_then {s = s} {y = y} f g x ts is other filled each rest =
    let unlike_next = unlike (tag_text x.tag) s x y (in_its_field (option s) x is) (named_is_tagged x.tag y is ∙ other) in
    run_then (in_its_field (seq s) x is) unlike_next (sequence_part f g ts filled each) rest

-- a sequence that may be empty, by the name of its items, which is not that of the next
pub named_any : {T : Type 0} {known : List Known} {name : List ℕ} {s : Form} {fs : Fields} {ws vs : Values} {y : Option Head} (f g : T → Value) (x : Head)
    (ts : List T) → is_field_of name (option (seq s)) x ≡ true → is_named name y ≡ false → EachAgrees f g s x ts
    → PartsAgree (left known x.tag (option (seq s))) fs ws y vs → PartsAgree known (field name (option (seq s)) fs) (value (sequence f ts) ws)
    (head_or (first_of ts) x y) (value (optional_sequence g ts) vs)
named_any {s = s} f g x [] named other each rest =
    let absent = absent_then other (where_more_is_known x.tag (option (seq s)) rest) in
    record { stored = absent.stored; agrees = λ k found. nothing_agrees (absent.agrees k found) }
named_any {name = name} {s = s} {y = y} f g x (t ∷ ts) named other each rest =
    let p = sequence_agrees f g s x t ts each in
    run_then named (unlike name (seq s) x y named other) record { stored = p.stored; agrees = λ k. option_agrees (p.agrees k) } rest

-- and by their tag
pub any_then : {T : Type 0} {known : List Known} {s : Form} {fs : Fields} {ws vs : Values} {y : Option Head} (f g : T → Value) (x : Head) (ts : List T)
    → IsTag x.tag → is_tagged x.tag y ≡ false → EachAgrees f g s x ts → PartsAgree (left known x.tag (option (seq s))) fs ws y vs
    → PartsAgree known (field (tag_text x.tag) (option (seq s)) fs) (value (sequence f ts) ws) (head_or (first_of ts) x y) (value (optional_sequence g ts) vs)
any_then {s = s} {y = y} f g x ts is other each rest =
    named_any f g x ts (in_its_field (option (seq s)) x is) (named_is_tagged x.tag y is ∙ other) each rest
