-- Parts of messages that a rule chooses by the texts that were kept before, and parts that are kept for such rules.
use Rattle.std.proofs.Common.{◌≡◌, ◌<◌, ◌^◌, subst, ℕ, Bool as Boole, true, false, List, [], ◌++◌, ◌∷◌, Some, None, Option, option_map, map, length, refl, sym}
use Rattle.std.proofs.Common.{◌∙◌, ◌==◌, arith}
use Rattle.std.specs.{Option.IsSomeAnd, List.AllByRecursion, Str.is_utf8}
use Rattle.std.specs.Prelude.{All, IfSome, ◌||◌, not}
use Rattle.std.proofs.lemmas.{List.Elements.recursion_from_All, Bool.and_parts, Option.none-some}
use Rattle.kmip_ttlv_types.specs.declared.typ.TtlvType.TheVariants.{Structure, Enumeration, TextString}
use Rattle.kmip_ttlv_types.specs.{declared.typ.TtlvType.TtlvType, Digits.tag_text, Names.number, Names.transparent_name}
use Rattle.kmip_ttlv_base.specs.Forms.{Form, any_number, option, seq, text as text_form, struct, enum, wrapped, Fields, field, Variants}
use Rattle.kmip_ttlv_base.specs.Values.{Value, some_value, u32_value, text_value, newtype_value, unit_variant_value, newtype_variant_value, struct_value}
use Rattle.kmip_ttlv_base.specs.Values.{Values, value, values_of}
use Rattle.kmip_ttlv_base.specs.Visits.{joined}
use Rattle.kmip_ttlv_parts.specs.MessageParts.{optional, optional_sequence, sequence, tagged}
use Rattle.kmip_ttlv_ser.specs.declared.pending.PendingTag.{PendingTag, TheVariants.Nothing, TheVariants.Overriding}
use Rattle.kmip_ttlv_ser.specs.WrittenItems.{take_tag, pending_tag}
use Rattle.kmip_ttlv_reader.specs.{TagValues.TagValue, TagValues.last, Reads.is_struct, Rules.choice, Rules.chosen, Spots.wrapped_leaf}
use Rattle.kmip_ttlv_parts.specs.Agreements.{Head, Agrees, HasVariant, RunAgrees, Wraps, absent_agrees, field_agrees, inner_agrees, is_alike, is_field_of}
use Rattle.kmip_ttlv_parts.specs.Agreements.{is_run, last_agrees, leaf_agrees, leaf_type, newtype_agrees, newtype_encodes, newtype_wraps, next_agrees}
use Rattle.kmip_ttlv_parts.specs.Agreements.{nothing_agrees, option_agrees, rule_agrees, seq_agrees, struct_agrees, struct_encodes, unit_is_numbered}
use Rattle.kmip_ttlv_parts.specs.Returns.{ComesBack, as_number, as_text, NamesUnit, text_of_number}
use Rattle.kmip_ttlv_parts.proofs.Known.{Known, finds_stored, finds_left, finds_less, finds_unknown, is_without, left, said, spared, spares}
use Rattle.kmip_ttlv_parts.proofs.MessageParts.{IsUnit, PartAgrees, PartsAgree, ends, first_of, head_or, run_ends, unit_agrees, unlike, unwrapped_unit}
use Rattle.kmip_ttlv_parts.proofs.TagNumbers.{IsTag, in_its_field, is_tagged, named_is_tagged, takes_overriding, takes_tag}
use Rattle.kmip_ttlv_base.proofs.TagNames.{transparent_wrapper}
use Rattle.kmip_ttlv_base.specs.Visits as visits

-- ---- what is kept

-- the value agrees with the form as the other, and this one text of it is kept
pub record PartKeeps (s : Form) (w : Value) (x : Head) (v : Value) (r : TagValue) : Type 0 where
  pub agrees : (k : List TagValue) → Agrees s k Nothing w x v (k ++ r ∷ [])

-- a Text String under its tag
pub text_stored : {bytes : List ℕ} (t : ℕ) → IsTag t → is_utf8 bytes ≡ true → PartKeeps (wrapped_leaf t text_form) (tagged t (text_value bytes)) record
    { tag = t; typ = TextString } (tagged t (text_value bytes)) record { tag = t; text = bytes }
text_stored t is valid =
    record { agrees = λ k. newtype_agrees (inner_agrees (newtype_wraps (transparent_wrapper t) (takes_tag t is)) (leaf_agrees refl (as_text valid))) }

-- one that is decoded without its newtype
pub wrapped_text_stored : {w : Value} {h : PendingTag} {bytes : List ℕ} {t : ℕ} → Wraps Nothing w h (text_value bytes) → pending_tag h ≡ Some t
    → is_utf8 bytes ≡ true → PartKeeps text_form w record { tag = t; typ = TextString } (text_value bytes) record { tag = t; text = bytes }
wrapped_text_stored wraps pending valid = record { agrees = λ k. inner_agrees wraps (leaf_agrees pending (as_text valid)) }

-- the number of an Enumeration of any number, under its tag
pub number_stored : {n : ℕ} (t : ℕ) → IsTag t → n < 2 ^ 32 → PartKeeps (wrapped_leaf t any_number) (tagged t (u32_value n)) record
    { tag = t; typ = Enumeration } (tagged t (u32_value n)) record { tag = t; text = text_of_number n }
number_stored t is fits =
    record { agrees = λ k. newtype_agrees (inner_agrees (newtype_wraps (transparent_wrapper t) (takes_tag t is)) (leaf_agrees refl (as_number fits))) }

-- an Enumeration's number
pub unit_stored : {tag vname : List ℕ} {vs : Variants} {t n : ℕ} → take_tag Nothing tag ≡ Some t → number vname ≡ Some n → text_of_number n ≡ vname
    → ((k : List TagValue) → NamesUnit vs k n) → PartKeeps (enum tag vs) (unit_variant_value tag vname) record { tag = t; typ = Enumeration }
    (unit_variant_value tag vname) record { tag = t; text = text_of_number n }
unit_stored takes numbered text units = record { agrees = λ k. unit_agrees takes numbered text k (units k) }

-- the name of an Enumeration, which is its number's text
pub enumeration_stored : {tag name : List ℕ} {vs : Variants} {t : ℕ} → take_tag Nothing tag ≡ Some t → IsUnit vs name
    → PartKeeps (enum tag vs) (unit_variant_value tag name) record { tag = t; typ = Enumeration } (unit_variant_value tag name) record { tag = t; text = name }
enumeration_stored {tag = tag} {name = name} {vs = vs} {t = t} takes u =
    let P : List ℕ → Type 0 = λ m. PartKeeps (enum tag vs) (unit_variant_value tag name) record { tag = t; typ = Enumeration } (unit_variant_value tag name)
    record { tag = t; text = m } in
    subst P u.text (unit_stored takes u.numbered u.text u.units)

-- a field of which one text is kept, which rules of later fields see, by its name
pub named_stored : {known : List Known} {name : List ℕ} {s : Form} {fs : Fields} {w v : Value} {ws vs : Values} {x : Head} {y : Option Head} {r : TagValue}
    → is_field_of name s x ≡ true → is_run v ≡ false → PartKeeps s w x v r → PartsAgree (record { tag = r.tag; text = Some r.text } ∷ known) fs ws y vs
    → PartsAgree known (field name s fs) (value w ws) (Some x) (value v vs)
named_stored {known} {v = v} {x = x} {y = y} {r = r} named single p rest = record {
  stored = λ k. rest.stored (k ++ r ∷ []);
  agrees = λ k found. field_agrees named (ends v x y single) (p.agrees k) (rest.agrees (k ++ r ∷ []) (finds_stored known k r found));
}

-- and by its tag
pub stored_then : {known : List Known} {typ : TtlvType} {s : Form} {fs : Fields} {w v : Value} {ws vs : Values} {y : Option Head} {r : TagValue} (t : ℕ)
    → IsTag t → is_run v ≡ false → PartKeeps s w record { tag = t; typ = typ } v r
    → PartsAgree (record { tag = r.tag; text = Some r.text } ∷ known) fs ws y vs
    → PartsAgree known (field (tag_text t) s fs) (value w ws) (Some record { tag = t; typ = typ }) (value v vs)
stored_then {typ = typ} {s = s} t is single p rest = named_stored (in_its_field s record { tag = t; typ = typ } is) single p rest

-- one that may be absent: then nothing is known of its tag
pub optional_stored_then : {T : Type 0} {P : T → Type 0} {known : List Known} {s : Form} {fs : Fields} {ws vs : Values} {y : Option Head} (f g : T → Value)
    (x : Head) (text : T → List ℕ) (o : Option T) → IsTag x.tag → is_tagged x.tag y ≡ false
    → ((t : T) → P t → PartKeeps s (f t) x (g t) record { tag = x.tag; text = text t }) → ((t : T) → is_run (g t) ≡ false) → IfSome o P
    → PartsAgree (record { tag = x.tag; text = option_map text o } ∷ known) fs ws y vs → PartsAgree known (field (tag_text x.tag) (option s) fs)
    (joined (visits.optional_field (option_map f o)) ws) (head_or o x y) (value (optional g o) vs)
optional_stored_then {known = known} {y = y} f g x text None is other keeps single sound rest =
    let differs = named_is_tagged x.tag y is ∙ other in
    record { stored = rest.stored; agrees = λ k found. absent_agrees differs (rest.agrees k (finds_unknown known k x.tag found)) }
optional_stored_then {known = known} {s = s} {y = y} f g x text (Some t) is other keeps single sound rest =
    let r : TagValue = record { tag = x.tag; text = text t } in
    let named = in_its_field (option s) x is in
    record {
      stored = λ k. rest.stored (k ++ r ∷ []);
      agrees = λ k found. field_agrees named (ends (some_value (g t)) x y (single t)) (option_agrees ((keeps t sound).agrees k))
          (rest.agrees (k ++ r ∷ []) (finds_stored known k r found));
    }

-- of what may be absent nothing has to be known
pub if_any : {T : Type 0} (o : Option T) → IfSome o (λ t. Unit {0})
if_any None = tt
if_any (Some t) = tt

-- ---- what is chosen

-- where this text was kept last under a tag, the value agrees with the form as the other
pub record PartAfter (tag : ℕ) (text : List ℕ) (s : Form) (w : Value) (x : Head) (v : Value) : Type 0 where
  pub stored : List TagValue → List TagValue
  pub agrees : (k : List TagValue) → last k tag ≡ Some text → Agrees s k Nothing w x v (stored k)

-- what a rule chooses by that text
pub chosen_after : {tag : ℕ} {text : List ℕ} {s : Form} {own name : List ℕ} {vs : Variants} {i : ℕ} {w v : Value} {x : Head} → HasVariant vs i name (wrapped s)
    → ((k : List TagValue) → last k tag ≡ Some text → choice vs k x.typ ≡ chosen i) → PartAgrees s w x v
    → PartAfter tag text (enum own vs) w x (newtype_variant_value own name v)
chosen_after at chooses p = record { stored = p.stored; agrees = λ k found. rule_agrees (chooses k found) at (p.agrees k) }

-- a choice among what a rule chooses by that text
pub chosen_twice : {tag : ℕ} {text : List ℕ} {s : Form} {own name : List ℕ} {vs : Variants} {i : ℕ} {w v : Value} {x : Head} → HasVariant vs i name (wrapped s)
    → ((k : List TagValue) → last k tag ≡ Some text → choice vs k x.typ ≡ chosen i) → PartAfter tag text s w x v
    → PartAfter tag text (enum own vs) w x (newtype_variant_value own name v)
chosen_twice at chooses p = record { stored = p.stored; agrees = λ k found. rule_agrees (chooses k found) at (p.agrees k found) }

-- what a rule chooses by the item's type, whatever was kept
pub chosen_by_type : {s : Form} {own name : List ℕ} {vs : Variants} {i : ℕ} {w v : Value} {x : Head} → HasVariant vs i name (wrapped s)
    → ((k : List TagValue) → choice vs k x.typ ≡ chosen i) → PartAgrees s w x v → PartAgrees (enum own vs) w x (newtype_variant_value own name v)
chosen_by_type at chooses p = record { stored = p.stored; agrees = λ k. rule_agrees (chooses k) at (p.agrees k) }

-- a field that a rule chooses by a text that is known, by its name
pub named_choice : {known : List Known} {tag : ℕ} {text : List ℕ} {name : List ℕ} {s : Form} {fs : Fields} {w v : Value} {ws vs : Values} {x : Head}
    {y : Option Head} → said known tag ≡ Some text → is_field_of name s x ≡ true → is_run v ≡ false → PartAfter tag text s w x v
    → PartsAgree (left known x.tag s) fs ws y vs → PartsAgree known (field name s fs) (value w ws) (Some x) (value v vs)
named_choice {known = all} {tag = tag} {text = text} {v = v} {x = x} {y = y} known named single p rest = record {
  stored = λ k. rest.stored (p.stored k);
  agrees = λ k found. let a = p.agrees k (found tag text known) in
      field_agrees named (ends v x y single) a (rest.agrees (p.stored k) (finds_left all a found));
}

-- and by its tag
pub choice_then : {known : List Known} {tag : ℕ} {text : List ℕ} {typ : TtlvType} {s : Form} {fs : Fields} {w v : Value} {ws vs : Values} {y : Option Head}
    (t : ℕ) → said known tag ≡ Some text → IsTag t → is_run v ≡ false → PartAfter tag text s w record { tag = t; typ = typ } v
    → PartsAgree (left known t s) fs ws y vs → PartsAgree known (field (tag_text t) s fs) (value w ws) (Some record { tag = t; typ = typ }) (value v vs)
choice_then {typ = typ} {s = s} t known is single p rest = named_choice known (in_its_field s record { tag = t; typ = typ } is) single p rest

-- one that is chosen by a part that may be absent, where that is there
pub choice_if_there_then : {S : Type 0} {C : S → Type 0} {known : List Known} {tag : ℕ} {typ : TtlvType} {s : Form} {fs : Fields} {w v : Value}
    {ws vs : Values} {y : Option Head} (t : ℕ) (text : S → List ℕ) (m : Option S) → said known tag ≡ option_map text m → IsTag t → is_run v ≡ false
    → ((z : S) → C z → PartAfter tag (text z) s w record { tag = t; typ = typ } v) → IsSomeAnd m C → PartsAgree (left known t s) fs ws y vs
    → PartsAgree known (field (tag_text t) s fs) (value w ws) (Some record { tag = t; typ = typ }) (value v vs)
choice_if_there_then t text None known is single agrees chooses rest = absurd chooses
choice_if_there_then t text (Some z) known is single agrees chooses rest = choice_then t known is single (agrees z chooses) rest

-- one that may be absent itself: if it is there, the other part is there, and chooses it
pub optional_choice_then : {S T : Type 0} {C : S → T → Type 0} {P : T → Type 0} {known : List Known} {tag : ℕ} {s : Form} {fs : Fields}
    {ws vs : Values} {y : Option Head} (f g : T → Value) (h : Option T → Head) (o : Option T) (text : S → List ℕ) (m : Option S)
    → said known tag ≡ option_map text m → IsTag (h o).tag → is_tagged (h o).tag y ≡ false
    → ((z : S) (t : T) → C z t → P t → PartAfter tag (text z) s (f t) (h (Some t)) (g t)) → ((t : T) → is_run (g t) ≡ false)
    → IfSome o (λ t. IsSomeAnd m (λ z. C z t)) → IfSome o P → PartsAgree (left known (h o).tag (option s)) fs ws y vs
    → PartsAgree known (field (tag_text (h o).tag) (option s) fs) (joined (visits.optional_field (option_map f o)) ws) (head_or o (h o) y)
    (value (optional g o) vs)
optional_choice_then {known = all} {s = s} {y = y} f g h None text m known is other agrees single chooses sound rest =
    let differs = named_is_tagged (h None).tag y is ∙ other in
    record { stored = rest.stored; agrees = λ k found. absent_agrees differs (rest.agrees k (finds_less all k (h None).tag (option s) found)) }
optional_choice_then f g h (Some t) text None known is other agrees single chooses sound rest = absurd chooses
optional_choice_then {s = s} f g h (Some t) text (Some z) known is other agrees single chooses sound rest =
    let p = agrees z t chooses sound in
    named_choice known (in_its_field (option s) (h (Some t)) is) (single t)
    record { stored = p.stored; agrees = λ k found. option_agrees (p.agrees k found) } rest

-- the type of the item of what may be absent
abbrev pub typ_or : {T : Type 0} → (T → TtlvType) → Option T → TtlvType
typ_or typ None = Structure
typ_or typ (Some t) = typ t

-- ---- choices that come several times

-- where this text was kept last under a tag each of these agrees, and none is a sequence itself
abbrev pub EachAfter : {T : Type 0} → ℕ → List ℕ → (T → Value) → (T → Value) → Form → Head → List T → Type 0
EachAfter tag text f g s x [] = Unit {0}
EachAfter tag text f g s x (t ∷ ts) = PartAfter tag text s (f t) x (g t) × (is_run (g t) ≡ false) × EachAfter tag text f g s x ts

each_after : {T : Type 0} {C P : T → Type 0} {tag : ℕ} {text : List ℕ} {f g : T → Value} {s : Form} {x : Head}
    → ((t : T) → C t → P t → PartAfter tag text s (f t) x (g t)) → ((t : T) → is_run (g t) ≡ false) → (ts : List T) → AllByRecursion C ts → AllByRecursion P ts
    → EachAfter tag text f g s x ts
each_after agrees single [] chooses all = tt
each_after agrees single (t ∷ ts) chooses all = (agrees t chooses.0 all.0, single t, each_after agrees single ts chooses.1 all.1)

-- what is kept after one or more of them
abbrev pub run_after_stored : {T : Type 0} (tag : ℕ) (text : List ℕ) (f g : T → Value) (s : Form) (x : Head) (t : T) (ts : List T)
    → EachAfter tag text f g s x (t ∷ ts) → List TagValue → List TagValue
run_after_stored tag text f g s x t [] e k = e.0.stored k
run_after_stored tag text f g s x t (u ∷ us) e k = run_after_stored tag text f g s x u us e.2 (e.0.stored k)

-- none of them keeps another text under the tag
run_after : {T : Type 0} (tag : ℕ) (text : List ℕ) (f g : T → Value) (s : Form) (x : Head) (t : T) (ts : List T) (e : EachAfter tag text f g s x (t ∷ ts))
    (k : List TagValue) → spares tag x.tag s ≡ true → last k tag ≡ Some text → RunAgrees s k Nothing (values_of (map f (t ∷ ts))) x (values_of (map g (t ∷ ts)))
    (run_after_stored tag text f g s x t ts e k)
run_after tag text f g s x t [] e k spare found = last_agrees (e.0.agrees k found)
run_after tag text f g s x t (u ∷ us) e k spare found =
    let first = e.0.agrees k found in
    let parts = and_parts (is_struct s || not (x.tag == tag)) (is_without tag s) spare in
    next_agrees first e.1 (run_after tag text f g s x u us e.2 (e.0.stored k) spare (spared tag first parts.0 parts.1 ∙ found))

-- a sequence of one or more that are chosen by a text that is known
sequence_after : {T : Type 0} {C P : T → Type 0} {tag : ℕ} {text : List ℕ} {s : Form} {x : Head} (f g : T → Value) (t : T) (ts : List T)
    → spares tag x.tag s ≡ true → ((u : T) → C u → P u → PartAfter tag text s (f u) x (g u)) → ((u : T) → is_run (g u) ≡ false) → All C (t ∷ ts)
    → All P (t ∷ ts) → PartAfter tag text (seq s) (sequence f (t ∷ ts)) x (sequence g (t ∷ ts))
sequence_after {C = C} {P = P} {tag = tag} {text = text} {s = s} {x = x} f g t ts spare agrees single chooses all =
    let e : EachAfter tag text f g s x (t ∷ ts) = each_after agrees single (t ∷ ts) (recursion_from_All C (t ∷ ts) chooses)
    (recursion_from_All P (t ∷ ts) all) in
    record { stored = run_after_stored tag text f g s x t ts e; agrees = λ k found. seq_agrees (run_after tag text f g s x t ts e k spare found) }

-- a field of such a sequence: what follows isn't like its items
run_choice_then : {known : List Known} {tag : ℕ} {text : List ℕ} {name : List ℕ} {s : Form} {fs : Fields} {w v : Value} {ws vs : Values} {x : Head}
    {y : Option Head} → said known tag ≡ Some text → is_field_of name s x ≡ true → is_alike x y ≡ false → PartAfter tag text s w x v
    → PartsAgree (left known x.tag s) fs ws y vs → PartsAgree known (field name s fs) (value w ws) (Some x) (value v vs)
run_choice_then {known = all} {tag = tag} {text = text} {v = v} {x = x} {y = y} known named other p rest = record {
  stored = λ k. rest.stored (p.stored k);
  agrees = λ k found. let a = p.agrees k (found tag text known) in
      field_agrees named (run_ends v x y other) a (rest.agrees (p.stored k) (finds_left all a found));
}

-- one or more that are chosen by a text that is known, also the last part; none keeps another under its tag
pub several_choice_then : {T : Type 0} {C P : T → Type 0} {known : List Known} {tag : ℕ} {text : List ℕ} {s : Form} {fs : Fields}
    {ws vs : Values} {y : Option Head} (f g : T → Value) (x : Head) (ts : List T) → said known tag ≡ Some text → spares tag x.tag s ≡ true
    → IsTag x.tag → is_tagged x.tag y ≡ false → ((t : T) → C t → P t → PartAfter tag text s (f t) x (g t))
    → ((t : T) → is_run (g t) ≡ false) → All C ts → 0 < length ts → All P ts → PartsAgree (left known x.tag (seq s)) fs ws y vs
    → PartsAgree known (field (tag_text x.tag) (seq s) fs) (value (sequence f ts) ws) (Some x) (value (sequence g ts) vs)
several_choice_then f g x [] known spare is other agrees single chooses filled all rest = absurd (omega arith)
several_choice_then {s = s} {y = y} f g x (t ∷ ts) known spare is other agrees single chooses filled all rest =
    let unlike_next = unlike (tag_text x.tag) s x y (in_its_field (option s) x is) (named_is_tagged x.tag y is ∙ other) in
    run_choice_then known (in_its_field (seq s) x is) unlike_next (sequence_after f g t ts spare agrees single chooses all) rest

-- the same of any number of them
pub any_choice_then : {T : Type 0} {C P : T → Type 0} {known : List Known} {tag : ℕ} {text : List ℕ} {s : Form} {fs : Fields} {ws vs : Values}
    {y : Option Head} (f g : T → Value) (x : Head) (ts : List T) → said known tag ≡ Some text → spares tag x.tag s ≡ true
    → IsTag x.tag → is_tagged x.tag y ≡ false → ((t : T) → C t → P t → PartAfter tag text s (f t) x (g t))
    → ((t : T) → is_run (g t) ≡ false) → All C ts → All P ts → PartsAgree (left known x.tag (option (seq s))) fs ws y vs
    → PartsAgree known (field (tag_text x.tag) (option (seq s)) fs) (value (sequence f ts) ws) (head_or (first_of ts) x y)
    (value (optional_sequence g ts) vs)
any_choice_then {known = before} {s = s} {y = y} f g x [] known spare is other agrees single chooses all rest =
    let differs = named_is_tagged x.tag y is ∙ other in
    record {
      stored = rest.stored;
      agrees = λ k found. nothing_agrees (absent_agrees differs (rest.agrees k (finds_less before k x.tag (option (seq s)) found)));
    }
any_choice_then {s = s} {y = y} f g x (t ∷ ts) known spare is other agrees single chooses all rest =
    let p = sequence_after f g t ts spare agrees single chooses all in
    let unlike_next = unlike (tag_text x.tag) s x y (in_its_field (option s) x is) (named_is_tagged x.tag y is ∙ other) in
    run_choice_then known (in_its_field (option (seq s)) x is) unlike_next
    record { stored = p.stored; agrees = λ k found. option_agrees (p.agrees k found) } rest

-- ---- what is encoded under another tag

-- a leaf under its own tag
pub overridden_leaf : {u : ℕ} {s : Form} {w b v : Value} (t : ℕ) → Wraps Nothing w (Overriding u) (tagged t b) → ComesBack s b v
    → PartAgrees (wrapped_leaf t s) w record { tag = u; typ = leaf_type b } (tagged t v)
overridden_leaf {u = u} t wraps back =
    let inside = newtype_wraps (transparent_wrapper t) (takes_overriding t u) in
    record { stored = _; agrees = λ k. inner_agrees wraps (newtype_agrees (inner_agrees inside (leaf_agrees refl back))) }

-- an Enumeration
pub overridden_enumeration : {own tag name : List ℕ} {vs : Variants} {w : Value} {h : PendingTag} {t : ℕ} → Wraps Nothing w h (unit_variant_value tag name)
    → take_tag h tag ≡ Some t → IsUnit vs name → PartAgrees (enum own vs) w record { tag = t; typ = Enumeration } (unit_variant_value own name)
overridden_enumeration wraps takes u = unwrapped_unit wraps (unit_is_numbered takes u.numbered) u.text u.units

no_leaf : {name : List ℕ} {fs : Fields} {deny : Boole} {w v : Value} → ComesBack (struct name fs deny) w v → ⊥
no_leaf c = elim c [ ]

no_wrapper : {name : List ℕ} {h i : PendingTag} {ws : Values} {u : Value} → Wraps h (struct_value name ws) i u → ⊥
no_wrapper wraps = elim wraps [ ]

-- a structure takes the tag that is held
pending_structure : {own name : List ℕ} {fs : Fields} {deny : Boole} {k k' : List TagValue} {h : PendingTag} {ws : Values} {v : Value} {x : Head}
    → take_tag h name ≡ Some x.tag → Agrees (struct own fs deny) k Nothing (struct_value name ws) x v k'
    → Agrees (struct own fs deny) k h (struct_value name ws) x v k'
pending_structure takes (leaf_agrees pending c) = absurd (no_leaf c)
pending_structure takes (inner_agrees wraps a) = absurd (no_wrapper wraps)
pending_structure takes (struct_agrees named (struct_encodes own) parts) = struct_agrees named (struct_encodes takes) parts

-- so does one that is encoded as a newtype which is no wrapper
pending_newtype : {own name : List ℕ} {fs : Fields} {deny : Boole} {k k' : List TagValue} {h : PendingTag} {w v : Value} {x : Head}
    → transparent_name name ≡ None
    → take_tag h name ≡ Some x.tag → Agrees (struct own fs deny) k Nothing (newtype_value name w) x v k'
    → Agrees (struct own fs deny) k h (newtype_value name w) x v k'
pending_newtype plain takes (leaf_agrees pending c) = absurd (no_leaf c)
pending_newtype plain takes (inner_agrees (newtype_wraps named own) a) = absurd (none-some _ (sym plain ∙ named))
pending_newtype plain takes (struct_agrees named (newtype_encodes other own) parts) = struct_agrees named (newtype_encodes plain takes) parts

-- a structure in a wrapper of its own tag
pub overridden_structure : {own : List ℕ} {fs : Fields} {deny : Boole} {w : Value} {ws : Values} {v : Value} {x : Head} (t : ℕ)
    → Wraps Nothing w (Overriding x.tag) (struct_value (tag_text t) ws) → PartAgrees (struct own fs deny) (struct_value (tag_text t) ws) x v
    → PartAgrees (struct own fs deny) w x v
overridden_structure {x = x} t wraps p =
    record { stored = p.stored; agrees = λ k. inner_agrees wraps (pending_structure (takes_overriding t x.tag) (p.agrees k)) }

-- one that is encoded as a newtype
pub overridden_newtype : {own name : List ℕ} {fs : Fields} {deny : Boole} {w u v : Value} {h : PendingTag} {x : Head} → Wraps Nothing w h (newtype_value name u)
    → transparent_name name ≡ None → take_tag h name ≡ Some x.tag → PartAgrees (struct own fs deny) (newtype_value name u) x v
    → PartAgrees (struct own fs deny) w x v
overridden_newtype wraps plain takes p = record { stored = p.stored; agrees = λ k. inner_agrees wraps (pending_newtype plain takes (p.agrees k)) }
