-- Values that are one of several items of one tag, of which a rule chooses one: what is known of the choice, by what is known of each item.
use Rattle.std.proofs.Common.{◌≡◌, ◌==◌, ◌∙◌, Result, Ok, Err, ap, cond, option_map, subst, sym, ℕ, zero, suc, Bool as Boole, true, false, List, [], ◌∷◌, Option, Some, None, refl}
use Rattle.std.specs.{Option.IsSomeAnd, Prelude.IfSome, Prelude.IsErrAnd}
use Rattle.std.proofs.lemmas.Bool.{eqb-true, false≢true}
use Rattle.std.proofs.lemmas.Option.{none-some}
use Rattle.kmip_ttlv_types.specs.declared.typ.TtlvType.{TtlvType}
use Rattle.kmip_ttlv_base.specs.Forms.{Form, enum, unit, wrapped, tuple, Variants, no_variants, variant}
use Rattle.kmip_ttlv_base.specs.Values.{Value, newtype_variant_value, no_values, value}
use Rattle.kmip_ttlv_reader.specs.declared.failure.Failure.{Failure}
use Rattle.kmip_ttlv_reader.specs.Results.{IsFailure}
use Rattle.kmip_ttlv_reader.specs.Chosen.{held_outcome}
use Rattle.kmip_ttlv_reader.specs.Outcomes.{outcome}
use Rattle.kmip_ttlv_reader.specs.Spots.{IsReadTo, Spot, at}
use Rattle.kmip_ttlv_reader.specs.declared.scope.Scope.{Scope}
use Rattle.kmip_ttlv_reader.specs.Steps.{Reader, ends_early, mapped, reads}
use Rattle.kmip_ttlv_reader.proofs.Steps.{failure_then}
use Rattle.kmip_ttlv_reader.specs.{Rules.choice, Rules.chosen, TagValues.TagValue, TagValues.last as last_text}
use Rattle.kmip_ttlv_parts.specs.Agreements.{HasVariant, is_run}
use Rattle.kmip_ttlv_parts.proofs.{Known.Finds, Known.Known, Known.said, MessageParts.PartAgrees, TagNumbers.IsTag}
use Rattle.kmip_ttlv_parts.proofs.MessageRules.{PartAfter, chosen_after, chosen_by_type, chosen_twice}
use Rattle.kmip_ttlv_parts.specs.{Returns.text_of_number, declared.enumeration.Enumeration.Enumeration}
use Rattle.kmip_ttlv_kinds.specs.Parts.{ChoiceRules, ItemRules, KnownAgrees, NeedsNothing, Told}

-- all that is known of a type whose values a rule chooses: its name and variants among them
pub record ChoiceOf (H : Type 0) : Type 1 where
  pub own : List ℕ
  pub variants : Variants
  pub value : H → Value
  pub rules : ChoiceRules H (enum own variants) value

-- what a variant means: what is written of it, the value that it is read as, and whether what it holds is sound
pub record Meaning : Type 1 where
  pub written : Value
  pub value : Value
  pub IsSound : Type 0

-- what a walk is told of it
abbrev pub told_meaning : Meaning → Told
told_meaning m = record { written = value m.written no_values; IsSound = m.IsSound }

-- what is told of one value is told of an equal one
pub told_as : {H : Type 0} (by : H → Meaning) (P : Told → Type 0) {x y : H} → x ≡ y → P (told_meaning (by y)) → P (told_meaning (by x))
told_as by P is told = subst (λ z. P (told_meaning (by z))) (sym is) told

-- ---- what is held

-- an item of this tag and type that a value holds: the value is made of it so, and compared by this `==`
pub record Held {K H : Type 0} (n : ℕ) (typ : TtlvType) (into : K → H) (eq : H → H → Boole) : Type 1 where
  pub form : Form
  pub value : K → Value
  pub rules : ItemRules K form value
  pub tagged : rules.number ≡ n
  pub typed : rules.typ ≡ typ
  pub same : (x y : K) → rules.eq x y ≡ true → eq (into x) (into y) ≡ true

abbrev pub held : {K H : Type 0} {n : ℕ} {typ : TtlvType} {into : K → H} {eq : H → H → Boole} {s : Form} {g : K → Value} (i : ItemRules K s g)
    → i.number ≡ n
    → i.typ ≡ typ
    → ((x y : K) → i.eq x y ≡ true → eq (into x) (into y) ≡ true)
    → Held n typ into eq
held {s = s} {g = g} i tagged typed same = record { form = s; value = g; rules = i; tagged = tagged; typed = typed; same = same }

pub held_agrees : {K H : Type 0} {n : ℕ} {typ : TtlvType} {into : K → H} {eq : H → H → Boole} (h : Held n typ into eq) → IsTag n → (x : K) → h.rules.IsSound x
    → PartAgrees h.form (h.rules.written x) record { tag = n; typ = typ } (h.value x)
held_agrees {n = n} {typ = typ} h is x sound =
    let at_own : IsTag h.rules.number → PartAgrees h.form (h.rules.written x) record { tag = h.rules.number; typ = h.rules.typ } (h.value x) =
    λ own. h.rules.agrees own x sound in
    let at_tag : IsTag n → PartAgrees h.form (h.rules.written x) record { tag = n; typ = h.rules.typ } (h.value x) =
    subst (λ m. IsTag m → PartAgrees h.form (h.rules.written x) record { tag = m; typ = h.rules.typ } (h.value x)) h.tagged at_own in
    subst (λ t. PartAgrees h.form (h.rules.written x) record { tag = n; typ = t } (h.value x)) h.typed (at_tag is)

-- a choice of this tag and type that a value holds, by the same text
pub record HeldChoice {K H : Type 0} (n decider : ℕ) (typ : TtlvType) (Chooses : List ℕ → K → Type 0) (into : K → H) (eq : H → H → Boole) : Type 1 where
  pub form : Form
  pub value : K → Value
  pub rules : ChoiceRules K form value
  pub tagged : rules.number ≡ n
  pub typed : (x : K) → rules.typ x ≡ typ
  pub needed : (x : K) (text : List ℕ) → Chooses text x → rules.Needs x (record { tag = decider; text = Some text } ∷ [])
  pub same : (x y : K) → rules.eq x y ≡ true → eq (into x) (into y) ≡ true

abbrev pub held_choice : {K H : Type 0} {n decider : ℕ} {typ : TtlvType} {C : List ℕ → K → Type 0} {into : K → H} {eq : H → H → Boole} (c : ChoiceOf K)
    → c.rules.number ≡ n
    → ((x : K) → c.rules.typ x ≡ typ)
    → ((x : K) (text : List ℕ) → C text x → c.rules.Needs x (record { tag = decider; text = Some text } ∷ []))
    → ((x y : K) → c.rules.eq x y ≡ true → eq (into x) (into y) ≡ true)
    → HeldChoice n decider typ C into eq
held_choice c tagged typed needed same =
    record { form = enum c.own c.variants; value = c.value; rules = c.rules; tagged = tagged; typed = typed; needed = needed; same = same }

-- where a text was kept last under a tag, that is known
finds_one : (decider : ℕ) (text : List ℕ) (k : List TagValue) → last_text k decider ≡ Some text → Finds (record { tag = decider; text = Some text } ∷ []) k
finds_one decider text k found t other = by (decider == t) refl
  where
    by : (b : Boole) → (decider == t) ≡ b → cond b (Some text) None ≡ Some other → last_text k t ≡ Some other
    by true same e = subst (λ u. last_text k u ≡ Some other) (eqb-true decider t same) (subst (λ o. last_text k decider ≡ o) e found)
    by false differ e = absurd (none-some other e)

pub choice_agrees : {K H : Type 0} {n decider : ℕ} {typ : TtlvType} {C : List ℕ → K → Type 0} {into : K → H} {eq : H → H → Boole}
    (h : HeldChoice n decider typ C into eq) → IsTag n → (x : K) → h.rules.IsSound x
    → (text : List ℕ) → C text x
    → PartAfter decider text h.form (h.rules.written x) record { tag = n; typ = typ } (h.value x)
choice_agrees {n = n} {decider = decider} {typ = typ} h is x sound text chooses =
    let known : List Known = record { tag = decider; text = Some text } ∷ [] in
    let at_own : IsTag h.rules.number → KnownAgrees known h.form (h.rules.written x) record { tag = h.rules.number; typ = h.rules.typ x } (h.value x) =
    λ own. h.rules.agrees own x sound known (h.needed x text chooses) in
    let at_tag : IsTag n → KnownAgrees known h.form (h.rules.written x) record { tag = n; typ = h.rules.typ x } (h.value x) =
    subst (λ m. IsTag m → KnownAgrees known h.form (h.rules.written x) record { tag = m; typ = h.rules.typ x } (h.value x)) h.tagged at_own in
    let p : KnownAgrees known h.form (h.rules.written x) record { tag = n; typ = typ } (h.value x) =
    subst (λ t. KnownAgrees known h.form (h.rules.written x) record { tag = n; typ = t } (h.value x)) (h.typed x) (at_tag is) in
    record { stored = p.stored; agrees = λ k found. p.agrees k (finds_one decider text k found) }

-- what a variant of this name means that holds such an item
abbrev pub as_item : {K H : Type 0} {n : ℕ} {typ : TtlvType} {into : K → H} {eq : H → H → Boole} (own name : List ℕ) → Held n typ into eq → K → Meaning
as_item own name h x = record { written = h.rules.written x; value = newtype_variant_value own name (h.value x); IsSound = h.rules.IsSound x }

-- or such a choice
abbrev pub as_choice : {K H : Type 0} {n decider : ℕ} {typ : TtlvType} {C : List ℕ → K → Type 0} {into : K → H} {eq : H → H → Boole} (own name : List ℕ)
    → HeldChoice n decider typ C into eq → K → Meaning
as_choice own name h x = record { written = h.rules.written x; value = newtype_variant_value own name (h.value x); IsSound = h.rules.IsSound x }

-- ---- what is read

-- the name and the form of the variant at a place
abbrev pub variant_at : Variants → ℕ → Option (List ℕ × Form)
variant_at (variant name (wrapped s) vs) zero = Some (name, s)
variant_at (variant name c vs) (suc place) = variant_at vs place
variant_at _ place = None

-- what the variant at this place reads is the result
unfoldable pub IsHeldAt : {H A : Type 0} → ChoiceOf H → ℕ → Scope A → Spot → Spot → Result H (Failure A) → Type 0
IsHeldAt all place scope old new r = IsReadTo all.value new (at (held_outcome all.own all.variants place) scope old) r

-- what a variant of this name and form reads
abbrev variant_outcome : List ℕ → Option (List ℕ × Form) → Reader Value
variant_outcome own None b o k p e = ends_early
variant_outcome own (Some x) b o k p e = mapped (newtype_variant_value own x.0) (outcome x.1 b o k p e)

held_is : (own : List ℕ) (vs : Variants) (place : ℕ) (b : List ℕ) (o : ℕ) (k : List TagValue) (p e : ℕ)
    → held_outcome own vs place b o k p e ≡ variant_outcome own (variant_at vs place) b o k p e
held_is own no_variants place b o k p e = refl
held_is own (variant name (wrapped s) vs) zero b o k p e = refl
held_is own (variant name (wrapped s) vs) (suc place) b o k p e = held_is own vs place b o k p e
held_is own (variant name unit vs) zero b o k p e = refl
held_is own (variant name unit vs) (suc place) b o k p e = held_is own vs place b o k p e
held_is own (variant name (tuple ss) vs) zero b o k p e = refl
held_is own (variant name (tuple ss) vs) (suc place) b o k p e = held_is own vs place b o k p e

at_place : {place n : ℕ} {name : List ℕ} {s : Form} {A : Type 0} (own : List ℕ) (vs : Variants) (scope : Scope A) (old : Spot)
    → place ≡ n
    → variant_at vs n ≡ Some (name, s)
    → at (held_outcome own vs place) scope old ≡ mapped (newtype_variant_value own name) (at (outcome s) scope old)
at_place {n = n} own vs scope old is there =
    ap (λ m. at (held_outcome own vs m) scope old) is ∙ held_is own vs n scope.bytes.now scope.owner old.stored old.pos scope.end
    ∙ ap (λ x. variant_outcome own x scope.bytes.now scope.owner old.stored old.pos scope.end) there

-- the variant at a place, of what was read of its item
pub is_held_at : {H A : Type 0} {place n : ℕ} {name : List ℕ} {s : Form} {v : Value} (all : ChoiceOf H) (scope : Scope A) (old new : Spot) (y : H)
    → at (outcome s) scope old ≡ reads v new.stored new.pos
    → place ≡ n
    → variant_at all.variants n ≡ Some (name, s)
    → all.value y ≡ newtype_variant_value all.own name v
    → IsHeldAt all place scope old new (Ok y)
unfolding IsHeldAt
is_held_at {name = name} all scope old new y read is there means =
    at_place all.own all.variants scope old is there ∙ ap (mapped (newtype_variant_value all.own name)) read ∙ ap (λ w. reads w new.stored new.pos) (sym means)

-- a fault of its item
pub is_failed_at : {H A : Type 0} {place n : ℕ} {name : List ℕ} {s : Form} (all : ChoiceOf H) (scope : Scope A) (old new : Spot)
    (r : Result H (Failure A)) (failure : Failure A)
    → IsFailure (at (outcome s) scope old) failure
    → IsErrAnd r (λ e. e ≡ failure)
    → place ≡ n
    → variant_at all.variants n ≡ Some (name, s)
    → IsHeldAt all place scope old new r
unfolding IsHeldAt
is_failed_at all scope old new (Ok y) failure fails is_err is there = absurd is_err
is_failed_at {name = name} {s = s} all scope old new (Err e) failure fails same is there =
    subst (λ o. IsFailure o e) (sym (at_place all.own all.variants scope old is there))
    (failure_then (at (outcome s) scope old) (λ r. reads (newtype_variant_value all.own name r.value) r.stored r.next) e
    (subst (IsFailure (at (outcome s) scope old)) (sym same) fails))

-- ---- choices by the text of a tag

-- of a value that such texts choose: what is written of it, as an item of this type, is read as its value if what it holds is sound
pub record Case (n decider : ℕ) (typ : TtlvType) (form : Form) (Chooses : List ℕ → Type 0) (m : Meaning) : Type 0 where
  pub single : is_run m.value ≡ false
  pub agrees : IsTag n → m.IsSound → (text : List ℕ) → Chooses text → PartAfter decider text form m.written record { tag = n; typ = typ } m.value

-- where such texts choose the variant of this index
abbrev pub Picks : ℕ → Variants → TtlvType → ℕ → (List ℕ → Type 0) → Type 0
Picks decider vs typ index Chooses =
    (text : List ℕ) → Chooses text → (k : List TagValue) → last_text k decider ≡ Some text → choice vs k typ ≡ chosen index

-- one that holds an item
pub case_of : {K H : Type 0} {n decider : ℕ} {typ : TtlvType} {into : K → H} {eq : H → H → Boole} {own name : List ℕ} {vs : Variants} {index : ℕ}
    {Chooses : List ℕ → Type 0} (h : Held n typ into eq) (x : K) → HasVariant vs index name (wrapped h.form)
    → Picks decider vs typ index Chooses
    → Case n decider typ (enum own vs) Chooses (as_item own name h x)
case_of h x place picks = record {
  single = h.rules.single x;
  agrees = λ is sound text chooses. chosen_after place (picks text chooses) (held_agrees h is x sound);
}

-- one that holds a choice by the same text
pub case_within : {K H : Type 0} {n decider : ℕ} {typ : TtlvType} {C : List ℕ → K → Type 0} {into : K → H} {eq : H → H → Boole} {own name : List ℕ}
    {vs : Variants} {index : ℕ} {Chooses : List ℕ → Type 0} (h : HeldChoice n decider typ C into eq) (x : K) → HasVariant vs index name (wrapped h.form)
    → Picks decider vs typ index Chooses
    → Case n decider typ (enum own vs) (λ text. Chooses text × C text x) (as_choice own name h x)
case_within h x place picks = record {
  single = h.rules.single x;
  agrees = λ is sound text chooses. chosen_twice place (picks text chooses.0) (choice_agrees h is x sound text chooses.1);
}

pub after_known : {n decider : ℕ} {typ : TtlvType} {s : Form} {C : List ℕ → Type 0} {m : Meaning} (c : Case n decider typ s C m) (known : List Known)
    (o : Option (List ℕ)) → said known decider ≡ o
    → IsTag n
    → m.IsSound
    → IsSomeAnd o C
    → KnownAgrees known s m.written record { tag = n; typ = typ } m.value
after_known c known None known_is is sound chooses = absurd chooses
after_known {decider = decider} c known (Some text) known_is is sound chooses =
    let p = c.agrees is sound text chooses in
    record { stored = p.stored; agrees = λ k found. p.agrees k (found decider text known_is) }

-- a choice by the text of a tag: where that is known, it chooses what is held
abbrev pub choice_by : {H : Type 0} {typ : H → TtlvType} {C : List ℕ → H → Type 0} {own : List ℕ} {vs : Variants} {m : H → Meaning} (n decider : ℕ)
    → ((x : H) → Case n decider (typ x) (enum own vs) (λ text. C text x) (m x))
    → (eq : H → H → Boole)
    → ((x y : H) → (m x).value ≡ (m y).value → eq x y ≡ true)
    → ChoiceOf H
choice_by {typ = typ} {C = C} {own = own} {vs = vs} {m = m} n decider case eq same = record {
  own = own;
  variants = vs;
  value = λ x. (m x).value;
  rules = record {
    number = n;
    typ = typ;
    written = λ x. (m x).written;
    IsSound = λ x. (m x).IsSound;
    Needs = λ x known. IsSomeAnd (said known decider) (λ text. C text x);
    free = false;
    enough = λ free. absurd (false≢true free);
    eq = eq;
    single = λ x. (case x).single;
    agrees = λ is x sound known needs. after_known (case x) known (said known decider) refl is sound needs;
    same = same;
  };
}

-- where an Enumeration has the number by which a value is chosen, so has its text
pub numbered_where : {H : Type 0} {t : ℕ} (number : H → ℕ) (o : Option (Enumeration t)) (p : Option H) → IfSome p (λ y. IsSomeAnd o (λ z. z.number ≡ number y))
    → IfSome p (λ y. IsSomeAnd (option_map (λ z. text_of_number z.number) o) (λ text. text ≡ text_of_number (number y)))
numbered_where number o None chooses = tt
numbered_where number None (Some y) chooses = absurd chooses
numbered_where number (Some z) (Some y) chooses = ap text_of_number chooses

-- what is said of an Enumeration that may be absent is the text of its number
pub texted_where : {H : Type 0} {t : ℕ} (C : List ℕ → H → Type 0) (o : Option (Enumeration t)) (p : Option H)
    → IfSome p (λ y. IsSomeAnd o (λ z. C (text_of_number z.number) y))
    → IfSome p (λ y. IsSomeAnd (option_map (λ z. text_of_number z.number) o) (λ text. C text y))
texted_where C o None chooses = tt
texted_where C None (Some y) chooses = absurd chooses
texted_where C (Some z) (Some y) chooses = chooses

-- ---- choices by the type of the item

-- of a value that is chosen by the type of its item: what is written of it is read as its value if what it holds is sound
pub record TypedCase (n : ℕ) (typ : TtlvType) (form : Form) (m : Meaning) : Type 0 where
  pub single : is_run m.value ≡ false
  pub agrees : IsTag n → m.IsSound → PartAgrees form m.written record { tag = n; typ = typ } m.value

-- one that holds an item
pub typed_case : {K H : Type 0} {n : ℕ} {typ : TtlvType} {into : K → H} {eq : H → H → Boole} {own name : List ℕ} {vs : Variants} {index : ℕ}
    (h : Held n typ into eq) (x : K) → HasVariant vs index name (wrapped h.form)
    → ((k : List TagValue) → choice vs k typ ≡ chosen index)
    → TypedCase n typ (enum own vs) (as_item own name h x)
typed_case h x place picks = record {
  single = h.rules.single x;
  agrees = λ is sound. chosen_by_type place picks (held_agrees h is x sound);
}

pub typed_agrees : {n : ℕ} {typ : TtlvType} {s : Form} {m : Meaning} → TypedCase n typ s m → IsTag n → m.IsSound → (known : List Known)
    → KnownAgrees known s m.written record { tag = n; typ = typ } m.value
typed_agrees case is sound known = let p = case.agrees is sound in record { stored = p.stored; agrees = λ k found. p.agrees k }

-- a choice by the type of the item: nothing has to be known
abbrev pub choice_by_type : {H : Type 0} {typ : H → TtlvType} {own : List ℕ} {vs : Variants} {m : H → Meaning} (n : ℕ)
    → ((x : H) → TypedCase n (typ x) (enum own vs) (m x))
    → (eq : H → H → Boole)
    → ((x y : H) → (m x).value ≡ (m y).value → eq x y ≡ true)
    → ChoiceOf H
choice_by_type {typ = typ} {own = own} {vs = vs} {m = m} n case eq same = record {
  own = own;
  variants = vs;
  value = λ x. (m x).value;
  rules = record {
    number = n;
    typ = typ;
    written = λ x. (m x).written;
    IsSound = λ x. (m x).IsSound;
    Needs = NeedsNothing;
    free = true;
    enough = λ free x known. tt;
    eq = eq;
    single = λ x. (case x).single;
    agrees = λ is x sound known needs. typed_agrees (case x) is sound known;
    same = same;
  };
}
