-- Tags: what is read is written so, and what is written so is read.
use Rattle.std.proofs.Common.{◌≡◌, ℕ, zero, suc, ◌≤◌, Bool, true, false, cond, eqb, eq-eqb, List, []}
use Rattle.std.proofs.Common.{◌∷◌, ◌++◌, length, Option, Some, None, Ok, Err, refl, sym, ap, subst, ◌∙◌, inl, inr, append_assoc, arith}
use Rattle.std.specs.Prelude.{nat_le, encode_utf8_all}
use Rattle.std.proofs.lemmas.Bool.{eqb-true}
use Rattle.std.proofs.lemmas.List.{append-nil, length-append}
use Rattle.plain_xml.specs.declared.failure.Flaw.TheVariants.{Tag, TooMany, Repeated}
use Rattle.plain_xml.specs.Characters.{is_space, is_name_start, is_name_part}
use Rattle.plain_xml.specs.Faults.{◌>>=◌, fault_at, fails, Stepped, steps}
use Rattle.plain_xml.specs.Reading.{after_space, name_at}
use Rattle.plain_xml.specs.Values.{value_at}
use Rattle.plain_xml.specs.Elements.{Pair}
use Rattle.plain_xml.specs.Tags.{has_name, value_behind, attribute_at, start_in, attribute_start, admitted, attribute_behind, next_attribute, attributes_at}
use Rattle.plain_xml.specs.Tags.{slash_end, tag_end_at, tag_end, opening_at, ending_end, ending_at}
use Rattle.plain_xml.specs.Forms.{AreSpaces, IsNameText, IsName, IsValue, IsAttribute, AreAttributes, MayFollow, end_of, IsOpening, IsEnding}
use Rattle.plain_xml.proofs.Tools.{right_of, bind_ok, ok_is, cases_bool, guard_ok, refused_ok, Stops}
use Rattle.plain_xml.proofs.Stepping.{Takes, steps_on, steps_stop, steps_fail, steps_end}
use Rattle.plain_xml.proofs.Fronts.{space_no_part, start_no_space, spaces_taken, spaces_again, HasName, name_taken, name_again}
use Rattle.plain_xml.proofs.ValueForms.{some_is, value_taken, value_again}

-- ---- one attribute

behind_taken : (text value rest : List ℕ) → value_behind text ≡ Ok (value, rest)
    → (tail : List ℕ) × (text ≡ 61 ∷ tail) × (value_at (after_space tail) ≡ Ok (value, rest))
behind_taken [] value rest e = absurd cc
behind_taken (c ∷ cs) value rest e =
    let g = guard_ok (eqb c 61) (value_at (after_space cs)) (fault_at Tag (c ∷ cs)) (value, rest) e in
    (cs, ap (λ (d : ℕ). d ∷ cs) (eqb-true _ _ g.0), g.1)

-- an attribute without the white space in front
record TakesAttribute (text : List ℕ) (a : Pair) (rest : List ℕ) : Type 0 where
  pub name : List ℕ
  pub before : List ℕ
  pub after : List ℕ
  pub value : List ℕ
  pub spaces : AreSpaces before × AreSpaces after
  pub named : IsName name a.0
  pub valued : IsValue value a.1
  pub parts : text ≡ name ++ (before ++ (61 ∷ (after ++ (value ++ rest))))

attribute_taken : (text : List ℕ) (a : Pair) (rest : List ℕ) → attribute_at text ≡ Ok (a, rest) → TakesAttribute text a rest
unfolding attribute_at
attribute_taken text a rest e =
    let b = bind_ok (name_at text) (λ n. value_behind (after_space n.1) >>= λ v. Ok ((n.0, v.0), v.1)) (a, rest) e in
    let n = b.0 in
    let d = bind_ok (value_behind (after_space n.1)) (λ v. Ok ((n.0, v.0), v.1)) (a, rest) b.2 in
    let v = d.0 in
    let both = ok_is ((n.0, v.0), v.1) (a, rest) d.2 in
    let a_is : (n.0, v.0) ≡ a = ap (λ (p : Pair × List ℕ). p.0) both in
    let rest_is : v.1 ≡ rest = ap (λ (p : Pair × List ℕ). p.1) both in
    let hn = name_taken text n.0 n.1 b.1 in
    let s = spaces_taken n.1 in
    let f = behind_taken (after_space n.1) v.0 v.1 d.1 in
    let t = spaces_taken f.0 in
    let w = value_taken (after_space f.0) v.0 v.1 f.2 in
    record {
      name = hn.front;
      before = s.gap;
      after = t.gap;
      value = w.front;
      spaces = (s.spaces, t.spaces);
      named = subst (λ (p : Pair). IsName hn.front p.0) a_is hn.named;
      valued = subst (λ (p : Pair). IsValue w.front p.1) a_is w.is;
      parts = hn.parts
          ∙ ap (λ (l : List ℕ). hn.front ++ l) (s.parts ∙ ap (λ (l : List ℕ). s.gap ++ l) (f.1
          ∙ ap (λ (l : List ℕ). 61 ∷ l) (t.parts ∙ ap (λ (l : List ℕ). t.gap ++ l) (w.parts ∙ ap (λ (l : List ℕ). w.front ++ l) rest_is))));
    }

-- the first character of a value is no white space
value_stops : (value bytes rest : List ℕ) → IsValue value bytes → Stops is_space (value ++ rest)
unfolding is_space
value_stops value bytes rest h = rw h.text_is (elim (cases_bool (eqb h.quote 34)) [
  | inl a ↦ rw (eqb-true _ _ a) refl
  | inr a ↦ elim (cases_bool (eqb h.quote 39)) [ inl b ↦ rw (eqb-true _ _ b) refl | inr b ↦ let e = h.either in absurd (cc (rw (a, b) at e)) ]
])

-- white space, and then what ends a name, ends a name
gap_stops : (gap rest : List ℕ) → AreSpaces gap → Stops is_name_part rest → Stops is_name_part (gap ++ rest)
gap_stops [] rest spaces stops = stops
gap_stops (g ∷ gap) rest spaces stops = space_no_part g spaces.0

equals_ends : (rest : List ℕ) → Stops is_name_part (61 ∷ rest)
unfolding is_name_part is_name_start
equals_ends rest = refl

equals_no_space : (rest : List ℕ) → Stops is_space (61 ∷ rest)
unfolding is_space
equals_no_space rest = refl

attribute_again : (name before after value : List ℕ) (a : Pair) (rest : List ℕ) → AreSpaces before → AreSpaces after → IsName name a.0 → IsValue value a.1
    → attribute_at (name ++ (before ++ (61 ∷ (after ++ (value ++ rest))))) ≡ Ok (a, rest)
unfolding attribute_at
attribute_again name before after value a rest sb sa named valued =
    let tail = 61 ∷ (after ++ (value ++ rest)) in
    let n : name_at (name ++ (before ++ tail)) ≡ Ok (encode_utf8_all name, before ++ tail) =
    name_again name (before ++ tail) named.0 (gap_stops before tail sb (equals_ends (after ++ (value ++ rest)))) in
    let s : after_space (before ++ tail) ≡ tail = spaces_again before tail sb (equals_no_space (after ++ (value ++ rest))) in
    let t : after_space (after ++ (value ++ rest)) ≡ value ++ rest = spaces_again after (value ++ rest) sa (value_stops value a.1 rest valued) in
    let v : value_at (value ++ rest) ≡ Ok (a.1, rest) = value_again value a.1 rest valued in
    rw (n, s, t, v) (ap (λ (b : List ℕ). Ok ((b, a.1), rest)) (sym named.1))

-- ---- where one begins

record Starts (text start : List ℕ) : Type 0 where
  pub first : ℕ
  pub gap : List ℕ
  pub spaces : AreSpaces (first ∷ gap)
  pub parts : text ≡ (first ∷ gap) ++ start

starts_gap : (text gap start : List ℕ) → AreSpaces gap → text ≡ gap ++ start → eqb (length start) (length text) ≡ false → Starts text start
starts_gap text [] start spaces parts e = absurd (cc (eq-eqb (length start) (length text) (ap length (sym parts)), e))
starts_gap text (g ∷ gap) start spaces parts e = record { first = g; gap = gap; spaces = spaces; parts = parts }

start_in_taken : (text l start : List ℕ) → start_in text l ≡ Ok (Some start) → (l ≡ start) × (eqb (length start) (length text) ≡ false)
start_in_taken text [] start e = absurd cc
start_in_taken text (c ∷ cs) start e =
    elim (cases_bool (is_name_start c)) [
      | inl s ↦
          let g = refused_ok (eqb (length (c ∷ cs)) (length text)) (Ok (Some (c ∷ cs))) (fault_at Tag (c ∷ cs)) (Some start) (rw s at e) in
          let is : c ∷ cs ≡ start = some_is (c ∷ cs) start (ok_is (Some (c ∷ cs)) (Some start) g.1) in
          (is, subst (λ (l : List ℕ). eqb (length l) (length text) ≡ false) is g.0)
      | inr s ↦ absurd (cc (ok_is None (Some start) (rw s at e)))
    ]

start_taken : (text start : List ℕ) → attribute_start text ≡ Ok (Some start) → Starts text start
unfolding attribute_start
start_taken text start e =
    let s = spaces_taken text in
    let f = start_in_taken text (after_space text) start e in
    starts_gap text s.gap start s.spaces (s.parts ∙ ap (λ (l : List ℕ). s.gap ++ l) f.0) f.1

longer : (gap start : List ℕ) (first : ℕ) → eqb (length start) (length ((first ∷ gap) ++ start)) ≡ false
longer gap start first = elim (cases_bool (eqb (length start) (length ((first ∷ gap) ++ start)))) [
  | inl e ↦ absurd (omega (arith, eqb-true _ _ e, length-append (first ∷ gap) start))
  | inr e ↦ e
]

start_in_again : (gap rest : List ℕ) (first c : ℕ) → is_name_start c ≡ true → start_in ((first ∷ gap) ++ (c ∷ rest)) (c ∷ rest) ≡ Ok (Some (c ∷ rest))
start_in_again gap rest first c e = rw (e, longer gap (c ∷ rest) first) refl

start_again : (gap name rest : List ℕ) (first : ℕ) → AreSpaces (first ∷ gap) → IsNameText name
    → attribute_start ((first ∷ gap) ++ (name ++ rest)) ≡ Ok (Some (name ++ rest))
unfolding attribute_start
start_again gap [] rest first spaces h = absurd h
start_again gap (c ∷ cs) rest first spaces h =
    let s : after_space ((first ∷ gap) ++ ((c ∷ cs) ++ rest)) ≡ (c ∷ cs) ++ rest = spaces_again (first ∷ gap) ((c ∷ cs) ++ rest) spaces
    (start_no_space c h.0) in
    ap (start_in ((first ∷ gap) ++ ((c ∷ cs) ++ rest))) s ∙ start_in_again gap (cs ++ rest) first c h.0

-- ---- one more

admitted_is : (before : List Pair) (name text : List ℕ) (u : Unit {0}) → admitted before name text ≡ Ok u
    → (nat_le 64 (length before) ≡ false) × (has_name before name ≡ false)
unfolding admitted
admitted_is before name text u e =
    let a = refused_ok (nat_le 64 (length before)) (cond (has_name before name) (fails Repeated text) (Ok tt)) (fault_at TooMany text) u e in
    let b = refused_ok (has_name before name) (Ok tt) (fault_at Repeated text) u a.1 in
    (a.0, b.0)

admitted_again : (before : List Pair) (name text : List ℕ) → nat_le 64 (length before) ≡ false → has_name before name ≡ false
    → admitted before name text ≡ Ok tt
unfolding admitted
admitted_again before name text few new = rw (few, new) refl

record TakesNext (before : List Pair) (text : List ℕ) (next : List Pair) (rest : List ℕ) : Type 0 where
  pub attribute : Pair
  pub front : List ℕ
  pub is : IsAttribute front attribute
  pub parts : text ≡ front ++ rest
  pub next_is : next ≡ before ++ attribute ∷ []
  pub few : nat_le 64 (length before) ≡ false
  pub new : has_name before attribute.0 ≡ false

regroup : (gap name before after value rest : List ℕ)
    → gap ++ (name ++ (before ++ (61 ∷ (after ++ (value ++ rest))))) ≡ (gap ++ (name ++ (before ++ (61 ∷ (after ++ value))))) ++ rest
regroup gap name before after value rest = simp append_assoc

next_behind : (before : List Pair) (text start : List ℕ) (next : List Pair) (rest : List ℕ) → Starts text start
    → attribute_behind before (Some start) ≡ Ok (Some (next, rest)) → TakesNext before text next rest
next_behind before text start next rest s e =
    let b = bind_ok (attribute_at start) (λ a. admitted before a.0.0 start >>= λ u. Ok (Some (before ++ a.0 ∷ [], a.1))) (Some (next, rest)) e in
    let a = b.0 in
    let d = bind_ok (admitted before a.0.0 start) (λ u. Ok (Some (before ++ a.0 ∷ [], a.1))) (Some (next, rest)) b.2 in
    let both = some_is (before ++ a.0 ∷ [], a.1) (next, rest) (ok_is (Some (before ++ a.0 ∷ [], a.1)) (Some (next, rest)) d.2) in
    let next_is : before ++ a.0 ∷ [] ≡ next = ap (λ (p : List Pair × List ℕ). p.0) both in
    let rest_is : a.1 ≡ rest = ap (λ (p : List Pair × List ℕ). p.1) both in
    let t = attribute_taken start a.0 a.1 b.1 in
    let ad = admitted_is before a.0.0 start d.0 d.1 in
    record {
      attribute = a.0;
      front = (s.first ∷ s.gap) ++ (t.name ++ (t.before ++ (61 ∷ (t.after ++ t.value))));
      is = record {
        first = s.first;
        gap = s.gap;
        name = t.name;
        before = t.before;
        after = t.after;
        value = t.value;
        are = (s.spaces, t.spaces.0, t.spaces.1);
        named = t.named;
        valued = t.valued;
        text_is = refl;
      };
      parts = s.parts ∙ ap (λ (l : List ℕ). (s.first ∷ s.gap) ++ l) t.parts ∙ regroup (s.first ∷ s.gap) t.name t.before t.after t.value a.1
          ∙ ap (λ (l : List ℕ). ((s.first ∷ s.gap) ++ (t.name ++ (t.before ++ (61 ∷ (t.after ++ t.value))))) ++ l) rest_is;
      next_is = sym next_is;
      few = ad.0;
      new = ad.1;
    }

next_start : (before : List Pair) (text : List ℕ) (o : Option (List ℕ)) (next : List Pair) (rest : List ℕ) → attribute_start text ≡ Ok o
    → attribute_behind before o ≡ Ok (Some (next, rest)) → TakesNext before text next rest
next_start before text None next rest is e = absurd (cc (ok_is None (Some (next, rest)) e))
next_start before text (Some start) next rest is e = next_behind before text start next rest (start_taken text start is) e

next_taken : (before : List Pair) (text : List ℕ) (next : List Pair) (rest : List ℕ) → next_attribute before text ≡ Ok (Some (next, rest))
    → TakesNext before text next rest
unfolding next_attribute
next_taken before text next rest e =
    let b = bind_ok (attribute_start text) (attribute_behind before) (Some (next, rest)) e in
    next_start before text b.0 next rest b.1 b.2

attribute_front : (front : List ℕ) (a : Pair) (c : ℕ) (cs rest : List ℕ) → IsAttribute front a → c ∷ cs ≡ front ++ rest → (more : List ℕ) × (cs ≡ more ++ rest)
attribute_front front a c cs rest h e =
    let whole : c ∷ cs ≡ ((h.first ∷ h.gap) ++ (h.name ++ (h.before ++ (61 ∷ (h.after ++ h.value))))) ++ rest = e ∙ ap (λ (l : List ℕ). l ++ rest) h.text_is in
    (h.gap ++ (h.name ++ (h.before ++ (61 ∷ (h.after ++ h.value)))), cc)

pub next_attribute-takes : Takes next_attribute
next_attribute-takes before next c cs rest e =
    let t = next_taken before (c ∷ cs) next rest e in
    attribute_front t.front t.attribute c cs rest t.is t.parts

next_again : (before : List Pair) (front : List ℕ) (a : Pair) (rest : List ℕ) → IsAttribute front a → nat_le 64 (length before) ≡ false
    → has_name before a.0 ≡ false
    → next_attribute before (front ++ rest) ≡ Ok (Some (before ++ a ∷ [], rest))
unfolding next_attribute
next_again before front a rest h few new =
    let start = h.name ++ (h.before ++ (61 ∷ (h.after ++ (h.value ++ rest)))) in
    let whole : front ++ rest ≡ (h.first ∷ h.gap) ++ start = ap (λ (l : List ℕ). l ++ rest) h.text_is
    ∙ sym (regroup (h.first ∷ h.gap) h.name h.before h.after h.value rest) in
    let s : attribute_start (front ++ rest) ≡ Ok (Some start) = ap attribute_start whole
    ∙ start_again h.gap h.name (h.before ++ (61 ∷ (h.after ++ (h.value ++ rest)))) h.first h.are.0 h.named.0 in
    let r : attribute_at start ≡ Ok (a, rest) = attribute_again h.name h.before h.after h.value a rest h.are.1 h.are.2 h.named h.valued in
    let d : admitted before a.0 start ≡ Ok tt = admitted_again before a.0 start few new in
    rw (s, r, d) refl

-- ---- all of them

pub record HasAttributes (before : List Pair) (text : List ℕ) (all : List Pair) (rest : List ℕ) : Type 0 where
  pub more : List Pair
  pub front : List ℕ
  pub are : AreAttributes more front
  pub fit : MayFollow before more
  pub parts : text ≡ front ++ rest
  pub all_is : all ≡ before ++ more

attributes_none : (before all : List Pair) (text rest : List ℕ) → right_of {A = List Pair × List ℕ} (before, text) ≡ Ok (all, rest)
    → HasAttributes before text all rest
attributes_none before all text rest e =
    let both = ok_is (before, text) (all, rest) e in
    let rest_is : text ≡ rest = ap (λ (q : List Pair × List ℕ). q.1) both in
    let all_is : before ≡ all = ap (λ (q : List Pair × List ℕ). q.0) both in
    record { more = []; front = []; are = refl; fit = tt; parts = rest_is; all_is = sym all_is ∙ sym (append-nil before) }

attributes_more : (before next all : List Pair) (text after rest : List ℕ) (t : TakesNext before text next after) → HasAttributes next after all rest
    → HasAttributes before text all rest
attributes_more before next all text after rest t h = record {
  more = t.attribute ∷ h.more;
  front = t.front ++ h.front;
  are = (t.front, h.front, refl, t.is, h.are);
  fit = (t.few, t.new, subst (λ (l : List Pair). MayFollow l h.more) t.next_is h.fit);
  parts = t.parts ∙ ap (λ (l : List ℕ). t.front ++ l) h.parts ∙ sym (append_assoc t.front h.front rest);
  all_is = h.all_is ∙ ap (λ (l : List Pair). l ++ h.more) t.next_is ∙ append_assoc before (t.attribute ∷ []) h.more;
}

attributes_next : (n : ℕ) (all : List Pair) (rest : List ℕ) (before : List Pair) (c : ℕ) (cs : List ℕ) → length cs ≤ n
    → ((now : List Pair) (text : List ℕ) → length text ≤ n → steps next_attribute now text ≡ Ok (all, rest) → HasAttributes now text all rest)
    → (r : Stepped (List Pair)) → next_attribute before (c ∷ cs) ≡ r → steps next_attribute before (c ∷ cs) ≡ Ok (all, rest) → HasAttributes before
    (c ∷ cs) all rest
attributes_next n all rest before c cs le on_from (Err f) is e = absurd (cc (steps_fail next_attribute before c cs f is, e))
attributes_next n all rest before c cs le on_from (Ok None) is e = attributes_none before all (c ∷ cs) rest (sym (steps_stop next_attribute before c cs is) ∙ e)
attributes_next n all rest before c cs le on_from (Ok (Some x)) is e =
    let t = next_taken before (c ∷ cs) x.0 x.1 is in
    let f = next_attribute-takes before x.0 c cs x.1 is in
    let on = steps_on next_attribute before x.0 c cs x.1 next_attribute-takes is in
    let shorter : length x.1 ≤ n = omega (arith, ap length f.1, length-append f.0 x.1) in
    attributes_more before x.0 all (c ∷ cs) x.1 rest t (on_from x.0 x.1 shorter (sym on ∙ e))

attributes_take : (n : ℕ) (all : List Pair) (rest : List ℕ) (before : List Pair) (text : List ℕ) → length text ≤ n
    → steps next_attribute before text ≡ Ok (all, rest) → HasAttributes before text all rest
attributes_take n all rest before [] le e = attributes_none before all [] rest (sym (steps_end next_attribute before) ∙ e)
attributes_take zero all rest before (c ∷ cs) le e = absurd (omega arith)
attributes_take (suc n) all rest before (c ∷ cs) le e =
    attributes_next n all rest before c cs (omega arith) (attributes_take n all rest) (next_attribute before (c ∷ cs)) refl e

attributes_split : (front : List ℕ) (a : Pair) (rest : List ℕ) → IsAttribute front a → (c : ℕ) × (cs : List ℕ) × (front ++ rest ≡ c ∷ cs) × (is_space c ≡ true)
attributes_split front a rest h =
    (h.first, (h.gap ++ (h.name ++ (h.before ++ (61 ∷ (h.after ++ h.value))))) ++ rest, ap (λ (l : List ℕ). l ++ rest) h.text_is, h.are.0.0)

attributes_again : (before more : List Pair) (inner tail : List ℕ) → AreAttributes more inner → MayFollow before more
    → steps next_attribute (before ++ more) tail ≡ Ok (before ++ more, tail)
    → steps next_attribute before (inner ++ tail) ≡ Ok (before ++ more, tail)
attributes_again before [] inner tail h fit stop =
    ap (λ (l : List ℕ). steps next_attribute before (l ++ tail)) h
    ∙ subst (λ (l : List Pair). steps next_attribute l tail ≡ Ok (before ++ [], tail)) (append-nil before) stop
attributes_again before (a ∷ more) inner tail h fit stop =
    let front = h.0 in
    let rest = h.1 in
    let whole : inner ++ tail ≡ front ++ (rest ++ tail) = ap (λ (l : List ℕ). l ++ tail) h.2 ∙ append_assoc front rest tail in
    let s = attributes_split front a (rest ++ tail) h.3 in
    let step : next_attribute before (s.0 ∷ s.1) ≡ Ok (Some (before ++ a ∷ [], rest ++ tail)) = ap (next_attribute before) (sym s.2)
    ∙ next_again before front a (rest ++ tail) h.3 fit.0 fit.1 in
    let regrouped : (before ++ a ∷ []) ++ more ≡ before ++ a ∷ more = append_assoc before (a ∷ []) more in
    ap (steps next_attribute before) (whole ∙ s.2)
    ∙ steps_on next_attribute before (before ++ a ∷ []) s.0 s.1 (rest ++ tail) next_attribute-takes step
    ∙ subst (λ (l : List Pair). steps next_attribute (before ++ a ∷ []) (rest ++ tail) ≡ Ok (l, tail)) regrouped
    (attributes_again (before ++ a ∷ []) more rest tail h.4 fit.2 (subst (λ (l : List Pair). steps next_attribute l tail ≡ Ok (l, tail))
    (sym regrouped) stop))

-- ---- start tags

record TakesEnd (text : List ℕ) (empty : Bool) (rest : List ℕ) : Type 0 where
  pub gap : List ℕ
  pub spaces : AreSpaces gap
  pub parts : text ≡ gap ++ (end_of empty ++ rest)

slash_taken : (text cs : List ℕ) (empty : Bool) (rest : List ℕ) → slash_end text cs ≡ Ok (empty, rest) → 47 ∷ cs ≡ end_of empty ++ rest
slash_taken text [] empty rest e = absurd cc
slash_taken text (c ∷ cs) empty rest e =
    let g = guard_ok (eqb c 62) (Ok (true, cs)) (fault_at Tag text) (empty, rest) e in
    let both = ok_is (true, cs) (empty, rest) g.1 in
    let rest_is : cs ≡ rest = ap (λ (q : Bool × List ℕ). q.1) both in
    let empty_is : true ≡ empty = ap (λ (q : Bool × List ℕ). q.0) both in
    rw (← empty_is, eqb-true _ _ g.0, rest_is) refl

end_taken : (text : List ℕ) (empty : Bool) (rest : List ℕ) → tag_end_at text ≡ Ok (empty, rest) → text ≡ end_of empty ++ rest
end_taken [] empty rest e = absurd cc
end_taken (c ∷ cs) empty rest e = elim (cases_bool (eqb c 62)) [
  | inl a ↦
      let both = ok_is (false, cs) (empty, rest) (rw a at e) in
      let rest_is : cs ≡ rest = ap (λ (q : Bool × List ℕ). q.1) both in
      let empty_is : false ≡ empty = ap (λ (q : Bool × List ℕ). q.0) both in
      rw (← empty_is, eqb-true _ _ a, rest_is) refl
  | inr a ↦
      let g = guard_ok (eqb c 47) (slash_end (c ∷ cs) cs) (fault_at Tag (c ∷ cs)) (empty, rest) (rw a at e) in
      ap (λ (d : ℕ). d ∷ cs) (eqb-true _ _ g.0) ∙ slash_taken (c ∷ cs) cs empty rest g.1
]

tag_end_taken : (text : List ℕ) (empty : Bool) (rest : List ℕ) → tag_end text ≡ Ok (empty, rest) → TakesEnd text empty rest
unfolding tag_end
tag_end_taken text empty rest e =
    let s = spaces_taken text in
    record { gap = s.gap; spaces = s.spaces; parts = s.parts ∙ ap (λ (l : List ℕ). s.gap ++ l) (end_taken (after_space text) empty rest e) }

end_no_space : (empty : Bool) (rest : List ℕ) → Stops is_space (end_of empty ++ rest)
unfolding is_space
end_no_space true rest = refl
end_no_space false rest = refl

end_no_part : (empty : Bool) (rest : List ℕ) → Stops is_name_part (end_of empty ++ rest)
unfolding is_name_part is_name_start
end_no_part true rest = refl
end_no_part false rest = refl

end_again : (empty : Bool) (rest : List ℕ) → tag_end_at (end_of empty ++ rest) ≡ Ok (empty, rest)
end_again true rest = refl
end_again false rest = refl

tag_end_again : (gap : List ℕ) (empty : Bool) (rest : List ℕ) → AreSpaces gap → tag_end (gap ++ (end_of empty ++ rest)) ≡ Ok (empty, rest)
unfolding tag_end
tag_end_again gap empty rest spaces = ap tag_end_at (spaces_again gap (end_of empty ++ rest) spaces (end_no_space empty rest)) ∙ end_again empty rest

no_start : (empty : Bool) (text rest : List ℕ) → start_in text (end_of empty ++ rest) ≡ Ok None
unfolding is_name_start
no_start true text rest = refl
no_start false text rest = refl

tail_stops : (before : List Pair) (gap : List ℕ) (empty : Bool) (rest : List ℕ) → AreSpaces gap
    → next_attribute before (gap ++ (end_of empty ++ rest)) ≡ Ok None
unfolding next_attribute attribute_start
tail_stops before gap empty rest spaces =
    let s : after_space (gap ++ (end_of empty ++ rest)) ≡ end_of empty ++ rest = spaces_again gap (end_of empty ++ rest) spaces (end_no_space empty rest) in
    ap (λ (l : List ℕ). start_in (gap ++ (end_of empty ++ rest)) l >>= attribute_behind before) s
    ∙ rw (no_start empty (gap ++ (end_of empty ++ rest)) rest) refl

tail_split : (gap : List ℕ) (empty : Bool) (rest : List ℕ) → (c : ℕ) × (cs : List ℕ) × (gap ++ (end_of empty ++ rest) ≡ c ∷ cs)
tail_split [] true rest = (47, 62 ∷ rest, refl)
tail_split [] false rest = (62, rest, refl)
tail_split (g ∷ gap) empty rest = (g, gap ++ (end_of empty ++ rest), refl)

tail_steps : (before : List Pair) (gap : List ℕ) (empty : Bool) (rest : List ℕ) → AreSpaces gap
    → steps next_attribute before (gap ++ (end_of empty ++ rest)) ≡ Ok (before, gap ++ (end_of empty ++ rest))
tail_steps before gap empty rest spaces =
    let s = tail_split gap empty rest in
    subst (λ (l : List ℕ). steps next_attribute before l ≡ Ok (before, l)) (sym s.2)
    (steps_stop next_attribute before s.0 s.1 (ap (next_attribute before) (sym s.2) ∙ tail_stops before gap empty rest spaces))

pub record TakesOpening (text name : List ℕ) (attributes : List Pair) (empty : Bool) (rest : List ℕ) : Type 0 where
  pub front : List ℕ
  pub is : IsOpening front name attributes empty
  pub parts : text ≡ front ++ rest

four_parts : (a b c d rest : List ℕ) → a ++ (b ++ (c ++ (d ++ rest))) ≡ (a ++ (b ++ (c ++ d))) ++ rest
four_parts a b c d rest = simp append_assoc

opening_end : (text : List ℕ) (n : List ℕ × List ℕ) (all : List Pair × List ℕ) (e : Bool × List ℕ) → HasName text n.0 n.1
    → HasAttributes [] n.1 all.0 all.1 → TakesEnd all.1 e.0 e.1
    → TakesOpening text n.0 all.0 e.0 e.1
opening_end text n all e hn ha he = record {
  front = hn.front ++ (ha.front ++ (he.gap ++ end_of e.0));
  is = record {
    name_text = hn.front;
    inner = ha.front;
    gap = he.gap;
    named = hn.named;
    are = subst (λ (l : List Pair). AreAttributes l ha.front) (sym ha.all_is) ha.are;
    fit = subst (λ (l : List Pair). MayFollow [] l) (sym ha.all_is) ha.fit;
    spaces = he.spaces;
    text_is = refl;
  };
  parts = hn.parts ∙ ap (λ (l : List ℕ). hn.front ++ l) (ha.parts ∙ ap (λ (l : List ℕ). ha.front ++ l) he.parts)
      ∙ four_parts hn.front ha.front he.gap (end_of e.0) e.1;
}

abbrev pub Opened : Type 0
Opened = List ℕ × List Pair × Bool × List ℕ

pub opening_taken : (text : List ℕ) (x : Opened) → opening_at text ≡ Ok x → TakesOpening text x.0 x.1 x.2 x.3
unfolding opening_at attributes_at
opening_taken text x e =
    let a = bind_ok (name_at text) (λ n. attributes_at n.1 >>= λ s. tag_end s.1 >>= λ t. Ok (n.0, s.0, t.0, t.1)) x e in
    let b = bind_ok (attributes_at a.0.1) (λ s. tag_end s.1 >>= λ t. Ok (a.0.0, s.0, t.0, t.1)) x a.2 in
    let d = bind_ok (tag_end b.0.1) (λ t. Ok (a.0.0, b.0.0, t.0, t.1)) x b.2 in
    let is : (a.0.0, b.0.0, d.0.0, d.0.1) ≡ x = ok_is (a.0.0, b.0.0, d.0.0, d.0.1) x d.2 in
    subst (λ (y : Opened). TakesOpening text y.0 y.1 y.2 y.3) is
    (opening_end text a.0 b.0 d.0 (name_taken text a.0.0 a.0.1 a.1) (attributes_take (length a.0.1) b.0.0 b.0.1 [] a.0.1 (omega arith) b.1)
    (tag_end_taken b.0.1 d.0.0 d.0.1 d.1))

inner_stops : (attributes : List Pair) (inner tail : List ℕ) → AreAttributes attributes inner → Stops is_name_part tail → Stops is_name_part (inner ++ tail)
inner_stops [] inner tail h stops = rw h stops
inner_stops (a ∷ others) inner tail h stops =
    let s = attributes_split h.0 a (h.1 ++ tail) h.3 in
    let whole : inner ++ tail ≡ s.0 ∷ s.1 = ap (λ (l : List ℕ). l ++ tail) h.2 ∙ append_assoc h.0 h.1 tail ∙ s.2 in
    subst (Stops is_name_part) (sym whole) (space_no_part s.0 s.3)

pub opening_again : (front name : List ℕ) (attributes : List Pair) (empty : Bool) (rest : List ℕ) → IsOpening front name attributes empty
    → opening_at (front ++ rest) ≡ Ok (name, attributes, empty, rest)
unfolding opening_at attributes_at
opening_again front name attributes empty rest h =
    let tail = h.gap ++ (end_of empty ++ rest) in
    let whole : front ++ rest ≡ h.name_text ++ (h.inner ++ tail) = ap (λ (l : List ℕ). l ++ rest) h.text_is
    ∙ sym (four_parts h.name_text h.inner h.gap (end_of empty) rest) in
    let stops = inner_stops attributes h.inner tail h.are (gap_stops h.gap (end_of empty ++ rest) h.spaces (end_no_part empty rest)) in
    let n : name_at (front ++ rest) ≡ Ok (encode_utf8_all h.name_text, h.inner ++ tail) = ap name_at whole
    ∙ name_again h.name_text (h.inner ++ tail) h.named.0 stops in
    let s : steps next_attribute [] (h.inner ++ tail) ≡ Ok (attributes, tail) =
    attributes_again [] attributes h.inner tail h.are h.fit (tail_steps attributes h.gap empty rest h.spaces) in
    let t : tag_end tail ≡ Ok (empty, rest) = tag_end_again h.gap empty rest h.spaces in
    rw (n, s, t) (ap (λ (b : List ℕ). Ok (b, attributes, empty, rest)) (sym h.named.1))

-- ---- end tags

pub record TakesEnding (text name rest : List ℕ) : Type 0 where
  pub front : List ℕ
  pub is : IsEnding front name
  pub parts : text ≡ front ++ rest

ending_end_taken : (text rest : List ℕ) → ending_end text ≡ Ok rest → text ≡ 62 ∷ rest
ending_end_taken [] rest e = absurd cc
ending_end_taken (c ∷ cs) rest e =
    let g = guard_ok (eqb c 62) (Ok cs) (fault_at Tag (c ∷ cs)) rest e in
    let rest_is : cs ≡ rest = ok_is cs rest g.1 in
    rw (eqb-true _ _ g.0, rest_is) refl

ending_regroup : (a b rest : List ℕ) → a ++ (b ++ 62 ∷ rest) ≡ (a ++ (b ++ 62 ∷ [])) ++ rest
ending_regroup a b rest = simp append_assoc

pub ending_taken : (text name rest : List ℕ) → ending_at text ≡ Ok (name, rest) → TakesEnding text name rest
unfolding ending_at
ending_taken text name rest e =
    let a = bind_ok (name_at text) (λ n. ending_end (after_space n.1) >>= λ r. Ok (n.0, r)) (name, rest) e in
    let b = bind_ok (ending_end (after_space a.0.1)) (λ r. Ok (a.0.0, r)) (name, rest) a.2 in
    let both = ok_is (a.0.0, b.0) (name, rest) b.2 in
    let rest_is : b.0 ≡ rest = ap (λ (q : List ℕ × List ℕ). q.1) both in
    let name_is : a.0.0 ≡ name = ap (λ (q : List ℕ × List ℕ). q.0) both in
    let hn = name_taken text a.0.0 a.0.1 a.1 in
    let s = spaces_taken a.0.1 in
    let end : after_space a.0.1 ≡ 62 ∷ rest = ending_end_taken (after_space a.0.1) b.0 b.1 ∙ ap (λ (l : List ℕ). 62 ∷ l) rest_is in
    record {
      front = hn.front ++ (s.gap ++ 62 ∷ []);
      is = record { name_text = hn.front; gap = s.gap; named = subst (IsName hn.front) name_is hn.named; spaces = s.spaces; text_is = refl };
      parts = hn.parts ∙ ap (λ (l : List ℕ). hn.front ++ l) (s.parts ∙ ap (λ (l : List ℕ). s.gap ++ l) end) ∙ ending_regroup hn.front s.gap rest;
    }

close_no_space : (rest : List ℕ) → Stops is_space (62 ∷ rest)
unfolding is_space
close_no_space rest = refl

close_no_part : (rest : List ℕ) → Stops is_name_part (62 ∷ rest)
unfolding is_name_part is_name_start
close_no_part rest = refl

pub ending_again : (front name rest : List ℕ) → IsEnding front name → ending_at (front ++ rest) ≡ Ok (name, rest)
unfolding ending_at
ending_again front name rest h =
    let tail = h.gap ++ 62 ∷ rest in
    let whole : front ++ rest ≡ h.name_text ++ tail = ap (λ (l : List ℕ). l ++ rest) h.text_is ∙ sym (ending_regroup h.name_text h.gap rest) in
    let n : name_at (front ++ rest) ≡ Ok (encode_utf8_all h.name_text, tail) = ap name_at whole
    ∙ name_again h.name_text tail h.named.0 (gap_stops h.gap (62 ∷ rest) h.spaces (close_no_part rest)) in
    let s : after_space tail ≡ 62 ∷ rest = spaces_again h.gap (62 ∷ rest) h.spaces (close_no_space rest) in
    rw (n, s) (ap (λ (b : List ℕ). Ok (b, rest)) (sym h.named.1))
