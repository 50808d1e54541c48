-- Values: what is read is written so, and what is written so is read.
use Rattle.std.proofs.Common.{◌≡◌, ℕ, zero, suc, ◌≤◌, Bool, true, false, not, ◌||◌, ◌&&◌, cond, eqb, List, [], ◌∷◌, ◌++◌}
use Rattle.std.proofs.Common.{length, take, drop, Option, Some, None, Result, Ok, Err, refl, sym, ap, subst, ◌∙◌, inl, inr, append_assoc, arith}
use Rattle.std.specs.Prelude.{encode_utf8, option_map, option_and_then}
use Rattle.std.specs.Option.{ok_or}
use Rattle.std.specs.List.{AllByRecursion, prefix_len}
use Rattle.std.proofs.lemmas.Bool.{eqb-true}
use Rattle.std.proofs.lemmas.List.{append-nil, length-append}
use Rattle.std.proofs.Math.Seq.{drop-append_seam, take-append_seam}
use Rattle.plain_xml.specs.declared.failure.Flaw.TheVariants.{Tag, Value, Reference}
use Rattle.plain_xml.specs.declared.failure.Fault.{Fault}
use Rattle.plain_xml.specs.Faults.{◌>>=◌, fault_at, fails, steps}
use Rattle.plain_xml.specs.Values.{referenced, cut, is_other, split_at_first, reference_at, character_at, more_of, closed, quoted, value_at}
use Rattle.plain_xml.specs.Forms.{Spelling, itself, reference, spelled, IsSpelled, AreSpelled, text_of_all, bytes_of_all, IsValue}
use Rattle.plain_xml.proofs.Tools.{right_of, eqb-same, bind_ok, ok_is, cases_bool, guard_ok, refused_ok, Stops, splits, prefix_len-parts}
use Rattle.plain_xml.proofs.Stepping.{Takes, steps_on, steps_stop, steps_fail, steps_end}

-- ---- up to a character

abbrev done : {A : Type 0} → A → Option A
done x = Some x

pub some_is : {A : Type 0} (x y : A) → done x ≡ done y → x ≡ y
some_is x y e = cc

cut_takes : (stop : ℕ) (cs front back name rest : List ℕ) → cs ≡ front ++ back → Stops (is_other stop) back
    → AllByRecursion (λ c. is_other stop c ≡ true) front → cut front back ≡ Some (name, rest)
    → AllByRecursion (λ c. is_other stop c ≡ true) name × (cs ≡ name ++ stop ∷ rest)
cut_takes stop cs front [] name rest parts stops pass e = absurd cc
cut_takes stop cs front (b ∷ back) name rest parts stops pass e =
    let both = some_is (front, back) (name, rest) e in
    let name_is : front ≡ name = ap (λ (p : List ℕ × List ℕ). p.0) both in
    let rest_is : back ≡ rest = ap (λ (p : List ℕ × List ℕ). p.1) both in
    let same : b ≡ stop = elim (cases_bool (eqb b stop)) [ inl h ↦ eqb-true _ _ h | inr h ↦ absurd (cc (rw h at stops)) ] in (
      subst (λ (l : List ℕ). AllByRecursion (λ c. is_other stop c ≡ true) l) name_is pass,
      parts ∙ ap (λ (l : List ℕ). l ++ b ∷ back) name_is ∙ ap (λ (l : List ℕ). name ++ b ∷ l) rest_is ∙ ap (λ (d : ℕ). name ++ d ∷ rest) same,
    )

split_takes : (stop : ℕ) (cs name rest : List ℕ) → split_at_first stop cs ≡ Some (name, rest)
    → AllByRecursion (λ c. is_other stop c ≡ true) name × (cs ≡ name ++ stop ∷ rest)
unfolding split_at_first
split_takes stop cs name rest e =
    let s = splits (is_other stop) cs in
    let is : cut s.front s.back ≡ Some (name, rest) = ap (λ (l : List ℕ). cut l s.back) (sym s.taken)
    ∙ ap (cut (take (prefix_len (is_other stop) cs) cs)) (sym s.dropped) ∙ e in
    cut_takes stop cs s.front s.back name rest s.parts s.stops s.pass is

not_same : (c : ℕ) → not (eqb c c) ≡ false
not_same c = rw (eqb-same c) refl

split_again : (stop : ℕ) (name rest : List ℕ) → AllByRecursion (λ c. is_other stop c ≡ true) name
    → split_at_first stop (name ++ stop ∷ rest) ≡ Some (name, rest)
unfolding split_at_first
split_again stop name rest pass =
    let n : prefix_len (is_other stop) (name ++ stop ∷ rest) ≡ length name = prefix_len-parts (is_other stop) name (stop ∷ rest) pass (not_same stop) in
    ap (λ (k : ℕ). cut (take k (name ++ stop ∷ rest)) (drop k (name ++ stop ∷ rest))) n
    ∙ ap (λ (l : List ℕ). cut l (drop (length name) (name ++ stop ∷ rest))) (take-append_seam name (stop ∷ rest))
    ∙ ap (cut name) (drop-append_seam name (stop ∷ rest))

-- ---- a character

pub record HasSpelling (quote : ℕ) (text rest : List ℕ) (d : ℕ) : Type 0 where
  pub spelling : Spelling
  pub is : IsSpelled quote spelling d
  pub parts : text ≡ spelled spelling ++ rest

reference_named : (cs rest : List ℕ) (d : ℕ) (p : List ℕ × List ℕ) → split_at_first 59 cs ≡ Some p → (r : Option ℕ) → referenced p.0 ≡ r
    → option_map {U = ℕ × List ℕ} (λ c. (c, p.1)) r ≡ Some (d, rest) → (name : List ℕ) × (split_at_first 59 cs ≡ Some (name, rest)) × (referenced name ≡ Some d)
reference_named cs rest d p is None named e = absurd cc
reference_named cs rest d p is (Some c) named e =
    let both = some_is (c, p.1) (d, rest) e in
    let rest_is : p.1 ≡ rest = ap (λ (q : ℕ × List ℕ). q.1) both in
    let d_is : c ≡ d = ap (λ (q : ℕ × List ℕ). q.0) both in
    (p.0, is ∙ ap (λ (l : List ℕ). Some (p.0, l)) rest_is, named ∙ ap (λ (k : ℕ). Some k) d_is)

reference_split : (cs rest : List ℕ) (d : ℕ) (p : Option (List ℕ × List ℕ)) → split_at_first 59 cs ≡ p
    → option_and_then {U = ℕ × List ℕ} (λ q. option_map {U = ℕ × List ℕ} (λ c. (c, q.1)) (referenced q.0)) p ≡ Some (d, rest)
    → (name : List ℕ) × (split_at_first 59 cs ≡ Some (name, rest)) × (referenced name ≡ Some d)
reference_split cs rest d None is e = absurd cc
reference_split cs rest d (Some p) is e = reference_named cs rest d p is (referenced p.0) refl e

reference_takes : (quote : ℕ) (cs rest : List ℕ) (d : ℕ) → reference_at cs ≡ Some (d, rest) → HasSpelling quote (38 ∷ cs) rest d
unfolding reference_at
reference_takes quote cs rest d e =
    let r = reference_split cs rest d (split_at_first 59 cs) refl e in
    let s = split_takes 59 cs r.0 rest r.1 in
    record {
      spelling = reference r.0;
      is = (s.0, r.2);
      parts = ap (λ (l : List ℕ). 38 ∷ l) (s.1 ∙ sym (append_assoc r.0 (59 ∷ []) rest));
    }

reference_again : (name rest : List ℕ) (d : ℕ) → AllByRecursion (λ c. is_other 59 c ≡ true) name → referenced name ≡ Some d
    → reference_at (name ++ 59 ∷ rest) ≡ Some (d, rest)
unfolding reference_at
reference_again name rest d pass e = rw (split_again 59 name rest pass, e) refl

ok_or_is : {A : Type 0} (o : Option A) (f : Fault) (x : A) → ok_or o f ≡ Ok x → o ≡ Some x
ok_or_is None f x e = absurd cc
ok_or_is (Some y) f x e = ap (λ z. Some z) (ok_is y x e)

blank_plain : (c : ℕ) → (eqb c 9 || eqb c 10) ≡ true → (eqb c 60 || eqb c 13) ≡ false
blank_plain c e = elim (cases_bool (eqb c 9)) [
  | inl a ↦ rw (eqb-true _ _ a) refl
  | inr a ↦ elim (cases_bool (eqb c 10)) [ inl b ↦ rw (eqb-true _ _ b) refl | inr b ↦ absurd (cc (rw (a, b) at e)) ]
]

plain_takes : (quote c : ℕ) (cs rest : List ℕ) (d : ℕ) → (eqb c quote) ≡ false → (eqb c 38) ≡ false
    → cond {A = Result (ℕ × List ℕ) Fault} (eqb c 9 || eqb c 10) (Ok (32, cs)) (cond (eqb c 60 || eqb c 13) (fails Value (c ∷ cs)) (Ok (c, cs))) ≡ Ok
    (d, rest) → HasSpelling quote (c ∷ cs) rest d
plain_takes quote c cs rest d other sign e =
    elim (cases_bool (eqb c 9 || eqb c 10)) [
      | inl blank ↦
          let both = ok_is (32, cs) (d, rest) (rw blank at e) in
          let rest_is : cs ≡ rest = ap (λ (q : ℕ × List ℕ). q.1) both in
          let d_is : 32 ≡ d = ap (λ (q : ℕ × List ℕ). q.0) both in
          record {
            spelling = itself c;
            is = (other, rw (sign, blank_plain c blank) refl, sym d_is ∙ rw blank refl);
            parts = ap (λ (l : List ℕ). c ∷ l) rest_is;
          }
      | inr blank ↦
          let g = refused_ok (eqb c 60 || eqb c 13) (Ok (c, cs)) (fault_at Value (c ∷ cs)) (d, rest) (rw blank at e) in
          let both = ok_is (c, cs) (d, rest) g.1 in
          let rest_is : cs ≡ rest = ap (λ (q : ℕ × List ℕ). q.1) both in
          let d_is : c ≡ d = ap (λ (q : ℕ × List ℕ). q.0) both in
          record {
            spelling = itself c;
            is = (other, rw (sign, g.0) refl, sym d_is ∙ rw blank refl);
            parts = ap (λ (l : List ℕ). c ∷ l) rest_is;
          }
    ]

pub character_takes : (quote c : ℕ) (cs rest : List ℕ) (d : ℕ) → (eqb c quote) ≡ false → character_at (c ∷ cs) ≡ Ok (d, rest)
    → HasSpelling quote (c ∷ cs) rest d
unfolding character_at
character_takes quote c cs rest d other e =
    elim (cases_bool (eqb c 38)) [
      | inl sign ↦
          let o = ok_or_is (reference_at cs) (fault_at Reference (c ∷ cs)) (d, rest) (rw sign at e) in
          rw (eqb-true _ _ sign) (reference_takes quote cs rest d o)
      | inr sign ↦ plain_takes quote c cs rest d other sign (rw sign at e)
    ]

plain_parts : (a b : Bool) → (not a && not b) ≡ true → (a ≡ false) × (b ≡ false)
plain_parts true true e = absurd cc
plain_parts true false e = absurd cc
plain_parts false true e = absurd cc
plain_parts false false e = (refl, refl)

pub character_again : (quote : ℕ) (s : Spelling) (d : ℕ) (rest : List ℕ) → IsSpelled quote s d → character_at (spelled s ++ rest) ≡ Ok (d, rest)
unfolding character_at
character_again quote (itself c) d rest h =
    let p = plain_parts (eqb c 38) (eqb c 60 || eqb c 13) h.1 in
    let sign : eqb c 38 ≡ false = p.0 in
    let barred : (eqb c 60 || eqb c 13) ≡ false = p.1 in
    elim (cases_bool (eqb c 9 || eqb c 10)) [
      | inl blank ↦ let d_is : d ≡ 32 = h.2 ∙ rw blank refl in rw (sign, blank, d_is) refl
      | inr blank ↦ let d_is : d ≡ c = h.2 ∙ rw blank refl in rw (sign, blank, barred, d_is) refl
    ]
character_again quote (reference name) d rest h =
    ap (λ (l : List ℕ). ok_or (reference_at l) (fault_at Reference (38 ∷ l))) (append_assoc name (59 ∷ []) rest)
    ∙ rw (reference_again name rest d h.0 h.1) refl

-- ---- all of them

abbrev pub IsQuote : ℕ → Type 0
IsQuote q = (eqb q 34 || eqb q 39) ≡ true

quote_other : (q : ℕ) → IsQuote q → eqb 38 q ≡ false
quote_other q h = elim (cases_bool (eqb q 34)) [
  | inl a ↦ rw (eqb-true _ _ a) refl
  | inr a ↦ elim (cases_bool (eqb q 39)) [ inl b ↦ rw (eqb-true _ _ b) refl | inr b ↦ absurd (cc (rw (a, b) at h)) ]
]

record HasHead (quote : ℕ) (s : Spelling) : Type 0 where
  pub head : ℕ
  pub tail : List ℕ
  pub parts : spelled s ≡ head ∷ tail
  pub other : eqb head quote ≡ false

head_of : (quote : ℕ) (s : Spelling) (d : ℕ) → IsQuote quote → IsSpelled quote s d → HasHead quote s
head_of quote (itself c) d q h = record { head = c; tail = []; parts = refl; other = h.0 }
head_of quote (reference name) d q h = record { head = 38; tail = name ++ 59 ∷ []; parts = refl; other = quote_other quote q }

cons_front : (s : Spelling) (c : ℕ) (cs rest : List ℕ) → c ∷ cs ≡ spelled s ++ rest → (front : List ℕ) × (cs ≡ front ++ rest)
cons_front (itself x) c cs rest e = ([], cc)
cons_front (reference name) c cs rest e = (name ++ 59 ∷ [], cc)

pub more_is : (quote c d : ℕ) (value cs rest : List ℕ) → eqb c quote ≡ false → character_at (c ∷ cs) ≡ Ok (d, rest)
    → more_of quote value (c ∷ cs) ≡ Ok (Some (value ++ encode_utf8 d, rest))
unfolding more_of
more_is quote c d value cs rest other e = rw (other, e) refl

pub more_ends : (quote : ℕ) (value cs : List ℕ) → more_of quote value (quote ∷ cs) ≡ Ok None
unfolding more_of
more_ends quote value cs = rw (eqb-same quote) refl

pub more_fails : (quote c : ℕ) (value cs : List ℕ) (f : Fault) → eqb c quote ≡ false → character_at (c ∷ cs) ≡ Err f → more_of quote value (c ∷ cs) ≡ Err f
unfolding more_of
more_fails quote c value cs f other e = rw (other, e) refl

more_taken : (quote c : ℕ) (value next cs rest : List ℕ) → eqb c quote ≡ false → (r : Result (ℕ × List ℕ) Fault) → character_at (c ∷ cs) ≡ r
    → ◌>>=◌ {B = Option (List ℕ × List ℕ)} r (λ x. Ok (Some (value ++ encode_utf8 x.0, x.1))) ≡ Ok (Some (next, rest)) → (front : List ℕ) × (cs ≡ front ++ rest)
more_taken quote c value next cs rest other (Err f) is e = absurd cc
more_taken quote c value next cs rest other (Ok x) is e =
    let s = character_takes quote c cs x.1 x.0 other is in
    let rest_is : x.1 ≡ rest = ap (λ (q : List ℕ × List ℕ). q.1) (some_is (value ++ encode_utf8 x.0, x.1) (next, rest) (ok_is (Some
    (value ++ encode_utf8 x.0, x.1)) (Some (next, rest)) e)) in
    cons_front s.spelling c cs rest (s.parts ∙ ap (λ (l : List ℕ). spelled s.spelling ++ l) rest_is)

pub more_of-takes : (quote : ℕ) → Takes (more_of quote)
unfolding more_of
more_of-takes quote s next c cs rest e =
    elim (cases_bool (eqb c quote)) [
      | inl same ↦ absurd (cc (rw same at e))
      | inr other ↦ more_taken quote c s next cs rest other (character_at (c ∷ cs)) refl (rw other at e)
    ]

pub values_again : (quote : ℕ) (value : List ℕ) (ps : List (Spelling × ℕ)) (rest : List ℕ) → IsQuote quote → AreSpelled quote ps
    → steps (more_of quote) value (text_of_all ps ++ quote ∷ rest) ≡ Ok (value ++ bytes_of_all ps, quote ∷ rest)
values_again quote value [] rest q h =
    steps_stop (more_of quote) value quote rest (more_ends quote value rest) ∙ ap (λ (l : List ℕ). Ok (l, quote ∷ rest)) (sym (append-nil value))
values_again quote value (p ∷ ps) rest q h =
    let head = head_of quote p.0 p.1 q h.0 in
    let after = text_of_all ps ++ quote ∷ rest in
    let whole : (spelled p.0 ++ text_of_all ps) ++ quote ∷ rest ≡ spelled p.0 ++ after = append_assoc (spelled p.0) (text_of_all ps) (quote ∷ rest) in
    let split : spelled p.0 ++ after ≡ head.head ∷ (head.tail ++ after) = ap (λ (l : List ℕ). l ++ after) head.parts in
    let read : character_at (head.head ∷ (head.tail ++ after)) ≡ Ok (p.1, after) = ap character_at (sym split) ∙ character_again quote p.0 p.1 after h.0 in
    let step = more_is quote head.head p.1 value (head.tail ++ after) after head.other read in
    ap (steps (more_of quote) value) (whole ∙ split)
    ∙ steps_on (more_of quote) value (value ++ encode_utf8 p.1) head.head (head.tail ++ after) after (more_of-takes quote) step
    ∙ values_again quote (value ++ encode_utf8 p.1) ps rest q h.1
    ∙ ap (λ (l : List ℕ). Ok (l, quote ∷ rest)) (append_assoc value (encode_utf8 p.1) (bytes_of_all ps))

abbrev pub IsAtQuote : ℕ → List ℕ → Type 0
IsAtQuote quote [] = Unit {0}
IsAtQuote quote (c ∷ cs) = c ≡ quote

pub record HasValue (quote : ℕ) (old text value rest : List ℕ) : Type 0 where
  pub all : List (Spelling × ℕ)
  pub are : AreSpelled quote all
  pub parts : text ≡ text_of_all all ++ rest
  pub value_is : value ≡ old ++ bytes_of_all all
  pub at : IsAtQuote quote rest

value_none : (quote : ℕ) (old text value rest : List ℕ) → IsAtQuote quote text → right_of {A = List ℕ × List ℕ} (old, text) ≡ Ok (value, rest)
    → HasValue quote old text value rest
value_none quote old text value rest at e =
    let both = ok_is (old, text) (value, rest) e in
    let rest_is : text ≡ rest = ap (λ (q : List ℕ × List ℕ). q.1) both in
    let value_is : old ≡ value = ap (λ (q : List ℕ × List ℕ). q.0) both in
    record { all = []; are = tt; parts = rest_is; value_is = sym value_is ∙ sym (append-nil old); at = subst (IsAtQuote quote) rest_is at }

value_more : (quote c d : ℕ) (old cs after value rest : List ℕ) (s : HasSpelling quote (c ∷ cs) after d)
    → HasValue quote (old ++ encode_utf8 d) after value rest → HasValue quote old (c ∷ cs) value rest
value_more quote c d old cs after value rest s h = record {
  all = (s.spelling, d) ∷ h.all;
  are = (s.is, h.are);
  parts = s.parts ∙ ap (λ (l : List ℕ). spelled s.spelling ++ l) h.parts ∙ sym (append_assoc (spelled s.spelling) (text_of_all h.all) rest);
  value_is = h.value_is ∙ append_assoc old (encode_utf8 d) (bytes_of_all h.all);
  at = h.at;
}

shorter : (s : Spelling) (c n : ℕ) (cs after : List ℕ) → c ∷ cs ≡ spelled s ++ after → length cs ≤ n → length after ≤ n
shorter s c n cs after e le = let f = cons_front s c cs after e in omega (arith, ap length f.1, length-append f.0 after)

values_next : (n quote c : ℕ) (old cs value rest : List ℕ) → length cs ≤ n → eqb c quote ≡ false
    → ((now text : List ℕ) → length text ≤ n → steps (more_of quote) now text ≡ Ok (value, rest) → HasValue quote now text value rest)
    → (r : Result (ℕ × List ℕ) Fault) → character_at (c ∷ cs) ≡ r → steps (more_of quote) old (c ∷ cs) ≡ Ok (value, rest) → HasValue quote old
    (c ∷ cs) value rest
values_next n quote c old cs value rest le other on_from (Err f) is e =
    absurd (cc (steps_fail (more_of quote) old c cs f (more_fails quote c old cs f other is), e))
values_next n quote c old cs value rest le other on_from (Ok x) is e =
    let s = character_takes quote c cs x.1 x.0 other is in
    let on = steps_on (more_of quote) old (old ++ encode_utf8 x.0) c cs x.1 (more_of-takes quote) (more_is quote c x.0 old cs x.1 other is) in
    value_more quote c x.0 old cs x.1 value rest s (on_from (old ++ encode_utf8 x.0) x.1 (shorter s.spelling c n cs x.1 s.parts le) (sym on ∙ e))

values_take : (n quote : ℕ) (value rest old text : List ℕ) → length text ≤ n → steps (more_of quote) old text ≡ Ok (value, rest)
    → HasValue quote old text value rest
values_take n quote value rest old [] le e = value_none quote old [] value rest tt (sym (steps_end (more_of quote) old) ∙ e)
values_take zero quote value rest old (c ∷ cs) le e = absurd (omega arith)
values_take (suc n) quote value rest old (c ∷ cs) le e =
    elim (cases_bool (eqb c quote)) [
      | inl same ↦
          let is : c ≡ quote = eqb-true _ _ same in
          value_none quote old (c ∷ cs) value rest is (sym (steps_stop (more_of quote) old c cs (rw is (more_ends quote old cs))) ∙ e)
      | inr other ↦ values_next n quote c old cs value rest (omega arith) other (values_take n quote value rest) (character_at (c ∷ cs)) refl e
    ]

-- ---- in quotes

pub record TakesValue (text value rest : List ℕ) : Type 0 where
  pub front : List ℕ
  pub is : IsValue front value
  pub parts : text ≡ front ++ rest

quoted_closed : (quote : ℕ) (cs : List ℕ) (x : List ℕ × List ℕ) (value rest : List ℕ) → IsQuote quote → HasValue quote [] cs x.0 x.1
    → closed x ≡ Ok (value, rest) → TakesValue (quote ∷ cs) value rest
quoted_closed quote cs (v, []) value rest q h e = absurd cc
quoted_closed quote cs (v, d ∷ ds) value rest q h e =
    let both = ok_is (v, ds) (value, rest) e in
    let rest_is : ds ≡ rest = ap (λ (q : List ℕ × List ℕ). q.1) both in
    let value_is : v ≡ value = ap (λ (q : List ℕ × List ℕ). q.0) both in
    record {
      front = quote ∷ (text_of_all h.all ++ quote ∷ []);
      is = record { quote = quote; either = q; all = h.all; are = h.are; text_is = refl; value_is = sym value_is ∙ h.value_is };
      parts = ap (λ (l : List ℕ). quote ∷ l) (h.parts ∙ rw (h.at, rest_is) (sym (append_assoc (text_of_all h.all) (quote ∷ []) rest)));
    }

pub value_taken : (text value rest : List ℕ) → value_at text ≡ Ok (value, rest) → TakesValue text value rest
unfolding value_at quoted
value_taken [] value rest e = absurd cc
value_taken (c ∷ cs) value rest e =
    let g = guard_ok (eqb c 34 || eqb c 39) (steps (more_of c) [] cs >>= closed) (fault_at Tag (c ∷ cs)) (value, rest) e in
    let b = bind_ok (steps (more_of c) [] cs) closed (value, rest) g.1 in
    quoted_closed c cs b.0 value rest g.0 (values_take (length cs) c b.0.0 b.0.1 [] cs (omega arith) b.1) b.2

pub value_again : (front value rest : List ℕ) → IsValue front value → value_at (front ++ rest) ≡ Ok (value, rest)
unfolding value_at quoted
value_again front value rest h =
    let all = values_again h.quote [] h.all rest h.either h.are in
    let either : (eqb h.quote 34 || eqb h.quote 39) ≡ true = h.either in
    let whole : front ++ rest ≡ h.quote ∷ (text_of_all h.all ++ h.quote ∷ rest) =
    ap (λ (l : List ℕ). l ++ rest) h.text_is ∙ ap (λ (l : List ℕ). h.quote ∷ l) (append_assoc (text_of_all h.all) (h.quote ∷ []) rest) in
    ap value_at whole ∙ rw (either, all) (ap (λ (l : List ℕ). Ok (l, rest)) (sym h.value_is))
