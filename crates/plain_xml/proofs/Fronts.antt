-- White space and names: what is read is written so, and what is written so is read.
use Rattle.std.proofs.Common.{◌≡◌, ◌⊎◌, ℕ, true, false, eqb, List, [], ◌∷◌, ◌++◌, length, take, drop}
use Rattle.std.proofs.Common.{Result, Ok, refl, sym, ap, subst, ◌∙◌, inl, inr}
use Rattle.std.specs.Prelude.{encode_utf8_all}
use Rattle.std.specs.List.{AllByRecursion, prefix_len}
use Rattle.std.proofs.lemmas.Bool.{eqb-true}
use Rattle.std.proofs.Math.Seq.{drop-append_seam, take-append_seam}
use Rattle.plain_xml.specs.declared.failure.Flaw.TheVariants.{Tag}
use Rattle.plain_xml.specs.declared.failure.Fault.{Fault}
use Rattle.plain_xml.specs.Characters.{is_space, is_name_start, is_name_part}
use Rattle.plain_xml.specs.Faults.{fault_at}
use Rattle.plain_xml.specs.Reading.{after_space, name_at}
use Rattle.plain_xml.specs.Forms.{AreSpaces, IsNameText, IsName}
use Rattle.plain_xml.proofs.Tools.{cases_bool, guard_ok, ok_is, Stops, splits, prefix_len-parts}

-- a blank, a tab, a line feed or a carriage return
pub space_is : (c : ℕ) → is_space c ≡ true → (c ≡ 32) ⊎ ((c ≡ 9) ⊎ ((c ≡ 10) ⊎ (c ≡ 13)))
unfolding is_space
space_is c e =
    elim (cases_bool (eqb c 32)) [
      | inl a ↦ inl (eqb-true _ _ a)
      | inr a ↦ elim (cases_bool (eqb c 9)) [
        | inl b ↦ inr (inl (eqb-true _ _ b))
        | inr b ↦ elim (cases_bool (eqb c 10)) [
          | inl d ↦ inr (inr (inl (eqb-true _ _ d)))
          | inr d ↦ inr (inr (inr (eqb-true _ _ (rw (a, b, d) at e))))
        ]
      ]
    ]

-- white space ends a name
pub space_no_part : (c : ℕ) → is_space c ≡ true → is_name_part c ≡ false
unfolding is_name_part is_name_start
space_no_part c e = elim (space_is c e) [
  | inl a ↦ rw a refl
  | inr (inl a) ↦ rw a refl
  | inr (inr (inl a)) ↦ rw a refl
  | inr (inr (inr a)) ↦ rw a refl
]

-- what begins a name stands in one
pub start_part : (c : ℕ) → is_name_start c ≡ true → is_name_part c ≡ true
unfolding is_name_part
start_part c e = rw e refl

-- and is no white space
pub start_no_space : (c : ℕ) → is_name_start c ≡ true → is_space c ≡ false
start_no_space c e = elim (cases_bool (is_space c)) [ inl s ↦ absurd (cc (space_no_part c s, start_part c e)) | inr s ↦ s ]

-- ---- white space

pub record HasSpaces (text : List ℕ) : Type 0 where
  pub gap : List ℕ
  pub spaces : AreSpaces gap
  pub parts : text ≡ gap ++ after_space text
  pub stops : Stops is_space (after_space text)

spaces_on : (c : ℕ) (cs : List ℕ) → is_space c ≡ true → HasSpaces cs → HasSpaces (c ∷ cs)
spaces_on c cs e h =
    let k : after_space (c ∷ cs) ≡ after_space cs = rw e refl in
    record {
      gap = c ∷ h.gap;
      spaces = (e, h.spaces);
      parts = rw k (ap (λ (l : List ℕ). c ∷ l) h.parts);
      stops = rw k h.stops;
    }

spaces_here : (c : ℕ) (cs : List ℕ) → is_space c ≡ false → HasSpaces (c ∷ cs)
spaces_here c cs e =
    let k : after_space (c ∷ cs) ≡ c ∷ cs = rw e refl in
    record { gap = []; spaces = tt; parts = sym k; stops = rw k e }

pub spaces_taken : (text : List ℕ) → HasSpaces text
spaces_taken [] = record { gap = []; spaces = tt; parts = refl; stops = tt }
spaces_taken (c ∷ cs) = elim (cases_bool (is_space c)) [ inl e ↦ spaces_on c cs e (spaces_taken cs) | inr e ↦ spaces_here c cs e ]

pub spaces_again : (gap rest : List ℕ) → AreSpaces gap → Stops is_space rest → after_space (gap ++ rest) ≡ rest
spaces_again [] [] spaces stops = refl
spaces_again [] (c ∷ cs) spaces stops = rw stops refl
spaces_again (g ∷ gap) rest spaces stops = let e : is_space g ≡ true = spaces.0 in rw e (spaces_again gap rest spaces.1 stops)

-- ---- names

pub record HasName (text name rest : List ℕ) : Type 0 where
  pub front : List ℕ
  pub named : IsName front name
  pub parts : text ≡ front ++ rest
  pub stops : Stops is_name_part rest

name_front : (c : ℕ) (front : List ℕ) → is_name_start c ≡ true → AllByRecursion (λ d. is_name_part d ≡ true) front → (text : List ℕ) (back : List ℕ)
    → c ∷ text ≡ front ++ back
    → Stops is_name_part back → IsNameText front
name_front c [] e pass text [] parts stops = absurd cc
name_front c [] e pass text (b ∷ back) parts stops =
    let same : c ≡ b = cc in absurd (cc (subst (λ (d : ℕ). is_name_part d ≡ false) (sym same) stops, start_part c e))
name_front c (f ∷ front) e pass text back parts stops = let same : c ≡ f = cc in (subst (λ (d : ℕ). is_name_start d ≡ true) same e, pass.1)

pub name_taken : (text name rest : List ℕ) → name_at text ≡ Ok (name, rest) → HasName text name rest
unfolding name_at
name_taken [] name rest e = absurd cc
name_taken (c ∷ cs) name rest e =
    let s = splits is_name_part (c ∷ cs) in
    let n = prefix_len is_name_part (c ∷ cs) in
    let g = guard_ok (is_name_start c) (Ok (encode_utf8_all (take n (c ∷ cs)), drop n (c ∷ cs))) (fault_at Tag (c ∷ cs)) (name, rest) e in
    let both = ok_is (encode_utf8_all (take n (c ∷ cs)), drop n (c ∷ cs)) (name, rest) g.1 in
    let name_is : encode_utf8_all (take n (c ∷ cs)) ≡ name = ap (λ (p : List ℕ × List ℕ). p.0) both in
    let rest_is : drop n (c ∷ cs) ≡ rest = ap (λ (p : List ℕ × List ℕ). p.1) both in
    let back_is : s.back ≡ rest = sym s.dropped ∙ rest_is in
    record {
      front = s.front;
      named = (name_front c s.front g.0 s.pass cs s.back s.parts s.stops, sym name_is ∙ ap encode_utf8_all s.taken);
      parts = s.parts ∙ ap (λ (l : List ℕ). s.front ++ l) back_is;
      stops = subst (Stops is_name_part) back_is s.stops;
    }

all_part : (c : ℕ) (cs : List ℕ) → IsNameText (c ∷ cs) → AllByRecursion (λ d. is_name_part d ≡ true) (c ∷ cs)
all_part c cs h = (start_part c h.0, h.1)

pub name_again : (front rest : List ℕ) → IsNameText front → Stops is_name_part rest → name_at (front ++ rest) ≡ Ok (encode_utf8_all front, rest)
unfolding name_at
name_again [] rest h stops = absurd h
name_again (c ∷ cs) rest h stops =
    let n : prefix_len is_name_part ((c ∷ cs) ++ rest) ≡ length (c ∷ cs) = prefix_len-parts is_name_part (c ∷ cs) rest (all_part c cs h) stops in
    let e : is_name_start c ≡ true = h.0 in
    let f : ℕ → Result (List ℕ × List ℕ) Fault = λ m. Ok (encode_utf8_all (take m ((c ∷ cs) ++ rest)), drop m ((c ∷ cs) ++ rest)) in
    rw e (
    ap f n
    ∙ ap (λ (l : List ℕ). Ok (encode_utf8_all l, drop (length (c ∷ cs)) ((c ∷ cs) ++ rest))) (take-append_seam (c ∷ cs) rest)
    ∙ ap (λ (l : List ℕ). Ok (encode_utf8_all (c ∷ cs), l)) (drop-append_seam (c ∷ cs) rest))
