-- Comments and processing instructions, and the pieces of a text: what is read is written so, and what is written so is read.
use Rattle.std.proofs.Common.{◌≡◌, ℕ, Bool, true, false, ◌&&◌, eqb, List, [], ◌∷◌, ◌++◌, Option, Some, None, Result, Ok, refl, sym, ap}
use Rattle.std.proofs.Common.{subst, ◌∙◌, inl, inr, append_assoc}
use Rattle.std.proofs.lemmas.Bool.{eqb-true}
use Rattle.plain_xml.specs.declared.failure.Flaw.TheVariants.{Comment, Text}
use Rattle.plain_xml.specs.declared.failure.Fault.{Fault}
use Rattle.plain_xml.specs.Characters.{is_space, is_name_start}
use Rattle.plain_xml.specs.Faults.{fault_at}
use Rattle.plain_xml.specs.Elements.{Pair}
use Rattle.plain_xml.specs.Skipping.{behind_two, comment_end, after_comment, comment_behind, comment_at, after_instruction}
use Rattle.plain_xml.specs.Tags.{opening_at, ending_at}
use Rattle.plain_xml.specs.Marks.{Piece, passed, opening, ending, opening_piece, ending_piece, passed_piece, markup_at, mark_at}
use Rattle.plain_xml.specs.Forms.{NotBeside, IsComment, IsInstruction, IsPassed, space, comment, instruction, IsOpened, IsEnded, IsNameText, IsOpening}
use Rattle.plain_xml.proofs.Tools.{bind_ok, ok_is, cases_bool, guard_ok}
use Rattle.plain_xml.proofs.TagForms.{Opened, opening_taken, opening_again, ending_taken, ending_again}

both_true : (a b : Bool) → (a && b) ≡ true → (a ≡ true) × (b ≡ true)
both_true true true e = (refl, refl)
both_true true false e = absurd cc
both_true false b e = absurd cc

-- what stands before two characters side by side
record TakesTwo (a b : ℕ) (text rest : List ℕ) : Type 0 where
  pub body : List ℕ
  pub clean : NotBeside a b (body ++ a ∷ [])
  pub parts : text ≡ body ++ a ∷ b ∷ rest

two_here : (a b c d : ℕ) (cs : List ℕ) → (eqb c a && eqb d b) ≡ true → TakesTwo a b (c ∷ d ∷ cs) cs
two_here a b c d cs e =
    let h = both_true (eqb c a) (eqb d b) e in
    record { body = []; clean = tt; parts = rw (eqb-true _ _ h.0, eqb-true _ _ h.1) refl }

clean_cons : (a b c d : ℕ) (body cs rest : List ℕ) → (eqb c a && eqb d b) ≡ false → d ∷ cs ≡ body ++ a ∷ b ∷ rest → NotBeside a b (body ++ a ∷ [])
    → NotBeside a b (c ∷ (body ++ a ∷ []))
clean_cons a b c d [] cs rest e parts clean = let same : d ≡ a = cc in (subst (λ (x : ℕ). (eqb c a && eqb x b) ≡ false) same e, tt)
clean_cons a b c d (f ∷ body) cs rest e parts clean = let same : d ≡ f = cc in (subst (λ (x : ℕ). (eqb c a && eqb x b) ≡ false) same e, clean)

two_on : (a b c d : ℕ) (cs rest : List ℕ) → (eqb c a && eqb d b) ≡ false → TakesTwo a b (d ∷ cs) rest → TakesTwo a b (c ∷ d ∷ cs) rest
two_on a b c d cs rest e t =
    record { body = c ∷ t.body; clean = clean_cons a b c d t.body cs rest e t.parts t.clean; parts = ap (λ (l : List ℕ). c ∷ l) t.parts }

-- ---- comments

comment_end_taken : (text rest : List ℕ) → comment_end text ≡ Ok rest → text ≡ 62 ∷ rest
comment_end_taken [] rest e = absurd cc
comment_end_taken (c ∷ cs) rest e =
    let g = guard_ok (eqb c 62) (Ok cs) (fault_at Comment (c ∷ cs)) rest e in
    rw (eqb-true _ _ g.0, ok_is cs rest g.1) refl

comment_rest : (text rest : List ℕ) → after_comment text ≡ Ok rest → TakesTwo 45 45 text (62 ∷ rest)
comment_rest [] rest e = absurd cc
comment_rest (c ∷ []) rest e = absurd cc
comment_rest (c ∷ d ∷ cs) rest e = elim (cases_bool (eqb c 45 && eqb d 45)) [
  | inl h ↦ subst (TakesTwo 45 45 (c ∷ d ∷ cs)) (comment_end_taken cs rest (rw h at e)) (two_here 45 45 c d cs h)
  | inr h ↦ two_on 45 45 c d cs (62 ∷ rest) h (comment_rest (d ∷ cs) rest (rw h at e))
]

comment_regroup : (body rest : List ℕ) → body ++ 45 ∷ 45 ∷ 62 ∷ rest ≡ (body ++ 45 ∷ 45 ∷ 62 ∷ []) ++ rest
comment_regroup body rest = simp append_assoc

record TakesPassed (text rest : List ℕ) : Type 0 where
  pub front : List ℕ
  pub is : IsPassed front
  pub parts : text ≡ front ++ rest

two_taken : (a b : ℕ) (text rest : List ℕ) → behind_two a b text ≡ Some rest → text ≡ a ∷ b ∷ rest
two_taken a b [] rest e = absurd cc
two_taken a b (c ∷ []) rest e = absurd cc
two_taken a b (c ∷ d ∷ cs) rest e = elim (cases_bool (eqb c a && eqb d b)) [
  | inl h ↦
      let p = both_true (eqb c a) (eqb d b) h in
      let is : Some cs ≡ Some rest = rw h at e in
      let rest_is : cs ≡ rest = cc in
      rw (eqb-true _ _ p.0, eqb-true _ _ p.1, rest_is) refl
  | inr h ↦ absurd (cc (rw h at e))
]

comment_found : (text rest : List ℕ) (o : Option (List ℕ)) → behind_two 45 45 text ≡ o → comment_behind text o ≡ Ok rest → TakesPassed (60 ∷ 33 ∷ text) rest
comment_found text rest None is e = absurd cc
comment_found text rest (Some more) is e =
    let t = comment_rest more rest e in
    record {
      front = 60 ∷ 33 ∷ 45 ∷ 45 ∷ (t.body ++ 45 ∷ 45 ∷ 62 ∷ []);
      is = comment (t.body ++ 45 ∷ 45 ∷ 62 ∷ []) record { body = t.body; clean = t.clean; text_is = refl } refl;
      parts = ap (λ (l : List ℕ). 60 ∷ 33 ∷ l) (two_taken 45 45 text more is ∙ ap (λ (l : List ℕ). 45 ∷ 45 ∷ l) (t.parts ∙ comment_regroup t.body rest));
    }

comment_taken : (text rest : List ℕ) → comment_at text ≡ Ok rest → TakesPassed (60 ∷ 33 ∷ text) rest
unfolding comment_at
comment_taken text rest e = comment_found text rest (behind_two 45 45 text) refl e

rest_again : (body rest : List ℕ) → NotBeside 45 45 (body ++ 45 ∷ []) → after_comment (body ++ 45 ∷ 45 ∷ 62 ∷ rest) ≡ Ok rest
rest_again [] rest clean = refl
rest_again (c ∷ []) rest clean = let e : (eqb c 45 && eqb 45 45) ≡ false = clean.0 in rw e refl
rest_again (c ∷ d ∷ body) rest clean = let e : (eqb c 45 && eqb d 45) ≡ false = clean.0 in rw e (rest_again (d ∷ body) rest clean.1)

comment_again : (text rest : List ℕ) → IsComment text → comment_at (45 ∷ 45 ∷ (text ++ rest)) ≡ Ok rest
unfolding comment_at
comment_again text rest h =
    ap after_comment (ap (λ (l : List ℕ). l ++ rest) h.text_is ∙ sym (comment_regroup h.body rest)) ∙ rest_again h.body rest h.clean

-- ---- processing instructions

instruction_rest : (text rest : List ℕ) → after_instruction text ≡ Ok rest → TakesTwo 63 62 text rest
instruction_rest [] rest e = absurd cc
instruction_rest (c ∷ []) rest e = absurd cc
instruction_rest (c ∷ d ∷ cs) rest e = elim (cases_bool (eqb c 63 && eqb d 62)) [
  | inl h ↦ subst (TakesTwo 63 62 (c ∷ d ∷ cs)) (ok_is cs rest (rw h at e)) (two_here 63 62 c d cs h)
  | inr h ↦ two_on 63 62 c d cs rest h (instruction_rest (d ∷ cs) rest (rw h at e))
]

instruction_regroup : (body rest : List ℕ) → body ++ 63 ∷ 62 ∷ rest ≡ (body ++ 63 ∷ 62 ∷ []) ++ rest
instruction_regroup body rest = simp append_assoc

instruction_taken : (text rest : List ℕ) → after_instruction text ≡ Ok rest → TakesPassed (60 ∷ 63 ∷ text) rest
instruction_taken text rest e =
    let t = instruction_rest text rest e in
    record {
      front = 60 ∷ 63 ∷ (t.body ++ 63 ∷ 62 ∷ []);
      is = instruction (t.body ++ 63 ∷ 62 ∷ []) record { body = t.body; clean = t.clean; text_is = refl } refl;
      parts = ap (λ (l : List ℕ). 60 ∷ 63 ∷ l) (t.parts ∙ instruction_regroup t.body rest);
    }

instruction_back : (body rest : List ℕ) → NotBeside 63 62 (body ++ 63 ∷ []) → after_instruction (body ++ 63 ∷ 62 ∷ rest) ≡ Ok rest
instruction_back [] rest clean = refl
instruction_back (c ∷ []) rest clean = let e : (eqb c 63 && eqb 63 62) ≡ false = clean.0 in rw e refl
instruction_back (c ∷ d ∷ body) rest clean = let e : (eqb c 63 && eqb d 62) ≡ false = clean.0 in rw e (instruction_back (d ∷ body) rest clean.1)

instruction_again : (text rest : List ℕ) → IsInstruction text → after_instruction (text ++ rest) ≡ Ok rest
instruction_again text rest h =
    ap after_instruction (ap (λ (l : List ℕ). l ++ rest) h.text_is ∙ sym (instruction_regroup h.body rest)) ∙ instruction_back h.body rest h.clean

-- ---- any piece

-- a text is that of a piece
abbrev pub IsPiece : Piece → List ℕ → Type 0
IsPiece passed text = IsPassed text
IsPiece (opening name attributes empty) text = IsOpened text name attributes empty
IsPiece (ending name) text = IsEnded text name

pub record TakesPiece (text : List ℕ) (piece : Piece) (rest : List ℕ) : Type 0 where
  pub front : List ℕ
  pub is : IsPiece piece front
  pub parts : text ≡ front ++ rest

passed_is : (text rest : List ℕ) (piece : Piece) (r : Result (List ℕ) Fault) → ((after : List ℕ) → r ≡ Ok after → TakesPassed text after)
    → passed_piece r ≡ Ok (piece, rest) → TakesPiece text piece rest
passed_is text rest piece r h e =
    let b = bind_ok r (λ after. Ok (passed, after)) (piece, rest) e in
    let t = h b.0 b.1 in
    let both : (passed, b.0) ≡ (piece, rest) = ok_is (passed, b.0) (piece, rest) b.2 in
    subst (λ (p : Piece × List ℕ). TakesPiece text p.0 p.1) both (record { front = t.front; is = t.is; parts = t.parts })

opening_is : (text rest : List ℕ) (piece : Piece) → opening_piece text ≡ Ok (piece, rest) → TakesPiece (60 ∷ text) piece rest
opening_is text rest piece e =
    let b = bind_ok (opening_at text) (λ x. Ok (opening x.0 x.1 x.2, x.3)) (piece, rest) e in
    let x : Opened = b.0 in
    let t = opening_taken text x b.1 in
    let both : (opening x.0 x.1 x.2, x.3) ≡ (piece, rest) = ok_is (opening x.0 x.1 x.2, x.3) (piece, rest) b.2 in
    subst (λ (p : Piece × List ℕ). TakesPiece (60 ∷ text) p.0 p.1) both
    (record { front = 60 ∷ t.front; is = record { behind = t.front; opens = t.is; text_is = refl }; parts = ap (λ (l : List ℕ). 60 ∷ l) t.parts })

ending_is : (text rest : List ℕ) (piece : Piece) → ending_piece text ≡ Ok (piece, rest) → TakesPiece (60 ∷ 47 ∷ text) piece rest
ending_is text rest piece e =
    let b = bind_ok (ending_at text) (λ x. Ok (ending x.0, x.1)) (piece, rest) e in
    let x = b.0 in
    let t = ending_taken text x.0 x.1 b.1 in
    let both : (ending x.0, x.1) ≡ (piece, rest) = ok_is (ending x.0, x.1) (piece, rest) b.2 in
    subst (λ (p : Piece × List ℕ). TakesPiece (60 ∷ 47 ∷ text) p.0 p.1) both
    (record { front = 60 ∷ 47 ∷ t.front; is = record { behind = t.front; ends = t.is; text_is = refl }; parts = ap (λ (l : List ℕ). 60 ∷ 47 ∷ l) t.parts })

markup_taken : (text rest : List ℕ) (piece : Piece) → markup_at text ≡ Ok (piece, rest) → TakesPiece (60 ∷ text) piece rest
unfolding markup_at
markup_taken [] rest piece e = opening_is [] rest piece e
markup_taken (c ∷ cs) rest piece e = elim (cases_bool (eqb c 47)) [
  | inl a ↦ rw (eqb-true _ _ a) (ending_is cs rest piece (rw a at e))
  | inr a ↦ elim (cases_bool (eqb c 33)) [
    | inl b ↦ rw (eqb-true _ _ b) (passed_is (60 ∷ 33 ∷ cs) rest piece (comment_at cs) (λ after h. comment_taken cs after h) (rw (a, b) at e))
    | inr b ↦ elim (cases_bool (eqb c 63)) [
      | inl d ↦ rw (eqb-true _ _ d) (passed_is (60 ∷ 63 ∷ cs) rest piece (after_instruction cs) (λ after h. instruction_taken cs after h) (rw (a, b, d) at e))
      | inr d ↦ opening_is (c ∷ cs) rest piece (rw (a, b, d) at e)
    ]
  ]
]

pub mark_taken : (text rest : List ℕ) (piece : Piece) → mark_at text ≡ Ok (piece, rest) → TakesPiece text piece rest
unfolding mark_at
mark_taken [] rest piece e = absurd cc
mark_taken (c ∷ cs) rest piece e = elim (cases_bool (eqb c 60)) [
  | inl a ↦ rw (eqb-true _ _ a) (markup_taken cs rest piece (rw a at e))
  | inr a ↦
      let g = guard_ok (is_space c) (Ok (passed, cs)) (fault_at Text (c ∷ cs)) (piece, rest) (rw a at e) in
      let both : (passed, cs) ≡ (piece, rest) = ok_is (passed, cs) (piece, rest) g.1 in
      subst (λ (p : Piece × List ℕ). TakesPiece (c ∷ cs) p.0 p.1) both (record { front = c ∷ []; is = space c g.0 refl; parts = refl })
]

passed_front : (front : List ℕ) → IsPassed front → (c : ℕ) × (more : List ℕ) × (front ≡ c ∷ more)
passed_front front (space c e is) = (c, [], is)
passed_front front (comment behind h is) = (60, 33 ∷ 45 ∷ 45 ∷ behind, is)
passed_front front (instruction behind h is) = (60, 63 ∷ behind, is)

-- a piece takes at least one character
pub piece_front : (piece : Piece) (front : List ℕ) → IsPiece piece front → (c : ℕ) × (more : List ℕ) × (front ≡ c ∷ more)
piece_front passed front h = passed_front front h
piece_front (opening name attributes empty) front h = (60, h.behind, h.text_is)
piece_front (ending name) front h = (60, 47 ∷ h.behind, h.text_is)

name_other : (c : ℕ) → is_name_start c ≡ true → (eqb c 47 ≡ false) × (eqb c 33 ≡ false) × (eqb c 63 ≡ false)
unfolding is_name_start
name_other c e = (
  elim (cases_bool (eqb c 47)) [ inl a ↦ absurd (cc (rw (eqb-true _ _ a) at e)) | inr a ↦ a ],
  elim (cases_bool (eqb c 33)) [ inl a ↦ absurd (cc (rw (eqb-true _ _ a) at e)) | inr a ↦ a ],
  elim (cases_bool (eqb c 63)) [ inl a ↦ absurd (cc (rw (eqb-true _ _ a) at e)) | inr a ↦ a ],
)

opening_starts : (name_text rest : List ℕ) → IsNameText name_text → markup_at (name_text ++ rest) ≡ opening_piece (name_text ++ rest)
unfolding markup_at
opening_starts [] rest h = absurd h
opening_starts (c ∷ cs) rest h = let o = name_other c h.0 in let a = o.0 in let b = o.1 in let d = o.2 in rw (a, b, d) refl

opening_front : (behind name : List ℕ) (attributes : List Pair) (empty : Bool) (rest : List ℕ) → IsOpening behind name attributes empty
    → markup_at (behind ++ rest) ≡ opening_piece (behind ++ rest)
opening_front behind name attributes empty rest h =
    let whole = ap (λ (l : List ℕ). l ++ rest) h.text_is ∙ append_assoc h.name_text _ rest in
    ap markup_at whole ∙ opening_starts h.name_text _ h.named.0 ∙ ap opening_piece (sym whole)

space_not_less : (c : ℕ) → is_space c ≡ true → eqb c 60 ≡ false
unfolding is_space
space_not_less c e = elim (cases_bool (eqb c 60)) [ inl a ↦ absurd (cc (rw (eqb-true _ _ a) at e)) | inr a ↦ a ]

pub passed_again : (front rest : List ℕ) → IsPassed front → mark_at (front ++ rest) ≡ Ok (passed, rest)
unfolding mark_at markup_at
passed_again front rest (space c e is) = let less = space_not_less c e in ap (λ (l : List ℕ). mark_at (l ++ rest)) is ∙ rw (less, e) refl
passed_again front rest (comment behind h is) = ap (λ (l : List ℕ). mark_at (l ++ rest)) is ∙ rw (comment_again behind rest h) refl
passed_again front rest (instruction behind h is) = ap (λ (l : List ℕ). mark_at (l ++ rest)) is ∙ rw (instruction_again behind rest h) refl

pub opened_again : (front name : List ℕ) (attributes : List Pair) (empty : Bool) (rest : List ℕ) → IsOpened front name attributes empty
    → mark_at (front ++ rest) ≡ Ok (opening name attributes empty, rest)
unfolding mark_at
opened_again front name attributes empty rest h =
    ap mark_at (ap (λ (l : List ℕ). l ++ rest) h.text_is)
    ∙ opening_front h.behind name attributes empty rest h.opens
    ∙ rw (opening_again h.behind name attributes empty rest h.opens) refl

pub ended_again : (front name rest : List ℕ) → IsEnded front name → mark_at (front ++ rest) ≡ Ok (ending name, rest)
unfolding mark_at markup_at
ended_again front name rest h =
    ap mark_at (ap (λ (l : List ℕ). l ++ rest) h.text_is) ∙ rw (ending_again h.behind name rest h.ends) refl
