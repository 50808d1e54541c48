-- Documents: what is read is a form of an element, and each form of an element is read.
use Rattle.std.proofs.Common.{◌≡◌, ℕ, zero, suc, ◌≤◌, Bool, true, false, cond, List, [], ◌∷◌, ◌++◌, length, Some, None}
use Rattle.std.proofs.Common.{Ok, Err, refl, sym, ap, subst, ◌∙◌, inl, inr, append_assoc, arith}
use Rattle.std.specs.List.{AllByRecursion}
use Rattle.std.specs.Str.{bytes_eq}
use Rattle.std.proofs.lemmas.Slice.Eq.{bytes_eq-Decides}
use Rattle.std.proofs.lemmas.List.{append-nil, length-append}
use Rattle.plain_xml.specs.declared.failure.Flaw.TheVariants.{SecondRoot, EndTag, Unfinished}
use Rattle.plain_xml.specs.Faults.{◌>>=◌, fault_at, Stepped, steps}
use Rattle.plain_xml.specs.Elements.{Pair, Flat, Tree, Trees, element, no_trees, tree, flat, flat_below}
use Rattle.plain_xml.specs.Marks.{Piece, passed, opening, ending, mark_at}
use Rattle.plain_xml.specs.Documents.{State, is_closed, opened, ended_in, entered, next_piece, finished, start, elements_of}
use Rattle.plain_xml.specs.Forms.{IsPassed, joined, ArePassed, IsOpened, IsEnded, IsElement, AreElements}
use Rattle.plain_xml.proofs.Tools.{bind_ok, ok_is, guard_ok, refused_ok}
use Rattle.plain_xml.proofs.Stepping.{Takes, steps_on, steps_fail, steps_end}
use Rattle.plain_xml.proofs.ValueForms.{some_is}
use Rattle.plain_xml.proofs.SkipForms.{IsPiece, mark_taken, piece_front, passed_again, opened_again, ended_again}

bytes_eq-true : (a b : List ℕ) → bytes_eq a b ≡ true → a ≡ b
bytes_eq-true a b e = (bytes_eq-Decides a b).0 e

bytes_eq-same : (a : List ℕ) → bytes_eq a a ≡ true
bytes_eq-same a = (bytes_eq-Decides a a).1 refl

-- ---- one piece

record TakesNext (s : State) (text : List ℕ) (next : State) (rest : List ℕ) : Type 0 where
  pub piece : Piece
  pub front : List ℕ
  pub is : IsPiece piece front
  pub parts : text ≡ front ++ rest
  pub enters : entered s piece text ≡ Ok next

next_taken : (s : State) (text : List ℕ) (next : State) (rest : List ℕ) → next_piece s text ≡ Ok (Some (next, rest)) → TakesNext s text next rest
unfolding next_piece
next_taken s text next rest e =
    let a = bind_ok (mark_at text) (λ p. entered s p.0 text >>= λ n. Ok (Some (n, p.1))) (Some (next, rest)) e in
    let b = bind_ok (entered s a.0.0 text) (λ n. Ok (Some (n, a.0.1))) (Some (next, rest)) a.2 in
    let both = some_is (b.0, a.0.1) (next, rest) (ok_is (Some (b.0, a.0.1)) (Some (next, rest)) b.2) in
    let rest_is : a.0.1 ≡ rest = ap (λ (q : State × List ℕ). q.1) both in
    let next_is : b.0 ≡ next = ap (λ (q : State × List ℕ). q.0) both in
    let t = mark_taken text a.0.1 a.0.0 a.1 in
    record {
      piece = a.0.0;
      front = t.front;
      is = t.is;
      parts = t.parts ∙ ap (λ (l : List ℕ). t.front ++ l) rest_is;
      enters = b.1 ∙ ap (λ (n : State). Ok n) next_is;
    }

cut_front : (front : List ℕ) (c : ℕ) (cs rest : List ℕ) (h : (d : ℕ) × (more : List ℕ) × (front ≡ d ∷ more)) → c ∷ cs ≡ front ++ rest
    → (more : List ℕ) × (cs ≡ more ++ rest)
cut_front front c cs rest h e =
    let whole : c ∷ cs ≡ h.0 ∷ (h.1 ++ rest) = e ∙ ap (λ (l : List ℕ). l ++ rest) h.2 in
    (h.1, cc)

pub next_piece-takes : Takes next_piece
next_piece-takes s next c cs rest e =
    let t = next_taken s (c ∷ cs) next rest e in
    cut_front t.front c cs rest (piece_front t.piece t.front t.is) t.parts

next_again : (s next : State) (piece : Piece) (front rest : List ℕ) → mark_at (front ++ rest) ≡ Ok (piece, rest)
    → entered s piece (front ++ rest) ≡ Ok next → next_piece s (front ++ rest) ≡ Ok (Some (next, rest))
unfolding next_piece
next_again s next piece front rest m e = rw (m, e) refl

-- a piece is read, and reading goes on
on_piece : (s next : State) (piece : Piece) (front rest : List ℕ) → IsPiece piece front → mark_at (front ++ rest) ≡ Ok (piece, rest)
    → entered s piece (front ++ rest) ≡ Ok next
    → steps next_piece s (front ++ rest) ≡ steps next_piece next rest
on_piece s next piece front rest is m e =
    let f = piece_front piece front is in
    let whole : front ++ rest ≡ f.0 ∷ (f.1 ++ rest) = ap (λ (l : List ℕ). l ++ rest) f.2 in
    ap (steps next_piece s) whole ∙ steps_on next_piece s next f.0 (f.1 ++ rest) rest next_piece-takes (ap (next_piece s) (sym whole)
    ∙ next_again s next piece front rest m e)

-- ---- each form is read

passed_on : (s : State) (front rest : List ℕ) → IsPassed front → steps next_piece s (front ++ rest) ≡ steps next_piece s rest
passed_on s front rest h = on_piece s s passed front rest h (passed_again front rest h) refl

joined_on : (s : State) (parts : List (List ℕ)) (rest : List ℕ) → AllByRecursion IsPassed parts
    → steps next_piece s (joined parts ++ rest) ≡ steps next_piece s rest
joined_on s [] rest h = refl
joined_on s (p ∷ ps) rest h = ap (steps next_piece s) (append_assoc p (joined ps) rest) ∙ passed_on s p (joined ps ++ rest) h.0 ∙ joined_on s ps rest h.1

pub all_passed_on : (s : State) (gap rest : List ℕ) → ArePassed gap → steps next_piece s (gap ++ rest) ≡ steps next_piece s rest
all_passed_on s gap rest h = ap (λ (l : List ℕ). steps next_piece s (l ++ rest)) h.text_is ∙ joined_on s h.parts rest h.are

-- with elements more
abbrev pub with_more : State → List Flat → State
with_more s more = record { names = s.names; done = s.done ++ more }

abbrev one : State → List ℕ → List Pair → Flat
one s name attributes = record { depth = length s.names; name = name; attributes = attributes }

opened_is : (s : State) (name : List ℕ) (attributes : List Pair) (empty : Bool) (text : List ℕ) → is_closed s.names s.done ≡ false
    → opened s name attributes empty text ≡ Ok (record { names = cond empty s.names (name ∷ s.names); done = s.done ++ one s name attributes ∷ [] })
unfolding opened
opened_is s name attributes empty text e = rw e refl

ended_is : (names : List (List ℕ)) (done : List Flat) (name text : List ℕ) → ended_in (name ∷ names) done name text ≡ Ok (record { names = names; done = done })
ended_is names done name text = rw (bytes_eq-same name) refl

regroup : (done : List Flat) (f : Flat) (below : List Flat) → (done ++ f ∷ []) ++ below ≡ done ++ f ∷ below
regroup done f below = append_assoc done (f ∷ []) below

mutual
  pub element_again : (s : State) (t : Tree) (text rest : List ℕ) → is_closed s.names s.done ≡ false → IsElement t text
      → steps next_piece s (text ++ rest) ≡ steps next_piece (with_more s (flat (length s.names) t)) rest
  element_again s (element name attributes below) text rest room (inl h) =
      let next : State = record { names = s.names; done = s.done ++ one s name attributes ∷ [] } in
      on_piece s next (opening name attributes true) text rest h.1 (opened_again text name attributes true rest h.1) (opened_is s name attributes true
      (text ++ rest) room)
      ∙ ap (λ (ts : Trees). steps next_piece (with_more s (one s name attributes ∷ flat_below (suc (length s.names)) ts)) rest) (sym h.0)
  element_again s (element name attributes below) text rest room (inr h) =
      let front = h.0 in
      let inner = h.1 in
      let last = h.2 in
      let whole : text ++ rest ≡ front ++ (inner ++ (last ++ rest)) = ap (λ (l : List ℕ). l ++ rest) h.3 ∙ append_assoc front (inner ++ last) rest
      ∙ ap (λ (l : List ℕ). front ++ l) (append_assoc inner last rest) in
      let s1 : State = record { names = name ∷ s.names; done = s.done ++ one s name attributes ∷ [] } in
      let fs = flat_below (suc (length s.names)) below in
      let s2 : State = record { names = s.names; done = (s.done ++ one s name attributes ∷ []) ++ fs } in
      ap (steps next_piece s) whole
      ∙ on_piece s s1 (opening name attributes false) front (inner ++ (last ++ rest)) h.4
      (opened_again front name attributes false (inner ++ (last ++ rest)) h.4) (opened_is s name attributes false (front ++ (inner ++ (last ++ rest))) room)
      ∙ elements_again s1 below inner (last ++ rest) (λ d. refl) h.5
      ∙ on_piece (with_more s1 fs) s2 (ending name) last rest h.6 (ended_again last name rest h.6) (ended_is s.names
      ((s.done ++ one s name attributes ∷ []) ++ fs) name (last ++ rest))
      ∙ ap (λ (l : List Flat). steps next_piece (record { names = s.names; done = l }) rest) (regroup s.done (one s name attributes) fs)

  pub elements_again : (s : State) (ts : Trees) (text rest : List ℕ) → ((done : List Flat) → is_closed s.names done ≡ false) → AreElements ts text
      → steps next_piece s (text ++ rest) ≡ steps next_piece (with_more s (flat_below (length s.names) ts)) rest
  elements_again s no_trees text rest room h = all_passed_on s text rest h
      ∙ ap (λ (l : List Flat). steps next_piece (record { names = s.names; done = l }) rest) (sym (append-nil s.done))
  elements_again s (tree t ts) text rest room h =
      let gap = h.0 in
      let front = h.1 in
      let more = h.2 in
      let whole : text ++ rest ≡ gap ++ (front ++ (more ++ rest)) = ap (λ (l : List ℕ). l ++ rest) h.3 ∙ append_assoc gap (front ++ more) rest
      ∙ ap (λ (l : List ℕ). gap ++ l) (append_assoc front more rest) in
      let fs = flat (length s.names) t in
      ap (steps next_piece s) whole
      ∙ all_passed_on s gap (front ++ (more ++ rest)) h.4
      ∙ element_again s t front (more ++ rest) (room s.done) h.5
      ∙ elements_again (with_more s fs) ts more rest room h.6
      ∙ ap (λ (l : List Flat). steps next_piece (record { names = s.names; done = l }) rest) (append_assoc s.done fs (flat_below (length s.names) ts))

-- ---- what is read is a form

never_stops : (s : State) (text : List ℕ) → next_piece s text ≡ Ok None → ⊥
unfolding next_piece
never_stops s text e =
    let a = bind_ok (mark_at text) (λ p. entered s p.0 text >>= λ n. Ok (Some (n, p.1))) None e in
    let b = bind_ok (entered s a.0.0 text) (λ n. Ok (Some (n, a.0.1))) None a.2 in
    cc (ok_is (Some (b.0, a.0.1)) None b.2)

opened_was : (s next : State) (name : List ℕ) (attributes : List Pair) (empty : Bool) (text : List ℕ) → opened s name attributes empty text ≡ Ok next
    → (is_closed s.names s.done ≡ false) × (record { names = cond empty s.names (name ∷ s.names); done = s.done ++ one s name attributes ∷ [] } ≡ next)
unfolding opened
opened_was s next name attributes empty text e =
    let made : State = record { names = cond empty s.names (name ∷ s.names); done = s.done ++ one s name attributes ∷ [] } in
    let g = refused_ok (is_closed s.names s.done) (Ok made) (fault_at SecondRoot text) next e in
    (g.0, ok_is made next g.1)

ended_was : (innermost : List ℕ) (names : List (List ℕ)) (done : List Flat) (name text : List ℕ) (next : State)
    → ended_in (innermost ∷ names) done name text ≡ Ok next
    → (innermost ≡ name) × (record { names = names; done = done } ≡ next)
ended_was innermost names done name text next e =
    let made : State = record { names = names; done = done } in
    let g = guard_ok (bytes_eq innermost name) (Ok made) (fault_at EndTag text) next e in
    (bytes_eq-true innermost name g.0, ok_is made next g.1)

passed_cons : (front text : List ℕ) → IsPassed front → ArePassed text → ArePassed (front ++ text)
passed_cons front text h r = record { parts = front ∷ r.parts; are = (h, r.are); text_is = ap (λ (l : List ℕ). front ++ l) r.text_is }

no_passed : ArePassed []
no_passed = record { parts = []; are = tt; text_is = refl }

elements_cons : (front : List ℕ) (ts : Trees) (text : List ℕ) → IsPassed front → AreElements ts text → AreElements ts (front ++ text)
elements_cons front no_trees text h r = passed_cons front text h r
elements_cons front (tree t ts) text h r =
    (front ++ r.0, r.1, r.2, ap (λ (l : List ℕ). front ++ l) r.3 ∙ sym (append_assoc front r.0 (r.1 ++ r.2)), passed_cons front r.0 h r.4, r.5, r.6)

elements_first : (t : Tree) (ts : Trees) (front text : List ℕ) → IsElement t front → AreElements ts text → AreElements (tree t ts) (front ++ text)
elements_first t ts front text h r = ([], front, text, refl, no_passed, h, r)

-- elements, and the end tag of the one that they are in
record TakesInside (name : List ℕ) (names : List (List ℕ)) (done : List Flat) (text : List ℕ) (x : State × List ℕ) : Type 0 where
  pub below : Trees
  pub inner : List ℕ
  pub last : List ℕ
  pub rest : List ℕ
  pub are : AreElements below inner
  pub ends : IsEnded last name
  pub parts : text ≡ inner ++ (last ++ rest)
  pub on : steps next_piece (record { names = names; done = done ++ flat_below (suc (length names)) below }) rest ≡ Ok x

inside_passed : (name : List ℕ) (names : List (List ℕ)) (done : List Flat) (front text : List ℕ) (x : State × List ℕ) → IsPassed front
    → TakesInside name names done text x → TakesInside name names done (front ++ text) x
inside_passed name names done front text x h t = record {
  below = t.below;
  inner = front ++ t.inner;
  last = t.last;
  rest = t.rest;
  are = elements_cons front t.below t.inner h t.are;
  ends = t.ends;
  parts = ap (λ (l : List ℕ). front ++ l) t.parts ∙ sym (append_assoc front t.inner (t.last ++ t.rest));
  on = t.on;
}

inside_ended : (name : List ℕ) (names : List (List ℕ)) (done : List Flat) (front rest : List ℕ) (x : State × List ℕ) → IsEnded front name
    → steps next_piece (record { names = names; done = done }) rest ≡ Ok x → TakesInside name names done (front ++ rest) x
inside_ended name names done front rest x h e = record {
  below = no_trees;
  inner = [];
  last = front;
  rest = rest;
  are = no_passed;
  ends = h;
  parts = refl;
  on = ap (λ (l : List Flat). steps next_piece (record { names = names; done = l }) rest) (append-nil done) ∙ e;
}

-- an element with no end tag of its own, or with one
inside_empty : (name inner_name : List ℕ) (attributes : List Pair) (names : List (List ℕ)) (done : List Flat) (front text : List ℕ) (x : State × List ℕ)
    → IsOpened front inner_name attributes true
    → TakesInside name names (done ++ record {
      depth = suc
          (length names);
      name = inner_name;
      attributes = attributes;
    } ∷ []) text x → TakesInside name names done (front ++ text) x
inside_empty name inner_name attributes names done front text x h t = record {
  below = tree (element inner_name attributes no_trees) t.below;
  inner = front ++ t.inner;
  last = t.last;
  rest = t.rest;
  are = elements_first (element inner_name attributes no_trees) t.below front t.inner (inl (refl, h)) t.are;
  ends = t.ends;
  parts = ap (λ (l : List ℕ). front ++ l) t.parts ∙ sym (append_assoc front t.inner (t.last ++ t.rest));
  on = ap (λ (l : List Flat). steps next_piece (record { names = names; done = l }) t.rest)
      (sym (append_assoc done (record { depth = suc (length names); name = inner_name; attributes = attributes } ∷ []) (flat_below (suc
      (length names)) t.below))) ∙ t.on;
}

flat_regroup : (done : List Flat) (f : Flat) (a b : List Flat) → done ++ ((f ∷ a) ++ b) ≡ ((done ++ f ∷ []) ++ a) ++ b
flat_regroup done f a b = simp append_assoc

inside_regroup : (front inner last text : List ℕ) → front ++ (inner ++ (last ++ text)) ≡ (front ++ (inner ++ last)) ++ text
inside_regroup front inner last text = simp append_assoc

inside_whole : (name inner_name : List ℕ) (attributes : List Pair) (names : List (List ℕ)) (done : List Flat) (front text : List ℕ) (x : State × List ℕ)
    → IsOpened front inner_name attributes false
    → (t : TakesInside inner_name (name ∷ names) (done ++ record { depth = suc (length names); name = inner_name; attributes = attributes } ∷ []) text x)
    → TakesInside name names ((done ++ record { depth = suc (length names); name = inner_name; attributes = attributes } ∷ []) ++ flat_below (suc (suc
    (length names))) t.below) t.rest x
    → TakesInside name names done (front ++ text) x
inside_whole name inner_name attributes names done front text x h t u =
    let f : Flat = record { depth = suc (length names); name = inner_name; attributes = attributes } in
    record {
      below = tree (element inner_name attributes t.below) u.below;
      inner = (front ++ (t.inner ++ t.last)) ++ u.inner;
      last = u.last;
      rest = u.rest;
      are = elements_first (element inner_name attributes t.below) u.below (front ++ (t.inner ++ t.last)) u.inner (inr
          (front, t.inner, t.last, refl, h, t.are, t.ends)) u.are;
      ends = u.ends;
      parts = ap (λ (l : List ℕ). front ++ l) (t.parts ∙ ap (λ (l : List ℕ). t.inner ++ (t.last ++ l)) u.parts)
          ∙ inside_regroup front t.inner t.last (u.inner ++ (u.last ++ u.rest)) ∙ sym (append_assoc (front ++ (t.inner ++ t.last)) u.inner (u.last ++ u.rest));
      on = ap (λ (l : List Flat). steps next_piece (record { names = names; done = l }) u.rest)
          (flat_regroup done f (flat_below (suc (suc (length names))) t.below) (flat_below (suc (length names)) u.below)) ∙ u.on;
    }

shorter : (front rest : List ℕ) (c n : ℕ) (cs : List ℕ) (f : (d : ℕ) × (more : List ℕ) × (front ≡ d ∷ more)) → c ∷ cs ≡ front ++ rest → length cs ≤ n
    → length rest ≤ n
shorter front rest c n cs f e le = let m = cut_front front c cs rest f e in omega (arith, ap length m.1, length-append m.0 rest)

abbrev within : List ℕ → List (List ℕ) → List Flat → State
within name names done = record { names = name ∷ names; done = done }

-- what is read of shorter texts
abbrev Insides : ℕ → State × List ℕ → Type 0
Insides n x =
    (name : List ℕ) (names : List (List ℕ)) (done : List Flat) (text : List ℕ) → length text ≤ n → steps next_piece (within name names done) text ≡ Ok x
    → TakesInside name names done text x

inside_piece : (n : ℕ) (x : State × List ℕ) → Insides n x → (name : List ℕ) (names : List (List ℕ)) (done : List Flat) (front rest : List ℕ) (next : State)
    → length rest ≤ n → (p : Piece) (text : List ℕ)
    → IsPiece p front → entered (within name names done) p text ≡ Ok next → steps next_piece next rest ≡ Ok x → TakesInside name names done (front ++ rest) x
inside_piece n x shorter_ones name names done front rest next le passed text h enters on =
    let same : within name names done ≡ next = ok_is (within name names done) next enters in
    inside_passed name names done front rest x h (shorter_ones name names done rest le (ap (λ (t : State). steps next_piece t rest) same ∙ on))
inside_piece n x shorter_ones name names done front rest next le (ending other) text h enters on =
    let w = ended_was name names done other text next enters in
    inside_ended name names done front rest x (subst (IsEnded front) (sym w.0) h) (ap (λ (t : State). steps next_piece t rest) w.1 ∙ on)
inside_piece n x shorter_ones name names done front rest next le (opening inner attributes true) text h enters on =
    let s = within name names done in
    let w = opened_was s next inner attributes true text enters in
    inside_empty name inner attributes names done front rest x h
    (shorter_ones name names (done ++ one s inner attributes ∷ []) rest le (ap (λ (t : State). steps next_piece t rest) w.1 ∙ on))
inside_piece n x shorter_ones name names done front rest next le (opening inner attributes false) text h enters on =
    let s = within name names done in
    let w = opened_was s next inner attributes false text enters in
    let t = shorter_ones inner (name ∷ names) (done ++ one s inner attributes ∷ []) rest le (ap (λ (t : State). steps next_piece t rest) w.1 ∙ on) in
    let less : length t.rest ≤ n = omega (arith, ap length t.parts, length-append t.inner (t.last ++ t.rest), length-append t.last t.rest) in
    let u = shorter_ones name names ((done ++ one s inner attributes ∷ []) ++ flat_below (suc (suc (length names))) t.below) t.rest less t.on in
    inside_whole name inner attributes names done front rest x h t u

inside_step : (n : ℕ) (x : State × List ℕ) → Insides n x → (name : List ℕ) (names : List (List ℕ)) (done : List Flat) (c : ℕ) (cs : List ℕ) → length cs ≤ n
    → (r : Stepped State)
    → next_piece (within name names done) (c ∷ cs) ≡ r → steps next_piece (within name names done) (c ∷ cs) ≡ Ok x → TakesInside name names done (c ∷ cs) x
inside_step n x shorter_ones name names done c cs le (Err f) is e = absurd (cc (steps_fail next_piece (within name names done) c cs f is, e))
inside_step n x shorter_ones name names done c cs le (Ok None) is e = absurd (never_stops (within name names done) (c ∷ cs) is)
inside_step n x shorter_ones name names done c cs le (Ok (Some y)) is e =
    let s = within name names done in
    let t = next_taken s (c ∷ cs) y.0 y.1 is in
    let on : steps next_piece y.0 y.1 ≡ Ok x = sym (steps_on next_piece s y.0 c cs y.1 next_piece-takes is) ∙ e in
    let less = shorter t.front y.1 c n cs (piece_front t.piece t.front t.is) t.parts le in
    subst (λ (l : List ℕ). TakesInside name names done l x) (sym t.parts)
    (inside_piece n x shorter_ones name names done t.front y.1 y.0 less t.piece (c ∷ cs) t.is t.enters on)

inside : (n : ℕ) (x : State × List ℕ) → x.0.names ≡ [] → (name : List ℕ) (names : List (List ℕ)) (done : List Flat) (text : List ℕ) → length text ≤ n
    → steps next_piece (within name names done) text ≡ Ok x → TakesInside name names done text x
inside n x closed name names done [] le e =
    let s = within name names done in
    let same : (s, []) ≡ x = ok_is (s, []) x (sym (steps_end next_piece s) ∙ e) in
    let some : name ∷ names ≡ [] = ap (λ (y : State × List ℕ). y.0.names) same ∙ closed in
    absurd cc
inside zero x closed name names done (c ∷ cs) le e = absurd (omega arith)
inside (suc n) x closed name names done (c ∷ cs) le e =
    inside_step n x (inside n x closed) name names done c cs (omega arith) (next_piece (within name names done) (c ∷ cs)) refl e

-- ---- all of a text

abbrev closed_with : List Flat → State
closed_with done = record { names = []; done = done }

-- after the root only what is passed
record TakesAfter (f : Flat) (fs : List Flat) (text : List ℕ) (x : State × List ℕ) : Type 0 where
  pub are : ArePassed text
  pub done : x.0.done ≡ f ∷ fs

abbrev Afters : ℕ → Flat → List Flat → State × List ℕ → Type 0
Afters n f fs x = (text : List ℕ) → length text ≤ n → steps next_piece (closed_with (f ∷ fs)) text ≡ Ok x → TakesAfter f fs text x

after_piece : (n : ℕ) (f : Flat) (fs : List Flat) (x : State × List ℕ) → Afters n f fs x → (front rest : List ℕ) (next : State) → length rest ≤ n
    → (p : Piece) (text : List ℕ)
    → IsPiece p front → entered (closed_with (f ∷ fs)) p text ≡ Ok next → steps next_piece next rest ≡ Ok x → TakesAfter f fs (front ++ rest) x
after_piece n f fs x shorter_ones front rest next le passed text h enters on =
    let same : closed_with (f ∷ fs) ≡ next = ok_is (closed_with (f ∷ fs)) next enters in
    let t = shorter_ones rest le (ap (λ (t : State). steps next_piece t rest) same ∙ on) in
    record { are = passed_cons front rest h t.are; done = t.done }
after_piece n f fs x shorter_ones front rest next le (ending other) text h enters on = absurd cc
after_piece n f fs x shorter_ones front rest next le (opening inner attributes empty) text h enters on =
    let w = opened_was (closed_with (f ∷ fs)) next inner attributes empty text enters in
    absurd (cc w.0)

after_step : (n : ℕ) (f : Flat) (fs : List Flat) (x : State × List ℕ) → Afters n f fs x → (c : ℕ) (cs : List ℕ) → length cs ≤ n → (r : Stepped State)
    → next_piece (closed_with (f ∷ fs)) (c ∷ cs) ≡ r
    → steps next_piece (closed_with (f ∷ fs)) (c ∷ cs) ≡ Ok x → TakesAfter f fs (c ∷ cs) x
after_step n f fs x shorter_ones c cs le (Err d) is e = absurd (cc (steps_fail next_piece (closed_with (f ∷ fs)) c cs d is, e))
after_step n f fs x shorter_ones c cs le (Ok None) is e = absurd (never_stops (closed_with (f ∷ fs)) (c ∷ cs) is)
after_step n f fs x shorter_ones c cs le (Ok (Some y)) is e =
    let s = closed_with (f ∷ fs) in
    let t = next_taken s (c ∷ cs) y.0 y.1 is in
    let on : steps next_piece y.0 y.1 ≡ Ok x = sym (steps_on next_piece s y.0 c cs y.1 next_piece-takes is) ∙ e in
    let less = shorter t.front y.1 c n cs (piece_front t.piece t.front t.is) t.parts le in
    subst (λ (l : List ℕ). TakesAfter f fs l x) (sym t.parts) (after_piece n f fs x shorter_ones t.front y.1 y.0 less t.piece (c ∷ cs) t.is t.enters on)

after : (n : ℕ) (f : Flat) (fs : List Flat) (x : State × List ℕ) (text : List ℕ) → length text ≤ n → steps next_piece (closed_with (f ∷ fs)) text ≡ Ok x
    → TakesAfter f fs text x
after n f fs x [] le e =
    let s = closed_with (f ∷ fs) in
    let same : (s, []) ≡ x = ok_is (s, []) x (sym (steps_end next_piece s) ∙ e) in
    record { are = no_passed; done = ap (λ (y : State × List ℕ). y.0.done) (sym same) }
after zero f fs x (c ∷ cs) le e = absurd (omega arith)
after (suc n) f fs x (c ∷ cs) le e = after_step n f fs x (after n f fs x) c cs (omega arith) (next_piece (closed_with (f ∷ fs)) (c ∷ cs)) refl e

-- the root, and what is around it
pub record TakesRoot (text : List ℕ) (done : List Flat) : Type 0 where
  pub root : Tree
  pub before : List ℕ
  pub front : List ℕ
  pub behind : List ℕ
  pub are : ArePassed before × ArePassed behind
  pub is : IsElement root front
  pub parts : text ≡ before ++ (front ++ behind)
  pub done_is : done ≡ flat 0 root

root_passed : (front text : List ℕ) (done : List Flat) → IsPassed front → TakesRoot text done → TakesRoot (front ++ text) done
root_passed front text done h t = record {
  root = t.root;
  before = front ++ t.before;
  front = t.front;
  behind = t.behind;
  are = (passed_cons front t.before h t.are.0, t.are.1);
  is = t.is;
  parts = ap (λ (l : List ℕ). front ++ l) t.parts ∙ sym (append_assoc front t.before (t.front ++ t.behind));
  done_is = t.done_is;
}

root_empty : (name : List ℕ) (attributes : List Pair) (front text : List ℕ) (x : State × List ℕ) → IsOpened front name attributes true
    → TakesAfter (record { depth = 0; name = name; attributes = attributes }) [] text x → TakesRoot (front ++ text) x.0.done
root_empty name attributes front text x h t = record {
  root = element name attributes no_trees;
  before = [];
  front = front;
  behind = text;
  are = (no_passed, t.are);
  is = inl
      (refl, h);
  parts = refl;
  done_is = t.done;
}

root_whole : (name : List ℕ) (attributes : List Pair) (front text : List ℕ) (x : State × List ℕ) → IsOpened front name attributes false
    → (t : TakesInside name [] (record { depth = 0; name = name; attributes = attributes } ∷ []) text x)
    → TakesAfter (record { depth = 0; name = name; attributes = attributes }) (flat_below 1 t.below) t.rest x → TakesRoot (front ++ text) x.0.done
root_whole name attributes front text x h t u = record {
  root = element name attributes t.below;
  before = [];
  front = front ++ (t.inner ++ t.last);
  behind = t.rest;
  are = (no_passed, u.are);
  is = inr (front, t.inner, t.last, refl, h, t.are, t.ends);
  parts = ap (λ (l : List ℕ). front ++ l) t.parts ∙ inside_regroup front t.inner t.last t.rest;
  done_is = u.done;
}

abbrev Roots : ℕ → State × List ℕ → Type 0
Roots n x = (text : List ℕ) → length text ≤ n → steps next_piece start text ≡ Ok x → TakesRoot text x.0.done

root_piece : (n : ℕ) (x : State × List ℕ) → x.0.names ≡ [] → Roots n x → (front rest : List ℕ) (next : State) → length rest ≤ n → (p : Piece) (text : List ℕ)
    → IsPiece p front → entered start p text ≡ Ok next → steps next_piece next rest ≡ Ok x → TakesRoot (front ++ rest) x.0.done
root_piece n x none shorter_ones front rest next le passed text h enters on =
    let same : start ≡ next = ok_is start next enters in
    root_passed front rest x.0.done h (shorter_ones rest le (ap (λ (t : State). steps next_piece t rest) same ∙ on))
root_piece n x none shorter_ones front rest next le (ending other) text h enters on = absurd cc
root_piece n x none shorter_ones front rest next le (opening name attributes true) text h enters on =
    let w = opened_was start next name attributes true text enters in
    root_empty name attributes front rest x h (after n (record { depth = 0; name = name; attributes = attributes }) [] x rest le (ap (λ
    (t : State). steps next_piece t rest) w.1 ∙ on))
root_piece n x none shorter_ones front rest next le (opening name attributes false) text h enters on =
    let f : Flat = record { depth = 0; name = name; attributes = attributes } in
    let w = opened_was start next name attributes false text enters in
    let t = inside n x none name [] (f ∷ []) rest le (ap (λ (t : State). steps next_piece t rest) w.1 ∙ on) in
    let less : length t.rest ≤ n = omega (arith, ap length t.parts, length-append t.inner (t.last ++ t.rest), length-append t.last t.rest) in
    root_whole name attributes front rest x h t (after n f (flat_below 1 t.below) x t.rest less t.on)

root_step : (n : ℕ) (x : State × List ℕ) → x.0.names ≡ [] → Roots n x → (c : ℕ) (cs : List ℕ) → length cs ≤ n → (r : Stepped State)
    → next_piece start (c ∷ cs) ≡ r
    → steps next_piece start (c ∷ cs) ≡ Ok x → TakesRoot (c ∷ cs) x.0.done
root_step n x none shorter_ones c cs le (Err d) is e = absurd (cc (steps_fail next_piece start c cs d is, e))
root_step n x none shorter_ones c cs le (Ok None) is e = absurd (never_stops start (c ∷ cs) is)
root_step n x none shorter_ones c cs le (Ok (Some y)) is e =
    let t = next_taken start (c ∷ cs) y.0 y.1 is in
    let on : steps next_piece y.0 y.1 ≡ Ok x = sym (steps_on next_piece start y.0 c cs y.1 next_piece-takes is) ∙ e in
    let less = shorter t.front y.1 c n cs (piece_front t.piece t.front t.is) t.parts le in
    subst (λ (l : List ℕ). TakesRoot l x.0.done) (sym t.parts) (root_piece n x none shorter_ones t.front y.1 y.0 less t.piece (c ∷ cs) t.is t.enters on)

root_of : (n : ℕ) (x : State × List ℕ) → is_closed x.0.names x.0.done ≡ true → x.0.names ≡ [] → (text : List ℕ) → length text ≤ n
    → steps next_piece start text ≡ Ok x → TakesRoot text x.0.done
root_of n x closed none [] le e =
    let same : (start, []) ≡ x = ok_is (start, []) x (sym (steps_end next_piece start) ∙ e) in
    absurd (cc (subst (λ (y : State × List ℕ). is_closed y.0.names y.0.done ≡ true) (sym same) closed))
root_of zero x closed none (c ∷ cs) le e = absurd (omega arith)
root_of (suc n) x closed none (c ∷ cs) le e = root_step n x none (root_of n x closed none) c cs (omega arith) (next_piece start (c ∷ cs)) refl e

closed_none : (names : List (List ℕ)) (done : List Flat) → is_closed names done ≡ true → names ≡ []
closed_none [] done e = refl
closed_none (n ∷ ns) done e = absurd cc

-- the elements that are read are those of a form
pub elements_taken : (text : List ℕ) (fs : List Flat) → elements_of text ≡ Ok fs → TakesRoot text fs
unfolding elements_of
elements_taken text fs e =
    let b = bind_ok (steps next_piece start text) (λ x. finished x.0) fs e in
    let x = b.0 in
    let g = guard_ok (is_closed x.0.names x.0.done) (Ok x.0.done) (fault_at Unfinished []) fs b.2 in
    subst (TakesRoot text) (ok_is x.0.done fs g.1) (root_of (length text) x g.0 (closed_none x.0.names x.0.done g.0) text (omega arith) b.1)

flat_closed : (t : Tree) → is_closed [] (flat 0 t) ≡ true
flat_closed (element name attributes below) = refl

-- the elements of a form are read
pub elements_back : (text before front behind : List ℕ) (root : Tree) → text ≡ before ++ (front ++ behind) → ArePassed before → ArePassed behind
    → IsElement root front → elements_of text ≡ Ok (flat 0 root)
unfolding elements_of
elements_back text before front behind root parts hb ha h =
    let end : State = record { names = []; done = flat 0 root } in
    let all : steps next_piece start text ≡ Ok (end, []) =
    ap (steps next_piece start) parts
    ∙ all_passed_on start before (front ++ behind) hb
    ∙ element_again start root front behind refl h
    ∙ ap (steps next_piece end) (sym (append-nil behind))
    ∙ all_passed_on end behind [] ha
    ∙ steps_end next_piece end
    in
    rw all (rw (flat_closed root) refl)
