-- A batch goes on by one item, ends, or breaks off.
use Rattle.std.proofs.Common.{◌≡◌, Bool, true, false, List, [], ◌∷◌, ◌++◌, ◌∙◌, Result, Ok, Err, OnErr, refl, sym, ap, subst, append_assoc, append-nil}
use Rattle.std.specs.List.{list_any}
use Rattle.std.proofs.lemmas.Bool.{or_from, or_parts}
use Rattle.std.proofs.lemmas.List.Folds.{list_any-append}
use Rattle.kmip_server.specs.Batches.{AreAnswers, BreaksOff}

-- items are answered, and then those behind them
pub joined : {W Q P : Type 0} (R : W → Q → P → W → Type 0) (ends : P → Bool) (old : W) (before : List Q) (answers : List P) (mid : W) (left : List Q)
    (more : List P) (new : W) → AreAnswers R ends old before answers mid → list_any ends answers ≡ false → AreAnswers R ends mid left more new
    → AreAnswers R ends old (before ++ left) (answers ++ more) new
joined {W} R ends old [] [] mid left more new is go_on rest = let from : W → Type 0 = λ w. AreAnswers R ends w left more new in subst from is rest
joined R ends old [] (answer ∷ answers) mid left more new is go_on rest = absurd is
joined R ends old (item ∷ before) [] mid left more new is go_on rest = absurd is
joined R ends old (item ∷ before) (answer ∷ answers) mid left more new is go_on rest =
    let on = or_parts (ends answer) (list_any ends answers) go_on in
    let others : AreAnswers R ends is.0 before answers mid = rw on.0 at is.2 in
    (is.0, is.1, rw on.0 (joined R ends is.0 before answers mid left more new others on.1 rest))

-- So far a front of the items is answered, and none of the answers ends the batch
pub record IsGoing {W Q P : Type 0} (R : W → Q → P → W → Type 0) (ends : P → Bool) (first : W) (items : List Q) (answers : List P) (here : W)
    (left : List Q) : Type 0 where
  pub before : List Q
  pub items_are : items ≡ before ++ left
  pub answered : AreAnswers R ends first before answers here
  pub go_on : list_any ends answers ≡ false

module _ {W Q P : Type 0} {R : W → Q → P → W → Type 0} {ends : P → Bool} {first : W} {items left : List Q} {answers : List P} {old : W}
    (so_far : IsGoing R ends first items answers old left) where
  -- what stands before the items that are left, and these
  pub left_of : (rest : List Q) → left ≡ rest → items ≡ so_far.before ++ rest
  left_of rest left_is = so_far.items_are ∙ ap (λ xs. so_far.before ++ xs) left_is

  -- an item is answered, and others may follow
  pub goes_on : (rest : List Q) (item : Q) (answer : P) (mid : W) (after : List P) → left ≡ item ∷ rest → R old item answer mid → ends answer ≡ false
      → after ≡ answers ++ answer ∷ [] → IsGoing R ends first items after mid rest
  goes_on rest item answer mid after left_is given on after_is = record {
    before = so_far.before ++ item ∷ [];
    items_are = left_of (item ∷ rest) left_is ∙ sym (append_assoc so_far.before (item ∷ []) rest);
    answered = rw after_is (joined R ends first so_far.before answers old (item ∷ []) (answer ∷ []) mid so_far.answered so_far.go_on (mid, given, rw on refl));
    go_on = ap (list_any ends) after_is ∙ list_any-append ends answers (answer ∷ [])
        ∙ or_from (list_any ends answers) (list_any ends (answer ∷ [])) so_far.go_on (or_from (ends answer) false on refl);
  }

  -- an item is answered, and no other follows
  pub ends_here : (rest : List Q) (item : Q) (answer : P) (mid : W) (after : List P) → left ≡ item ∷ rest → R old item answer mid → ends answer ≡ true
      → after ≡ answers ++ answer ∷ [] → AreAnswers R ends first items after mid
  ends_here rest item answer mid after left_is given last after_is =
      rw (left_of (item ∷ rest) left_is, after_is) (joined R ends first so_far.before answers old (item ∷ rest) (answer ∷ []) mid so_far.answered so_far.go_on
      (mid, given, rw last record { no_more = refl; unchanged = refl }))

  -- no item is left
  pub all_done : left ≡ [] → AreAnswers R ends first items answers old
  all_done left_is =
      let of_items : List Q → Type 0 = λ xs. AreAnswers R ends first xs answers old in
      subst of_items (sym (left_of [] left_is ∙ append-nil so_far.before)) so_far.answered

  -- an item has no answer
  pub breaks_off : (Unanswered : W → Q → W → Type 0) (rest : List Q) (item : Q) (new : W) → left ≡ item ∷ rest → Unanswered old item new
      → BreaksOff R Unanswered ends first items new
  breaks_off Unanswered rest item new left_is unanswered = record {
    before = so_far.before;
    item = item;
    behind = rest;
    items_are = left_of (item ∷ rest) left_is;
    answers = answers;
    mid = old;
    answered = so_far.answered;
    go_on = so_far.go_on;
    unanswered = unanswered;
  }

-- what holds in any case holds on an error
pub err_holds : {T E P : Type 0} (r : Result T E) → P → OnErr r P
err_holds (Ok x) p = tt
err_holds (Err e) p = p

-- nothing is answered yet
pub starts : {W Q P : Type 0} {R : W → Q → P → W → Type 0} {ends : P → Bool} {first : W} {items left : List Q} {answers : List P} → left ≡ items → answers ≡ []
    → IsGoing R ends first items answers first left
starts left_is answers_are = record { before = []; items_are = sym left_is; answered = rw answers_are refl; go_on = rw answers_are refl }
