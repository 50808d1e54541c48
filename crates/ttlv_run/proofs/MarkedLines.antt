-- Marked lines, and some behind them.
use Rattle.std.proofs.Common.{◌≡◌, ℕ, List, [], ◌∷◌, ◌++◌, map, refl, ap, sym, ◌∙◌, codes, append-nil, append_assoc, subst}
use Rattle.std.specs.List.{flat_map}
use Rattle.std.proofs.lemmas.Grind.{flat_map-append}
use Rattle.ttlv_run.specs.Differences.{behind, Marked, in_both, in_first, in_second, first_of, second_of, marked_text, AreMarked, AddsAll}

pub marked_none : AreMarked [] [] []
marked_none = record { lines = []; firsts = refl; seconds = refl; printed = refl }

pub marked_then : {a b c d : List (List ℕ)} {s t : List ℕ} → AreMarked a b s → AreMarked c d t → AreMarked (a ++ c) (b ++ d) (s ++ t)
marked_then m n =
    let firsts = flat_map-append first_of m.lines n.lines in
    let seconds = flat_map-append second_of m.lines n.lines in
    let texts = flat_map-append marked_text m.lines n.lines in
    record {
      lines = m.lines ++ n.lines;
      firsts = cc;
      seconds = cc;
      printed = cc;
    }

-- each of some lines is marked
module _ (mark : List ℕ → Marked) (own : Marked → List (List ℕ)) where
  has_each : ((l : List ℕ) → own (mark l) ≡ l ∷ []) → (ls : List (List ℕ)) → flat_map own (map mark ls) ≡ ls
  has_each one [] = refl
  has_each one (l ∷ ls) = ap (λ (s : List (List ℕ)). s ++ flat_map own (map mark ls)) (one l) ∙ ap (λ (s : List (List ℕ)). l ∷ s) (has_each one ls)

  has_none : ((l : List ℕ) → own (mark l) ≡ []) → (ls : List (List ℕ)) → flat_map own (map mark ls) ≡ []
  has_none one [] = refl
  has_none one (l ∷ ls) = ap (λ (s : List (List ℕ)). s ++ flat_map own (map mark ls)) (one l) ∙ has_none one ls

each_printed : (mark : List ℕ → Marked) (sign : List ℕ) → ((l : List ℕ) → marked_text (mark l) ≡ behind sign l)
    → (ls : List (List ℕ)) → flat_map (behind sign) ls ≡ flat_map marked_text (map mark ls)
each_printed mark sign one [] = refl
each_printed mark sign one (l ∷ ls) =
    ap (λ (s : List ℕ). s ++ flat_map (behind sign) ls) (sym (one l))
    ∙ ap (λ (s : List ℕ). marked_text (mark l) ++ s) (each_printed mark sign one ls)

pub marked_both : (ls : List (List ℕ)) → AreMarked ls ls (flat_map (behind (codes "  ")) ls)
marked_both ls = record {
  lines = map in_both ls;
  firsts = has_each in_both first_of (λ l. refl) ls;
  seconds = has_each in_both second_of (λ l. refl) ls;
  printed = each_printed in_both (codes "  ") (λ l. refl) ls;
}

marked_first : (ls : List (List ℕ)) → AreMarked ls [] (flat_map (behind (codes "- ")) ls)
marked_first ls = record {
  lines = map in_first ls;
  firsts = has_each in_first first_of (λ l. refl) ls;
  seconds = has_none in_first second_of (λ l. refl) ls;
  printed = each_printed in_first (codes "- ") (λ l. refl) ls;
}

marked_second : (ls : List (List ℕ)) → AreMarked [] ls (flat_map (behind (codes "+ ")) ls)
marked_second ls = record {
  lines = map in_second ls;
  firsts = has_none in_second first_of (λ l. refl) ls;
  seconds = has_each in_second second_of (λ l. refl) ls;
  printed = each_printed in_second (codes "+ ") (λ l. refl) ls;
}

-- lines of the first text alone, and then lines of the second alone
pub marked_apart : (old new : List (List ℕ)) → AreMarked old new (flat_map (behind (codes "- ")) old ++ flat_map (behind (codes "+ ")) new)
marked_apart old new =
    let both = marked_then (marked_first old) (marked_second new) in
    record {
      lines = both.lines;
      firsts = both.firsts ∙ append-nil old;
      seconds = both.seconds;
      printed = both.printed;
    }

pub adds_none : {old : List ℕ} → AddsAll [] [] old old
adds_none {old} = record { text = []; marked = marked_none; added = sym (append-nil old) }

-- more marked lines were added
pub adds_then : {a b c d : List (List ℕ)} {old before now text : List ℕ} → AddsAll a b old before → AreMarked c d text → now ≡ before ++ text
    → AddsAll (a ++ c) (b ++ d) old now
adds_then {old = old} {text = text} s m is = record {
  text = s.text ++ text;
  marked = marked_then s.marked m;
  added = is ∙ ap (λ (t : List ℕ). t ++ text) s.added ∙ append_assoc old s.text text;
}

-- they are those of these lines
pub adds_of : {a b c d : List (List ℕ)} {old now : List ℕ} → c ≡ a → d ≡ b → AddsAll a b old now → AddsAll c d old now
adds_of {a} {d = d} {old = old} {now} e f s =
    subst (λ (x : List (List ℕ)). AddsAll x d old now) (sym e) (subst (λ (x : List (List ℕ)). AddsAll a x old now) (sym f) s)

pub adds_at : {a b : List (List ℕ)} {old before now : List ℕ} → now ≡ before → AddsAll a b old before → AddsAll a b old now
adds_at {a} {b} {old} e s = subst (λ (x : List ℕ). AddsAll a b old x) (sym e) s
