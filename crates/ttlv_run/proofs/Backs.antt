-- Lines of diagnostics that are read back, and the first that is not whole.
use Rattle.std.proofs.Common.{◌≡◌, ◌≢◌, ℕ, ◌+◌, ◌-◌, List, [], ◌∷◌, ◌++◌, Option, Some, None, length, drop, ap, sym, refl, subst, ◌∙◌, arith}
use Rattle.std.specs.Str.{trim_end}
use Rattle.std.proofs.{lemmas.List.length-drop, Math.ListN.drop_of_length-le}
use Rattle.kmip_ttlv_util.specs.{Undiag.undiag_lines, Lines.bounded_part, ReadBack.StandAll, ReadBack.EndsAt}
use Rattle.ttlv_run.specs.{declared.back.BackFault.BackFault, Texts.line_back, Columns.body}
use Rattle.ttlv_run.specs.Backs.{IsWholeText, IsWrong, Stopped, TriesText}

module _ (tags : ℕ → Option (List ℕ)) (prefix : List ℕ) where
  -- an empty line
  pub empty_back : (line : List ℕ) {t : List ℕ} → t ≡ trim_end (body line) → length t ≡ 0 → line_back tags prefix line ≡ []
  unfolding line_back
  empty_back line {t = []} is none = rw (← is) refl
  empty_back line {t = c ∷ t} is none = absurd (omega (arith, none))

  -- any other
  pub some_back : (line : List ℕ) {t : List ℕ} → t ≡ trim_end (body line) → length t ≢ 0
      → line_back tags prefix line ≡ trim_end (undiag_lines (bounded_part tags) prefix t) ++ 10 ∷ []
  unfolding line_back
  some_back line {t = []} is some = absurd (some refl)
  some_back line {t = c ∷ t} is some = rw (← is) refl

-- an empty line is whole
pub empty_whole : (prefix line t : List ℕ) → t ≡ trim_end line → length t ≡ 0 → IsWholeText prefix line
empty_whole prefix line [] is none = ([], (refl, is))
empty_whole prefix line (c ∷ t) is none = absurd (omega (arith, none))

module _ (beginning : ℕ → ℕ → List ℕ) (prefix : List ℕ) where
  -- what reading the trimmed line gives
  trimmed_tries : (at : ℕ) (line answer : List ℕ) (used deep offset left : ℕ) (o : Option BackFault) → EndsAt beginning prefix (trim_end line) answer used deep
      → Stopped offset deep left o → offset ≡ at + used → left ≡ length (trim_end line) - used → TriesText prefix at line o
  trimmed_tries at line answer used deep offset left None reads stopped offset_is left_is =
      let none : drop used (trim_end line) ≡ [] = drop_of_length-le (trim_end line) (omega (arith, stopped.0, left_is)) in
      let all = subst (λ (d : ℕ). StandAll prefix 0 (trim_end line) reads.parts d (drop used (trim_end line))) stopped.1 reads.stand in
      (reads.parts, subst (λ (r : List ℕ). StandAll prefix 0 (trim_end line) reads.parts 0 r) none all)
  trimmed_tries at line answer used deep offset left (Some f) reads stopped offset_is left_is =
      let len : left ≡ length (drop used (trim_end line)) = left_is ∙ sym (length-drop used (trim_end line)) in
      record {
        place = used;
        stops = record {
          parts = reads.parts;
          deep = deep;
          within = reads.within;
          stand = reads.stand;
          no_more = reads.no_more;
          wrong = subst (IsWrong f.kind deep) len stopped.1;
        };
        offset = stopped.0 ∙ offset_is;
      }

  pub line_tries : (at : ℕ) (line t answer : List ℕ) (used deep offset left : ℕ) (o : Option BackFault) → t ≡ trim_end line
      → EndsAt beginning prefix t answer used deep → Stopped offset deep left o → offset ≡ at + used → left ≡ length t - used → TriesText prefix at line o
  line_tries at line t answer used deep offset left o is reads stopped offset_is left_is =
      trimmed_tries at line answer used deep offset left o (subst (λ (s : List ℕ). EndsAt beginning prefix s answer used deep) is reads) stopped offset_is
      (left_is ∙ ap (λ (s : List ℕ). length s - used) is)
