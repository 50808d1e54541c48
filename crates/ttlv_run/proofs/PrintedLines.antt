-- The lines of two texts are read back from what is printed of them.
use Rattle.std.proofs.Common.{◌≡◌, ◌≢◌, ◌∙◌, ℕ, zero, suc, ◌-◌, ◌<◌, ◌==◌, Bool, true, false, not, if◌then◌else◌, List, [], ◌∷◌, ◌++◌}
use Rattle.std.proofs.Common.{length, take, drop, get_or, map, refl, ap, sym, subst, arith}
use Rattle.std.specs.List.{All, filter, flat_map}
use Rattle.std.proofs.lemmas.List.Elements.{All-head, All-tail}
use Rattle.std.proofs.lemmas.List.Splits.{length-slice_split}
use Rattle.kmip_ttlv_names.specs.NameTables.{is_line_feed, lines_of}
use Rattle.ttlv_run.specs.Backs.{IsOneLine}
use Rattle.ttlv_run.proofs.BackLines.{first_of_lines}
use Rattle.ttlv_run.specs.Differences.{behind, Marked, in_both, in_first, in_second, first_of, second_of, marked_text, AreMarked}
use Rattle.ttlv_run.specs.Differences.{without_empty_last, lines_in, first_printed, second_printed}

cons_if : (b : Bool) (l : List ℕ) (xs ys : List (List ℕ)) → (if b then l ∷ xs else (l ∷ ys)) ≡ l ∷ (if b then xs else ys)
cons_if true l xs ys = refl
cons_if false l xs ys = refl

last_at : (l : List ℕ) (xs : List (List ℕ)) (i j : ℕ) → i ≡ suc j
    → (if length (get_or (l ∷ xs) i []) == 0 then take i (l ∷ xs) else (l ∷ xs)) ≡ l ∷ (if length (get_or xs j []) == 0 then take j xs else xs)
last_at l xs i j e =
    ap (λ (k : ℕ). if length (get_or (l ∷ xs) k []) == 0 then take k (l ∷ xs) else (l ∷ xs)) e
    ∙ cons_if (length (get_or xs j []) == 0) l (take j xs) xs

last_more : (l : List ℕ) (xs : List (List ℕ)) → 0 < length xs → without_empty_last (l ∷ xs) ≡ l ∷ without_empty_last xs
last_more l xs some = last_at l xs (length (l ∷ xs) - 1) (length xs - 1) (omega (arith, some))

-- a line in front of others
line_more : (line more : List ℕ) → IsOneLine line → lines_in ((line ++ (10 ∷ [])) ++ more) ≡ line ∷ lines_in more
line_more line more one =
    ap without_empty_last (first_of_lines line more one)
    ∙ last_more line (lines_of more) (omega (arith, length-slice_split is_line_feed more))

-- a line behind its mark
abbrev marked_line : Marked → List ℕ
marked_line (in_both line) = 32 ∷ 32 ∷ line
marked_line (in_first line) = 45 ∷ 32 ∷ line
marked_line (in_second line) = 43 ∷ 32 ∷ line

-- a mark is no line feed
marked_one : (mark : ℕ) (line : List ℕ) → mark ≢ 10 → IsOneLine line → IsOneLine (mark ∷ 32 ∷ line)
marked_one mark line not one zero lt is = not is
marked_one mark line not one (suc zero) lt is = absurd (omega (arith, is))
marked_one mark line not one (suc (suc k)) lt is = one k (omega (arith, lt)) is

behind_more : (mark : ℕ) (line more : List ℕ) → mark ≢ 10 → IsOneLine line
    → lines_in (behind (mark ∷ 32 ∷ []) line ++ more) ≡ (mark ∷ 32 ∷ line) ∷ lines_in more
behind_more mark line more not one = line_more (mark ∷ 32 ∷ line) more (marked_one mark line not one)

lines_marked : (ms : List Marked) → All IsOneLine (flat_map first_of ms) → All IsOneLine (flat_map second_of ms)
    → lines_in (flat_map marked_text ms) ≡ map marked_line ms
lines_marked [] a b = refl
lines_marked (in_both line ∷ ms) a b =
    behind_more 32 line (flat_map marked_text ms) (λ e. absurd (omega (arith, e))) (All-head IsOneLine line (flat_map first_of ms) a)
    ∙ ap (λ (s : List (List ℕ)). (32 ∷ 32 ∷ line) ∷ s)
    (lines_marked ms (All-tail IsOneLine line (flat_map first_of ms) a) (All-tail IsOneLine line (flat_map second_of ms) b))
lines_marked (in_first line ∷ ms) a b =
    behind_more 45 line (flat_map marked_text ms) (λ e. absurd (omega (arith, e))) (All-head IsOneLine line (flat_map first_of ms) a)
    ∙ ap (λ (s : List (List ℕ)). (45 ∷ 32 ∷ line) ∷ s) (lines_marked ms (All-tail IsOneLine line (flat_map first_of ms) a) b)
lines_marked (in_second line ∷ ms) a b =
    behind_more 43 line (flat_map marked_text ms) (λ e. absurd (omega (arith, e))) (All-head IsOneLine line (flat_map second_of ms) b)
    ∙ ap (λ (s : List (List ℕ)). (43 ∷ 32 ∷ line) ∷ s) (lines_marked ms a (All-tail IsOneLine line (flat_map second_of ms) b))

read_first : (ms : List Marked) → map (drop 2) (filter (λ line. not (get_or line 0 0 == 43)) (map marked_line ms)) ≡ flat_map first_of ms
read_first [] = refl
read_first (in_both line ∷ ms) = ap (λ (s : List (List ℕ)). line ∷ s) (read_first ms)
read_first (in_first line ∷ ms) = ap (λ (s : List (List ℕ)). line ∷ s) (read_first ms)
read_first (in_second line ∷ ms) = read_first ms

read_second : (ms : List Marked) → map (drop 2) (filter (λ line. not (get_or line 0 0 == 45)) (map marked_line ms)) ≡ flat_map second_of ms
read_second [] = refl
read_second (in_both line ∷ ms) = ap (λ (s : List (List ℕ)). line ∷ s) (read_second ms)
read_second (in_first line ∷ ms) = read_second ms
read_second (in_second line ∷ ms) = ap (λ (s : List (List ℕ)). line ∷ s) (read_second ms)

module _ {first second : List (List ℕ)} {text : List ℕ} (a : All IsOneLine first) (b : All IsOneLine second) (m : AreMarked first second text) where
  lines : lines_in text ≡ map marked_line m.lines
  lines = ap lines_in m.printed ∙ lines_marked m.lines (subst (All IsOneLine) (sym m.firsts) a) (subst (All IsOneLine) (sym m.seconds) b)

  pub first_read : first_printed text ≡ first
  first_read = ap (λ (s : List (List ℕ)). map (drop 2) (filter (λ line. not (get_or line 0 0 == 43)) s)) lines ∙ read_first m.lines ∙ m.firsts

  pub second_read : second_printed text ≡ second
  second_read = ap (λ (s : List (List ℕ)). map (drop 2) (filter (λ line. not (get_or line 0 0 == 45)) s)) lines ∙ read_second m.lines ∙ m.seconds
