-- Lists of lines: one more at the front, and at the end.
use Rattle.std.specs.Borrow.{Bor}
use Rattle.std.proofs.Common.{◌≡◌, ℕ, suc, ◌+◌, ◌-◌, ◌<◌, ◌≤◌, true, false, List, [], ◌∷◌, ◌++◌, length, take, drop, get_or, map, ap, sym, ◌∙◌}
use Rattle.std.proofs.Common.{append-nil, add-one, arith, drop-cons, take_all, append_assoc}
use Rattle.std.proofs.Math.Seq.{take-add}
use Rattle.std.specs.{List.flat_map, List.slice_range, Str.bytes_eq}
use Rattle.std.proofs.lemmas.Slice.Eq.{bytes_eq-Decides}
use Rattle.std.proofs.lemmas.List.{take-map, drop-map, map_more, length-map, length-drop, get_or-map}
use Rattle.std.proofs.lemmas.Grind.{flat_map-append}

-- what references to texts point to
abbrev pub texts : List (Bor (List ℕ)) → List (List ℕ)
texts lines = map (λ s. s.now) lines

pub take_texts : (xs : List (Bor (List ℕ))) (k : ℕ) (d : Bor (List ℕ)) → k < length xs
    → take (k + 1) (texts xs) ≡ take k (texts xs) ++ ((get_or xs k d).now ∷ [])
take_texts xs k d lt =
    let f : Bor (List ℕ) → List ℕ = λ s. s.now in
    take-map f (k + 1) xs ∙ map_more f xs k d lt ∙ ap (λ (s : List (List ℕ)). s ++ ((get_or xs k d).now ∷ [])) (sym (take-map f k xs))

pub same_texts : {s t : List ℕ} → bytes_eq s t ≡ true → s ≡ t
same_texts {s} {t} e = (bytes_eq-Decides s t).0 e

-- one more line in common at the front
pub front_more : (xs ys : List (Bor (List ℕ))) (k : ℕ) (d : Bor (List ℕ)) → k < length xs → k < length ys
    → (get_or xs k d).now ≡ (get_or ys k d).now → take k (texts xs) ≡ take k (texts ys)
    → take (k + 1) (texts xs) ≡ take (k + 1) (texts ys)
front_more xs ys k d a b same before =
    let one = take_texts xs k d a in
    let other = take_texts ys k d b in
    cc

pub drop_texts : (xs : List (Bor (List ℕ))) (k : ℕ) (d : Bor (List ℕ)) → k < length xs
    → drop k (texts xs) ≡ (get_or xs k d).now ∷ drop (k + 1) (texts xs)
drop_texts xs k d lt =
    let f : Bor (List ℕ) → List ℕ = λ s. s.now in
    let within : k < length (texts xs) = omega (arith, length-map xs f) in
    drop-cons (texts xs) k [] within
    ∙ ap (λ (l : List ℕ). l ∷ drop (suc k) (texts xs)) (get_or-map f xs k d [] lt)
    ∙ ap (λ (n : ℕ). (get_or xs k d).now ∷ drop n (texts xs)) (sym (add-one k))

-- one more at the end
pub end_more : (xs ys : List (Bor (List ℕ))) (k : ℕ) (d : Bor (List ℕ)) → k < length xs → k < length ys
    → (get_or xs (length xs - 1 - k) d).now ≡ (get_or ys (length ys - 1 - k) d).now
    → drop (length xs - k) (texts xs) ≡ drop (length ys - k) (texts ys)
    → drop (length xs - (k + 1)) (texts xs) ≡ drop (length ys - (k + 1)) (texts ys)
end_more xs ys k d a b same behind =
    at (length xs - (k + 1)) (length xs - 1 - k) (omega arith)
    ∙ drop_texts xs (length xs - 1 - k) d (omega arith)
    ∙ parts
    ∙ sym (drop_texts ys (length ys - 1 - k) d (omega arith))
    ∙ sym (also (length ys - (k + 1)) (length ys - 1 - k) (omega arith))
  where
    at : (m n : ℕ) → m ≡ n → drop m (texts xs) ≡ drop n (texts xs)
    at m n e = ap (λ (i : ℕ). drop i (texts xs)) e

    also : (m n : ℕ) → m ≡ n → drop m (texts ys) ≡ drop n (texts ys)
    also m n e = ap (λ (i : ℕ). drop i (texts ys)) e

    parts : ((get_or xs (length xs - 1 - k) d).now ∷ drop (length xs - 1 - k + 1) (texts xs))
        ≡ ((get_or ys (length ys - 1 - k) d).now ∷ drop (length ys - 1 - k + 1) (texts ys))
    parts =
        let one = at (length xs - 1 - k + 1) (length xs - k) (omega arith) in
        let other = also (length ys - 1 - k + 1) (length ys - k) (omega arith) in
        cc

-- what is printed of one more
pub printed_more : (f : List ℕ → List ℕ) (xs : List (Bor (List ℕ))) (k : ℕ) (d : Bor (List ℕ)) → k < length xs
    → flat_map f (take (k + 1) (texts xs)) ≡ flat_map f (take k (texts xs)) ++ f (get_or xs k d).now
printed_more f xs k d lt =
    ap (flat_map f) (take_texts xs k d lt)
    ∙ flat_map-append f (take k (texts xs)) ((get_or xs k d).now ∷ [])
    ∙ ap (λ (s : List ℕ). flat_map f (take k (texts xs)) ++ s) (append-nil (f (get_or xs k d).now))

-- lines that differ at a place
pub differ_there : (xs ys : List (Bor (List ℕ))) (k : ℕ) (d : Bor (List ℕ)) → k < length xs → k < length ys
    → bytes_eq (get_or xs k d).now (get_or ys k d).now ≡ false → get_or (texts xs) k [] ≡ get_or (texts ys) k [] → ⊥
differ_there xs ys k d a b other_text same =
    let f : Bor (List ℕ) → List ℕ = λ s. s.now in
    let one = get_or-map f xs k d [] a in
    let other = get_or-map f ys k d [] b in
    let yes : bytes_eq (get_or xs k d).now (get_or ys k d).now ≡ true =
    (bytes_eq-Decides (get_or xs k d).now (get_or ys k d).now).1 (sym one ∙ same ∙ other) in
    cc

-- up to a place, and from there to another
pub range_texts : (xs : List (Bor (List ℕ))) (i j : ℕ) → i ≤ j → take j (texts xs) ≡ take i (texts xs) ++ texts (slice_range xs i j)
range_texts xs i j le =
    let f : Bor (List ℕ) → List ℕ = λ s. s.now in
    let sum : j ≡ i + (j - i) = omega arith in
    ap (λ (n : ℕ). take n (texts xs)) sum
    ∙ take-add i (j - i) (texts xs)
    ∙ ap (λ (s : List (List ℕ)). take i (texts xs) ++ s) (ap (take (j - i)) (drop-map f i xs) ∙ take-map f (j - i) (drop i xs))

-- up to a place, and from there on
pub rest_texts : (xs : List (Bor (List ℕ))) (i : ℕ) → i ≤ length xs → texts xs ≡ take i (texts xs) ++ texts (slice_range xs i (length xs))
rest_texts xs i le =
    let f : Bor (List ℕ) → List ℕ = λ s. s.now in
    sym (take_all (length xs) (texts xs) (omega (arith, length-map xs f))) ∙ range_texts xs i (length xs) le

end_texts : (xs : List (Bor (List ℕ))) (i : ℕ) → texts (slice_range xs i (length xs)) ≡ drop i (texts xs)
end_texts xs i =
    let f : Bor (List ℕ) → List ℕ = λ s. s.now in
    ap texts (take_all (length xs - i) (drop i xs) (omega (arith, length-drop i xs))) ∙ sym (drop-map f i xs)

-- the one at a place
pub one_text : (xs : List (Bor (List ℕ))) (k : ℕ) (d : Bor (List ℕ)) → k < length xs
    → texts (slice_range xs k (k + 1)) ≡ (get_or xs k d).now ∷ []
one_text xs k d lt =
    let f : Bor (List ℕ) → List ℕ = λ s. s.now in
    let one : k + 1 - k ≡ 1 = omega arith in
    ap (λ (n : ℕ). texts (take n (drop k xs))) one
    ∙ sym (take-map f 1 (drop k xs))
    ∙ ap (take 1) (sym (drop-map f k xs) ∙ drop_texts xs k d lt)

-- all of them, in three parts
pub three_parts : (xs : List (Bor (List ℕ))) (i n : ℕ) → i ≤ length xs → let rest = slice_range xs i (length xs) in n ≤ length rest
    → texts xs ≡ (texts (take i xs) ++ texts (take n rest)) ++ texts (slice_range rest n (length rest))
three_parts xs i n le less =
    let f : Bor (List ℕ) → List ℕ = λ s. s.now in
    let rest = slice_range xs i (length xs) in
    rest_texts xs i le
    ∙ ap (λ (s : List (List ℕ)). s ++ texts rest) (take-map f i xs)
    ∙ ap (λ (s : List (List ℕ)). texts (take i xs) ++ s) (rest_texts rest n less)
    ∙ ap (λ (s : List (List ℕ)). texts (take i xs) ++ (s ++ texts (slice_range rest n (length rest)))) (take-map f n rest)
    ∙ sym (append_assoc (texts (take i xs)) (texts (take n rest)) (texts (slice_range rest n (length rest))))

-- likewise those of another text, where the first and the last are the same
pub three_alike : (xs ys : List (Bor (List ℕ))) (i n m : ℕ) → i ≤ length ys → take i (texts xs) ≡ take i (texts ys)
    → let rest = slice_range xs i (length xs) in let other = slice_range ys i (length ys) in
    m ≤ length other → drop n (texts rest) ≡ drop m (texts other)
    → texts ys ≡ (texts (take i xs) ++ texts (take m other)) ++ texts (slice_range rest n (length rest))
three_alike xs ys i n m le front less end =
    let f : Bor (List ℕ) → List ℕ = λ s. s.now in
    let rest = slice_range xs i (length xs) in
    let other = slice_range ys i (length ys) in
    let first = sym (take-map f i ys) ∙ sym front ∙ take-map f i xs in
    let last = end_texts other m ∙ sym end ∙ sym (end_texts rest n) in
    three_parts ys i m le less
    ∙ ap (λ (s : List (List ℕ)). (s ++ texts (take m other)) ++ texts (slice_range other m (length other))) first
    ∙ ap (λ (s : List (List ℕ)). (texts (take i xs) ++ texts (take m other)) ++ s) last

-- a line was added behind others
pub line_added : (old front mark line : List ℕ) {before marked lined ended : List ℕ} → before ≡ old ++ front → marked ≡ before ++ mark
    → lined ≡ marked ++ line → ended ≡ lined ++ (10 ∷ []) → ended ≡ old ++ (front ++ (mark ++ (line ++ 10 ∷ [])))
line_added old front mark line a b c d =
    d ∙ ap (λ (s : List ℕ). s ++ (10 ∷ [])) (c ∙ ap (λ (s : List ℕ). s ++ line) (b ∙ ap (λ (s : List ℕ). s ++ mark) a)) ∙ simp append_assoc
