-- Lines of a text, their columns, and what stands for them in a page.
use Rattle.std.proofs.Common.{◌≡◌, ◌≢◌, inl, inr, ℕ, zero, suc, ◌+◌, ◌-◌, ◌<◌, ◌≤◌, Bool, true, false, List, [], ◌∷◌, ◌++◌}
use Rattle.std.proofs.Common.{length, take, drop, get_or, Some, None}
use Rattle.std.proofs.Common.{ap, refl, sym, ◌∙◌, arith, append-nil, append_assoc, take_all}
use Rattle.std.specs.Prelude.{nat_lt, not, ◌==◌, ◌||◌, codes}
use Rattle.std.specs.List.{flat_map, list_any, position_or_len, before_first, after_first}
use Rattle.std.proofs.Math.Seq.{take-length}
use Rattle.std.proofs.lemmas.List.{drop_all, length-drop}
use Rattle.std.proofs.lemmas.{Grind.take_at_read, List.flat_map_more}
use Rattle.std.proofs.lemmas.Bool.{cond-true, cond-false, le-ltb, ne_eqb, eq-eqb, cases_lt}
use Rattle.std.proofs.lemmas.List.Folds.{list_any_at, list_any_none, list_any-append}
use Rattle.std.proofs.lemmas.List.Elements.{All-from_get_or}
use Rattle.std.proofs.lemmas.List.Sums.{position_or_len_is, fails_before_first, prefix_len-le-length}
use Rattle.std.proofs.lemmas.List.Splits.{slice_split_none, slice_split_first}
use Rattle.memchr.specs.Find.{IsFirstByte, IsLastByte, is_byte}
use Rattle.kmip_ttlv_names.specs.NameTables.{is_line_feed, lines_of}
use Rattle.ttlv_run.specs.Pages.{is_tab, text_of, spaces, indent, first_indent, is_markup, page_byte, page_text, closings, around}
use Rattle.ttlv_run.specs.Pages.{row_of, row_begins, row_ends, with_own, row_in, open_after, rows, head, foot, page}

off : (b : Bool) → (b ≡ true → ⊥) → b ≡ false
off true not = absurd (not refl)
off false not = refl

-- what is behind a place
pub rest_is : (text : List ℕ) (n : ℕ) → take (length text - n) (drop n text) ≡ drop n text
rest_is text n = take_all (length text - n) (drop n text) (omega (arith, length-drop n text))

-- ---- lines

-- where a search for a line feed finds one, and where it finds none
pub found : (text : List ℕ) (k : ℕ) → IsFirstByte (is_byte 10) text (Some k) → position_or_len is_line_feed text ≡ k
found text k h = position_or_len_is is_line_feed text k 0 (omega (arith, h.0.high)) (λ i lt. off _ (h.0.before i (omega arith) lt)) (λ lt. h.1)

pub absent : (text : List ℕ) → IsFirstByte (is_byte 10) text None → position_or_len is_line_feed text ≡ length text
absent text h = position_or_len_is is_line_feed text (length text) 0 (omega arith) (λ i lt. off _ (h i (omega arith) lt)) (λ lt. absurd (omega (arith, lt)))

pub all_first : (text : List ℕ) → position_or_len is_line_feed text ≡ length text → before_first is_line_feed text ≡ text
all_first text is = rw is (take-length text)

pub none_other : (text : List ℕ) → position_or_len is_line_feed text ≡ length text → after_first is_line_feed text ≡ []
none_other text is = rw is (drop_all (length text + 1) text (omega arith))

-- the only line of a text without a line feed
only_line : (text : List ℕ) → position_or_len is_line_feed text ≡ length text → lines_of text ≡ text ∷ []
only_line text is = slice_split_none is_line_feed text (All-from_get_or (λ c. is_line_feed c ≡ false) text 0
    (λ k lt. fails_before_first is_line_feed text k 0 (omega (arith, lt, is))))

text_none : text_of [] ≡ []
unfolding text_of
text_none = refl

spaces_none : spaces [] ≡ 0
unfolding spaces
spaces_none = refl

pub none_indented : indent [] ≡ 0
none_indented = ap spaces text_none ∙ spaces_none

nothing_around : (outer : List ℕ) → around 0 outer ≡ []
nothing_around [] = refl
nothing_around (o ∷ outer) = cond-false (nat_lt o 0) (o ∷ around 0 outer) (around 0 outer) (le-ltb o 0 (omega arith)) ∙ nothing_around outer

-- an empty line ends each structure
row_none : (outer : List ℕ) → row_in outer [] 0 ≡ closings (length outer)
unfolding row_in page_text
row_none outer =
    append-nil (closings (length outer - length (around (indent []) outer)))
    ∙ ap (λ (n : ℕ). closings (length outer - length (around n outer))) none_indented
    ∙ ap (λ (s : List ℕ). closings (length outer - length s)) (nothing_around outer) ∙ ap closings (omega arith)

open_none : (outer : List ℕ) → open_after outer [] 0 ≡ []
unfolding open_after
open_none outer = ap (λ (n : ℕ). around n outer) none_indented ∙ nothing_around outer

-- so one behind the last line changes nothing
rows_none : (outer : List ℕ) → rows outer ([] ∷ []) ≡ closings (length outer)
rows_none outer = ap (λ (s : List ℕ). row_in outer [] 0 ++ closings (length s)) (open_none outer) ∙ append-nil (row_in outer [] 0) ∙ row_none outer

rows_last : (outer line : List ℕ) → rows outer (line ∷ []) ≡ rows outer (line ∷ [] ∷ [])
rows_last outer line =
    ap (λ (s : List ℕ). row_in outer line 0 ++ s) (sym (rows_none (open_after outer line 0)))
    ∙ ap (λ (n : ℕ). row_in outer line n ++ rows (open_after outer line n) ([] ∷ [])) (sym none_indented)

module _ (text : List ℕ) where
  abbrev pub first_line : List ℕ
  first_line = before_first is_line_feed text

  abbrev pub other_lines : List ℕ
  other_lines = after_first is_line_feed text

  last : length text ≤ position_or_len is_line_feed text → position_or_len is_line_feed text ≡ length text
  last le = omega (arith, le, prefix_len-le-length (λ b. not (is_line_feed b)) text)

  -- how far the first line is indented
  pub first_indented : first_indent (lines_of text) ≡ indent first_line
  first_indented = elim (cases_lt (position_or_len is_line_feed text) (length text)) [
    | inl lt ↦ ap first_indent (slice_split_first is_line_feed text 0 lt)
    | inr le ↦ ap first_indent (only_line text (last le)) ∙ ap indent (sym (all_first text (last le)))
  ]

  -- the rows of a text are those of its first line and of the others
  pub rows_cut : (outer : List ℕ) → rows outer (lines_of text) ≡ rows outer (first_line ∷ lines_of other_lines)
  rows_cut outer = elim (cases_lt (position_or_len is_line_feed text) (length text)) [
    | inl lt ↦ ap (rows outer) (slice_split_first is_line_feed text 0 lt)
    | inr le ↦ ap (rows outer) (only_line text (last le)) ∙ ap (λ (l : List ℕ). rows outer (l ∷ [])) (sym (all_first text (last le)))
        ∙ rows_last outer first_line ∙ ap (λ (s : List ℕ). rows outer (first_line ∷ lines_of s)) (sym (none_other text (last le)))
  ]

-- the rows of no lines
pub rows_end : (outer : List ℕ) → rows outer (lines_of []) ≡ closings (length outer)
rows_end outer = rows_none outer

-- ---- columns

some_tab : (line : List ℕ) (k : ℕ) → k < length line → is_byte 9 (get_or line k 0) ≡ true → list_any is_tab line ≡ true
some_tab line k lt is = list_any_at is_tab line k 0 lt is

no_tab : (line : List ℕ) → ((k : ℕ) → k < length line → is_byte 9 (get_or line k 0) ≡ true → ⊥) → list_any is_tab line ≡ false
no_tab line none = list_any_none is_tab line (All-from_get_or (λ c. is_tab c ≡ false) line 0 (λ k lt. off _ (none k lt)))

-- a line without columns
whole : (line : List ℕ) → list_any is_tab line ≡ false → text_of line ≡ line
unfolding text_of
whole [] none = refl
whole (b ∷ line) none = cond-false (list_any is_tab (b ∷ line)) (text_of line) (b ∷ line) none

past : (b : ℕ) (line : List ℕ) → list_any is_tab (b ∷ line) ≡ true → text_of (b ∷ line) ≡ text_of line
unfolding text_of
past b line some = cond-true (list_any is_tab (b ∷ line)) (text_of line) (b ∷ line) some

one_behind : (b : ℕ) (line : List ℕ) (k : ℕ) → drop (k + 1) line ≡ drop (suc k + 1) (b ∷ line)
one_behind b line k = let same : suc (k + 1) ≡ suc k + 1 = omega arith in ap (λ (n : ℕ). drop n (b ∷ line)) same

behind : (line : List ℕ) (k : ℕ) → k < length line → is_byte 9 (get_or line k 0) ≡ true
    → ((j : ℕ) → k + 1 ≤ j → j < length line → is_byte 9 (get_or line j 0) ≡ true → ⊥)
    → text_of line ≡ drop (k + 1) line
behind [] k lt is none = absurd (omega (arith, lt))
behind (b ∷ line) zero lt is none =
    past b line (some_tab (b ∷ line) 0 lt is) ∙ whole line (no_tab line (λ j in_. none (suc j) (omega arith) (omega (arith, in_))))
behind (b ∷ line) (suc k) lt is none =
    past b line (some_tab (b ∷ line) (suc k) lt is)
    ∙ behind line k (omega (arith, lt)) is (λ j le in_. none (suc j) (omega (arith, le)) (omega (arith, in_)))
    ∙ one_behind b line k

-- what a search for the last tab finds
pub text_behind : (line : List ℕ) (k : ℕ) → IsLastByte (is_byte 9) line (Some k) → text_of line ≡ drop (k + 1) line
text_behind line k h = behind line k h.0.high h.1 (λ j le lt. h.0.after j le lt)

pub text_whole : (line : List ℕ) → IsLastByte (is_byte 9) line None → text_of line ≡ line
text_whole line h = whole line (no_tab line (λ k lt. h k (omega arith) lt))

is_space : (b : ℕ) (text : List ℕ) → b ≡ 32 → spaces (b ∷ text) ≡ spaces text + 1
unfolding spaces
is_space b text is = cond-true (b == 32) (spaces text + 1) 0 (eq-eqb b 32 is)

no_space : (b : ℕ) (text : List ℕ) → b ≢ 32 → spaces (b ∷ text) ≡ 0
unfolding spaces
no_space b text is = cond-false (b == 32) (spaces text + 1) 0 (ne_eqb b 32 is)

-- one more space
pub spaces_more : (text : List ℕ) (n : ℕ) → n < length text → get_or text n 0 ≡ 32 → spaces (drop n text) ≡ spaces (drop (n + 1) text) + 1
spaces_more [] n lt is = absurd (omega (arith, lt))
spaces_more (b ∷ text) zero lt is = is_space b text is
spaces_more (b ∷ text) (suc n) lt is = spaces_more text n (omega (arith, lt)) is ∙ ap (λ (s : List ℕ). spaces s + 1) (one_behind b text n)

pub spaces_end : (text : List ℕ) (n : ℕ) → (n < length text → get_or text n 0 ≢ 32) → spaces (drop n text) ≡ 0
spaces_end [] n other = ap spaces (drop_all n [] (omega arith)) ∙ spaces_none
spaces_end (b ∷ text) zero other = no_space b text (other (omega arith))
spaces_end (b ∷ text) (suc n) other = spaces_end text n (λ lt. other (omega (arith, lt)))

-- ---- marks

-- the end of one more structure
pub closings_more : (n : ℕ) → closings n ++ codes "</details>\n" ≡ closings (n + 1)
closings_more zero = append-nil (codes "</details>\n")
closings_more (suc n) =
    let same : suc (n + 1) ≡ suc n + 1 = omega arith in
    append_assoc (codes "</details>\n") (closings n) (codes "</details>\n")
    ∙ ap (λ (s : List ℕ). codes "</details>\n" ++ s) (closings_more n) ∙ ap closings same

-- one more byte of a text
pub text_more : (text : List ℕ) (n d : ℕ) → n < length text → page_text (take n text) ++ page_byte (get_or text n d) ≡ page_text (take (n + 1) text)
unfolding page_text
text_more text n d lt = flat_map_more page_byte [] (take n text) (get_or text n d) ∙ ap (flat_map page_byte) (sym (take_at_read text n d lt).1)

pub no_text : page_text [] ≡ []
unfolding page_text
no_text = refl

marked : (b : ℕ) → is_tab b ≡ false → list_any is_markup (page_byte b) ≡ false
marked b none = by (b == 38) (b == 60) (b == 62) (b == 34) refl refl refl refl
  where
    by : (amp lt gt quot : Bool) → (b == 38) ≡ amp → (b == 60) ≡ lt → (b == 62) ≡ gt → (b == 34) ≡ quot → list_any is_markup (page_byte b) ≡ false
    by true lt gt quot a l g q = rw (none, a) refl
    by false true gt quot a l g q = rw (none, a, l) refl
    by false false true quot a l g q = rw (none, a, l, g) refl
    by false false false true a l g q = rw (none, a, l, g, q) refl
    by false false false false a l g q =
        let plain : ((b == 60 || b == 62 || b == 34) || false) ≡ false = rw (l, g, q) refl in rw (none, a, l, g, q) plain

pub no_markup : (text : List ℕ) → list_any is_tab text ≡ false → list_any is_markup (page_text text) ≡ false
unfolding page_text
no_markup [] none = refl
no_markup (b ∷ text) none =
    let parts = or_parts (is_tab b) (list_any is_tab text) none in
    list_any-append is_markup (page_byte b) (flat_map page_byte text) ∙ ap (λ (c : Bool). c || list_any is_markup (flat_map page_byte text)) (marked b parts.0)
    ∙ no_markup text parts.1
  where
    or_parts : (a b : Bool) → (a || b) ≡ false → (a ≡ false) × (b ≡ false)
    or_parts true b is = absurd (cc is)
    or_parts false b is = (refl, is)

-- ---- the rows of a text

-- a line in its marks, behind the ends of structures
pub row_behind : {closed all : List ℕ} (front outer line : List ℕ) (next : ℕ)
    → closed ≡ front ++ closings (length outer - length (around (indent line) outer))
    → all ≡ closed ++ (row_begins (row_of line next) ++ (page_text line ++ row_ends (row_of line next)))
    → all ≡ front ++ row_in outer line next
unfolding row_in
row_behind front outer line next before is =
    let marks : List ℕ = row_begins (row_of line next) ++ (page_text line ++ row_ends (row_of line next)) in
    is ∙ ap (λ (s : List ℕ). s ++ marks) before
    ∙ append_assoc front (closings (length outer - length (around (indent line) outer))) marks

pub open_is : (outer line : List ℕ) (next : ℕ) → with_own (row_of line next) (indent line) (around (indent line) outer) ≡ open_after outer line next
unfolding open_after
open_is outer line next = refl

-- the first line of a text in a page, in front of the others
pub first_row : {all now : List ℕ} (front outer text line more : List ℕ) (next : ℕ)
    → line ≡ before_first is_line_feed text → more ≡ after_first is_line_feed text → next ≡ first_indent (lines_of more)
    → all ≡ front ++ row_in outer line next → now ≡ open_after outer line next
    → all ++ rows now (lines_of more) ≡ front ++ rows outer (lines_of text)
first_row {all} {now} front outer text line more next line_is more_is next_is all_is now_is =
    ap (λ (s : List ℕ). s ++ rows now (lines_of more)) all_is
    ∙ ap (λ (o : List ℕ). (front ++ row_in outer line next) ++ rows o (lines_of more)) now_is
    ∙ append_assoc front (row_in outer line next) (rows (open_after outer line next) (lines_of more))
    ∙ ap (λ (n : ℕ). front ++ (row_in outer line n ++ rows (open_after outer line n) (lines_of more))) next_is
    ∙ ap (λ (l : List ℕ). front ++ rows outer (l ∷ lines_of more)) line_is
    ∙ ap (λ (m : List ℕ). front ++ rows outer (before_first is_line_feed text ∷ lines_of m)) more_is
    ∙ ap (λ (s : List ℕ). front ++ s) (sym (rows_cut text outer))

-- the end of a page
pub page_ends : {closed all : List ℕ} (front outer text rest : List ℕ)
    → length rest ≡ 0 → front ++ rows outer (lines_of rest) ≡ head ++ rows [] (lines_of text)
    → closed ≡ front ++ closings (length outer) → all ≡ closed ++ foot
    → all ≡ page text
unfolding page
page_ends front outer text [] none same before is =
    is ∙ ap (λ (s : List ℕ). s ++ foot) (before ∙ ap (λ (s : List ℕ). front ++ s) (sym (rows_end outer)) ∙ same)
    ∙ append_assoc head (rows [] (lines_of text)) foot
page_ends front outer text (b ∷ rest) none same before is = absurd (omega (arith, none))
