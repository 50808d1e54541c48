-- What is read of a line of a dump, from one part of it to the next.
use Rattle.std.proofs.Common.{◌≡◌, ℕ, Bool, true, false, ◌&&◌, ◌==◌, List, [], ◌∷◌, ◌++◌, refl, sym, ap, subst, ◌∙◌, append_assoc}
use Rattle.std.proofs.lemmas.List.{append-nil}
use Rattle.std.proofs.lemmas.Bool.{eqb-true, not-true, cond-true, cond-false}
use Rattle.std.specs.Prelude.{slice_index}
use Rattle.ttlv_run.specs.declared.form.{Form.Form, Form.TheVariants.DumpText, LinePart.LinePart, Step.TheVariants.Counts, Step.TheVariants.Skips}
use Rattle.ttlv_run.specs.declared.form.LinePart.TheVariants.{Begin, Offset, Colon, Group, Gap, Between, Half, Whole, Aside}
use Rattle.ttlv_run.specs.Columns.{is_hex_digit, step, Reads, counts, skips}
use Rattle.ttlv_run.specs.DumpLines.{only, is_space, is_in_line, is_offset, space_groups, join_groups, are_groups, ColonLine}
use Rattle.ttlv_run.specs.DumpLines.{DumpedByte, is_dumped, are_dumped, write_bytes}
use Rattle.ttlv_run.specs.DumpLines.{digits_of, BareLine}

-- two tests at once
left : (a b : Bool) → a && b ≡ true → a ≡ true
left true b both = refl
left false b both = both

right : (a b : Bool) → a && b ≡ true → b ≡ true
right true b both = both
right false b both = cc both

module _ (form : Form) (s : List ℕ) where
  -- bytes of a kind that leave the part as it is
  pub skip_all : (part : LinePart) (kind : ℕ → Bool) → ((b n : ℕ) → kind b ≡ true → step form part b n ≡ Skips part)
      → (digits t rest : List ℕ)
      → only kind t ≡ true
      → Reads form Begin s digits part (t ++ rest)
      → Reads form Begin s digits part rest
  skip_all part kind same digits [] rest of reads = reads
  skip_all part kind same digits (b ∷ t) rest of reads =
      skip_all part kind same digits t rest (right (kind b) (only kind t) of)
      (skips digits part part b (t ++ rest) reads (same b (slice_index (t ++ rest) 0) (left (kind b) (only kind t) of)))

  -- digits that count
  count_all : (part : LinePart) → ((b n : ℕ) → is_hex_digit b ≡ true → step form part b n ≡ Counts part)
      → (digits t rest : List ℕ)
      → only is_hex_digit t ≡ true
      → Reads form Begin s digits part (t ++ rest)
      → Reads form Begin s (digits ++ t) part rest
  count_all part same digits [] rest of reads = subst (λ (d : List ℕ). Reads form Begin s d part rest) (sym (append-nil digits)) reads
  count_all part same digits (b ∷ t) rest of reads =
      subst (λ (d : List ℕ). Reads form Begin s d part rest) (append_assoc digits (b ∷ []) t)
      (count_all part same (digits ++ b ∷ []) t rest (right (is_hex_digit b) (only is_hex_digit t) of)
      (counts digits (digits ++ b ∷ []) part part b (t ++ rest) reads (same b (slice_index (t ++ rest) 0) (left (is_hex_digit b) (only is_hex_digit t) of))
      refl))

  -- a group of digits, and the blank behind it
  group_read : (part : LinePart) → ((b n : ℕ) → is_hex_digit b ≡ true → step form part b n ≡ Counts Group)
      → ((b n : ℕ) → is_hex_digit b ≡ true → step form Group b n ≡ Counts Group)
      → ((n : ℕ) → step form Group 32 n ≡ Skips Gap)
      → (digits group rest : List ℕ)
      → is_offset group ≡ true
      → Reads form Begin s digits part (group ++ 32 ∷ rest)
      → Reads form Begin s (digits ++ group) Gap rest
  group_read part first more blank digits [] rest of reads = cc of
  group_read part first more blank digits (b ∷ t) rest of reads =
      let one = counts digits (digits ++ b ∷ []) part Group b (t ++ 32 ∷ rest) reads
      (first b (slice_index (t ++ 32 ∷ rest) 0) (left (is_hex_digit b) (only is_hex_digit t) of)) refl in
      let all = count_all Group more (digits ++ b ∷ []) t (32 ∷ rest) (right (is_hex_digit b) (only is_hex_digit t) of) one in
      let same : (digits ++ b ∷ []) ++ t ≡ digits ++ (b ∷ t) = append_assoc digits (b ∷ []) t in
      skips (digits ++ (b ∷ t)) Group Gap 32 rest (subst (λ (d : List ℕ). Reads form Begin s d Group (32 ∷ rest)) same all) (blank (slice_index rest 0))

  -- groups, behind one
  groups_read : ((b n : ℕ) → is_hex_digit b ≡ true → step form Gap b n ≡ Counts Group)
      → ((b n : ℕ) → is_hex_digit b ≡ true → step form Group b n ≡ Counts Group)
      → ((n : ℕ) → step form Group 32 n ≡ Skips Gap)
      → (groups : List (List ℕ)) (digits rest : List ℕ)
      → are_groups groups ≡ true
      → Reads form Begin s digits Gap (space_groups groups rest)
      → Reads form Begin s (digits ++ join_groups groups) Gap rest
  groups_read first more blank [] digits rest of reads = subst (λ (d : List ℕ). Reads form Begin s d Gap rest) (sym (append-nil digits)) reads
  groups_read first more blank (group ∷ groups) digits rest of reads =
      let one = group_read Gap first more blank digits group (space_groups groups rest) (left (is_offset group) (are_groups groups) of) reads in
      subst (λ (d : List ℕ). Reads form Begin s d Gap rest) (append_assoc digits group (join_groups groups))
      (groups_read first more blank groups (digits ++ group) rest (right (is_offset group) (are_groups groups) of) one)

-- ---- lines of a dump

colon_space : (b n : ℕ) → is_space b ≡ true → step DumpText Colon b n ≡ Skips Colon
colon_space b n of = subst (λ (c : ℕ). step DumpText Colon c n ≡ Skips Colon) (sym (eqb-true b 32 of)) refl

between_space : (b n : ℕ) → is_space b ≡ true → step DumpText Between b n ≡ Skips Between
between_space b n of = subst (λ (c : ℕ). step DumpText Between c n ≡ Skips Between) (sym (eqb-true b 32 of)) refl

colon_digit : (b n : ℕ) → is_hex_digit b ≡ true → step DumpText Colon b n ≡ Counts Group
colon_digit b n of = cond-true (is_hex_digit b) _ _ of

group_digit : (b n : ℕ) → is_hex_digit b ≡ true → step DumpText Group b n ≡ Counts Group
group_digit b n of = cond-true (is_hex_digit b) _ _ of

gap_digit : (b n : ℕ) → is_hex_digit b ≡ true → step DumpText Gap b n ≡ Counts Group
gap_digit b n of = cond-true (is_hex_digit b) _ _ of

aside_byte : (b n : ℕ) → is_in_line b ≡ true → step DumpText Aside b n ≡ Skips Aside
aside_byte b n of = cond-false (b == 10) _ _ (not-true (b == 10) of)

module _ (s : List ℕ) where
  -- the offset
  offset_read : (digits offset rest : List ℕ) → is_offset offset ≡ true
      → Reads DumpText Begin s digits Begin (offset ++ rest)
      → Reads DumpText Begin s digits Offset rest
  offset_read digits [] rest of reads = cc of
  offset_read digits (b ∷ t) rest of reads =
      skip_all DumpText s Offset is_hex_digit (λ c n is. cond-true (is_hex_digit c) _ _ is) digits t rest (right (is_hex_digit b) (only is_hex_digit t) of)
      (skips digits Begin Offset b (t ++ rest) reads (cond-true (is_hex_digit b) _ _ (left (is_hex_digit b) (only is_hex_digit t) of)))

  -- the column of characters, up to the end of its line
  characters_read : (digits characters rest : List ℕ) → only is_in_line characters ≡ true
      → Reads DumpText Begin s digits Aside (characters ++ 10 ∷ rest)
      → Reads DumpText Begin s digits Begin rest
  characters_read digits characters rest of reads =
      skips digits Aside Begin 10 rest (skip_all DumpText s Aside is_in_line aside_byte digits characters (10 ∷ rest) of reads) refl

  -- bytes behind an offset without a colon
  dumped_read : (bytes : List DumpedByte) (digits rest : List ℕ) → are_dumped bytes ≡ true
      → Reads DumpText Begin s digits Between (write_bytes bytes rest)
      → Reads DumpText Begin s (digits ++ digits_of bytes) Between rest
  dumped_read [] digits rest of reads = subst (λ (d : List ℕ). Reads DumpText Begin s d Between rest) (sym (append-nil digits)) reads
  dumped_read (d ∷ ds) digits rest of reads =
      let one = left (is_dumped d) (are_dumped ds) of in
      let two = right (is_hex_digit d.high) (is_hex_digit d.low && only is_space d.spaces) one in
      let high = counts digits (digits ++ d.high ∷ []) Between Half d.high (d.low ∷ 32 ∷ (d.spaces ++ write_bytes ds rest)) reads
      (cond-true (is_hex_digit d.high) _ _ (left (is_hex_digit d.high) (is_hex_digit d.low && only is_space d.spaces) one)) refl in
      let low = counts (digits ++ d.high ∷ []) (digits ++ (d.high ∷ d.low ∷ [])) Half Whole d.low (32 ∷ (d.spaces ++ write_bytes ds rest)) high
      (cond-true (is_hex_digit d.low) _ _ (left (is_hex_digit d.low) (only is_space d.spaces) two)) (sym (append_assoc digits (d.high ∷ []) (d.low ∷ []))) in
      let behind = skips (digits ++ (d.high ∷ d.low ∷ [])) Whole Between 32 (d.spaces ++ write_bytes ds rest) low refl in
      let apart = skip_all DumpText s Between is_space between_space (digits ++ (d.high ∷ d.low ∷ [])) d.spaces (write_bytes ds rest)
      (right (is_hex_digit d.low) (only is_space d.spaces) two) behind in
      subst (λ (e : List ℕ). Reads DumpText Begin s e Between rest) (append_assoc digits (d.high ∷ d.low ∷ []) (digits_of ds))
      (dumped_read ds (digits ++ (d.high ∷ d.low ∷ [])) rest (right (is_dumped d) (are_dumped ds) of) apart)

  -- a line of xxd
  pub colon_line : (t column rest digits : List ℕ) → ColonLine t column rest → Reads DumpText Begin s digits Begin t
      → Reads DumpText Begin s (digits ++ column) Begin rest
  colon_line t column rest digits l reads =
      let end : List ℕ = 32 ∷ (l.characters ++ 10 ∷ rest) in
      let from = subst (λ (u : List ℕ). Reads DumpText Begin s digits Begin u) l.is reads in
      let behind = skips digits Offset Colon 58 _ (offset_read digits l.offset _ l.of_offset from) refl in
      let first = skip_all DumpText s Colon is_space colon_space digits l.spaces _ l.of_spaces behind in
      let one = group_read DumpText s Colon colon_digit group_digit (λ n. refl) digits l.group (space_groups l.groups end)
      (left (is_offset l.group) (are_groups l.groups) l.of_groups) first in
      let all = groups_read DumpText s gap_digit group_digit (λ n. refl) l.groups (digits ++ l.group) end
      (right (is_offset l.group) (are_groups l.groups) l.of_groups) one in
      let done = characters_read ((digits ++ l.group) ++ join_groups l.groups) l.characters rest l.in_line (skips _ Gap Aside 32 _ all refl) in
      subst (λ (d : List ℕ). Reads DumpText Begin s d Begin rest) (append_assoc digits l.group (join_groups l.groups)
      ∙ ap (λ (d : List ℕ). digits ++ d) (sym l.column_is)) done

  -- a line of hexdump
  pub bare_line : (t column rest digits : List ℕ) → BareLine t column rest → Reads DumpText Begin s digits Begin t
      → Reads DumpText Begin s (digits ++ column) Begin rest
  bare_line t column rest digits l reads =
      let from = subst (λ (u : List ℕ). Reads DumpText Begin s digits Begin u) l.is reads in
      let behind = skips digits Offset Between 32 _ (offset_read digits l.offset _ l.of_offset from) refl in
      let first = skip_all DumpText s Between is_space between_space digits l.spaces _ l.of_spaces behind in
      let all = dumped_read l.bytes digits (124 ∷ (l.characters ++ 10 ∷ rest)) l.of_bytes first in
      let done = characters_read (digits ++ digits_of l.bytes) l.characters rest l.in_line (skips _ Between Aside 124 _ all refl) in
      subst (λ (d : List ℕ). Reads DumpText Begin s (digits ++ d) Begin rest) (sym l.column_is) done
