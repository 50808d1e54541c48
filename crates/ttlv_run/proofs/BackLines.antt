-- Lines of diagnostics that come one behind the other: what they are read back as, the first that is not whole, and text.
use Rattle.std.proofs.Common.{arith, ◌≡◌, inl, inr, ℕ, suc, ◌+◌, ◌-◌, ◌<◌, ◌≤◌, Bool, true, false, not, List, [], ◌∷◌, ◌++◌, length, get_or, take, drop}
use Rattle.std.proofs.Common.{take-add, take_all, drop-cons, Option, Some, None, ap, sym, refl, subst, ◌∙◌, append-nil, append_assoc, length-append}
use Rattle.std.proofs.Common.{take-append-drop}
use Rattle.std.specs.List.{All, flat_map, position_or_len, before_first, after_first}
use Rattle.std.specs.{Option.option_or, Str.IsUtf8}
use Rattle.std.proofs.lemmas.Bool.{ne_eqb, eqb-true, cases_lt}
use Rattle.std.proofs.lemmas.{Grind.flat_map-append, Str.Ascii.IsAscii-cons, Str.Ascii.IsAscii-nil}
use Rattle.std.proofs.lemmas.List.{drop-drop, length-drop, length-take-le, get_or_append_left, get_or-drop, Concat.flat_map-cons, Elements.All-from_get_or}
use Rattle.std.proofs.lemmas.List.{Sums.passes_at_first, Sums.prefix_len-le-length}
use Rattle.std.proofs.lemmas.List.Splits.{slice_split_at, slice_split_none, slice_split_first}
use Rattle.std.proofs.lemmas.Str.{IsUtf8-nil, IsUtf8-append, IsUtf8-take, IsUtf8-drop, IsUtf8-from_ascii, IsCharBoundary-before_ascii, IsCharBoundary-from_take}
use Rattle.kmip_ttlv_util.proofs.Firm.{trim_nil}
use Rattle.kmip_ttlv_names.specs.NameTables.{is_line_feed, lines_of}
use Rattle.kmip_ttlv_names.proofs.Tables.{last_line}
use Rattle.ttlv_run.specs.{declared.back.BackFault.BackFault, declared.back.BackReached.BackReached, declared.back.BackReached.TheVariants.Behind}
use Rattle.ttlv_run.specs.{declared.back.BackReached.TheVariants.NoText, Streaming.Yields, Texts.line_back, Texts.text_back}
use Rattle.ttlv_run.specs.Backs.{Tries, FirstBreak, breaks_here, whole_here, all_whole, IsOneLine, IsLineAt, AreLines, FirstFrom, Finds, ReadsLines, ReadsBack}
use Rattle.ttlv_run.specs.Backs.{ReadsFront}
use Rattle.ttlv_run.proofs.Backs.{empty_back}

-- a line with its line feed
abbrev pub with_feed : List ℕ → List ℕ
with_feed line = line ++ (10 ∷ [])

no_feed : (line : List ℕ) → IsOneLine line → All (λ c. is_line_feed c ≡ false) line
no_feed line one = All-from_get_or (λ c. is_line_feed c ≡ false) line 0 (λ i lt. ne_eqb (get_or line i 0) 10 (one i lt))

pub first_of_lines : (line more : List ℕ) → IsOneLine line → lines_of (with_feed line ++ more) ≡ line ∷ lines_of more
first_of_lines line more one = ap lines_of (append_assoc line (10 ∷ []) more) ∙ slice_split_at is_line_feed line 10 more (no_feed line one) refl

pub only_line : (line : List ℕ) → IsOneLine line → lines_of line ≡ line ∷ []
only_line line one = slice_split_none is_line_feed line (no_feed line one)

-- no line feed came
pub still_one_line : {old new : Option (List ℕ)} {before after : List ℕ} → Yields old new before after → IsOneLine before
    → IsOneLine (drop (length before) after) → IsOneLine after
still_one_line {before = before} {after} y a b k lt h = elim (cases_lt k (length before)) [
  | inl small ↦ a k small (sym (get_or_append_left before y.came 0 k small) ∙ sym (ap (λ (s : List ℕ). get_or s k 0) y.are) ∙ h)
  | inr le ↦ there le
]
  where
    there : length before ≤ k → ⊥
    there le =
        let at : length before + (k - length before) ≡ k = omega (arith, le) in
        let inside : k - length before < length (drop (length before) after) = omega (arith, le, lt, length-drop (length before) after) in
        b (k - length before) inside (get_or-drop (length before) after (k - length before) 0 ∙ ap (λ (n : ℕ). get_or after n 0) at ∙ h)

-- ---- lines behind lines

no_lines : AreLines []
no_lines = record { lines = []; are = λ more. refl }

pub lines_append : {s t : List ℕ} → AreLines s → AreLines t → AreLines (s ++ t)
lines_append {s} {t} a b = record {
  lines = a.lines ++ b.lines;
  are = λ more. ap lines_of (append_assoc s t more) ∙ a.are (t ++ more) ∙ ap (λ (ls : List (List ℕ)). a.lines ++ ls) (b.are more)
      ∙ sym (append_assoc a.lines b.lines (lines_of more));
}

pub one_line : (line : List ℕ) → IsOneLine line → AreLines (with_feed line)
one_line line one = record { lines = line ∷ []; are = λ more. first_of_lines line more one }

-- ---- what they are read back as

module _ (tags : ℕ → Option (List ℕ)) (prefix : List ℕ) where
  pub nothing_back : text_back tags prefix [] ≡ []
  unfolding text_back
  nothing_back = flat_map-cons (line_back tags prefix) [] [] ∙ append-nil (line_back tags prefix []) ∙ empty_back tags prefix [] (sym trim_nil) refl

  lines_back : (s more : List ℕ) (a : AreLines s) → text_back tags prefix (s ++ more) ≡ flat_map (line_back tags prefix) a.lines ++ text_back tags prefix more
  unfolding text_back
  lines_back s more a = ap (flat_map (line_back tags prefix)) (a.are more) ∙ flat_map-append (line_back tags prefix) a.lines (lines_of more)

  only_lines_back : (s : List ℕ) (a : AreLines s) → text_back tags prefix s ≡ flat_map (line_back tags prefix) a.lines
  only_lines_back s a = ap (text_back tags prefix) (sym (append-nil s)) ∙ lines_back s [] a
      ∙ ap (λ (t : List ℕ). flat_map (line_back tags prefix) a.lines ++ t) nothing_back ∙ append-nil (flat_map (line_back tags prefix) a.lines)

  pub back_append : (s t : List ℕ) → AreLines s → text_back tags prefix (s ++ t) ≡ text_back tags prefix s ++ text_back tags prefix t
  back_append s t a = lines_back s t a ∙ ap (λ (u : List ℕ). u ++ text_back tags prefix t) (sym (only_lines_back s a))

  pub back_line : (line : List ℕ) → IsOneLine line → text_back tags prefix (with_feed line) ≡ line_back tags prefix line
  unfolding one_line
  back_line line one = only_lines_back (with_feed line) (one_line line one) ∙ flat_map-cons (line_back tags prefix) line []
      ∙ append-nil (line_back tags prefix line)

  pub back_last : (line : List ℕ) → IsOneLine line → text_back tags prefix line ≡ line_back tags prefix line
  unfolding text_back
  back_last line one = ap (flat_map (line_back tags prefix)) (only_line line one) ∙ flat_map-cons (line_back tags prefix) line []
      ∙ append-nil (line_back tags prefix line)

-- ---- the first line that is not whole

module _ (prefix : List ℕ) where
  pub finds_none : (at : ℕ) → Finds prefix at [] None
  finds_none at more first h =
      let here : at + 0 ≡ at = omega arith in
      subst (λ (n : ℕ). FirstBreak prefix n (lines_of more) first) here h

  pub finds_line : (at : ℕ) (line : List ℕ) (found : Option BackFault) → IsOneLine line → Tries prefix at line found → Finds prefix at (with_feed line) found
  finds_line at line (Some f) one tries more first h =
      rw (first_of_lines line more one, h) (breaks_here at line (lines_of more) f tries)
  finds_line at line None one tries more first h =
      let next : at + length (with_feed line) ≡ at + length line + 1 = omega (arith, length-append line (10 ∷ [])) in
      subst (λ (ls : List (List ℕ)). FirstBreak prefix at ls first) (sym (first_of_lines line more one))
      (whole_here at (at + length (with_feed line)) line (lines_of more) first tries next h)

  pub finds_on : (at : ℕ) (s t : List ℕ) (f g : Option BackFault) → Finds prefix at s f → Finds prefix (at + length s) t g
      → Finds prefix at (s ++ t) (option_or f g)
  finds_on at s t (Some f) g a b more first h = subst (λ (u : List ℕ). FirstBreak prefix at (lines_of u) first) (sym (append_assoc s t more))
      (a (t ++ more) first h)
  finds_on at s t None g a b more first h =
      let place : at + length (s ++ t) ≡ at + length s + length t = omega (arith, length-append s t) in
      subst (λ (u : List ℕ). FirstBreak prefix at (lines_of u) first) (sym (append_assoc s t more))
      (a (t ++ more) first (b more first (subst (λ (n : ℕ). FirstFrom prefix n more g first) place h)))

  pub finds_last : (at : ℕ) (s t : List ℕ) (f g : Option BackFault) → Finds prefix at s f → FirstBreak prefix (at + length s) (lines_of t) g
      → FirstBreak prefix at (lines_of (s ++ t)) (option_or f g)
  finds_last at s t (Some f) g a b = a t (Some f) refl
  finds_last at s t None g a b = a t g b

  -- a line at the end
  pub first_last : (at : ℕ) (line : List ℕ) (found : Option BackFault) → IsOneLine line → Tries prefix at line found
      → FirstBreak prefix at (lines_of line) found
  first_last at line (Some f) one tries = rw (only_line line one) (breaks_here at line [] f tries)
  first_last at line None one tries =
      rw (only_line line one) (whole_here at (at + length line + 1) line [] None tries refl (all_whole (at + length line + 1)))

-- ---- text

pub line_text : (line : List ℕ) → IsUtf8 line → IsUtf8 (with_feed line)
line_text line u = IsUtf8-append line (10 ∷ []) u (IsUtf8-from_ascii (10 ∷ []) (IsAscii-cons 10 [] (omega arith) IsAscii-nil))

-- the first line of a text is text
pub first_text : (s line : List ℕ) (others : List (List ℕ)) → lines_of s ≡ line ∷ others → IsUtf8 s → IsUtf8 line
first_text s line others is u = elim (cases_lt (position_or_len is_line_feed s) (length s)) [
  | inl lt ↦ inner lt
  | inr le ↦ all (omega (arith, le, prefix_len-le-length (λ c. not (is_line_feed c)) s))
]
  where
    inner : position_or_len is_line_feed s < length s → IsUtf8 line
    inner lt =
        let first : before_first is_line_feed s ∷ lines_of (after_first is_line_feed s) ≡ line ∷ others = sym (slice_split_first is_line_feed s 0 lt) ∙ is in
        let same : before_first is_line_feed s ≡ line = cc in
        let feed : get_or s (position_or_len is_line_feed s) 0 ≡ 10 = eqb-true _ 10 (passes_at_first is_line_feed s 0 lt) in
        subst IsUtf8 same (IsUtf8-take s (position_or_len is_line_feed s) u (IsCharBoundary-before_ascii s (position_or_len is_line_feed s) lt
        (omega (arith, feed))))

    all : position_or_len is_line_feed s ≡ length s → IsUtf8 line
    all end =
        let first : s ∷ [] ≡ line ∷ others = sym (last_line s end) ∙ is in
        let same : s ≡ line = cc in
        subst IsUtf8 same u

-- behind text
pub rest_text : (s : List ℕ) (at : ℕ) → at ≤ length s → IsUtf8 (take at s) → IsUtf8 s → IsUtf8 (drop at s)
rest_text s at le front u = IsUtf8-drop s at u (IsCharBoundary-from_take s at u le front)

-- ---- a line among bytes

module _ {bytes : List ℕ} {at : ℕ} {line : List ℕ} (l : IsLineAt bytes at line) where
  feed_there : take (length line + 1) (drop at bytes) ≡ with_feed line
  feed_there =
      let lt : at + length line < length bytes = l.within in
      let rest : drop (length line) (drop at bytes) ≡ get_or bytes (at + length line) 0 ∷ drop (suc (at + length line)) bytes = drop-drop (length line) at bytes
      ∙ drop-cons bytes (at + length line) 0 lt in
      take-add (length line) 1 (drop at bytes)
      ∙ ap (λ (s : List ℕ). s ++ take 1 (drop (length line) (drop at bytes))) (sym l.is)
      ∙ ap (λ (s : List ℕ). line ++ take 1 s) rest
      ∙ ap (λ (c : ℕ). line ++ (c ∷ [])) l.ends

  pub through_line : take (at + (length line + 1)) bytes ≡ take at bytes ++ with_feed line
  through_line = take-add at (length line + 1) bytes ∙ ap (λ (s : List ℕ). take at bytes ++ s) feed_there

  pub behind_line : drop at bytes ≡ with_feed line ++ drop (at + (length line + 1)) bytes
  behind_line = sym (take-append-drop (length line + 1) (drop at bytes))
      ∙ ap (λ (s : List ℕ). s ++ drop (length line + 1) (drop at bytes)) feed_there
      ∙ ap (λ (s : List ℕ). with_feed line ++ s) (drop-drop (length line + 1) at bytes)

  pub within_line : at + (length line + 1) ≤ length bytes
  within_line = omega (arith, l.within)

-- all bytes are their own front
all_front : {tags : ℕ → Option (List ℕ)} {prefix bytes text : List ℕ} {last : Bool} → last ≡ true → IsUtf8 bytes → text ≡ text_back tags prefix bytes
    → ReadsFront tags prefix bytes last text
all_front {tags} {prefix} {bytes} end u is =
    let all : take (length bytes) bytes ≡ bytes = take_all (length bytes) bytes (omega arith) in
    record {
      count = length bytes;
      within = omega arith;
      ends = inr (end, refl);
      is_text = subst IsUtf8 (sym all) u;
      is = is ∙ ap (text_back tags prefix) (sym all);
    }

-- the lines up to a place were read back, and the first that is not whole was looked for
pub record Lined (tags : ℕ → Option (List ℕ)) (prefix : List ℕ) (base : ℕ) (bytes : List ℕ) (at : ℕ) (found : Option BackFault) (text : List ℕ) : Type 0 where
  pub reads : ReadsLines tags prefix bytes at text
  pub finds : Finds prefix base (take at bytes) found

pub lined_none : {tags : ℕ → Option (List ℕ)} {prefix : List ℕ} {base : ℕ} {bytes : List ℕ} → Lined tags prefix base bytes 0 None []
lined_none {tags} {prefix} {base} = record {
  reads = record { within = omega arith; lines = no_lines; is_text = IsUtf8-nil; is = sym (nothing_back tags prefix) };
  finds = finds_none prefix base;
}

module _ {tags : ℕ → Option (List ℕ)} {prefix : List ℕ} {base : ℕ} {bytes : List ℕ} {at : ℕ} {found : Option BackFault} {text : List ℕ}
    (read : Lined tags prefix base bytes at found text) where
  long : length (take at bytes) ≡ at
  long = length-take-le at bytes read.reads.within

  -- a line more
  module _ {line s : List ℕ} (l : IsLineAt bytes at line) (same : s ≡ line) (u : IsUtf8 line) where
    line_read : ReadsLines tags prefix bytes (at + (length line + 1)) (text ++ line_back tags prefix s)
    line_read =
        let whole = through_line l in
        record {
          within = within_line l;
          lines = subst AreLines (sym whole) (lines_append read.reads.lines (one_line line l.one_line));
          is_text = subst IsUtf8 (sym whole) (IsUtf8-append (take at bytes) (with_feed line) read.reads.is_text (line_text line u));
          is = ap (λ (t : List ℕ). t ++ line_back tags prefix s) read.reads.is
              ∙ ap (λ (t : List ℕ). text_back tags prefix (take at bytes) ++ t) (ap (line_back tags prefix) same ∙ sym (back_line tags prefix line l.one_line))
              ∙ sym (back_append tags prefix (take at bytes) (with_feed line) read.reads.lines)
              ∙ ap (text_back tags prefix) (sym whole);
        }

    pub line_more : {all : Option BackFault} (fault : Option BackFault) → Tries prefix (base + at) s fault → all ≡ option_or found fault
        → Lined tags prefix base bytes (at + (length line + 1)) all (text ++ line_back tags prefix s)
    line_more fault tries is =
        let tried = finds_line prefix (base + at) line fault l.one_line (subst (λ (t : List ℕ). Tries prefix (base + at) t fault) same tries) in
        record {
          reads = line_read;
          finds = rw (is, through_line l) (finds_on prefix base (take at bytes) (with_feed line) found fault read.finds
              (subst (λ (n : ℕ). Finds prefix (base + n) (with_feed line) fault) (sym long) tried));
        }

    pub line_broken : {last : Bool} → ReadsFront tags prefix bytes last (text ++ line_back tags prefix s)
    line_broken =
        record { count = at + (length line + 1); within = line_read.within; ends = inl line_read.lines; is_text = line_read.is_text; is = line_read.is }

  pub line_no_text : {last : Bool} {line : List ℕ} → IsLineAt bytes at line → (IsUtf8 line → ⊥) → ReadsBack tags prefix base bytes last NoText text
  line_no_text {line = line} l other = (
    at,
    read.reads,
    record {
      line = line;
      no_text = other;
      first = λ more end. (
        lines_of (drop (at + (length line + 1)) bytes ++ more),
        ap (λ (s : List ℕ). lines_of (s ++ more)) (behind_line l)
            ∙ ap lines_of (append_assoc (with_feed line) (drop (at + (length line + 1)) bytes) more)
            ∙ first_of_lines line (drop (at + (length line + 1)) bytes ++ more) l.one_line,
      );
    },
  )

  -- the last line
  module _ {last : Bool} {rest : List ℕ} (one : IsOneLine (drop at bytes)) (same : rest ≡ drop at bytes) (end : last ≡ true) where
    module _ (u : IsUtf8 rest) where
      all_read : text ++ line_back tags prefix rest ≡ text_back tags prefix bytes
      all_read = ap (λ (t : List ℕ). t ++ line_back tags prefix rest) read.reads.is
          ∙ ap (λ (t : List ℕ). text_back tags prefix (take at bytes) ++ t) (ap (line_back tags prefix) same ∙ sym (back_last tags prefix (drop at bytes) one))
          ∙ sym (back_append tags prefix (take at bytes) (drop at bytes) read.reads.lines)
          ∙ ap (text_back tags prefix) (take-append-drop at bytes)

      all_text : IsUtf8 bytes
      all_text = subst IsUtf8 (take-append-drop at bytes) (IsUtf8-append (take at bytes) (drop at bytes) read.reads.is_text (subst IsUtf8 same u))

      pub last_more : {all : Option BackFault} (fault : Option BackFault) → Tries prefix (base + at) rest fault → all ≡ option_or found fault
          → ReadsBack tags prefix base bytes last (Behind (length bytes) all) (text ++ line_back tags prefix rest)
      last_more fault tries is =
          let tried : FirstBreak prefix (base + length (take at bytes)) (lines_of (drop at bytes)) fault =
          rw long (first_last prefix (base + at) (drop at bytes) fault one (subst (λ (t : List ℕ). Tries prefix (base + at) t fault) same tries)) in
          let all = finds_last prefix base (take at bytes) (drop at bytes) found fault read.finds tried in
          rw (end, is) (refl, all_text, all_read, rw take-append-drop at all)

      pub last_broken : ReadsFront tags prefix bytes last (text ++ line_back tags prefix rest)
      last_broken = all_front end all_text all_read

    pub last_no_text : (IsUtf8 rest → ⊥) → ReadsBack tags prefix base bytes last NoText text
    last_no_text other = (
      at,
      read.reads,
      record {
        line = drop at bytes;
        no_text = λ u. other (subst IsUtf8 (sym same) u);
        first = λ more none. (
          [],
          ap (λ (m : List ℕ). lines_of (drop at bytes ++ m)) (none end) ∙ ap lines_of (append-nil (drop at bytes)) ∙ only_line (drop at bytes) one,
        );
      },
    )

-- ---- where printing ended

module _ {tags : ℕ → Option (List ℕ)} {prefix : List ℕ} (base : ℕ) {bytes : List ℕ} {reached : BackReached} {text : List ℕ}
    (r : ReadsBack tags prefix base bytes false reached text) where
  pub lined_behind : {count : ℕ} {found : Option BackFault} → reached ≡ Behind count found
      → Lined tags prefix base bytes count found text × IsOneLine (drop count bytes)
  lined_behind is = let q = rw is at r in (record { reads = q.0; finds = q.1 }, q.2)

  pub no_text_any : {last : Bool} → reached ≡ NoText → ReadsBack tags prefix base bytes last NoText text
  no_text_any is =
      let q = rw is at r in
      (q.0, q.1, record { line = q.2.line; no_text = q.2.no_text; first = λ more end. q.2.first more (λ f. cc f) })

module _ (tags : ℕ → Option (List ℕ)) (prefix bytes : List ℕ) where
  pub front_none : (last : Bool) → ReadsFront tags prefix bytes last []
  front_none last = record { count = 0; within = omega arith; ends = inl no_lines; is_text = IsUtf8-nil; is = sym (nothing_back tags prefix) }

  -- what was read back is that of a front
  pub back_front : (base : ℕ) (last : Bool) (reached : BackReached) (text : List ℕ) → ReadsBack tags prefix base bytes last reached text
      → ReadsFront tags prefix bytes last text
  back_front base last NoText text r = record { count = r.0; within = r.1.within; ends = inl r.1.lines; is_text = r.1.is_text; is = r.1.is }
  back_front base false (Behind count found) text r =
      record { count = count; within = r.0.within; ends = inl r.0.lines; is_text = r.0.is_text; is = r.0.is }
  back_front base true (Behind count found) text r = all_front refl r.1 r.2
