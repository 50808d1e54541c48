-- Diagnostics that come piece by piece and are read back line by line.
use Rattle.std.proofs.Common.{arith, ◌≡◌, ◌⊎◌, inl, inr, ℕ, ◌+◌, Bool, true, false, List, [], ◌∷◌, ◌++◌, length, take, drop, take-add, Option, None, ap, sym}
use Rattle.std.proofs.Common.{refl, subst, ◌∙◌, append-nil, append_assoc, length-append, take-append-drop}
use Rattle.std.specs.{Option.option_or, Str.IsUtf8}
use Rattle.std.specs.Io.KnownBytes.{Consumes, IsAtEnd}
use Rattle.std.proofs.KnownBytes.{Consumes-trans}
use Rattle.std.proofs.lemmas.List.{drop-drop, drop_all, length-drop, length-take-le, take-append-le, drop-append-le}
use Rattle.std.proofs.lemmas.Str.{IsUtf8-append}
use Rattle.kmip_ttlv_names.specs.NameTables.{lines_of}
use Rattle.kmip_ttlv_types.specs.Held.{Held, Gets}
use Rattle.kmip_ttlv_types.proofs.Held.{gets_none, gets_both}
use Rattle.kmip_ttlv_util.specs.Pieces.{SomeText}
use Rattle.ttlv_run.specs.{declared.back.BackFault.BackFault, declared.back.BackReached.BackReached, declared.back.BackReached.TheVariants.Behind}
use Rattle.ttlv_run.specs.{declared.back.BackReached.TheVariants.NoText, declared.run_error.RunError.RunError, Inputs.IsUnread}
use Rattle.ttlv_run.specs.{Streaming.Yields, Streaming.LinesFail, Texts.Names, Texts.text_back}
use Rattle.ttlv_run.specs.Backs.{FirstBreak, IsOneLine, AreLines, Finds, ReadsLines, ReadsBack, ReadsFront}
use Rattle.ttlv_run.specs.Runs.{streams, PrintedBack, NoTextBack, UnwrittenBack, FailsBack}
use Rattle.ttlv_run.specs.{declared.run_error.RunError.TheVariants.NoMemory, Reasons.PrintsFront}
use Rattle.ttlv_run.proofs.{Appending.prints_behind, Appending.memory_ended, BackEnds.first_break, Decided.unread_by, Windows.left_of}
use Rattle.ttlv_run.proofs.BackLines.{Lined, lined_none, lines_append, back_append, finds_on, finds_last, first_text, rest_text, front_none}

-- lines stay the same, whatever comes behind them
reads_longer : {tags : ℕ → Option (List ℕ)} {prefix s text : List ℕ} {n : ℕ} (more : List ℕ) → ReadsLines tags prefix s n text
    → ReadsLines tags prefix (s ++ more) n text
reads_longer {tags} {prefix} {s} {n = n} more r =
    let same = sym (take-append-le n s more r.within) in
    record {
      within = omega (arith, r.within, length-append s more);
      lines = subst AreLines same r.lines;
      is_text = subst IsUtf8 same r.is_text;
      is = r.is ∙ ap (text_back tags prefix) same;
    }

-- what is read back goes on behind lines
goes_on : (tags : ℕ → Option (List ℕ)) (prefix front more : List ℕ) → AreLines front ⊎ (more ≡ []) → (rest : List ℕ)
    × (text_back tags prefix (front ++ more) ≡ text_back tags prefix front ++ rest)
goes_on tags prefix front more (inl a) = (text_back tags prefix more, back_append tags prefix front more a)
goes_on tags prefix front more (inr e) =
    ([], ap (text_back tags prefix) (ap (λ (s : List ℕ). front ++ s) e ∙ append-nil front) ∙ sym (append-nil (text_back tags prefix front)))

module _ {tags : ℕ → Option (List ℕ)} {prefix s : List ℕ} {base : ℕ} {text bytes : List ℕ} (r : ReadsLines tags prefix s base text) (are : drop base s ≡ bytes)
  where
    up_to : (n : ℕ) → take (base + n) s ≡ take base s ++ take n bytes
    up_to n = take-add base n s ∙ ap (λ (t : List ℕ). take base s ++ take n t) are

    long : length s ≡ base + length bytes
    long = omega (arith, r.within, ap (λ (t : List ℕ). length t) are, length-drop base s)

    texts : (t front : List ℕ) → t ≡ text_back tags prefix front → text ++ t ≡ text_back tags prefix (take base s ++ front)
    texts t front is = ap (λ (u : List ℕ). u ++ t) r.is ∙ ap (λ (u : List ℕ). text_back tags prefix (take base s) ++ u) is
        ∙ sym (back_append tags prefix (take base s) front r.lines)

    -- more lines
    reads_on : {n : ℕ} {t : List ℕ} → ReadsLines tags prefix bytes n t → ReadsLines tags prefix s (base + n) (text ++ t)
    reads_on {n} {t} q = record {
      within = omega (arith, long, q.within);
      lines = subst AreLines (sym (up_to n)) (lines_append r.lines q.lines);
      is_text = subst IsUtf8 (sym (up_to n)) (IsUtf8-append (take base s) (take n bytes) r.is_text q.is_text);
      is = texts t (take n bytes) q.is ∙ ap (text_back tags prefix) (sym (up_to n));
    }

-- what is known of an input whose lines are read back as they come
pub record BackReading (names : Names) (prefix : List ℕ) (known now : Option (List ℕ)) (output output_now : Held) (base : ℕ) (bytes : List ℕ)
    (found : Option BackFault) : Type 0 where
  pub taken : List ℕ
  pub text : List ℕ
  pub consumed : Consumes known now taken
  pub lined : Lined names.tags prefix 0 taken base found text
  pub are : drop base taken ≡ bytes
  pub appended : Gets output output_now text

pub back_starts : {names : Names} {prefix : List ℕ} {known : Option (List ℕ)} {output : Held} → Consumes known known []
    → BackReading names prefix known known output output 0 [] None
back_starts {output = output} consumed =
    record { taken = []; text = []; consumed = consumed; lined = lined_none; are = refl; appended = gets_none output }

module _ {names : Names} {prefix : List ℕ} {known now : Option (List ℕ)} {output mid : Held} {base : ℕ} {bytes : List ℕ} {found : Option BackFault}
    (p : BackReading names prefix known now output mid base bytes found) where
  pub back_of : {b : List ℕ} → b ≡ bytes → BackReading names prefix known now output mid base b found
  back_of is = subst (λ (b : List ℕ). BackReading names prefix known now output mid base b found) (sym is) p

  lines : ReadsLines names.tags prefix p.taken base p.text
  lines = p.lined.reads

  here : 0 + length (take base p.taken) ≡ base
  here = omega (arith, length-take-le base p.taken lines.within)

  -- more bytes came
  pub back_came : {next : Option (List ℕ)} {before after : List ℕ} → before ≡ bytes → Yields now next before after
      → BackReading names prefix known next output mid base after found
  back_came {next} is yields = record {
    taken = p.taken ++ yields.came;
    text = p.text;
    consumed = Consumes-trans known now next p.taken yields.came p.consumed yields.consumed;
    lined = record {
      reads = reads_longer yields.came lines;
      finds = subst (λ (s : List ℕ). Finds prefix 0 s found) (sym (take-append-le base p.taken yields.came lines.within)) p.lined.finds;
    };
    are = drop-append-le base p.taken yields.came lines.within ∙ ap (λ (s : List ℕ). s ++ yields.came) (p.are ∙ sym is) ∙ sym yields.are;
    appended = p.appended;
  }

  module _ {last : Bool} {reached : BackReached} (new : Held)
      (reported : SomeText (ReadsBack names.tags prefix base bytes last reached) (Gets mid new))
    where
      -- lines were read back, and others are waited for
      pub back_goes : {count : ℕ} {more all : Option BackFault} → last ≡ false → reached ≡ Behind count more → all ≡ option_or found more
          → BackReading names prefix known now output new (base + count) (drop count bytes) all × IsOneLine (drop count bytes)
      back_goes {count} {more} unended is all_is =
          let q = rw (unended, is) at reported.is in
          let finds = subst (λ (n : ℕ). Finds prefix n (take count bytes) more) (sym here) q.1 in (
            record {
              taken = p.taken;
              text = p.text ++ reported.text;
              consumed = p.consumed;
              lined = record {
                reads = reads_on lines p.are q.0;
                finds = rw (all_is, up_to lines p.are count)
                    (finds_on prefix 0 (take base p.taken) (take count bytes) found more p.lined.finds finds);
              };
              are = sym (drop-drop count base p.taken) ∙ ap (drop count) p.are;
              appended = gets_both p.text reported.text p.appended reported.holds;
            },
            q.2,
          )

      -- all lines were read back
      pub back_printed : {can_fail : Bool} {count : ℕ} {more all : Option BackFault} → last ≡ true → reached ≡ Behind count more → all ≡ option_or found more
          → IsAtEnd now → PrintedBack names prefix (streams can_fail known now output new) all
      back_printed {count = count} {more} ended is all_is end =
          let q = rw (ended, is) at reported.is in
          let first = subst (λ (n : ℕ). FirstBreak prefix n (lines_of bytes) more) (sym here) q.3 in
          let whole : take base p.taken ++ bytes ≡ p.taken = ap (λ (s : List ℕ). take base p.taken ++ s) (sym p.are) ∙ take-append-drop base p.taken in
          record {
            text = p.text ++ reported.text;
            has = record {
              input = p.taken;
              taken = record { taken = p.consumed; ended = end };
              is_text = subst IsUtf8 whole (IsUtf8-append (take base p.taken) bytes lines.is_text q.1);
              is = texts lines p.are reported.text bytes q.2 ∙ ap (text_back names.tags prefix) whole;
              first = rw (all_is, ← whole) (finds_last prefix 0 (take base p.taken) bytes found more p.lined.finds first);
            };
            appended = gets_both p.text reported.text p.appended reported.holds;
          }

      -- a line is no text
      pub back_no_text : {can_fail : Bool} → reached ≡ NoText → (last ≡ true → IsAtEnd now)
          → NoTextBack names prefix (streams can_fail known now output new)
      back_no_text is end =
          let q = rw is at reported.is in
          let l = left_of now last end in
          let place = base + q.0 in
          let all = p.taken ++ l.left in
          let reads = reads_on lines p.are q.1 in
          let more = reads_longer l.left reads in
          let rest : drop place all ≡ drop q.0 bytes ++ l.left = drop-append-le place p.taken l.left reads.within
          ∙ ap (λ (s : List ℕ). s ++ l.left) (sym (drop-drop q.0 base p.taken) ∙ ap (drop q.0) p.are) in
          let begins = q.2.first l.left l.none in
          let first : lines_of (drop place all) ≡ q.2.line ∷ begins.0 = ap lines_of rest ∙ begins.1 in
          record {
            input = all;
            taken = record { front = p.taken; left = l.left; are = refl; taken = p.consumed; rest = l.are };
            no_text = λ u. q.2.no_text (first_text (drop place all) q.2.line begins.0 first (rest_text all place more.within more.is_text u));
            place = place;
            text = p.text ++ reported.text;
            reads = more;
            line = q.2.line;
            others = begins.0;
            first = first;
            line_no_text = q.2.no_text;
            appended = gets_both p.text reported.text p.appended reported.holds;
          }

  -- printing failed
  pub back_unwritten : {can_fail : Bool} {why : RunError} {new : Held} {last : Bool} → (last ≡ true → IsAtEnd now)
      → SomeText (ReadsFront names.tags prefix bytes last) (PrintsFront why mid new)
      → UnwrittenBack names prefix (streams can_fail known now output new) why
  back_unwritten {can_fail} {why} {new} {last} end reported =
      let l = left_of now last end in
      let n = reported.is.count in
      let whole = up_to lines p.are n in
      let all = p.taken ++ l.left in
      let front = take (base + n) p.taken in
      let more = drop (base + n) p.taken ++ l.left in
      let are : all ≡ front ++ more = ap (λ (s : List ℕ). s ++ l.left) (sym (take-append-drop (base + n) p.taken))
      ∙ append_assoc front (drop (base + n) p.taken) l.left in
      let ends = by l.left l.none reported.is.ends in
      let continues = goes_on names.tags prefix front more ends in
      let first = first_break prefix 0 (lines_of all) in
      record {
        input = all;
        fault = first.0;
        first = first.1;
        rest = continues.0;
        is = ap (text_back names.tags prefix) are ∙ continues.1;
        taken = record { front = p.taken; left = l.left; are = refl; taken = p.consumed; rest = l.are };
        front = front;
        more = more;
        are = are;
        ends = ends;
        is_text = subst IsUtf8 (sym whole) (IsUtf8-append (take base p.taken) (take n bytes) lines.is_text reported.is.is_text);
        appended = subst (PrintsFront why output new) (texts lines p.are reported.text (take n bytes) reported.is.is
            ∙ ap (text_back names.tags prefix) (sym whole)) (prints_behind p.text reported.text p.appended reported.holds);
      }
    where
      by : (left : List ℕ) → (last ≡ true → left ≡ []) → AreLines (take reported.is.count bytes) ⊎ ((last ≡ true) × (reported.is.count ≡ length bytes))
          → AreLines (take (base + reported.is.count) p.taken) ⊎ (drop (base + reported.is.count) p.taken ++ left ≡ [])
      by left none (inl a) = inl (subst AreLines (sym (up_to lines p.are reported.is.count)) (lines_append lines.lines a))
      by left none (inr b) =
          inr (ap (λ (s : List ℕ). s ++ left) (drop_all (base + reported.is.count) p.taken (omega (arith, long lines p.are, b.1))) ∙ none b.0)

  -- nothing more was printed
  pub back_no_memory : {can_fail : Bool}
      → UnwrittenBack names prefix (streams can_fail known now output mid) NoMemory
  back_no_memory =
      let none = memory_ended [] (gets_none mid) in
      back_unwritten (λ e. cc) (record { text = []; is = front_none names.tags prefix bytes false; holds = none })

  unread : (can_fail : Bool) → IsOneLine bytes → (why : RunError) → IsUnread can_fail why
      → FailsBack names prefix (streams can_fail known now output mid) why
  unread can_fail one why h =
      unread_by (FailsBack names prefix (streams can_fail known now output mid)) why h (λ can. (
        can,
        record {
          bytes = p.taken;
          taken = p.consumed;
          place = base;
          text = p.text;
          reads = lines;
          one_line = subst IsOneLine (sym p.are) one;
          appended = p.appended;
        },
      )) back_no_memory

-- reading failed, or memory ran out for it
pub back_read_fails : {names : Names} {prefix : List ℕ} (can_fail : Bool) {known now next : Option (List ℕ)} {output mid : Held} {base : ℕ}
    {bytes before after : List ℕ} {found : Option BackFault}
    → BackReading names prefix known now output mid base bytes found → before ≡ bytes → IsOneLine bytes → LinesFail now next before after
    → (why : RunError) → IsUnread can_fail why
    → FailsBack names prefix (streams can_fail known next output mid) why
back_read_fails can_fail p is one f = unread (back_came p is f.yields) can_fail (f.one_line (subst IsOneLine (sym is) one))
