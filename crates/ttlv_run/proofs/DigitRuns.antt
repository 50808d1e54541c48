-- A run of digits, decoded at once.
use Rattle.std.proofs.Common.{◌≡◌, ℕ, zero, suc, ◌+◌, ◌%◌, ◌<◌, ◌≤◌, ◌==◌, ◌||◌, ◌&&◌, Bool, true}
use Rattle.std.proofs.Common.{false, not, List, [], ◌∷◌, ◌++◌, length, take, drop, Option, Some, Ok, Err}
use Rattle.std.proofs.Common.{ap, sym, refl, subst, ◌∙◌, arith, append-nil, append_assoc, length-append, slice_index, true≢false}
use Rattle.std.specs.{Io.KnownBytes.prepend_known, List.list_all}
use Rattle.std.proofs.lemmas.Bool.{ne_eqb, and_parts}
use Rattle.std.proofs.lemmas.List.{length-take-le, get_or-take, drop-drop}
use Rattle.std.proofs.{lemmas.Grind.take_at_read, Math.Seq.take-add}
use Rattle.std.proofs.lemmas.List.Sums.{AllPass-from_list_all, list_all-from_AllPass}
use Rattle.base64.specs.GeneralPurpose.{IsBytes}
use Rattle.ttlv_run.specs.declared.{run_error.RunError.RunError, decoder.Decoder.Decoder, decoder.Phase.Phase}
use Rattle.ttlv_run.specs.declared.{form.Form.Form, form.LinePart.LinePart, form.Step.TheVariants.Counts}
use Rattle.ttlv_run.specs.declared.run_error.RunError.TheVariants.{NoMemory}
use Rattle.ttlv_run.specs.declared.form.Form.TheVariants.{HexadecimalText, Base64Text, Base64UrlText, ArmouredText, DumpText, PacketText}
use Rattle.ttlv_run.specs.declared.form.LinePart.TheVariants.{Free}
use Rattle.ttlv_run.specs.declared.decoder.Phase.TheVariants.{Groups}
use Rattle.ttlv_run.specs.Columns.{is_hex_digit, is_base64_digit, is_url_digit, is_plain, first_part, step, Reads, counts}
use Rattle.ttlv_run.specs.Decoding.{open_digits, one_or_none, BeginsGroup, IsOpen, Knows, Holds, Reading, IsRun, Grows, DecodesRun, DecodesPiece}
use Rattle.ttlv_run.specs.Inputs.{decode_form, width}
use Rattle.ttlv_run.proofs.Groups.{AreWhole, both_whole, prepended, run_decodes}
use Rattle.ttlv_run.proofs.Decoders.{holds_as}

-- ---- digits that stand freely

-- a hexadecimal digit is no x
no_x : (n : ℕ) → is_hex_digit n ≡ true → (n == 120 || n == 88) ≡ false
no_x n is =
    let small : (n == 120) ≡ false = ne_eqb n 120 (λ e. absurd (true≢false (sym is ∙ ap is_hex_digit e))) in
    let large : (n == 88) ≡ false = ne_eqb n 88 (λ e. absurd (true≢false (sym is ∙ ap is_hex_digit e))) in
    rw (small, large) refl

and_false : (a : Bool) → (a && false) ≡ false
and_false true = refl
and_false false = refl

-- and a digit of base64 is no line feed
no_end : (b : ℕ) → is_base64_digit b ≡ true → (b == 10) ≡ false
no_end b is = ne_eqb b 10 (λ e. absurd (true≢false (sym is ∙ ap is_base64_digit e)))

digit_counts : (form : Form) (b n : ℕ) → is_plain form b ≡ true → is_plain form n ≡ true → step form Free b n ≡ Counts Free
digit_counts HexadecimalText b n digit on = rw (no_x n on, and_false (b == 48 || b == 92), digit) refl
digit_counts Base64Text b n digit on = rw (and_parts (is_base64_digit b) (not (b == 61)) digit).0 refl
digit_counts Base64UrlText b n digit on = rw (and_parts (is_url_digit b) (not (b == 61)) digit).0 refl
digit_counts ArmouredText b n digit on =
    let is = (and_parts (is_base64_digit b) (not (b == 61)) digit).0 in
    rw (no_end b is, is) refl
digit_counts DumpText b n digit on = absurd (true≢false (sym digit))
digit_counts PacketText b n digit on = absurd (true≢false (sym digit))

first_of : (form : Form) (front : List ℕ) (next : ℕ) (more : List ℕ) → list_all (is_plain form) front ≡ true → is_plain form next ≡ true
    → is_plain form (slice_index (front ++ next ∷ more) 0) ≡ true
first_of form [] next more all on = on
first_of form (b ∷ front) next more all on = (and_parts _ _ all).0

run_reads : (form : Form) {s digits : List ℕ} (front : List ℕ) (next : ℕ) (more : List ℕ) → list_all (is_plain form) front ≡ true
    → is_plain form next ≡ true → Reads form (first_part form) s digits Free (front ++ next ∷ more)
    → Reads form (first_part form) s (digits ++ front) Free (next ∷ more)
run_reads form {s} {digits} [] next more all on reads =
    subst (λ (ds : List ℕ). Reads form (first_part form) s ds Free (next ∷ more)) (sym (append-nil digits)) reads
run_reads form {s} {digits} (b ∷ front) next more all on reads =
    let a = and_parts (is_plain form b) (list_all (is_plain form) front) all in
    let one = counts digits (digits ++ b ∷ []) Free Free b (front ++ next ∷ more) reads
    (digit_counts form b (slice_index (front ++ next ∷ more) 0) a.0 (first_of form front next more a.1 on)) refl in
    subst (λ (ds : List ℕ). Reads form (first_part form) s ds Free (next ∷ more)) (append_assoc digits (b ∷ []) front)
    (run_reads form front next more a.1 on one)

-- ---- their bytes

run_open : {form : Form} {digits bytes : List ℕ} (run x : List ℕ) → length run % width form ≡ 0 → IsBytes run → IsBytes x
    → AreWhole form (length run) (length x) → decode_form form run ≡ Some x → IsOpen form digits [] bytes → IsOpen form (digits ++ run) [] (bytes ++ x)
run_open {form} {digits} {bytes} run x groups plain are whole is o = record {
  front = o.front ++ run;
  are = ap (λ (t : List ℕ). t ++ run) (o.are ∙ append-nil o.front) ∙ sym (append-nil (o.front ++ run));
  few = o.few;
  continues = record {
    whole = subst (λ (n : ℕ). n % width form ≡ 0) (sym (length-append o.front run))
        (both_whole form (length o.front) (length run) o.continues.whole groups);
    on = λ rest. ap (decode_form form) (append_assoc o.front run rest) ∙ o.continues.on (run ++ rest)
        ∙ ap (prepend_known bytes) (run_decodes form (length run) run x rest (omega arith) groups plain are whole is)
        ∙ sym (prepended bytes x (decode_form form rest));
  };
}

-- ---- a decoder that takes a run

-- what it knows, where its parts are these
knows_open : {phase : Phase} {form : Form} {digits left all : List ℕ} → phase ≡ Groups → left ≡ [] → Knows phase form digits left all
    → IsOpen form digits [] all
knows_open {phase} {form} {digits} {left} {all} phase_is left_is k =
    subst (λ (l : List ℕ). IsOpen form digits l all) left_is (subst (λ (p : Phase). Knows p form digits left all) phase_is k)

open_so : {phase : Phase} {form : Form} {digits left all : List ℕ} → phase ≡ Groups → left ≡ [] → IsOpen form digits [] all
    → Knows phase form digits left all
open_so {phase} {form} {digits} {left} {all} phase_is left_is o =
    subst (λ (p : Phase). Knows p form digits left all) (sym phase_is) (subst (λ (l : List ℕ). IsOpen form digits l all) (sym left_is) o)

none_begun : (d : Decoder) → d.count ≡ 0 → open_digits d ≡ []
none_begun d is = ap (λ (n : ℕ). take n d.digits) is

module _ {old : Decoder} {mark : ℕ} {s all : List ℕ} (new : Decoder) (d : ℕ) (ds : List ℕ) (next : ℕ) (x : List ℕ)
    (run : IsRun old (d ∷ ds) next) (plain : IsBytes (d ∷ ds)) (are : IsBytes x) (whole : AreWhole old.form (length (d ∷ ds)) (length x))
    (is : decode_form old.form (d ∷ ds) ≡ Some x) (r : Reading old mark s all)
  where
    behind_it : (more : List ℕ) → one_or_none old.waiting ++ ((ds ++ next ∷ []) ++ more) ≡ (d ∷ ds) ++ next ∷ more
    behind_it more = rw (run.begins.waits, append_assoc ds (next ∷ []) more) refl

    held : (more : List ℕ) → Holds old ((s ++ (ds ++ next ∷ [])) ++ more) all ((d ∷ ds) ++ next ∷ more)
    held more = rw (append_assoc s (ds ++ next ∷ []) more, ← behind_it more) (r.reads ((ds ++ next ∷ []) ++ more))

    module _ (form : new.form ≡ old.form) (part : new.part ≡ old.part) (phase : new.phase ≡ old.phase) (count : new.count ≡ old.count)
        (waiting : new.waiting ≡ Some next) (offset : new.offset ≡ old.offset + length (d ∷ ds))
      where
        holds : (more : List ℕ) → Holds new ((s ++ (ds ++ next ∷ [])) ++ more) (all ++ x) (next ∷ more)
        holds more =
            let h = held more in
            let b = run.begins in
            let reads = run_reads old.form (d ∷ ds) next more run.all run.on
            (subst (λ (p : LinePart). Reads old.form (first_part old.form) ((s ++ (ds ++ next ∷ [])) ++ more) h.digits p ((d ∷ ds) ++ next ∷ more))
            b.part h.reads) in
            let knows = run_open (d ∷ ds) x run.whole plain are whole is (knows_open b.phase (none_begun old b.whole) h.knows) in
            holds_as old form (part ∙ b.part) phase (none_begun new (count ∙ b.whole) ∙ sym (none_begun old b.whole)) reads
            (open_so b.phase (none_begun old b.whole) knows)

        taken : Reading new mark (s ++ (ds ++ next ∷ [])) (all ++ x)
        taken = record {
          reads = λ more. subst (λ (o : Option ℕ). Holds new ((s ++ (ds ++ next ∷ [])) ++ more) (all ++ x) (one_or_none o ++ more)) (sym waiting) (holds more);
          start = λ e. cc (sym e ∙ waiting);
          at = omega (
            arith,
            r.at,
            offset,
            ap (λ (o : Option ℕ). length (one_or_none o)) run.begins.waits,
            ap (λ (o : Option ℕ). length (one_or_none o)) waiting,
            length-append s (ds ++ next ∷ []),
            length-append ds (next ∷ []),
          );
        }

pub run_taken :
    {old : Decoder} {mark : ℕ} {s all : List ℕ} (new : Decoder) (digits : List ℕ) (next : ℕ) (x : List ℕ)
    → IsRun old digits next
    → IsBytes digits
    → IsBytes x
    → AreWhole old.form (length digits) (length x)
    → decode_form old.form digits ≡ Some x
    → Reading old mark s all
    → new.form ≡ old.form
    → new.part ≡ old.part
    → new.phase ≡ old.phase
    → new.count ≡ old.count
    → new.waiting ≡ Some next
    → new.offset ≡ old.offset + length digits
    → Reading new mark (s ++ (drop 1 digits ++ next ∷ [])) (all ++ x)
run_taken new [] next x run plain are whole is r form part phase count waiting offset = absurd (omega (arith, run.some))
run_taken new (d ∷ ds) next x run plain are whole is r form part phase count waiting offset =
    taken new d ds next x run plain are whole is r form part phase count waiting offset

-- the front of some digits is a run, in front of one of them
pub is_run : {d : Decoder} (chars : List ℕ) (n m : ℕ) → BeginsGroup d (slice_index chars 0) → n ≤ length chars
    → list_all (is_plain d.form) (take n chars) ≡ true → m < n → m % width d.form ≡ 0 → 0 < m → IsRun d (take m chars) (slice_index chars m)
is_run {d} chars n m begins le all lt even some =
    let long : length (take m chars) ≡ m = length-take-le m chars (omega (arith, le, lt)) in
    let passes = AllPass-from_list_all (is_plain d.form) (take n chars) all in
    let each = λ (k : ℕ) (x : ℕ) (inside : k < n). ap (is_plain d.form) (sym (get_or-take n chars k x inside))
    ∙ passes k x (omega (arith, inside, length-take-le n chars le)) in
    record {
      begins = subst (BeginsGroup d) (sym (get_or-take m chars 0 0 some)) begins;
      some = omega (arith, long, some);
      whole = subst (λ (k : ℕ). k % width d.form ≡ 0) (sym long) even;
      all = list_all-from_AllPass (is_plain d.form) (take m chars) (λ k x inside.
          ap (is_plain d.form) (get_or-take m chars k x (omega (arith, inside, long))) ∙ each k x (omega (arith, inside, long, lt)));
      on = each m 0 lt;
    }

-- what came behind the character that waits
pub shifted : (chars : List ℕ) (n : ℕ) → 0 < n → n < length chars → drop 1 (take n chars) ++ slice_index chars n ∷ [] ≡ take n (drop 1 chars)
shifted [] n some lt = absurd (omega (arith, lt))
shifted (x ∷ xs) zero some lt = absurd (omega (arith, some))
shifted (x ∷ xs) (suc k) some lt =
    let on : k + 1 ≡ suc k = omega arith in
    sym (take_at_read xs k 0 (omega (arith, lt))).1 ∙ ap (λ (j : ℕ). take j xs) on

-- what came in front of a run, and the run
run_place : (s piece : List ℕ) (at n : ℕ) → (s ++ take (at + 1) piece) ++ take n (drop 1 (drop at piece)) ≡ s ++ take (at + (n + 1)) piece
run_place s piece at n =
    let on : (at + 1) + n ≡ at + (n + 1) = omega arith in
    append_assoc s (take (at + 1) piece) (take n (drop 1 (drop at piece)))
    ∙ ap (λ (t : List ℕ). s ++ t) (ap (λ (t : List ℕ). take (at + 1) piece ++ take n t) (drop-drop 1 at piece)
    ∙ sym (take-add (at + 1) n piece) ∙ ap (λ (j : ℕ). take j piece) on)

module _
    {d0 d1 : Decoder} {h0 h1 h2 : List ℕ} (d2 : Decoder) (piece : List ℕ) (at : ℕ)
    (g : Grows h0 h1 (λ came. (mark : ℕ) (s all : List ℕ) → Reading d0 mark s all → Reading d1 mark (s ++ take (at + 1) piece) (all ++ came)))
  where
    pub piece_run : (n : ℕ) (chars : List ℕ) → chars ≡ drop at piece
        → Grows h1 h2 (λ came. (mark : ℕ) (s all : List ℕ) → Reading d1 mark s all → DecodesRun d2 mark s chars (all ++ came) (Ok n))
        → Grows h0 h2 (λ came. (mark : ℕ) (s all : List ℕ) → Reading d0 mark s all → Reading d2 mark (s ++ take (at + (n + 1)) piece) (all ++ came))
    piece_run n chars is r = record {
      came = g.came ++ r.came;
      are = r.are ∙ ap (λ (t : List ℕ). t ++ r.came) g.are ∙ append_assoc h0 g.came r.came;
      holds = λ mark s all q.
          subst (Reading d2 mark (s ++ take (at + (n + 1)) piece)) (append_assoc all g.came r.came)
          (subst (λ (t : List ℕ). Reading d2 mark t ((all ++ g.came) ++ r.came))
          (ap (λ (t : List ℕ). (s ++ take (at + 1) piece) ++ take n (drop 1 t)) is ∙ run_place s piece at n)
          (r.holds mark (s ++ take (at + 1) piece) (all ++ g.came) (g.holds mark s all q)));
    }

    -- or memory ran out for it
    pub run_fails : (why : RunError)
        → Grows h1 h2 (λ came. (mark : ℕ) (s all : List ℕ) → Reading d1 mark s all → why ≡ NoMemory)
        → Grows h0 h2 (λ came. (mark : ℕ) (s all : List ℕ) → Reading d0 mark s all → DecodesPiece d2 mark s piece (all ++ came) (Err why))
    run_fails why r = record {
      came = g.came ++ r.came;
      are = r.are ∙ ap (λ (t : List ℕ). t ++ r.came) g.are ∙ append_assoc h0 g.came r.came;
      holds = λ mark s all q. r.holds mark (s ++ take (at + 1) piece) (all ++ g.came) (g.holds mark s all q);
    }
