-- A decoder of digits: what it knows of them, and what it has read, character by character.
use Rattle.std.proofs.Common.{◌≡◌, ◌≢◌, ℕ, ◌+◌, ◌%◌, ◌<◌, ◌≤◌, true, List, [], ◌∷◌, ◌++◌, length, take, drop, Option, Some, None, Result, Ok, Err, ap, sym}
use Rattle.std.proofs.Common.{refl, subst, ◌∙◌, arith, append-nil, append_assoc, length-append}
use Rattle.std.specs.{Prelude.slice_index, Prelude.slice_set, Io.KnownBytes.prepend_known}
use Rattle.std.proofs.{lemmas.Grind.take_at_read, lemmas.Grind.take-set_at, Math.Seq.take-append_seam}
use Rattle.std.proofs.lemmas.List.{take-append-drop, take-append-le, length-set, length-take-le}
use Rattle.base64.specs.GeneralPurpose.{IsBytes}
use Rattle.ttlv_run.specs.declared.{form.Form.Form, form.LinePart.LinePart, form.Step.TheVariants.Counts, form.Step.TheVariants.Skips}
use Rattle.ttlv_run.specs.declared.{run_error.RunError.RunError, coding.Undecoded.Undecoded, decoder.Decoder.Decoder, decoder.Made.Made, decoder.Phase.Phase}
use Rattle.ttlv_run.specs.Columns.{first_part, step, Reads, begins, counts, skips}
use Rattle.ttlv_run.specs.declared.decoder.Made.TheVariants.{Nothing, Bytes, Failed}
use Rattle.ttlv_run.specs.declared.decoder.Phase.TheVariants.{Groups, Padded, Spoilt}
use Rattle.ttlv_run.specs.Decoding.{one_or_none, bytes_in, open_digits, Continues, IsOpen, IsPadded, IsSpoilt, Knows, Yields}
use Rattle.ttlv_run.specs.Decoding.{Ends, Holds, Takes, Reading, Stuck}
use Rattle.ttlv_run.specs.Decoding.{Pushes, AllBytes, Finishes, Grows, Puts, DecodesPiece, DecodesMore}
use Rattle.ttlv_run.specs.Fronts.{ReadsBytes}
use Rattle.ttlv_run.specs.Inputs.{decode_form, width, Makes}
use Rattle.ttlv_run.proofs.Groups.{behind, group_of, behind_group, group_known, no_group, group_then, nothing, least_group, more_whole, some_width}
use Rattle.ttlv_run.proofs.Groups.{prepended, nothing_in_front}

-- ---- digits

module _ {form : Form} {front bytes : List ℕ} (continues : Continues form front bytes) where
  -- digits that are bytes
  on_some : (rest : List ℕ) {x : List ℕ} → decode_form form rest ≡ Some x → decode_form form (front ++ rest) ≡ Some (bytes ++ x)
  on_some rest is = continues.on rest ∙ ap (prepend_known bytes) is

  on_none : (rest : List ℕ) → decode_form form rest ≡ None → decode_form form (front ++ rest) ≡ None
  on_none rest is = continues.on rest ∙ ap (prepend_known bytes) is

  -- whole groups are bytes by themselves
  goes_made : decode_form form front ≡ Some bytes
  goes_made = ap (decode_form form) (sym (append-nil front)) ∙ on_some [] (nothing form) ∙ ap Some (append-nil bytes)

  module _ (g : List ℕ) (long : length g ≡ width form) (plain : IsBytes g) where
    more_groups : length (front ++ g) % width form ≡ 0
    more_groups = subst (λ (n : ℕ). n % width form ≡ 0) (omega (arith, long, length-append front g)) (more_whole form (length front) continues.whole)

    -- a group more
    goes_further : {x : List ℕ} → group_of form g ≡ Some x → Continues form (front ++ g) (bytes ++ x)
    goes_further {x} is = record {
      whole = more_groups;
      on = λ rest. ap (decode_form form) (append_assoc front g rest) ∙ continues.on (g ++ rest)
          ∙ ap (prepend_known bytes) (group_then form g x long plain is rest)
          ∙ sym (prepended bytes x (decode_form form rest));
    }

    -- or one behind which there are no more digits
    ends_here : group_of form g ≡ None → (b : ℕ) (rest : List ℕ) → decode_form form ((front ++ g) ++ b ∷ rest) ≡ None
    ends_here is b rest = ap (decode_form form) (append_assoc front g (b ∷ rest))
        ∙ on_none (g ++ b ∷ rest) (behind_group form g b rest long ∙ ap (λ (o : Option (List ℕ)). behind o (decode_form form (b ∷ rest))) is)

    group_padded : {x : List ℕ} → decode_form form g ≡ Some x → length x + 1 < width form → IsPadded form (front ++ g) (bytes ++ x)
    group_padded {x} is few = record {
      whole = more_groups;
      made = on_some g is;
      last = ends_here (no_group form g long plain (λ y same.
          let e : x ≡ y = cc (sym is ∙ same) in
          subst (λ (t : List ℕ). length t + 1 < width form) e few));
    }

    -- or one that is no bytes
    group_spoilt : decode_form form g ≡ None → IsSpoilt form (front ++ g) bytes
    group_spoilt is = record {
      front = front;
      bad = g;
      more = [];
      are = ap (λ (t : List ℕ). front ++ t) (sym (append-nil g));
      whole = continues.whole;
      made = goes_made;
      few = omega (arith, long);
      none = none;
    }
      where
        none : (rest : List ℕ) → decode_form form (front ++ (g ++ rest)) ≡ None
        none [] = ap (λ (t : List ℕ). decode_form form (front ++ t)) (append-nil g) ∙ on_none g is
        none (b ∷ rest) = ap (decode_form form) (sym (append_assoc front g (b ∷ rest)))
            ∙ ends_here (no_group form g long plain (λ y same. cc (sym is ∙ same))) b rest

-- a digit more makes a group whole
module _ {form : Form} {digits left bytes : List ℕ} (o : IsOpen form digits left bytes) (b : ℕ) {g : List ℕ} (is : g ≡ left ++ b ∷ [])
    (long : length g ≡ width form) (plain : IsBytes g) where
  same : o.front ++ g ≡ digits ++ b ∷ []
  same = ap (λ (t : List ℕ). o.front ++ t) is ∙ sym (append_assoc o.front left (b ∷ [])) ∙ ap (λ (t : List ℕ). t ++ b ∷ []) (sym o.are)

  pub open_made : {x : List ℕ} → decode_form form g ≡ Some x → decode_form form (digits ++ b ∷ []) ≡ Some (bytes ++ x)
  open_made some = ap (decode_form form) (sym same) ∙ on_some o.continues g some

  pub open_whole : {x : List ℕ} → decode_form form g ≡ Some x → IsBytes x → width form ≤ length x + 1 → IsOpen form (digits ++ b ∷ []) [] (bytes ++ x)
  open_whole {x} some are least = record {
    front = o.front ++ g;
    are = sym same ∙ sym (append-nil (o.front ++ g));
    few = some_width form;
    continues = goes_further o.continues g long plain (group_known form g x long plain are least some);
  }

  pub open_padded : {x : List ℕ} → decode_form form g ≡ Some x → length x + 1 < width form → IsPadded form (digits ++ b ∷ []) (bytes ++ x)
  open_padded {x} some few = subst (λ (t : List ℕ). IsPadded form t (bytes ++ x)) same (group_padded o.continues g long plain some few)

  pub open_spoilt : decode_form form g ≡ None → IsSpoilt form (digits ++ b ∷ []) bytes
  open_spoilt none = subst (λ (t : List ℕ). IsSpoilt form t bytes) same (group_spoilt o.continues g long plain none)

-- a digit put behind those of a group makes it whole
pub filled : (ds : List ℕ) (count w b : ℕ) → w ≡ count + 1 → w ≤ length ds → (take w (slice_set ds count b) ≡ take count ds ++ b ∷ [])
    × (length (take w (slice_set ds count b)) ≡ w)
filled ds count w b is le =
    (take-set_at ds count w b is (omega (arith, is, le)), length-take-le w (slice_set ds count b) (omega (arith, le, length-set ds count b)))

-- a digit behind padding
pub padded_more : {form : Form} {digits bytes : List ℕ} (b : ℕ) → IsPadded form digits bytes → IsSpoilt form (digits ++ b ∷ []) bytes
padded_more {form} {digits} b p = record {
  front = digits;
  bad = b ∷ [];
  more = [];
  are = refl;
  whole = p.whole;
  made = p.made;
  few = omega (arith, some_width form);
  none = λ rest. p.last b rest;
}

-- or behind digits that are no bytes
pub spoilt_more : {form : Form} {digits bytes : List ℕ} (b : ℕ) → IsSpoilt form digits bytes → IsSpoilt form (digits ++ b ∷ []) bytes
spoilt_more b p = record {
  front = p.front;
  bad = p.bad;
  more = p.more ++ b ∷ [];
  are = ap (λ (t : List ℕ). t ++ b ∷ []) p.are ∙ append_assoc p.front (p.bad ++ p.more) (b ∷ [])
      ∙ ap (λ (t : List ℕ). p.front ++ t) (append_assoc p.bad p.more (b ∷ []));
  whole = p.whole;
  made = p.made;
  few = p.few;
  none = p.none;
}

-- groups that begin with what is spoilt
begins_with : (bad more groups others : List ℕ) → bad ++ more ≡ groups ++ others → length bad ≤ length groups → groups ≡ bad ++ drop (length bad) groups
begins_with bad more groups others is le =
    let front : take (length bad) groups ≡ bad = sym (take-append-le (length bad) groups others le) ∙ ap (take (length bad)) (sym is)
    ∙ take-append_seam bad more in
    sym (take-append-drop (length bad) groups) ∙ ap (λ (t : List ℕ). t ++ drop (length bad) groups) front

-- whatever is known of digits, it says their bytes
pub knows_makes : (phase : Phase) (form : Form) (digits left bytes : List ℕ) → Knows phase form digits left bytes → Makes form digits bytes
knows_makes Groups form digits left bytes o = record {
  front = o.front;
  left = left;
  are = o.are;
  whole = o.continues.whole;
  made = goes_made o.continues;
  most = λ groups more is some whole. absurd (omega (
    arith,
    least_group form (length groups) some whole,
    o.few,
    ap (λ (t : List ℕ). length t) is,
    length-append groups more,
  ));
}
knows_makes Padded form digits left bytes p = record {
  front = digits;
  left = [];
  are = sym (append-nil digits);
  whole = p.whole;
  made = p.made;
  most = λ groups more is some whole. absurd (omega (arith, some, ap (λ (t : List ℕ). length t) is, length-append groups more));
}
knows_makes Spoilt form digits left bytes p = record {
  front = p.front;
  left = p.bad ++ p.more;
  are = p.are;
  whole = p.whole;
  made = p.made;
  most = λ groups more is some whole.
      let least = least_group form (length groups) some whole in
      ap (λ (t : List ℕ). decode_form form (p.front ++ t)) (begins_with p.bad p.more groups more is (omega (arith, least, p.few)))
      ∙ p.none (drop (length p.bad) groups);
}

-- ---- one character

-- a decoder takes one that counts
pub counted_takes :
    {old : Decoder} {s bytes : List ℕ} {b : ℕ} {rest : List ℕ} {then_ : LinePart} (new : Decoder) (made : Made)
    → Holds old s bytes (b ∷ rest)
    → step old.form old.part b (slice_index rest 0) ≡ Counts then_
    → ((digits all : List ℕ) → Knows old.phase old.form digits (open_digits old) all → Yields new (digits ++ b ∷ []) all made)
    → new.form ≡ old.form
    → new.part ≡ then_
    → Takes old new s bytes b rest made
counted_takes {old} {s} {bytes} {b} {rest} {then_} new made h is yields form part = by made (yields h.digits bytes h.knows)
  where
    reads : Reads new.form (first_part new.form) s (h.digits ++ b ∷ []) new.part rest
    reads = rw (form, part) (counts h.digits (h.digits ++ b ∷ []) old.part then_ b rest h.reads is refl)

    by : (m : Made) → Yields new (h.digits ++ b ∷ []) bytes m → Takes old new s bytes b rest m
    by Nothing c = record { digits = h.digits ++ b ∷ []; reads = reads; knows = c }
    by (Bytes g) c = (record { digits = h.digits ++ b ∷ []; reads = reads; knows = c.0 }, c.1)
    by (Failed why) c = absurd c

-- a decoder that knows what another does, but for the character that waits
pub record Same (new old : Decoder) : Type 0 where
  pub form : new.form ≡ old.form
  pub part : new.part ≡ old.part
  pub phase : new.phase ≡ old.phase
  pub begun : open_digits new ≡ open_digits old

-- it holds what the other read, whatever the part is
pub holds_as : {new : Decoder} {s bytes digits rest : List ℕ} {part : LinePart} (old : Decoder) → new.form ≡ old.form → new.part ≡ part → new.phase ≡ old.phase
    → open_digits new ≡ open_digits old
    → Reads old.form (first_part old.form) s digits part rest
    → Knows old.phase old.form digits (open_digits old) bytes
    → Holds new s bytes rest
holds_as {new} {s} {bytes} {digits} {rest} {part} old form part_is phase begun_is reads knows = record {
  digits = digits;
  reads = rw (form, part_is) reads;
  knows = rw (phase, form, begun_is) knows;
}

same_holds : {new old : Decoder} {s bytes rest : List ℕ} → Same new old → Holds old s bytes rest → Holds new s bytes rest
same_holds {old = old} same h = holds_as old same.form same.part same.phase same.begun h.reads h.knows

-- or one that doesn't
pub skipped_takes : {old new : Decoder} {s bytes : List ℕ} {b : ℕ} {rest : List ℕ} {then_ : LinePart}
    → Holds old s bytes (b ∷ rest)
    → step old.form old.part b (slice_index rest 0) ≡ Skips then_
    → new.form ≡ old.form
    → new.part ≡ then_
    → new.phase ≡ old.phase
    → open_digits new ≡ open_digits old
    → Holds new s bytes rest
skipped_takes {old} {b = b} {rest} {then_} h is form part phase begun_is =
    holds_as old form part phase begun_is (skips h.digits old.part then_ b rest h.reads is) h.knows

-- what a decoder has read
abbrev pub holds_bytes : {d : Decoder} {s bytes rest : List ℕ} → Holds d s bytes rest → ReadsBytes d.form s bytes rest
holds_bytes {d} {bytes = bytes} h =
    record { digits = h.digits; part = d.part; reads = h.reads; makes = knows_makes d.phase d.form h.digits (open_digits d) bytes h.knows }

-- ---- a decoder

no_digits : (form : Form) → IsOpen form [] [] []
no_digits form = record {
  front = [];
  are = refl;
  few = some_width form;
  continues = record { whole = by_zero; on = λ rest. nothing_in_front (decode_form form rest) };
}
  where
    by_zero : 0 % width form ≡ 0
    by_zero = omega arith

-- in front of a text
pub starts_reading : (d : Decoder) (mark : ℕ) → d.part ≡ first_part d.form → d.phase ≡ Groups → d.count ≡ 0 → d.waiting ≡ None → d.offset ≡ mark
    → Reading d mark [] []
starts_reading d mark part phase count waiting offset = record {
  reads = λ more. record {
    digits = [];
    reads = rw (waiting, part) begins;
    knows = rw (phase, count) (no_digits d.form);
  };
  start = λ e. (refl, refl);
  at = omega (arith, offset, ap (λ (w : Option ℕ). length (one_or_none w)) waiting);
}

-- the character that waits was taken
module _ {d : Decoder} {mark : ℕ} {s bytes : List ℕ} {w : ℕ} (mid : Decoder) (r : Reading d mark s bytes) (is : d.waiting ≡ Some w) where
  -- a character can't stand where it does
  here : {t rest : List ℕ} → Holds d t bytes (w ∷ rest) → length t ≡ length s + length rest → {why : Undecoded} → Takes d mid t bytes w rest (Failed why)
      → Stuck d.form mark t bytes why
  here {t} {rest} h len wrong =
      let at : d.offset + length (w ∷ rest) ≡ mark + length t = omega (arith, r.at, ap (λ (o : Option ℕ). length (one_or_none o)) is, len) in
      subst (Stuck d.form mark t bytes) (sym wrong.1) (record { rest = rest; reads = holds_bytes h; wrong = wrong.0; at = at })

  -- in front of the character that came
  pub waits : (b : ℕ) (more : List ℕ) → Holds d (s ++ b ∷ more) bytes (w ∷ b ∷ more)
  waits b more = subst (λ (o : Option ℕ). Holds d (s ++ b ∷ more) bytes (one_or_none o ++ b ∷ more)) is (r.reads (b ∷ more))

  module _ {b : ℕ} {new : Decoder} (offset : mid.offset ≡ d.offset) (kept : Same new mid) (waiting : new.waiting ≡ Some b)
      (further : new.offset ≡ mid.offset + 1)
    where
      took : {all : List ℕ} → ((more : List ℕ) → Holds mid (s ++ b ∷ more) all (b ∷ more)) → Reading new mark (s ++ b ∷ []) all
      took {all} holds = record {
        reads = λ more. same_holds kept (rw (waiting, append_assoc s (b ∷ []) more) (holds more));
        start = λ e. cc (sym e ∙ waiting);
        at = omega (
          arith,
          r.at,
          offset,
          further,
          ap (λ (o : Option ℕ). length (one_or_none o)) is,
          ap (λ (o : Option ℕ). length (one_or_none o)) waiting,
          length-append s (b ∷ []),
        );
      }

      pub pushes : (made : Made) → ((more : List ℕ) → Takes d mid (s ++ b ∷ more) bytes w (b ∷ more) made) → Pushes d new mark s b bytes made
      pushes Nothing takes = took takes
      pushes (Bytes g) takes = took (λ more. (takes more).0)
      pushes (Failed why) takes = λ more. here (waits b more) (length-append s (b ∷ more)) (takes more)

  -- or at the end
  pub last_taken : Holds d s bytes (w ∷ [])
  last_taken = subst (λ (t : List ℕ). Holds d t bytes (w ∷ [])) (append-nil s)
      (subst (λ (o : Option ℕ). Holds d (s ++ []) bytes (one_or_none o ++ [])) is (r.reads []))

  module _ (form : mid.form ≡ d.form) where
    pub finishes_with : (made : Made) → made ≢ Nothing → Takes d mid s bytes w [] made → Finishes d.form mark s bytes made
    finishes_with Nothing other takes = absurd (other refl)
    finishes_with (Bytes g) other takes = subst (λ (f : Form). AllBytes f s (bytes ++ bytes_in g)) form
        (record { digits = takes.0.digits; part = mid.part; reads = takes.0.reads; are = takes.1 })
    finishes_with (Failed why) other takes = here last_taken (omega arith) takes

    pub finishes : (made : Made) → mid.offset ≡ d.offset → (h : Holds mid s bytes []) → Ends mid h.digits bytes made → Finishes d.form mark s bytes made
    finishes made offset h ends = subst (λ (f : Form). Finishes f mark s bytes made) form (by made ends)
      where
        by : (m : Made) → Ends mid h.digits bytes m → Finishes mid.form mark s bytes m
        by Nothing e = record { digits = h.digits; part = mid.part; reads = h.reads; are = e }
        by (Bytes g) e = record { digits = h.digits; part = mid.part; reads = h.reads; are = e }
        by (Failed why) e = subst (Stuck mid.form mark s bytes) (sym e.1)
            (record { reads = holds_bytes h; none = e.0; at = omega (arith, r.at, offset, ap (λ (o : Option ℕ). length (one_or_none o)) is) })

-- a text without a character
pub none_finishes : {d : Decoder} {mark : ℕ} {s bytes : List ℕ} → Reading d mark s bytes → d.waiting ≡ None → AllBytes d.form s bytes
none_finishes {d} r none =
    let start = r.start none in
    rw (start.0, start.1) (record { digits = []; part = first_part d.form; reads = begins; are = nothing d.form })

-- ---- characters one by one

some_same : {x y : Undecoded} → ◌≡◌ {A = Option Undecoded} (Some x) (Some y) → x ≡ y
some_same e = cc e

module _
    {d0 d1 : Decoder} {h0 h1 : List ℕ} (d2 : Decoder) (piece : List ℕ) (i : ℕ) (made : Made)
    (g : Grows h0 h1 (λ came. (mark : ℕ) (s all : List ℕ) → Reading d0 mark s all → Reading d1 mark (s ++ take i piece) (all ++ came)))
    (inside : i < length piece)
    (pushed : (mark : ℕ) (s bytes : List ℕ) → Reading d1 mark s bytes → Pushes d1 d2 mark s (slice_index piece i) bytes made)
  where
    joined : (s : List ℕ) → (s ++ take i piece) ++ slice_index piece i ∷ [] ≡ s ++ take (i + 1) piece
    joined s = append_assoc s (take i piece) (slice_index piece i ∷ []) ∙ ap (λ (t : List ℕ). s ++ t) (sym (take_at_read piece i 0 inside).1)

    -- the rest behind it
    rest_of : (s more : List ℕ) → (s ++ take i piece) ++ slice_index piece i ∷ (drop (i + 1) piece ++ more) ≡ (s ++ piece) ++ more
    rest_of s more = sym (append_assoc (s ++ take i piece) (slice_index piece i ∷ []) (drop (i + 1) piece ++ more))
        ∙ ap (λ (t : List ℕ). t ++ (drop (i + 1) piece ++ more)) (joined s)
        ∙ append_assoc s (take (i + 1) piece) (drop (i + 1) piece ++ more)
        ∙ ap (λ (t : List ℕ). s ++ t) (sym (append_assoc (take (i + 1) piece) (drop (i + 1) piece) more)
        ∙ ap (λ (t : List ℕ). t ++ more) (take-append-drop (i + 1) piece))
        ∙ sym (append_assoc s piece more)

    -- one that is no error
    pub piece_more : {h2 : List ℕ} {w : Option Undecoded} → w ≡ None → Puts h1 h2 made (Ok w)
        → Grows h0 h2 (λ came. (mark : ℕ) (s all : List ℕ) → Reading d0 mark s all → Reading d2 mark (s ++ take (i + 1) piece) (all ++ came))
    piece_more {h2} is h = by made pushed (rw is at h)
      where
        by : (m : Made) → ((mark : ℕ) (s bytes : List ℕ) → Reading d1 mark s bytes → Pushes d1 d2 mark s (slice_index piece i) bytes m) → Puts h1 h2 m (Ok None)
            → Grows h0 h2 (λ came. (mark : ℕ) (s all : List ℕ) → Reading d0 mark s all → Reading d2 mark (s ++ take (i + 1) piece) (all ++ came))
        by Nothing push put = record {
          came = g.came;
          are = put.1 ∙ g.are;
          holds = λ mark s all r. subst (λ (t : List ℕ). Reading d2 mark t (all ++ g.came)) (joined s)
              (push mark (s ++ take i piece) (all ++ g.came) (g.holds mark s all r));
        }
        by (Bytes x) push put = record {
          came = g.came ++ bytes_in x;
          are = put.1 ∙ ap (λ (t : List ℕ). t ++ bytes_in x) g.are ∙ append_assoc h0 g.came (bytes_in x);
          holds = λ mark s all r.
              subst (Reading d2 mark (s ++ take (i + 1) piece)) (append_assoc all g.came (bytes_in x))
              (subst (λ (t : List ℕ). Reading d2 mark t ((all ++ g.came) ++ bytes_in x)) (joined s)
              (push mark (s ++ take i piece) (all ++ g.came) (g.holds mark s all r)));
        }
        by (Failed why) push put = cc put.0

    -- an error
    pub piece_wrong : {h2 : List ℕ} {w : Option Undecoded} {why : Undecoded} → w ≡ Some why → Puts h1 h2 made (Ok w) → d2.form ≡ d1.form
        → Grows h0 h2 (λ came. (mark : ℕ) (s all : List ℕ) → Reading d0 mark s all → DecodesPiece d2 mark s piece (all ++ came) (Ok (Some why)))
    piece_wrong {h2} {why = why} is h form = by made pushed (rw is at h)
      where
        by : (m : Made) → ((mark : ℕ) (s bytes : List ℕ) → Reading d1 mark s bytes → Pushes d1 d2 mark s (slice_index piece i) bytes m)
            → Puts h1 h2 m (Ok (Some why))
            → Grows h0 h2 (λ came. (mark : ℕ) (s all : List ℕ) → Reading d0 mark s all → DecodesPiece d2 mark s piece (all ++ came) (Ok (Some why)))
        by (Failed other) push put = record {
          came = g.came;
          are = put.1 ∙ g.are;
          holds = λ mark s all r more.
              let stuck = push mark (s ++ take i piece) (all ++ g.came) (g.holds mark s all r) (drop (i + 1) piece ++ more) in
              let here = subst (λ (t : List ℕ). Stuck d1.form mark t (all ++ g.came) other) (rest_of s more) stuck in
              let now = subst (λ (f : Form). Stuck f mark ((s ++ piece) ++ more) (all ++ g.came) other) (sym form) here in
              subst (Stuck d2.form mark ((s ++ piece) ++ more) (all ++ g.came)) (some_same (sym put.0)) now;
        }
        by m push put = cc put.0

    -- or memory ran out
    pub piece_fails : {h2 : List ℕ} (d : Decoder) {why : RunError} → Puts h1 h2 made (Err why)
        → Grows h0 h2 (λ came. (mark : ℕ) (s all : List ℕ) → Reading d0 mark s all → DecodesPiece d mark s piece (all ++ came) (Err why))
    piece_fails d h = record { came = g.came; are = h.1 ∙ g.are; holds = λ mark s all r. h.0 }

module _
    {d0 d1 : Decoder} {h0 h1 : List ℕ} (d2 : Decoder) (piece : List ℕ)
    (g : Grows h0 h1 (λ came. (mark : ℕ) (s all : List ℕ) → Reading d0 mark s all → Reading d1 mark (s ++ piece) (all ++ came)))
    (form : d2.form ≡ d1.form)
  where
    all_there : {s all : List ℕ} → AllBytes d1.form s all → AllBytes d2.form s all
    all_there {s} {all} h = subst (λ (f : Form). AllBytes f s all) (sym form) h

    -- the text ended behind characters that were read
    pub more_ended : {h2 : List ℕ} (made : Made) (r : Result (Option Undecoded) RunError)
        → ((mark : ℕ) (s bytes : List ℕ) → Reading d1 mark s bytes → Finishes d1.form mark s bytes made)
        → Puts h1 h2 made r
        → Grows h0 h2 (λ came. (mark : ℕ) (s all : List ℕ) → Reading d0 mark s all → DecodesMore d2 mark s piece true (all ++ came) r)
    more_ended Nothing (Ok None) end h = record {
      came = g.came;
      are = h.1 ∙ g.are;
      holds = λ mark s all q. all_there (end mark (s ++ piece) (all ++ g.came) (g.holds mark s all q));
    }
    more_ended (Bytes x) (Ok None) end h = record {
      came = g.came ++ bytes_in x;
      are = h.1 ∙ ap (λ (t : List ℕ). t ++ bytes_in x) g.are ∙ append_assoc h0 g.came (bytes_in x);
      holds = λ mark s all q. subst (AllBytes d2.form (s ++ piece)) (append_assoc all g.came (bytes_in x))
          (all_there (end mark (s ++ piece) (all ++ g.came) (g.holds mark s all q)));
    }
    more_ended (Failed other) (Ok (Some why)) end h = record {
      came = g.came;
      are = h.1 ∙ g.are;
      holds = λ mark s all q more none.
          let stuck = end mark (s ++ piece) (all ++ g.came) (g.holds mark s all q) in
          let now = subst (λ (f : Form). Stuck f mark (s ++ piece) (all ++ g.came) other) (sym form) stuck in
          let same : (s ++ piece) ++ more ≡ s ++ piece = ap (λ (t : List ℕ). (s ++ piece) ++ t) (none refl) ∙ append-nil (s ++ piece) in
          subst (λ (t : List ℕ). Stuck d2.form mark t (all ++ g.came) why) (sym same) (subst (Stuck d2.form mark (s ++ piece) (all ++ g.came))
          (some_same (sym h.0)) now);
    }
    more_ended made (Err why) end h = record { came = g.came; are = h.1 ∙ g.are; holds = λ mark s all q. h.0 }
    more_ended made (Ok r) end h = cc h.0
