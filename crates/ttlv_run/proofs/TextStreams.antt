-- A text of digits that is decoded and printed as it comes.
use Rattle.std.proofs.Common.{◌≡◌, ◌⊎◌, inl, inr, ℕ, ◌+◌, ◌≤◌, Bool, true, false, List, [], ◌∷◌, ◌++◌, length, take, drop, Some, None, Option, Ok, ap, sym}
use Rattle.std.proofs.Common.{refl, subst, ◌∙◌, arith, append-nil, append_assoc, length-append, nat_eq}
use Rattle.kmip_ttlv_types.specs.Held.{Held, Gets}
use Rattle.std.specs.Io.KnownBytes.{Consumes, IsAtEnd, Keeps}
use Rattle.std.proofs.{KnownBytes.Consumes-trans, KnownBytes.Consumes-kept, lemmas.Bool.le-ltb, lemmas.Bool.eqb-true, lemmas.List.take-append-drop}
use Rattle.std.proofs.{Math.Seq.drop-append_seam}
use Rattle.kmip_ttlv_items.specs.ItemWalks.{AreBytes}
use Rattle.kmip_ttlv_util.specs.Pieces.{SomeText}
use Rattle.ttlv_run.specs.declared.{coding.Undecoded.Undecoded, decoder.Decoder.Decoder, form.Form.Form, form.LinePart.LinePart, job.Encoding.Encoding}
use Rattle.ttlv_run.specs.declared.{job.Job.Job, messages.Reached.Reached, messages.Reached.TheVariants.Behind, misread.MisreadKind.MisreadKind}
use Rattle.ttlv_run.specs.declared.{misread.MisreadKind.TheVariants.NoDigit, misread.MisreadKind.TheVariants.WrongCount, run_error.RunError.RunError}
use Rattle.ttlv_run.specs.declared.{run_error.RunError.TheVariants.MisreadInput, run_error.RunError.TheVariants.NoMemory}
use Rattle.ttlv_run.specs.Columns.{first_part, mark_length, body, Reads, begins, counts, skips}
use Rattle.ttlv_run.specs.Decoding.{one_or_none, Reading, StuckBy, Stuck, AllBytes, Grows, DecodesLast, DecodesMore, is_last}
use Rattle.ttlv_run.specs.Fronts.{front_size, taken_as, ReadsBytes, DecodesTo, StandsFrontIn}
use Rattle.ttlv_run.specs.Inputs.{TakesSome, IsUnread, IsMisread, form_of, is_detected, encoding_of, StandsIn, Stands}
use Rattle.ttlv_run.specs.Runs.{streams, FrontsIn, Fails}
use Rattle.ttlv_run.specs.Streaming.{EndsAt, PrintsOn, YieldsBy}
use Rattle.ttlv_run.specs.Texts.{Names}
use Rattle.ttlv_run.proofs.{Decided.unread_by, Decoders.holds_bytes}
use Rattle.ttlv_run.proofs.FrontsDecided.{Decided, either_by, decided_on, four_least, body_on, taken_is}
use Rattle.ttlv_run.proofs.Windows.{Left, left_of, Shown, AllPrinted, Standing, Further, more_shown, printed_all, fronts, no_memory}

-- what is left of a text that is read stands at its end
pub rest_behind : (form : Form) (first : LinePart) (s ds : List ℕ) (part : LinePart) (rest : List ℕ) → Reads form first s ds part rest → (front : List ℕ)
    × (s ≡ front ++ rest)
rest_behind form first s ds part rest begins = ([], refl)
rest_behind form first s ds part rest (counts digits more at then_ b others r is all) =
    let p = rest_behind form first s digits at (b ∷ others) r in
    (p.0 ++ b ∷ [], p.1 ∙ sym (append_assoc p.0 (b ∷ []) others))
rest_behind form first s ds part rest (skips digits at then_ b others r is) =
    let p = rest_behind form first s digits at (b ∷ others) r in
    (p.0 ++ b ∷ [], p.1 ∙ sym (append_assoc p.0 (b ∷ []) others))

at_place : (m s front rest : List ℕ) (place mark : ℕ) → s ≡ front ++ rest → length m ≡ mark → place + length rest ≡ mark + length s → drop place (m ++ s) ≡ rest
at_place m s front rest place mark is long at =
    let here : place ≡ length (m ++ front) = omega (arith, at, long, ap (λ (t : List ℕ). length t) is, length-append front rest, length-append m front) in
    ap (λ (t : List ℕ). drop place (m ++ t)) is ∙ ap (drop place) (sym (append_assoc m front rest)) ∙ ap (λ (n : ℕ). drop n ((m ++ front) ++ rest)) here
    ∙ drop-append_seam (m ++ front) rest

-- what is known of the characters of a text that came, a mark and others
pub record TextInput (e : Encoding) (form : Form) (known now : Option (List ℕ)) (m s : List ℕ) (ended : Bool) : Type 0 where
  pub consumed : Consumes known now (m ++ s)
  pub at_end : ended ≡ true → IsAtEnd now
  pub enough : ended ≡ false → front_size e (m ++ s) ≤ length (m ++ s)
  pub reported : form_of (encoding_of e (m ++ s)) ≡ Some form
  pub body_is : body (m ++ s) ≡ s

module _ {e : Encoding} {form : Form} {known now : Option (List ℕ)} {m s : List ℕ} {ended : Bool} (i : TextInput e form known now m s ended) where
  module _ {more : List ℕ} (none : ended ≡ true → more ≡ []) where
    same : (m ++ s) ++ more ≡ m ++ (s ++ more)
    same = append_assoc m s more

    long : (front_size e (m ++ s) ≤ length (m ++ s)) ⊎ (more ≡ [])
    long = either_by ended none i.enough

    four : (4 ≤ length (m ++ s)) ⊎ (more ≡ [])
    four = elim long [ inl le ↦ inl (omega (arith, le, four_least e (m ++ s))) | inr is ↦ inr is ]

    still : Decided e (m ++ s) more
    still = decided_on e (m ++ s) more long

    pub decided_still : form_of (encoding_of e (m ++ (s ++ more))) ≡ Some form
    decided_still = ap (λ (t : List ℕ). form_of (encoding_of e t)) (sym same) ∙ ap form_of still.encoding ∙ i.reported

    pub body_still : body (m ++ (s ++ more)) ≡ s ++ more
    body_still = ap body (sym same) ∙ body_on (m ++ s) more four ∙ ap (λ (t : List ℕ). t ++ more) i.body_is

    -- stands for what was read of it
    stands_all : {bytes : List ℕ} → AllBytes form (s ++ more) bytes → Stands e (m ++ (s ++ more)) bytes
    stands_all {bytes} all = subst (λ (f : Option Form). StandsIn f (m ++ (s ++ more)) bytes) (sym decided_still) (record {
      digits = all.digits;
      kept = record { last = all.part; reads = subst (λ (t : List ℕ). Reads form (first_part form) t all.digits all.part []) (sym body_still) all.reads };
      are = all.are;
    })

  -- more characters came
  more_text : {next : Option (List ℕ)} {then_ : Bool} (others : List ℕ) → Consumes now next others → ended ≡ false → (then_ ≡ true → IsAtEnd next)
      → TextInput e form known next m (s ++ others) then_
  more_text {next} others consumed unended at_end =
      let none : ended ≡ true → others ≡ [] = λ end. cc in
      record {
        consumed = subst (Consumes known next) (same none) (Consumes-trans known now next (m ++ s) others i.consumed consumed);
        at_end = at_end;
        enough = λ _. omega (arith, i.enough unended, (still none).size, ap (front_size e) (same none), ap length (same none), length-append (m ++ s) others);
        reported = decided_still none;
        body_is = body_still none;
      }

  -- what is left of the input
  abbrev pub left_here : Left now ended
  left_here = left_of now ended i.at_end

  pub takes_some : TakesSome known now (m ++ (s ++ left_here.left))
  takes_some = record { front = m ++ s; left = left_here.left; are = sym (append_assoc m s left_here.left); taken = i.consumed; rest = left_here.are }

  -- bytes of a front
  pub front_standing : {bytes rest : List ℕ} → ReadsBytes form (s ++ left_here.left) bytes rest → Standing e known now bytes false
  front_standing {bytes} {rest} r = record {
    input = m ++ (s ++ left_here.left);
    taken = takes_some;
    stands = subst (λ (f : Option Form). StandsFrontIn f (m ++ (s ++ left_here.left)) bytes) (sym (decided_still left_here.none))
        (rest, subst (λ (t : List ℕ). ReadsBytes form t bytes rest) (sym (body_still left_here.none)) r);
  }

  -- all bytes
  pub all_standing : {bytes : List ℕ} → ended ≡ true → AllBytes form s bytes → Standing e known now bytes true
  all_standing {bytes} end all = record {
    input = m ++ (s ++ left_here.left);
    taken = takes_some;
    stands = stands_all left_here.none
        (subst (λ (t : List ℕ). AllBytes form t bytes) (sym (ap (λ (t : List ℕ). s ++ t) (left_here.none end) ∙ append-nil s)) all);
  }

  pub all_stand : {bytes : List ℕ} → AllBytes form s bytes → Stands e (m ++ s) bytes
  all_stand {bytes} all = subst (λ (t : List ℕ). Stands e (m ++ t) bytes) (append-nil s)
      (stands_all (λ _. refl) (subst (λ (t : List ℕ). AllBytes form t bytes) (sym (append-nil s)) all))

-- a decoder of this form has read a text
reads_on : {d : Decoder} {form : Form} {mark : ℕ} {s bytes : List ℕ} → d.form ≡ form → Reading d mark s bytes → (more : List ℕ)
    → ReadsBytes form (s ++ more) bytes (one_or_none d.waiting ++ more)
reads_on {d} {s = s} {bytes} is r more =
    subst (λ (f : Form). ReadsBytes f (s ++ more) bytes (one_or_none d.waiting ++ more)) is (holds_bytes (r.reads more))

-- what a decoder has read of all that came: up to the first error, if there is one, or to the end, if the text ended
abbrev pub State : Decoder → ℕ → List ℕ → Bool → List ℕ → Option Undecoded → Type 0
State d mark s ended all None = DecodesLast d mark s ended all
State d mark s ended all (Some why) = (more : List ℕ) → (ended ≡ true → more ≡ []) → Stuck d.form mark (s ++ more) all why

-- what was read in front of an error
stuck_behind : {form : Form} {s bytes : List ℕ} (mark place : ℕ) (kind : MisreadKind) → StuckBy form mark s bytes place kind → (rest : List ℕ)
    × ReadsBytes form s bytes rest
stuck_behind mark place (NoDigit b) h = (b ∷ h.rest, h.reads)
stuck_behind mark place WrongCount h = ([], h.reads)

-- why a text stands for no bytes
misread_at : {form : Form} {bytes : List ℕ} (mark : ℕ) (m s : List ℕ) (place : ℕ) (kind : MisreadKind) → length m ≡ mark → body (m ++ s) ≡ s
    → StuckBy form mark s bytes place kind
    → IsMisread form (m ++ s) place kind × DecodesTo form (m ++ s) bytes (drop place (m ++ s))
misread_at {form} mark m s place (NoDigit b) long body_is h =
    let r = h.reads in
    let p = rest_behind form (first_part form) s r.digits r.part (b ∷ h.rest) r.reads in
    let here : drop place (m ++ s) ≡ b ∷ h.rest = at_place m s p.0 (b ∷ h.rest) place mark p.1 long h.at in (
      record { digits = r.digits; part = r.part; rest = h.rest; reads = rw body_is r.reads; is = sym here; wrong = h.wrong },
      rw (body_is, here) r,
    )
misread_at mark m s place WrongCount long body_is h =
    let r = h.reads in
    let here : drop place (m ++ s) ≡ [] = at_place m s s [] place mark (sym (append-nil s)) long (omega (arith, h.at)) in (
      record {
        digits = r.digits;
        kept = record { last = r.part; reads = rw body_is r.reads };
        at_end = omega (arith, h.at, long, length-append m s);
        none = h.none;
      },
      rw (body_is, here) r,
    )

-- a text, whose mark is apart
pub text_starts :
    {e : Encoding} {form : Form} {known now : Option (List ℕ)} {piece : List ℕ} {ended : Bool} (t : List ℕ) (mark : ℕ)
    → mark ≡ mark_length t
    → piece ≡ drop mark t
    → Consumes known now t
    → form_of (encoding_of e t) ≡ Some form
    → (ended ≡ false → front_size e t ≤ length t)
    → (ended ≡ true → IsAtEnd now)
    → TextInput e form known now (take mark t) piece ended
text_starts {e} {known = known} {now} {piece} t mark mark_is piece_is consumed reported enough at_end =
    let same : take mark t ++ piece ≡ t = ap (λ (p : List ℕ). take mark t ++ p) piece_is ∙ take-append-drop mark t in
    record {
      consumed = subst (Consumes known now) (sym same) consumed;
      at_end = at_end;
      enough = λ end. subst (λ (p : List ℕ). front_size e p ≤ length p) (sym same) (enough end);
      reported = ap (λ (p : List ℕ). form_of (encoding_of e p)) same ∙ reported;
      body_is = ap body same ∙ ap (λ (n : ℕ). drop n t) (sym mark_is) ∙ sym piece_is;
    }

-- what is known of a text that is printed as it comes, in front of characters that were not decoded yet
pub record TextPrinting (names : Names) (job : Job) (form : Form) (known now : Option (List ℕ)) (output output_now : Held) (base : ℕ) (d : Decoder) (mark : ℕ)
    (piece bytes : List ℕ) (ended : Bool) : Type 0 where
  pub m : List ℕ
  pub s : List ℕ
  pub all : List ℕ
  pub long : length m ≡ mark
  pub form_is : d.form ≡ form
  pub reading : Reading d mark s all
  pub input : TextInput job.encoding form known now m (s ++ piece) ended
  pub plain : AreBytes bytes
  pub shown : Shown names job.task output output_now base all bytes

-- and when these are decoded
pub record TextReady (names : Names) (job : Job) (form : Form) (known now : Option (List ℕ)) (output output_now : Held) (base : ℕ) (d : Decoder) (mark : ℕ)
    (bytes : List ℕ) (ended : Bool) (wrong : Option Undecoded) : Type 0 where
  pub m : List ℕ
  pub s : List ℕ
  pub all : List ℕ
  pub long : length m ≡ mark
  pub form_is : d.form ≡ form
  pub state : State d mark s ended all wrong
  pub input : TextInput job.encoding form known now m s ended
  pub shown : Shown names job.task output output_now base all bytes

module _ {names : Names} {job : Job} {form : Form} {known now : Option (List ℕ)} {output mid : Held} {base : ℕ} {d : Decoder} {mark : ℕ} {piece bytes : List ℕ}
    {ended : Bool} (p : TextPrinting names job form known now output mid base d mark piece bytes ended) where
  -- memory ran out for their bytes
  pub memory_before : {can_fail : Bool}
      → Fails names job (streams can_fail known now output mid) NoMemory
  memory_before =
      let left = (left_here p.input).left in
      let there = subst (λ (t : List ℕ). ReadsBytes form t p.all (one_or_none d.waiting ++ (piece ++ left))) (sym (append_assoc p.s piece left))
      (reads_on p.form_is p.reading (piece ++ left)) in
      inr (no_memory p.shown p.plain (front_standing p.input there))

  pub ready : {after b : List ℕ} (then_ : Decoder) (wrong : Option Undecoded)
      → Grows bytes after (λ came. (mark : ℕ) (s all : List ℕ) → Reading d mark s all → DecodesMore then_ mark s piece ended (all ++ came) (Ok wrong))
      → then_.form ≡ d.form
      → b ≡ after
      → TextReady names job form known now output mid base then_ mark b ended wrong
  ready then_ wrong grows same is = record {
    m = p.m;
    s = p.s ++ piece;
    all = p.all ++ grows.came;
    long = p.long;
    form_is = same ∙ p.form_is;
    state = by wrong (grows.holds mark p.s p.all p.reading);
    input = p.input;
    shown = subst (Shown names job.task output mid base (p.all ++ grows.came)) (sym (is ∙ grows.are)) (more_shown p.shown grows.came);
  }
    where
      by : (w : Option Undecoded) → DecodesMore then_ mark p.s piece ended (p.all ++ grows.came) (Ok w)
          → State then_ mark (p.s ++ piece) ended (p.all ++ grows.came) w
      by None h = h
      by (Some why) h = h

module _ {names : Names} {job : Job} {form : Form} {known now : Option (List ℕ)} {output mid : Held} {base : ℕ} {d : Decoder} {mark : ℕ} {bytes : List ℕ}
    {ended : Bool} {wrong : Option Undecoded} (r : TextReady names job form known now output mid base d mark bytes ended wrong) where
  -- the input, and what it stands for
  abbrev left : Left now ended
  left = left_here r.input

  -- where an error is
  stuck_here : (why : Undecoded) → ((more : List ℕ) → (ended ≡ true → more ≡ []) → Stuck d.form mark (r.s ++ more) r.all why)
      → StuckBy form mark (r.s ++ left.left) r.all why.offset why.kind
  stuck_here why stuck =
      subst (λ (f : Form). StuckBy f mark (r.s ++ left.left) r.all why.offset why.kind) r.form_is (stuck left.left left.none)

  pub ready_standing : {last : Bool} → last ≡ is_last ended wrong → Standing job.encoding known now r.all last
  ready_standing last_is = subst (Standing job.encoding known now r.all) (sym last_is) (by wrong ended refl r.state)
    where
      by : (w : Option Undecoded) (b : Bool) → b ≡ ended → State d mark r.s b r.all w → Standing job.encoding known now r.all (is_last b w)
      by (Some why) b is stuck = front_standing r.input
          (stuck_behind mark why.offset why.kind (stuck_here why (λ more none. stuck more (λ yes. none (sym is ∙ yes))))).1
      by None true is all = all_standing r.input (sym is) (subst (λ (f : Form). AllBytes f r.s r.all) r.form_is all)
      by None false is reading = front_standing r.input (reads_on r.form_is reading left.left)

  last_decoded : {b : Bool} → wrong ≡ None → ended ≡ b → DecodesLast d mark r.s b r.all
  last_decoded is end = subst (λ (b : Bool). DecodesLast d mark r.s b r.all) end (subst (State d mark r.s ended r.all) is r.state)

  module _ {new : Held} {place : ℕ} {rest : List ℕ} (f : Further names job.task output new place r.all rest) where
    -- an error, behind whole messages
    pub wrong_there : {can_fail : Bool} {why : Undecoded} → wrong ≡ Some why
        → Fails names job (streams can_fail known now output new)
        (MisreadInput (record { taken = taken_as form; guessed = is_detected job.encoding; offset = why.offset; kind = why.kind }))
    wrong_there {why = why} is =
        let all = r.s ++ left.left in
        let form_is = decided_still r.input left.none in
        let taken = taken_is (encoding_of job.encoding (r.m ++ all)) form form_is in
        let at = misread_at mark r.m all why.offset why.kind r.long (body_still r.input left.none)
        (stuck_here why (subst (State d mark r.s ended r.all) is r.state)) in
        record {
          input = r.m ++ all;
          misreads = record { form = form; is = form_is; taken = taken; guessed = refl; misread = at.0 };
          taken = takes_some r.input;
          fronts = record { bytes = r.all; decodes = at.1; fronts = fronts f.shown f.none };
        }

    module _ (is : wrong ≡ None) (unended : ended ≡ false) where
      -- reading failed, or memory ran out for it
      pub text_read_fails : (can_fail : Bool) (next : Option (List ℕ)) (why : RunError) → IsUnread can_fail why → Keeps now next
          → Fails names job (streams can_fail known next output new) why
      text_read_fails can_fail next why h keeps =
          unread_by (Fails names job (streams can_fail known next output new)) why h (λ can. (
            can,
            record {
              bytes = r.m ++ r.s;
              taken = kept.consumed;
              fronts = rw (le-ltb (length (r.m ++ r.s)) (front_size job.encoding (r.m ++ r.s)) (r.input.enough unended), r.input.reported) all_but_one;
            },
          )) (inr (no_memory f.shown f.plain (front_standing kept (reads_on r.form_is (last_decoded is unended) (left_here kept).left))))
        where
          kept : TextInput job.encoding form known next r.m r.s false
          kept = record {
            consumed = Consumes-kept known now next (r.m ++ r.s) r.input.consumed keeps;
            at_end = λ end. cc;
            enough = λ _. r.input.enough unended;
            reported = r.input.reported;
            body_is = r.input.body_is;
          }

          one : (o : Option ℕ) → length (one_or_none o ++ []) ≤ 1
          one None = omega arith
          one (Some b) = omega arith

          all_but_one : FrontsIn (Some form) names job.task (r.m ++ r.s) output new
          all_but_one = (
            one_or_none d.waiting ++ [],
            one d.waiting,
            record {
              bytes = r.all;
              decodes = subst (λ (t : List ℕ). ReadsBytes form t r.all (one_or_none d.waiting ++ [])) (append-nil r.s ∙ sym r.input.body_is)
                  (reads_on r.form_is (last_decoded is unended) []);
              fronts = fronts f.shown f.none;
            },
          )

      -- more characters came
      pub more_characters : {next : Option (List ℕ)} {before piece b : List ℕ} {count : ℕ} → before ≡ [] → YieldsBy now next before piece count → b ≡ rest
          → TextPrinting names job form known next output new place d mark piece b (nat_eq count 0)
      more_characters {next} {count = count} none y b_is = record {
        m = r.m;
        s = r.s;
        all = r.all;
        long = r.long;
        form_is = r.form_is;
        reading = last_decoded is unended;
        input = rw (y.yields.are, none) (more_text r.input y.yields.came y.yields.consumed unended (λ end. y.ended (eqb-true count 0 end)));
        plain = subst AreBytes (sym b_is) f.plain;
        shown = subst (Shown names job.task output new place r.all) (sym b_is) f.shown;
      }

  -- all is printed
  pub text_printed : {can_fail : Bool} {new : Held} {last : Bool} {reached : Reached} {count : ℕ} → last ≡ is_last ended wrong → wrong ≡ None → ended ≡ true
      → reached ≡ Behind count → EndsAt bytes last reached → SomeText (PrintsOn names job.task base bytes last reached) (Gets mid new)
      → AllPrinted names job (streams can_fail known now output new) (base + count)
  text_printed last_is is end at ends reported =
      let all : AllBytes form r.s r.all = subst (λ (f : Form). AllBytes f r.s r.all) r.form_is (last_decoded is end) in
      printed_all r.shown reported at ends (last_is ∙ ap (is_last ended) is ∙ end) (record { taken = r.input.consumed; ended = r.input.at_end end })
      (all_stand r.input all)
