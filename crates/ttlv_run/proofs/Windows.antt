-- Messages among bytes that stand among those of all messages, and an input that comes piece by piece.
use Rattle.std.proofs.Common.{◌≡◌, ◌⊎◌, inl, inr, ℕ, ◌+◌, ◌-◌, ◌<◌, ◌≤◌, Bool, true, false, ◌&&◌, if◌then◌else◌, List, [], ◌++◌, length, take, drop, take-add}
use Rattle.std.proofs.Common.{get_or, Some, None, Option, Ok, Err, ◌==◌, IfSome, ap, sym, refl, subst, ◌∙◌, arith, append-nil, append_assoc, nat_eq}
use Rattle.std.specs.Prelude.{◌||◌, nat_le, nat_lt}
use Rattle.std.specs.Io.KnownBytes.{Consumes, IsAtEnd, Keeps}
use Rattle.std.proofs.KnownBytes.{Consumes-trans, Consumes-kept}
use Rattle.std.proofs.lemmas.Bool.{cases_lt, or_cases, eqb-true, leb-true, le-leb, ltb-true, le-ltb, and_parts}
use Rattle.std.proofs.lemmas.List.{take-append-drop, get_or-take, get_or-drop, get_or_past, get_or_append_left, get_or-append_right, take-append-le}
use Rattle.std.proofs.lemmas.List.{drop-append-le, nil_from_length, length-append, length-drop, length-take-le, drop-drop}
use Rattle.kmip_ttlv_types.specs.{Places.length_at, Held.Held, Held.Gets}
use Rattle.kmip_ttlv_types.proofs.Held.{gets_none, gets_both}
use Rattle.kmip_ttlv_items.specs.{declared.found.Fault.Fault, ItemWalks.AreBytes}
use Rattle.kmip_ttlv_util.specs.Pieces.{SomeText}
use Rattle.ttlv_run.specs.declared.{form.Form.Form, job.Encoding.Encoding, job.Job.Job, job.Task.Task, messages.Place.Place, messages.Reached.Reached}
use Rattle.ttlv_run.specs.declared.{messages.Reached.TheVariants.Behind, messages.Reached.TheVariants.Fault as AtFault, run_error.RunError.RunError}
use Rattle.ttlv_run.specs.{declared.run_error.RunError.TheVariants.NoMessage, declared.run_error.RunError.TheVariants.NoMemory, Reasons.PrintsFront}
use Rattle.ttlv_run.specs.Fronts.{front_size, StandsFrontIn, StandsUpTo}
use Rattle.ttlv_run.specs.Inputs.{TakesAll, TakesSome, IsUnread, form_of, encoding_of, StandsIn, Stands}
use Rattle.ttlv_run.specs.Messages.{is_there, first_size, message_at, is_taken, wants_message, Whole, whole_none, whole_more, IsWrong, Continues}
use Rattle.ttlv_run.specs.Runs.{Streams, streams, HasText, Places, Faults, Unwritten, Fronts, Fails}
use Rattle.ttlv_run.specs.Streaming.{is_due, StandsAt, EndsAt, PrintsUpTo, PrintsOn, ContinuesBehind, Yields, YieldsBy}
use Rattle.ttlv_run.specs.Texts.{Names, IsMessageText}
use Rattle.ttlv_run.proofs.{Appending.prints_behind, Appending.memory_ended, Completion.whole_goes, Completion.goes_behind, Decided.unread_by}
use Rattle.ttlv_run.proofs.FrontsDecided.{Decided, either_by, decided_on}

-- the length in a header is that of its bytes, whatever stands behind them
length_there : (r more : List ℕ) → 8 ≤ length r → length_at (r ++ more) 0 ≡ length_at r 0
length_there r more le =
    let b : (k : ℕ) → k < 8 → get_or (r ++ more) k 0 ≡ get_or r k 0 = λ k lt. get_or_append_left r more 0 k (omega (arith, lt, le)) in
    rw (b 4 (omega arith), b 5 (omega arith), b 6 (omega arith), b 7 (omega arith)) refl

-- a message that is there
there_parts : (r : List ℕ) → is_there r ≡ true → (8 ≤ length r) × (8 + length_at r 0 ≤ length r)
there_parts r h =
    let p = and_parts (nat_le 8 (length r)) (nat_le (8 + length_at r 0) (length r)) h in
    (leb-true 8 (length r) p.0, leb-true (8 + length_at r 0) (length r) p.1)

there_from : (r : List ℕ) → 8 ≤ length r → 8 + length_at r 0 ≤ length r → is_there r ≡ true
there_from r a b = ap (λ x. x && nat_le (8 + length_at r 0) (length r)) (le-leb 8 (length r) a) ∙ le-leb (8 + length_at r 0) (length r) b

size_of : (r : List ℕ) → is_there r ≡ true → first_size r ≡ 8 + length_at r 0
size_of r h = ap (λ (b : Bool). if b then 8 + length_at r 0 else length r) h

-- stays the same, whatever comes behind it
first_there : (r more : List ℕ) → is_there r ≡ true → take (first_size (r ++ more)) (r ++ more) ≡ take (first_size r) r
first_there r more h =
    let p = there_parts r h in
    let same = length_there r more p.0 in
    let here = there_from (r ++ more) (omega (arith, p.0, length-append r more)) (omega (arith, same, p.1, length-append r more)) in
    let size : first_size (r ++ more) ≡ first_size r = size_of (r ++ more) here ∙ ap (λ (n : ℕ). 8 + n) same ∙ sym (size_of r h) in
    ap (λ (n : ℕ). take n (r ++ more)) size ∙ take-append-le (first_size r) r more (omega (arith, size_of r h, p.1))

module _ {all : List ℕ} {base : ℕ} {bytes : List ℕ} {last : Bool} (stands : StandsAt all base bytes last) where
  stands_long : length all ≡ base + (length bytes + length stands.more)
  stands_long = omega (arith, stands.within, length-drop base all, ap (λ (s : List ℕ). length s) stands.are, length-append bytes stands.more)

  -- a message among the bytes is that of all
  same_message : (at : ℕ) → at ≤ length bytes → (last ≡ true) ⊎ (is_there (drop at bytes) ≡ true) → message_at all (base + at) ≡ message_at bytes at
  same_message at le due = ap (λ (r : List ℕ). take (first_size r) r) rest ∙ by due
    where
      rest : drop (base + at) all ≡ drop at bytes ++ stands.more
      rest = sym (drop-drop at base all) ∙ ap (drop at) stands.are ∙ drop-append-le at bytes stands.more le

      by : (last ≡ true) ⊎ (is_there (drop at bytes) ≡ true) → take (first_size (drop at bytes ++ stands.more)) (drop at bytes ++ stands.more)
          ≡ message_at bytes at
      by (inl end) = ap (λ (r : List ℕ). take (first_size r) r) (ap (λ (m : List ℕ). drop at bytes ++ m) (stands.ends end) ∙ append-nil (drop at bytes))
      by (inr there) = first_there (drop at bytes) stands.more there

  stands_before : (at : ℕ) → at < length bytes → base + at < length all
  stands_before at lt = omega (arith, lt, stands_long)

-- a message is due
due_parts : (bytes : List ℕ) (at : ℕ) (last : Bool) → is_due bytes at last ≡ true → (at < length bytes)
    × ((last ≡ true) ⊎ (is_there (drop at bytes) ≡ true))
due_parts bytes at last h =
    let p = and_parts (nat_lt at (length bytes)) (last || is_there (drop at bytes)) h in
    (ltb-true at (length bytes) p.0, or_cases last (is_there (drop at bytes)) p.1)

-- bytes, wherever they are looked for
pub plain_bytes : (w : List ℕ) → AreBytes w → (k : ℕ) → get_or w k 0 < 256
plain_bytes w h k = elim (cases_lt k (length w)) [ inl lt ↦ h k lt | inr le ↦ omega (arith, get_or_past w k 0 le) ]

-- what is printed of the bytes up to a place, whatever stands in front of them and behind
abbrev pub UpTo : Names → Task → ℕ → List ℕ → Bool → ℕ → List ℕ → Type 0
UpTo names task base bytes last at t =
    (all front : List ℕ) → StandsAt all base bytes last → Whole names task all base front → Whole names task all (base + at) (front ++ t)

-- the message that is due at a place
module _ {names : Names} {task : Task} {base : ℕ} {bytes : List ℕ} {last : Bool} (at : ℕ) {m : List ℕ} (t : List ℕ) (is : m ≡ message_at bytes at)
    (due : is_due bytes at last ≡ true) (up : UpTo names task base bytes last at t) where
  inside : at < length bytes
  inside = (due_parts bytes at last due).0

  same : {all : List ℕ} → StandsAt all base bytes last → m ≡ message_at all (base + at)
  same stands = is ∙ sym (same_message stands at (omega (arith, inside)) (due_parts bytes at last due).1)

  decides_all : {all reported : List ℕ} {f : Option Fault} → StandsAt all base bytes last → IsMessageText names task (base + at) m reported f
      → IsMessageText names task (base + at) (message_at all (base + at)) reported f
  decides_all {reported = reported} {f} stands tells = subst (λ (s : List ℕ). IsMessageText names task (base + at) s reported f) (same stands) tells

  -- is whole
  pub one_more : {reported : List ℕ} {found : Option Fault} → IsMessageText names task (base + at) m reported found → found ≡ None → is_taken task m ≡ true
      → UpTo names task base bytes last (at + length m) (t ++ reported)
  one_more {reported} tells none taken all front stands whole =
      whole_more (base + at) (base + (at + length m)) (front ++ t) (front ++ (t ++ reported)) reported (up all front stands whole)
      (stands_before stands at inside) (decides_all stands (subst (IsMessageText names task (base + at) m reported) none tells))
      (ap (is_taken task) (sym (same stands)) ∙ taken) (sym (append_assoc front t reported)) (omega (arith, ap (λ (s : List ℕ). length s) (same stands)))

  -- has a fault, or a root that the task doesn't take
  pub one_wrong : {reported : List ℕ} {place : Place} {found f : Option Fault} → IsMessageText names task (base + at) m reported found → found ≡ f
      → IsWrong task m (base + at) place f
      → PrintsOn names task base bytes last (AtFault place) (t ++ reported)
  one_wrong {reported} {place} {f = f} tells found_is wrong all front stands whole = record {
    at = base + at;
    front = front ++ t;
    reported = reported;
    fault = f;
    whole = up all front stands whole;
    left = stands_before stands at inside;
    tells = decides_all stands (subst (IsMessageText names task (base + at) m reported) found_is tells);
    wrong = subst (λ (s : List ℕ). IsWrong task s (base + at) place f) (same stands) wrong;
    is = sym (append_assoc front t reported);
  }

  -- is printed up to where that fails
  pub one_broken : {reported : List ℕ} (f : Option Fault) → IsMessageText names task (base + at) m reported f
      → ContinuesBehind names task base bytes last (t ++ reported)
  one_broken {reported} f tells all front stands plain whole =
      subst (Continues names task all) (append_assoc front t reported) (goes_behind names task all (plain_bytes all plain) (base + at) (front ++ t)
      (stands_before stands at inside) (up all front stands whole) reported f (decides_all stands tells))

-- what is printed up to where printing ended goes on
pub goes_on : (names : Names) (task : Task) (base : ℕ) (bytes : List ℕ) (last : Bool) (reached : Reached) (t : List ℕ) → EndsAt bytes last reached
    → PrintsOn names task base bytes last reached t → ContinuesBehind names task base bytes last t
goes_on names task base bytes last (AtFault place) t end prints all front stands plain whole =
    record { more = []; place = Some place; prints = rw (append-nil (front ++ t)) (prints all front stands whole) }
goes_on names task base bytes last (Behind count) t end prints all front stands plain whole =
    whole_goes names task all (plain_bytes all plain) (base + count) (front ++ t) (omega (arith, stands_long stands, by last end))
    (prints all front stands whole)
  where
    by : (b : Bool) → EndsAt bytes b (Behind count) → count ≤ length bytes
    by true is = omega (arith, is)
    by false h = h.0

-- ---- the bytes of an input that comes piece by piece

bytes_append : (s t : List ℕ) → AreBytes s → AreBytes t → AreBytes (s ++ t)
bytes_append s t a b k lt = elim (cases_lt k (length s)) [
  | inl here ↦ omega (arith, get_or_append_left s t 0 k here, a k here)
  | inr past ↦ omega (arith, get_or-append_right s t (length s) k 0 refl past, b (k - length s) (omega (arith, past, lt, length-append s t)))
]

bytes_take : (n : ℕ) (s : List ℕ) → n ≤ length s → AreBytes s → AreBytes (take n s)
bytes_take n s le h k lt =
    let here : k < n = omega (arith, lt, length-take-le n s le) in
    omega (arith, get_or-take n s k 0 here, h k (omega (arith, here, le)))

pub bytes_drop : (n : ℕ) (s : List ℕ) → AreBytes s → AreBytes (drop n s)
bytes_drop n s h k lt = omega (arith, get_or-drop n s k 0, h (n + k) (omega (arith, lt, length-drop n s)))

-- raw bytes stand for themselves
raw_stands : (e : Encoding) (s : List ℕ) → form_of (encoding_of e s) ≡ None → Stands e s s
raw_stands e s raw = subst (λ (f : Option Form). StandsIn f s s) (sym raw) refl

-- the bytes that were taken and those that are left: none where an input ended, and no one knows which where no one says so
pub record Left (known : Option (List ℕ)) (ended : Bool) : Type 0 where
  pub left : List ℕ
  pub are : IfSome known (λ s. s ≡ left)
  pub none : ended ≡ true → left ≡ []

pub no_bytes : AreBytes []
no_bytes k lt = absurd (omega (arith, lt))

pub left_of : (known : Option (List ℕ)) (ended : Bool) → (ended ≡ true → IsAtEnd known) → Left known ended
left_of None ended end = record { left = []; are = tt; none = λ _. refl }
left_of (Some s) ended end = record { left = s; are = refl; none = end }

-- what was read behind the bytes that were there
pub came_behind : (a b : Option (List ℕ)) (buf all before : List ℕ) (k n : ℕ) → all ≡ buf → take k buf ≡ before → k + n ≤ length buf
    → Consumes a b (take n (drop k buf)) → (n ≡ 0 → IsAtEnd b) → YieldsBy a b before (take (k + n) all) n
came_behind a b buf all before k n same front within consumed ended = record {
  yields = record {
    came = take n (drop k buf);
    consumed = consumed;
    are = ap (take (k + n)) same ∙ take-add k n buf ∙ ap (λ (s : List ℕ). s ++ take n (drop k buf)) front;
  };
  as_many = ap (λ (s : List ℕ). length (take (k + n) s)) same ∙ length-take-le (k + n) buf within
      ∙ ap (λ (m : ℕ). m + n) (sym (length-take-le k buf (omega (arith, within))) ∙ ap (λ (s : List ℕ). length s) front);
  ended = ended;
}

-- more bytes came behind those that came before
pub comes_more : {a b c : Option (List ℕ)} {before mid after : List ℕ} → Yields a b before mid → Yields b c mid after → Yields a c before after
comes_more {a} {b} {c} {before} p q = record {
  came = p.came ++ q.came;
  consumed = Consumes-trans a b c p.came q.came p.consumed q.consumed;
  are = q.are ∙ ap (λ (s : List ℕ). s ++ q.came) p.are ∙ append_assoc before p.came q.came;
}

-- a flag, as a number
abbrev pub as_number : Bool → ℕ
as_number true = 1
as_number false = 0

-- what was printed of messages that come one by one: of the bytes that came, those behind a place are there, and what stands
-- in front of it was printed
pub record Shown (names : Names) (task : Task) (output output_now : Held) (base : ℕ) (came bytes : List ℕ) : Type 0 where
  pub text : List ℕ
  pub plain : AreBytes (take base came)
  pub within : base ≤ length came
  pub are : drop base came ≡ bytes
  pub whole : (more : List ℕ) → Whole names task (came ++ more) base text
  pub appended : Gets output output_now text

pub shown_none : {names : Names} {task : Task} {output : Held} {bytes : List ℕ} → Shown names task output output 0 bytes bytes
shown_none {output = output} = record {
  text = [];
  plain = no_bytes;
  within = omega arith;
  are = refl;
  whole = λ more. whole_none;
  appended = gets_none output;
}

-- bytes that came, which an input stands for: all of them, or those of some front
pub record Standing (e : Encoding) (known now : Option (List ℕ)) (came : List ℕ) (last : Bool) : Type 0 where
  pub input : List ℕ
  pub taken : TakesSome known now input
  pub stands : StandsUpTo e input came last

-- whole messages were printed up to a place, behind which no other is there as a whole
pub record Further (names : Names) (task : Task) (output output_now : Held) (base : ℕ) (came bytes : List ℕ) : Type 0 where
  pub shown : Shown names task output output_now base came bytes
  pub plain : AreBytes bytes
  pub none : is_there bytes ≡ false

module _ {names : Names} {task : Task} {output mid : Held} {base : ℕ} {came bytes : List ℕ} (p : Shown names task output mid base came bytes) where
  shown_long : length came ≡ base + length bytes
  shown_long = omega (arith, p.within, ap (λ (s : List ℕ). length s) p.are, length-drop base came)

  -- the bytes stand among those that came and others
  stands : {last : Bool} (more : List ℕ) → (last ≡ true → more ≡ []) → StandsAt (came ++ more) base bytes last
  stands more none = record {
    more = more;
    within = omega (arith, p.within, length-append came more);
    are = drop-append-le base came more p.within ∙ ap (λ (s : List ℕ). s ++ more) p.are;
    ends = none;
  }

  -- all that came are bytes, and so are these with others
  plain_all : AreBytes bytes → (more : List ℕ) → AreBytes more → AreBytes (came ++ more)
  plain_all plain more others = bytes_append came more (subst AreBytes (take-append-drop base came)
      (bytes_append (take base came) (drop base came) p.plain (subst AreBytes (sym p.are) plain))) others

  -- exactly what is printed of whole messages was printed
  pub fronts : is_there bytes ≡ false → Fronts names task came output mid
  fronts none = record {
    place = base;
    text = p.text;
    whole = subst (λ (s : List ℕ). Whole names task s base p.text) (append-nil came) (p.whole []);
    no_more = ap is_there p.are ∙ none;
    appended = p.appended;
  }

  -- more bytes came
  pub more_shown : (others : List ℕ) → Shown names task output mid base (came ++ others) (bytes ++ others)
  more_shown others = record {
    text = p.text;
    plain = subst AreBytes (sym (take-append-le base came others p.within)) p.plain;
    within = omega (arith, p.within, length-append came others);
    are = drop-append-le base came others p.within ∙ ap (λ (s : List ℕ). s ++ others) p.are;
    whole = λ more. subst (λ (s : List ℕ). Whole names task s base p.text) (sym (append_assoc came others more)) (p.whole (others ++ more));
    appended = p.appended;
  }

  -- what is printed up to where printing ended
  module _ {last : Bool} (reached : Reached) (now : Held) (reported : SomeText (PrintsOn names task base bytes last reached) (Gets mid now)) where
    prints_to : {r : Reached} → reached ≡ r → (more : List ℕ) → (last ≡ true → more ≡ [])
        → PrintsUpTo names task (came ++ more) base (p.text ++ reported.text) r
    prints_to is more none = subst (PrintsUpTo names task (came ++ more) base (p.text ++ reported.text)) is
        (reported.is (came ++ more) p.text (stands more none) (p.whole more))

    printed_to : Gets output now (p.text ++ reported.text)
    printed_to = gets_both p.text reported.text p.appended reported.holds

    -- whole messages, which are let go of
    pub goes_further : {count : ℕ} → reached ≡ Behind count → EndsAt bytes last reached → last ≡ false → AreBytes bytes
        → Further names task output now (base + count) came (drop count bytes)
    goes_further {count} is ends unended plain =
        let front : (count ≤ length bytes) × (is_there (drop count bytes) ≡ false) =
        subst (λ (b : Bool). EndsAt bytes b (Behind count)) unended (subst (EndsAt bytes last) is ends) in
        record {
          shown = record {
            text = p.text ++ reported.text;
            plain = subst AreBytes (ap (λ (s : List ℕ). take base came ++ take count s) (sym p.are) ∙ sym (take-add base count came))
                (bytes_append (take base came) (take count bytes) p.plain (bytes_take count bytes front.0 plain));
            within = omega (arith, front.0, shown_long);
            are = sym (drop-drop count base came) ∙ ap (drop count) p.are;
            whole = λ more. prints_to is more (λ end. cc);
            appended = printed_to;
          };
          plain = bytes_drop count bytes plain;
          none = front.1;
        }

-- the whole input was taken, all its messages are whole, and what is printed of them was appended; they take so many bytes
pub record AllPrinted (names : Names) (job : Job) (s : Streams) (count : ℕ) : Type 0 where
  pub input : List ℕ
  pub text : List ℕ
  pub taken : TakesAll s.input s.input_left input
  pub has : HasText names job input text None
  pub appended : Gets s.output s.output_now text
  pub long : length has.bytes ≡ count

-- nothing is printed of no bytes
no_text : {names : Names} {task : Task} {bytes text : List ℕ} {p : ℕ} → Whole names task bytes p text → length bytes ≡ 0 → text ≡ []
no_text whole_none none = refl
no_text (whole_more p q old new reported before lt tells taken is at) none = absurd (omega (arith, lt, none))

-- whether there is a message, if the task wants one
pub behind_places : {names : Names} {job : Job} {s : Streams} {count : ℕ} → AllPrinted names job s count → (b : Bool)
    → (wants_message job.task && count == 0) ≡ b → Places names job s (if b then Err NoMessage else Ok None)
behind_places {job = job} {s} {count} a true e =
    let none : length a.has.bytes ≡ 0 = a.long ∙ eqb-true count 0 (and_parts (wants_message job.task) (count == 0) e).1 in
    record {
      input = a.input;
      taken = a.taken;
      stands = subst (Stands job.encoding a.input) (nil_from_length a.has.bytes none) a.has.stands;
      wants = (and_parts (wants_message job.task) (count == 0) e).0;
      appended = subst (Gets s.output s.output_now) (no_text a.has.prints none) a.appended;
    }
behind_places {job = job} a false e = record {
  input = a.input;
  text = a.text;
  taken = a.taken;
  has = a.has;
  some = ap (λ (n : ℕ). wants_message job.task && n == 0) a.long ∙ e;
  appended = a.appended;
}

module _ {names : Names} {job : Job} {output mid : Held} {base : ℕ} {came bytes : List ℕ} (p : Shown names job.task output mid base came bytes)
  where
    module _ {last : Bool} {reached : Reached} {now : Held} {known left : Option (List ℕ)}
        (reported : SomeText (PrintsOn names job.task base bytes last reached) (Gets mid now))
      where
        -- whole messages, and all is printed
        pub printed_all : {can_fail : Bool} {count : ℕ} {input : List ℕ} → reached ≡ Behind count → EndsAt bytes last reached → last ≡ true
            → TakesAll known left input
            → Stands job.encoding input came
            → AllPrinted names job (streams can_fail known left output now) (base + count)
        printed_all {count = count} {input} is ends end taken stands_for =
            let all : count ≡ length bytes = subst (λ (b : Bool). EndsAt bytes b (Behind count)) end (subst (EndsAt bytes last) is ends) in
            let text = p.text ++ reported.text in
            let whole : Whole names job.task (came ++ []) (length came) text =
            subst (λ (n : ℕ). Whole names job.task (came ++ []) n text) (omega (arith, all, shown_long p))
            (prints_to p reached now reported is [] (λ _. refl)) in
            record {
              input = input;
              text = text;
              taken = taken;
              has = record {
                bytes = came;
                stands = stands_for;
                prints = subst (λ (s : List ℕ). Whole names job.task s (length came) text) (append-nil came) whole;
              };
              appended = printed_to p reached now reported;
              long = omega (arith, all, shown_long p);
            }

        -- a fault
        pub faults : {can_fail : Bool} {place : Place} → reached ≡ AtFault place → Standing job.encoding known left came last
            → Faults names job (streams can_fail known left output now) place
        faults is k = record {
          input = k.input;
          bytes = came;
          last = last;
          text = p.text ++ reported.text;
          taken = k.taken;
          stands = k.stands;
          prints = prints_to p reached now reported is;
          appended = printed_to p reached now reported;
        }

    module _ {last : Bool} {known left : Option (List ℕ)} (plain : AreBytes bytes) (k : Standing job.encoding known left came last) where
      -- printing failed
      pub fails_in : {can_fail : Bool} {why : RunError} {now : Held} → SomeText (ContinuesBehind names job.task base bytes last) (PrintsFront why mid now)
          → Unwritten names job (streams can_fail known left output now) why
      fails_in reported = record {
        input = k.input;
        bytes = came;
        last = last;
        text = p.text ++ reported.text;
        taken = k.taken;
        stands = k.stands;
        continues = λ more none others. reported.is (came ++ more) p.text (stands p more none) (plain_all p plain more others) (p.whole more);
        appended = prints_behind p.text reported.text p.appended reported.holds;
      }

      -- memory ran out behind whole messages
      pub no_memory : {can_fail : Bool}
          → Unwritten names job (streams can_fail known left output mid) NoMemory
      no_memory = record {
        input = k.input;
        bytes = came;
        last = last;
        text = p.text;
        taken = k.taken;
        stands = k.stands;
        continues = λ more none others. whole_goes names job.task (came ++ more) (plain_bytes (came ++ more) (plain_all p plain more others)) base p.text
            (omega (arith, p.within, length-append came more)) (p.whole more);
        appended = memory_ended p.text p.appended;
      }

-- ---- a raw input

-- what is known of raw bytes that came: they stand for themselves, whatever follows
pub record RawInput (e : Encoding) (known now : Option (List ℕ)) (came : List ℕ) (ended : Bool) : Type 0 where
  pub consumed : Consumes known now came
  pub raw : form_of (encoding_of e came) ≡ None
  pub enough : ended ≡ false → front_size e came ≤ length came
  pub at_end : ended ≡ true → IsAtEnd now

module _ {e : Encoding} {known now : Option (List ℕ)} {came : List ℕ} {ended : Bool} (r : RawInput e known now came ended) where
  still_decided : (more : List ℕ) → (ended ≡ true → more ≡ []) → Decided e came more
  still_decided more none = decided_on e came more (either_by ended none r.enough)

  still_raw : (more : List ℕ) → (ended ≡ true → more ≡ []) → form_of (encoding_of e (came ++ more)) ≡ None
  still_raw more none = ap form_of (still_decided more none).encoding ∙ r.raw

  pub raw_standing : Standing e known now came ended
  raw_standing = record {
    input = came ++ l.left;
    taken = record { front = came; left = l.left; are = refl; taken = r.consumed; rest = l.are };
    stands = by ended refl;
  }
    where
      l : Left now ended
      l = left_of now ended r.at_end

      by : (b : Bool) → ended ≡ b → StandsUpTo e (came ++ l.left) came b
      by true is = subst (Stands e (came ++ l.left)) (ap (λ (t : List ℕ). came ++ t) (l.none is) ∙ append-nil came)
          (raw_stands e (came ++ l.left) (still_raw l.left l.none))
      by false is = subst (λ (f : Option Form). StandsFrontIn f (came ++ l.left) came) (sym (still_raw l.left l.none)) (l.left, refl)

  -- more bytes came
  more_raw : {next : Option (List ℕ)} {then_ : Bool} (others : List ℕ) → Consumes now next others → ended ≡ false → (then_ ≡ true → IsAtEnd next)
      → RawInput e known next (came ++ others) then_
  more_raw {next} others consumed unended at_end =
      let none : ended ≡ true → others ≡ [] = λ end. cc in
      record {
        consumed = Consumes-trans known now next came others r.consumed consumed;
        raw = still_raw others none;
        enough = λ _. omega (arith, r.enough unended, (still_decided others none).size, length-append came others);
        at_end = at_end;
      }

-- what is known of raw messages that are printed as they come
pub record Printing (names : Names) (job : Job) (known now : Option (List ℕ)) (output output_now : Held) (base : ℕ) (bytes : List ℕ)
    (ended : Bool) : Type 0 where
  pub came : List ℕ
  pub shown : Shown names job.task output output_now base came bytes
  pub input : RawInput job.encoding known now came ended

module _ {names : Names} {job : Job} {known now : Option (List ℕ)} {output mid : Held} {base : ℕ} {bytes : List ℕ} {ended : Bool}
    (p : Printing names job known now output mid base bytes ended) where
  pub of_bytes : {b : List ℕ} → b ≡ bytes → Printing names job known now output mid base b ended
  of_bytes is = record { came = p.came; shown = subst (Shown names job.task output mid base p.came) (sym is) p.shown; input = p.input }

  -- whole messages, and all is printed
  pub printed : {can_fail : Bool} {output_now : Held} {reached : Reached} {count : ℕ} → reached ≡ Behind count → EndsAt bytes ended reached → ended ≡ true
      → SomeText (PrintsOn names job.task base bytes ended reached) (Gets mid output_now)
      → AllPrinted names job (streams can_fail known now output output_now) (base + count)
  printed is ends end reported = printed_all p.shown reported is ends end (record { taken = p.input.consumed; ended = p.input.at_end end })
      (raw_stands job.encoding p.came p.input.raw)

  module _ {new : Held} {place : ℕ} {rest : List ℕ} (f : Further names job.task output new place p.came rest) (unended : ended ≡ false) where
    -- more bytes came
    pub more_came : {next : Option (List ℕ)} {before after : List ℕ} {count : ℕ} → before ≡ rest → YieldsBy now next before after count
        → Printing names job known next output new place after (nat_eq count 0)
    more_came {count = count} is y = record {
      came = p.came ++ y.yields.came;
      shown = rw (y.yields.are, is) (more_shown f.shown y.yields.came);
      input = more_raw p.input y.yields.came y.yields.consumed unended (λ none. y.ended (eqb-true count 0 none));
    }

    -- reading failed, or memory ran out for it, in front of a message that isn't there as a whole
    pub read_fails : (can_fail : Bool) (next : Option (List ℕ)) (why : RunError) → IsUnread can_fail why → Keeps now next
        → Fails names job (streams can_fail known next output new) why
    read_fails can_fail next why h keeps =
        let still : RawInput job.encoding known next p.came false = record {
          consumed = Consumes-kept known now next p.came p.input.consumed keeps;
          raw = p.input.raw;
          enough = λ _. p.input.enough unended;
          at_end = λ end. cc;
        } in
        unread_by (Fails names job (streams can_fail known next output new)) why h (λ can. (
          can,
          record {
            bytes = p.came;
            taken = still.consumed;
            fronts = rw (le-ltb (length p.came) (front_size job.encoding p.came) (p.input.enough unended), p.input.raw) (fronts f.shown f.none);
          },
        )) (inr (no_memory f.shown f.plain (raw_standing still)))
