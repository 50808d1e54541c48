-- What a front of a text stands for is a front of what all of it stands for.
use Rattle.std.proofs.Common.{◌≡◌, ℕ, zero, suc, ◌+◌, Bool, true, false, List, [], ◌∷◌, ◌++◌, length, drop, Some, None, Option, ap, sym, refl, subst, ◌∙◌}
use Rattle.std.proofs.Common.{arith, append-nil, append_assoc}
use Rattle.std.specs.Prelude.{slice_index}
use Rattle.std.proofs.Math.Seq.{drop-append_seam}
use Rattle.kmip_ttlv_items.specs.ItemWalks.{AreBytes}
use Rattle.ttlv_run.specs.declared.run_error.RunError.{RunError}
use Rattle.ttlv_run.specs.{declared.form.Form.Form, declared.form.LinePart.LinePart, declared.form.Step.Step, declared.job.Encoding.Encoding}
use Rattle.ttlv_run.specs.{declared.job.Job.Job, declared.messages.Place.Place as FaultPlace, Messages.Breaks, Messages.Continues, Texts.Names}
use Rattle.ttlv_run.specs.declared.form.Step.TheVariants.{Counts, Skips, Wrong}
use Rattle.ttlv_run.specs.Columns.{first_part, step, body, Reads, begins, counts, skips}
use Rattle.ttlv_run.specs.Fronts.{DecodesTo, StandsFrontIn, StandsFront, StandsUpTo}
use Rattle.ttlv_run.specs.Inputs.{Decodes, decode_form, form_of, encoding_of, StandsIn, Stands}
use Rattle.ttlv_run.specs.Runs.{Streams, HasText, Faults, Unwritten}
use Rattle.base64.specs.GeneralPurpose.{IsBytes}
use Rattle.base64.proofs.EngineFacts.{front_bytes}
use Rattle.ttlv_run.proofs.{Counting.read_bytes, Groups.digits_behind, Windows.bytes_drop}

-- where the reading of a text stands: its digits so far, the part of a line, and what is left
record Place : Type 0 where
  digits : List ℕ
  part : LinePart
  rest : List ℕ

-- what a character leads to
abbrev after : List ℕ → ℕ → List ℕ → Step → Option Place
after digits b rest (Counts next) = Some (record { digits = digits ++ b ∷ []; part = next; rest = rest })
after digits b rest (Skips next) = Some (record { digits = digits; part = next; rest = rest })
after digits b rest Wrong = None

abbrev next_of : Form → List ℕ → LinePart → List ℕ → Option Place
next_of form digits part [] = None
next_of form digits part (b ∷ rest) = after digits b rest (step form part b (slice_index rest 0))

abbrev next_if : Form → Option Place → Option Place
next_if form None = None
next_if form (Some p) = next_of form p.digits p.part p.rest

-- so many characters are read
abbrev walk : Form → Place → ℕ → Option Place
walk form start zero = Some start
walk form start (suc n) = next_if form (walk form start n)

some_is : {A : Type 0} {x y : A} → ◌≡◌ {A = Option A} (Some x) (Some y) → x ≡ y
some_is e = cc e

-- a text that is read up to a rest was read so far
record Walked (form : Form) (first : LinePart) (s digits : List ℕ) (part : LinePart) (rest : List ℕ) : Type 0 where
  count : ℕ
  walked : walk form (record { digits = []; part = first; rest = s }) count ≡ Some (record { digits = digits; part = part; rest = rest })
  long : length s ≡ count + length rest

walked_of : (form : Form) (first : LinePart) (s digits : List ℕ) (part : LinePart) (rest : List ℕ) → Reads form first s digits part rest
    → Walked form first s digits part rest
walked_of form first s digits part rest begins = record { count = 0; walked = refl; long = omega arith }
walked_of form first s digits part rest (counts before more at then_ b others r is all) =
    let w = walked_of form first s before at (b ∷ others) r in
    record {
      count = suc w.count;
      walked = ap (next_if form) w.walked ∙ ap (after before b others) is
          ∙ ap (λ (d : List ℕ). Some (record { digits = d; part = then_; rest = others })) (sym all);
      long = omega (arith, w.long);
    }
walked_of form first s digits part rest (skips before at then_ b others r is) =
    let w = walked_of form first s before at (b ∷ others) r in
    record { count = suc w.count; walked = ap (next_if form) w.walked ∙ ap (after before b others) is; long = omega (arith, w.long) }

-- digits only come behind those that are there
abbrev Behind : List ℕ → Place → Type 0
Behind digits p = (more : List ℕ) × (p.digits ≡ digits ++ more)

behind_after : (digits : List ℕ) (b : ℕ) (rest : List ℕ) (x : Step) (p : Place) → after digits b rest x ≡ Some p → Behind digits p
behind_after digits b rest (Counts next) p e = (b ∷ [], sym (ap (λ (q : Place). q.digits) (some_is e)))
behind_after digits b rest (Skips next) p e = ([], sym (ap (λ (q : Place). q.digits) (some_is e)) ∙ sym (append-nil digits))
behind_after digits b rest Wrong p e = cc e

behind_next : (form : Form) (digits : List ℕ) (part : LinePart) (rest : List ℕ) (p : Place) → next_of form digits part rest ≡ Some p → Behind digits p
behind_next form digits part [] p e = cc e
behind_next form digits part (b ∷ rest) p e = behind_after digits b rest (step form part b (slice_index rest 0)) p e

behind_trans : (a b : List ℕ) (p : Place) → (more : List ℕ) → b ≡ a ++ more → Behind b p → Behind a p
behind_trans a b p more is h = (more ++ h.0, h.1 ∙ ap (λ (d : List ℕ). d ++ h.0) is ∙ append_assoc a more h.0)

-- the place in front of the last character
before_last : (form : Form) (o : Option Place) (q : Place) → next_if form o ≡ Some q → (p : Place) × (o ≡ Some p)
    × (next_of form p.digits p.part p.rest ≡ Some q)
before_last form None q e = cc e
before_last form (Some p) q e = (p, refl, e)

further : (form : Form) (start p : Place) (k n m : ℕ) → m ≡ k + n → walk form start n ≡ Some p → (q : Place) → walk form start m ≡ Some q → Behind p.digits q
further form start p zero n m is from q to =
    let same : m ≡ n = omega (arith, is) in
    ([], ap (λ (x : Place). x.digits) (some_is (sym to ∙ ap (walk form start) same ∙ from)) ∙ sym (append-nil p.digits))
further form start p (suc k) n zero is from q to = absurd (omega (arith, is))
further form start p (suc k) n (suc m) is from q to =
    let l = before_last form (walk form start m) q to in
    let h = further form start p k n m (omega (arith, is)) from l.0 l.1 in
    behind_trans p.digits l.0.digits q h.0 h.1 (behind_next form l.0.digits l.0.part l.0.rest q l.2)

-- the digits of a front are a front of all digits
digits_more : (form : Form) (first : LinePart) (s d1 d2 : List ℕ) (p1 p2 : LinePart) (rest : List ℕ) → Reads form first s d1 p1 rest
    → Reads form first s d2 p2 [] → (more : List ℕ) × (d2 ≡ d1 ++ more)
digits_more form first s d1 d2 p1 p2 rest r1 r2 =
    let w1 = walked_of form first s d1 p1 rest r1 in
    let w2 = walked_of form first s d2 p2 [] r2 in
    further form (record { digits = []; part = first; rest = s }) (record { digits = d1; part = p1; rest = rest }) (length rest) w1.count w2.count
    (omega (arith, w1.long, w2.long)) w1.walked (record { digits = d2; part = p2; rest = [] }) w2.walked

-- and none is missing at the end
digits_same : (form : Form) (first : LinePart) (s d1 d2 : List ℕ) (p1 p2 : LinePart) → Reads form first s d1 p1 [] → Reads form first s d2 p2 [] → d1 ≡ d2
digits_same form first s d1 d2 p1 p2 r1 r2 =
    let w1 = walked_of form first s d1 p1 [] r1 in
    let w2 = walked_of form first s d2 p2 [] r2 in
    let start : Place = record { digits = []; part = first; rest = s } in
    let same : w1.count ≡ w2.count = omega (arith, w1.long, w2.long) in
    ap (λ (x : Place). x.digits) (some_is (sym w1.walked ∙ ap (walk form start) same ∙ w2.walked))

text_front : (form : Form) (s front rest all : List ℕ) → DecodesTo form s front rest → Decodes form s all → (more : List ℕ) × (all ≡ front ++ more)
text_front form s front rest all d w =
    let m = digits_more form (first_part form) (body s) d.digits w.digits d.part w.kept.last rest d.reads w.kept.reads in
    let k = d.makes in
    let split : w.digits ≡ k.front ++ (k.left ++ m.0) = m.1 ∙ ap (λ (t : List ℕ). t ++ m.0) k.are ∙ append_assoc k.front k.left m.0 in
    let plain : IsBytes k.front = front_bytes k.front (k.left ++ m.0)
    (subst IsBytes split (read_bytes form (first_part form) (body s) w.digits w.kept.last [] w.kept.reads)) in
    digits_behind form (length k.front) k.front (k.left ++ m.0) front all (omega arith) k.whole plain k.made (sym (ap (decode_form form) split) ∙ w.are)

front_in : (f : Option Form) (s front all : List ℕ) → StandsFrontIn f s front → StandsIn f s all → (more : List ℕ) × (all ≡ front ++ more)
front_in None s front all d w = (d.0, w ∙ d.1)
front_in (Some form) s front all d w = text_front form s front d.0 all d.1 w

-- whatever its encoding is
pub front_of_all : (e : Encoding) (s front all : List ℕ) → StandsFront e s front → Stands e s all → (more : List ℕ) × (all ≡ front ++ more)
front_of_all e s front all d w = front_in (form_of (encoding_of e s)) s front all d w

-- an input stands for one list of bytes alone
stands_once : (f : Option Form) (s a b : List ℕ) → StandsIn f s a → StandsIn f s b → b ≡ a
stands_once None s a b v w = w ∙ sym v
stands_once (Some form) s a b v w =
    let same = digits_same form (first_part form) (body s) v.digits w.digits v.kept.last w.kept.last v.kept.reads w.kept.reads in
    some_is (sym w.are ∙ ap (decode_form form) (sym same) ∙ v.are)

-- all of its bytes are those that it stands for so far, and others
record Further (bytes all : List ℕ) (last : Bool) : Type 0 where
  more : List ℕ
  none : last ≡ true → more ≡ []
  are : all ≡ bytes ++ more

further_of : (e : Encoding) (s bytes all : List ℕ) (last : Bool) → StandsUpTo e s bytes last → Stands e s all → Further bytes all last
further_of e s bytes all true v w =
    record { more = []; none = λ _. refl; are = stands_once (form_of (encoding_of e s)) s bytes all v w ∙ sym (append-nil bytes) }
further_of e s bytes all false v w =
    let p = front_of_all e s bytes all v w in
    record { more = p.0; none = λ end. cc end; are = p.1 }

module _ (names : Names) (job : Job) (s : Streams) (all : List ℕ) where
  -- what is printed up to a fault is printed of all bytes
  pub fault_of_all : (place : FaultPlace) (f : Faults names job s place) → Stands job.encoding f.input all → HasText names job f.input f.text (Some place)
  fault_of_all place f stands =
      let h = further_of job.encoding f.input f.bytes all f.last f.stands stands in
      record { bytes = all; stands = stands; prints = subst (λ (b : List ℕ). Breaks names job.task b f.text place) (sym h.are) (f.prints h.more h.none) }

  -- and a beginning is one of what is printed of all bytes
  pub beginning_of_all : (why : RunError) (u : Unwritten names job s why) → AreBytes all → Stands job.encoding u.input all → Continues names job.task all u.text
  beginning_of_all why u plain stands =
      let h = further_of job.encoding u.input u.bytes all u.last u.stands stands in
      let others : AreBytes h.more = subst AreBytes (ap (drop (length u.bytes)) h.are ∙ drop-append_seam u.bytes h.more)
      (bytes_drop (length u.bytes) all plain) in
      subst (λ (b : List ℕ). Continues names job.task b u.text) (sym h.are) (u.continues h.more h.none others)
