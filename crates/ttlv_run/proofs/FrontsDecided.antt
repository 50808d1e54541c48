-- What the front of an input decides, it decides whatever follows.
use Rattle.std.proofs.Common.{◌≡◌, ◌⊎◌, inl, inr, ℕ, ◌<◌, ◌≤◌, Bool, true, false, if◌then◌else◌, List, [], ◌++◌, length, take, drop, Some, None, Option, ap}
use Rattle.std.proofs.Common.{sym, refl, ◌∙◌, arith, append-nil, length-append}
use Rattle.std.specs.Prelude.{slice_index, nat_lt, not, ◌==◌, ◌&&◌, ◌||◌}
use Rattle.std.proofs.lemmas.Bool.{le-ltb, Decides.nat_tests}
use Rattle.std.proofs.lemmas.List.{take-append-le, drop-append-le, get_or_append_left}
use Rattle.ttlv_run.specs.declared.{form.Form.Form, job.Encoding.Encoding}
use Rattle.ttlv_run.specs.declared.{job.Encoding.TheVariants.Detected, job.Encoding.TheVariants.Raw, job.Encoding.TheVariants.Capture}
use Rattle.ttlv_run.specs.Columns.{mark_length, body}
use Rattle.ttlv_run.specs.Fronts.{is_some, front_size, taken_as}
use Rattle.ttlv_run.specs.Guesses.{is_raw, raw_found, looks_raw, front_of, front_found, text_found}
use Rattle.ttlv_run.specs.Inputs.{form_of, is_detected, encoding_of}

-- it has four bytes at least
four_by : (c b : Bool) → 4 ≤ (if c then 4 else if b then 64 else 1024)
four_by c b = grind (arith, nat_tests)

pub four_least : (e : Encoding) (s : List ℕ) → 4 ≤ front_size e s
four_least e s = four_by (not (is_detected e) || (nat_lt (length s) 4 || looks_raw s)) (nat_lt (length s) 64 || is_some (front_of s))

-- and 1,024 at most
most_by : (c b : Bool) → (if c then 4 else if b then 64 else 1024) ≤ 1024
most_by c b = grind (arith, nat_tests)

pub size_most : (e : Encoding) (s : List ℕ) → front_size e s ≤ 1024
size_most e s = most_by (not (is_detected e) || (nat_lt (length s) 4 || looks_raw s)) (nat_lt (length s) 64 || is_some (front_of s))

-- what an input decides is what its front does
pub record Decided (e : Encoding) (s more : List ℕ) : Type 0 where
  pub size : front_size e (s ++ more) ≡ front_size e s
  pub encoding : encoding_of e (s ++ more) ≡ encoding_of e s

some_least : (b : Bool) → 64 ≤ (if b then 64 else 1024)
some_least b = grind (arith, nat_tests)

module _ (s more : List ℕ) (long : front_size Detected s ≤ length s) where
  four : 4 ≤ length s
  four = omega (arith, long, four_least Detected s)

  few : nat_lt (length s) 4 ≡ false
  few = le-ltb (length s) 4 four

  few_on : nat_lt (length (s ++ more)) 4 ≡ false
  few_on = le-ltb (length (s ++ more)) 4 (omega (arith, four, length-append s more))

  raw : looks_raw (s ++ more) ≡ looks_raw s
  raw = ap is_raw (take-append-le 4 s more four)

  decided_by : (r : Bool) → looks_raw s ≡ r → (o : Option Encoding) → front_of s ≡ o → Decided Detected s more
  decided_by true is o of = record { size = rw (few_on, few, raw, is) refl; encoding = rw (raw, is) (ap raw_found (take-append-le 4 s more four)) }
  decided_by false is o of =
      let least : (if nat_lt (length s) 64 || is_some (front_of s) then 64 else 1024) ≤ length s = rw (few, is) at long in
      let sixty : 64 ≤ length s = omega (arith, least, some_least (nat_lt (length s) 64 || is_some (front_of s))) in
      let no = le-ltb (length s) 64 sixty in
      let no_on = le-ltb (length (s ++ more)) 64 (omega (arith, sixty, length-append s more)) in
      let front : front_of (s ++ more) ≡ front_of s = ap (λ (t : List ℕ). front_found (body t)) (take-append-le 64 s more sixty) in
      record { size = rw (few_on, few, raw, is, no_on, no, front) refl; encoding = rw (raw, is, front) (by o of (rw no at least)) }
    where
      by : (o : Option Encoding) → front_of s ≡ o → (if is_some (front_of s) then 64 else 1024) ≤ length s
          → text_found (front_of s) (body (take 1024 (s ++ more))) ≡ text_found (front_of s) (body (take 1024 s))
      by (Some e) of least = rw of refl
      by None of least =
          let long_front : 1024 ≤ length s = rw of at least in
          ap (λ (t : List ℕ). text_found (front_of s) (body t)) (take-append-le 1024 s more long_front)

-- one of two by a test
pub either_by : {P Q : Type 0} (b : Bool) → (b ≡ true → Q) → (b ≡ false → P) → P ⊎ Q
either_by true then_ else_ = inr (then_ refl)
either_by false then_ else_ = inl (else_ refl)

pub decided_on : (e : Encoding) (s more : List ℕ) → (front_size e s ≤ length s) ⊎ (more ≡ []) → Decided e s more
decided_on e s more (inr none) = record { size = ap (front_size e) same; encoding = ap (encoding_of e) same }
  where
    same : s ++ more ≡ s
    same = ap (λ (m : List ℕ). s ++ m) none ∙ append-nil s
decided_on Detected s more (inl long) = decided_by s more long (looks_raw s) refl (front_of s) refl
decided_on e s more (inl long) = record { size = refl; encoding = refl }

-- and how long its mark is
mark_on : (s more : List ℕ) → 4 ≤ length s → mark_length (s ++ more) ≡ mark_length s
mark_on s more long =
    let b : (k : ℕ) → k < 4 → slice_index (s ++ more) k ≡ slice_index s k = λ k lt. get_or_append_left s more 0 k (omega (arith, lt, long)) in
    rw (b 0 (omega arith), b 1 (omega arith), b 2 (omega arith)) refl

three_most : (b : Bool) → (if b then 3 else 0) ≤ 3
three_most b = grind (arith, nat_tests)

pub body_on : (s more : List ℕ) → (4 ≤ length s) ⊎ (more ≡ []) → body (s ++ more) ≡ body s ++ more
body_on s more (inr none) = ap (λ (m : List ℕ). body (s ++ m)) none ∙ ap body (append-nil s) ∙ sym (append-nil (body s))
    ∙ ap (λ (m : List ℕ). body s ++ m) (sym none)
body_on s more (inl long) = ap (λ (n : ℕ). drop n (s ++ more)) (mark_on s more long)
    ∙ drop-append-le (mark_length s) s more (omega (arith, long, three_most (slice_index s 0 == 239 && (slice_index s 1 == 187 && slice_index s 2 == 191))))

-- the encoding of a form
known_as : Option Form → Encoding
known_as None = Raw
known_as (Some form) = taken_as form

pub taken_is : (e : Encoding) (form : Form) → form_of e ≡ Some form → taken_as form ≡ e
unfolding known_as
taken_is Detected form is = cc is
taken_is Raw form is = cc is
taken_is (Capture port) form is = cc is
taken_is e form is = sym (ap known_as is)
