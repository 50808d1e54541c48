-- Small tools: steps that did not fail, tests, and lists.
use Rattle.std.proofs.Common.{◌≡◌, ◌⊎◌, ℕ, suc, ◌-◌, Bool, true, false, cond, List, [], ◌∷◌, ◌++◌, length, take, drop, eqb, eq-eqb}
use Rattle.std.proofs.Common.{Result, Ok, Err, refl, ap, ◌∙◌, inl, inr, arith}
use Rattle.std.specs.List.{AllByRecursion, prefix_len}
use Rattle.std.proofs.lemmas.List.{length-append}
use Rattle.std.proofs.Math.Seq.{drop-append_seam}
use Rattle.plain_xml.specs.declared.failure.Fault.{Fault}
use Rattle.plain_xml.specs.Faults.{◌>>=◌}

-- the value of a step that did not fail
pub bind_ok : {A B : Type 0} (r : Result A Fault) (f : A → Result B Fault) (y : B) → (r >>= f) ≡ Ok y → (x : A) × (r ≡ Ok x) × (f x ≡ Ok y)
bind_ok (Ok x) f y e = (x, refl, e)
bind_ok (Err d) f y e = absurd cc

abbrev done : {A : Type 0} → A → Result A Fault
done x = Ok x

pub ok_is : {A : Type 0} (x y : A) → done x ≡ done y → x ≡ y
ok_is x y e = cc

abbrev pub right_of : {A : Type 0} → A → Result A Fault
right_of x = Ok x

-- a test that did not fail
pub guard_ok : {A : Type 0} (b : Bool) (r : Result A Fault) (d : Fault) (y : A) → cond b r (Err d) ≡ Ok y → (b ≡ true) × (r ≡ Ok y)
guard_ok true r d y e = (refl, e)
guard_ok false r d y e = absurd cc

pub refused_ok : {A : Type 0} (b : Bool) (r : Result A Fault) (d : Fault) (y : A) → cond b (Err d) r ≡ Ok y → (b ≡ false) × (r ≡ Ok y)
refused_ok true r d y e = absurd cc
refused_ok false r d y e = (refl, e)

-- which way a test went
pub chosen : {A : Type 0} (b : Bool) (x y z : A) → cond b x y ≡ z → ((b ≡ true) × (x ≡ z)) ⊎ ((b ≡ false) × (y ≡ z))
chosen true x y z e = inl (refl, e)
chosen false x y z e = inr (refl, e)

pub cases_bool : (b : Bool) → (b ≡ true) ⊎ (b ≡ false)
cases_bool true = inl refl
cases_bool false = inr refl

-- the end of a text that has something in front
pub drop_front : (front rest : List ℕ) → drop (length (front ++ rest) - length rest) (front ++ rest) ≡ rest
drop_front front rest =
    let k : length (front ++ rest) - length rest ≡ length front = omega (arith, length-append front rest) in
    rw k (drop-append_seam front rest)

-- the first element fails a test, if there is one
abbrev pub Stops : (ℕ → Bool) → List ℕ → Type 0
Stops p [] = Unit {0}
Stops p (c ∷ cs) = p c ≡ false

-- elements that pass a test, and then none
pub record Splits (p : ℕ → Bool) (xs : List ℕ) : Type 0 where
  pub front : List ℕ
  pub back : List ℕ
  pub parts : xs ≡ front ++ back
  pub pass : AllByRecursion (λ c. p c ≡ true) front
  pub stops : Stops p back
  pub taken : take (prefix_len p xs) xs ≡ front
  pub dropped : drop (prefix_len p xs) xs ≡ back

splits_on : (p : ℕ → Bool) (x : ℕ) (xs : List ℕ) → p x ≡ true → Splits p xs → Splits p (x ∷ xs)
splits_on p x xs e s =
    let k : prefix_len p (x ∷ xs) ≡ suc (prefix_len p xs) = rw e (omega arith) in
    record {
      front = x ∷ s.front;
      back = s.back;
      parts = ap (λ (l : List ℕ). x ∷ l) s.parts;
      pass = (e, s.pass);
      stops = s.stops;
      taken = ap (λ (n : ℕ). take n (x ∷ xs)) k ∙ ap (λ (l : List ℕ). x ∷ l) s.taken;
      dropped = ap (λ (n : ℕ). drop n (x ∷ xs)) k ∙ s.dropped;
    }

splits_here : (p : ℕ → Bool) (x : ℕ) (xs : List ℕ) → p x ≡ false → Splits p (x ∷ xs)
splits_here p x xs e =
    let k : prefix_len p (x ∷ xs) ≡ 0 = rw e refl in
    record {
      front = [];
      back = x ∷ xs;
      parts = refl;
      pass = tt;
      stops = e;
      taken = ap (λ (n : ℕ). take n (x ∷ xs)) k;
      dropped = ap (λ (n : ℕ). drop n (x ∷ xs)) k;
    }

pub splits : (p : ℕ → Bool) (xs : List ℕ) → Splits p xs
splits p [] = record { front = []; back = []; parts = refl; pass = tt; stops = tt; taken = refl; dropped = refl }
splits p (x ∷ xs) = elim (cases_bool (p x)) [ inl e ↦ splits_on p x xs e (splits p xs) | inr e ↦ splits_here p x xs e ]

-- the same the other way round
pub prefix_len-parts : (p : ℕ → Bool) (front back : List ℕ) → AllByRecursion (λ c. p c ≡ true) front → Stops p back
    → prefix_len p (front ++ back) ≡ length front
prefix_len-parts p [] [] pass stops = refl
prefix_len-parts p [] (x ∷ xs) pass stops = rw stops refl
prefix_len-parts p (x ∷ front) back pass stops =
    let k = prefix_len-parts p front back pass.1 stops in
    let e : p x ≡ true = pass.0 in
    rw e (omega arith)

pub eqb-same : (c : ℕ) → eqb c c ≡ true
eqb-same c = eq-eqb c c refl
