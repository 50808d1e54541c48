-- What one turn of a loop makes of what is still to be read.
use Rattle.std.proofs.Common.{◌≡◌, ℕ, ◌<◌, ◌≤◌, eqb, List, [], ◌∷◌, ◌++◌, length, Option, Some, None, Result, Ok, Err}
use Rattle.std.proofs.Common.{refl, sym, ap, subst, ◌∙◌, inl, inr, arith}
use Rattle.std.specs.Prelude.{encode_utf8}
use Rattle.std.proofs.lemmas.Bool.{eqb-true}
use Rattle.std.proofs.lemmas.List.{length-append}
use Rattle.plain_xml.specs.declared.failure.Fault.{Fault}
use Rattle.plain_xml.specs.declared.failure.Stop.{Stop}
use Rattle.plain_xml.specs.declared.failure.Stop.TheVariants.{NoMemory, At}
use Rattle.plain_xml.specs.Faults.{◌>>=◌, Fails, Stepped, steps}
use Rattle.plain_xml.specs.Values.{character_at, next_in, more_of, closed, quoted}
use Rattle.plain_xml.specs.Elements.{Pair}
use Rattle.plain_xml.specs.Tags.{attribute_at, attribute_start, admitted, next_attribute, attributes_at}
use Rattle.plain_xml.specs.Marks.{Piece, mark_at}
use Rattle.plain_xml.specs.Documents.{State, entered, next_piece, next_pair, finished, start, elements_of}
use Rattle.plain_xml.proofs.Tools.{bind_ok, ok_is, cases_bool}
use Rattle.plain_xml.proofs.Stepping.{Takes, steps_on, steps_stop, steps_fail, steps_end}
use Rattle.plain_xml.proofs.ValueForms.{some_is, more_is, more_ends, more_fails, more_of-takes}
use Rattle.plain_xml.proofs.TagForms.{next_attribute-takes}
use Rattle.plain_xml.proofs.TreeForms.{next_piece-takes}

bind_err : (r : Result (ℕ × List ℕ) Fault) (f : Fault) → ◌>>=◌ {B = Option (ℕ × List ℕ)} r (λ x. Ok (Some x)) ≡ Err f → r ≡ Err f
bind_err (Ok x) f e = absurd cc
bind_err (Err d) f e = cc

-- a step that goes on leaves less
pub shortened : {S : Type 0} (step : S → List ℕ → Stepped S) (s next : S) (c : ℕ) (cs rest : List ℕ) → Takes step
    → step s (c ∷ cs) ≡ Ok (Some (next, rest)) → length rest < length (c ∷ cs)
shortened step s next c cs rest takes e = let f = takes s next c cs rest e in omega (arith, ap length f.1, length-append f.0 rest)

-- ---- values

in_none : (quote : ℕ) (value rest : List ℕ) → next_in quote rest ≡ Ok None → steps (more_of quote) value rest ≡ Ok (value, rest)
in_none quote value [] e = steps_end (more_of quote) value
in_none quote value (c ∷ cs) e = elim (cases_bool (eqb c quote)) [
  | inl same ↦ steps_stop (more_of quote) value c cs (rw (eqb-true _ _ same) (more_ends quote value cs))
  | inr other ↦ let b = bind_ok (character_at (c ∷ cs)) (λ x. Ok (Some x)) None (rw other at e) in absurd (cc b.2)
]

in_fails : (quote : ℕ) (value rest : List ℕ) (f : Fault) → next_in quote rest ≡ Err f → steps (more_of quote) value rest ≡ Err f
in_fails quote value [] f e = absurd cc
in_fails quote value (c ∷ cs) f e = elim (cases_bool (eqb c quote)) [
  | inl same ↦ absurd (cc (rw same at e))
  | inr other ↦ steps_fail (more_of quote) value c cs f (more_fails quote c value cs f other (bind_err (character_at (c ∷ cs)) f (rw other at e)))
]

record Goes (quote : ℕ) (value rest : List ℕ) (d : ℕ) (after : List ℕ) : Type 0 where
  pub c : ℕ
  pub cs : List ℕ
  pub parts : rest ≡ c ∷ cs
  pub step : more_of quote value (c ∷ cs) ≡ Ok (Some (value ++ encode_utf8 d, after))

in_goes : (quote : ℕ) (value rest : List ℕ) (d : ℕ) (after : List ℕ) → next_in quote rest ≡ Ok (Some (d, after)) → Goes quote value rest d after
in_goes quote value [] d after e = absurd (cc e)
in_goes quote value (c ∷ cs) d after e = elim (cases_bool (eqb c quote)) [
  | inl same ↦ absurd (cc (rw same at e))
  | inr other ↦
      let b = bind_ok (character_at (c ∷ cs)) (λ x. Ok (Some x)) (Some (d, after)) (rw other at e) in
      let is : b.0 ≡ (d, after) = some_is b.0 (d, after) (ok_is (Some b.0) (Some (d, after)) b.2) in
      record { c = c; cs = cs; parts = refl; step = more_is quote c d value cs after other (b.1 ∙ ap (λ (x : ℕ × List ℕ). Ok x) is) }
]

pub value_done : (quote : ℕ) (text value rest : List ℕ) → steps (more_of quote) [] text ≡ steps (more_of quote) value rest → next_in quote rest ≡ Ok None
    → quoted quote text ≡ closed (value, rest)
unfolding quoted
value_done quote text value rest so h = let e : steps (more_of quote) [] text ≡ Ok (value, rest) = so ∙ in_none quote value rest h in rw e refl

pub value_fails : (quote : ℕ) (text value rest : List ℕ) (stop : Stop) → steps (more_of quote) [] text ≡ steps (more_of quote) value rest
    → Fails stop (next_in quote rest) → Fails stop (quoted quote text)
unfolding quoted
value_fails quote text value rest NoMemory so h = tt
value_fails quote text value rest (At f) so h = let e : steps (more_of quote) [] text ≡ Err f = so ∙ in_fails quote value rest f h in rw e refl

pub value_goes : (quote : ℕ) (text value rest : List ℕ) (d : ℕ) (after : List ℕ) → steps (more_of quote) [] text ≡ steps (more_of quote) value rest
    → next_in quote rest ≡ Ok (Some (d, after))
    → steps (more_of quote) [] text ≡ steps (more_of quote) (value ++ encode_utf8 d) after
value_goes quote text value rest d after so h =
    let g = in_goes quote value rest d after h in
    so ∙ ap (steps (more_of quote) value) g.parts ∙ steps_on (more_of quote) value (value ++ encode_utf8 d) g.c g.cs after (more_of-takes quote) g.step

pub value_shorter : (quote : ℕ) (value rest : List ℕ) (d : ℕ) (after : List ℕ) → next_in quote rest ≡ Ok (Some (d, after)) → length after < length rest
value_shorter quote value rest d after h =
    let g = in_goes quote value rest d after h in
    subst (λ (l : List ℕ). length after < length l) (sym g.parts) (shortened (more_of quote) value (value ++ encode_utf8 d) g.c g.cs after
    (more_of-takes quote) g.step)

-- ---- attributes

start_none : (before : List Pair) (text : List ℕ) → attribute_start text ≡ Ok None → next_attribute before text ≡ Ok None
unfolding next_attribute
start_none before text h = rw h refl

start_fails : (before : List Pair) (text : List ℕ) (f : Fault) → attribute_start text ≡ Err f → next_attribute before text ≡ Err f
unfolding next_attribute
start_fails before text f h = rw h refl

next_is : (before : List Pair) (text from after : List ℕ) (a : Pair) → attribute_start text ≡ Ok (Some from) → attribute_at from ≡ Ok (a, after)
    → admitted before a.0 from ≡ Ok tt
    → next_attribute before text ≡ Ok (Some (before ++ a ∷ [], after))
unfolding next_attribute
next_is before text from after a s h d = rw (s, h, d) refl

next_fails : (before : List Pair) (text from : List ℕ) (f : Fault) → attribute_start text ≡ Ok (Some from) → attribute_at from ≡ Err f
    → next_attribute before text ≡ Err f
unfolding next_attribute
next_fails before text from f s h = rw (s, h) refl

next_refuses : (before : List Pair) (text from after : List ℕ) (a : Pair) (f : Fault) → attribute_start text ≡ Ok (Some from)
    → attribute_at from ≡ Ok (a, after) → admitted before a.0 from ≡ Err f
    → next_attribute before text ≡ Err f
unfolding next_attribute
next_refuses before text from after a f s h d = rw (s, h, d) refl

nothing_starts : attribute_start [] ≡ Ok None
unfolding attribute_start
nothing_starts = refl

starts_some : (text from : List ℕ) → attribute_start text ≡ Ok (Some from) → (c : ℕ) × (cs : List ℕ) × (text ≡ c ∷ cs)
starts_some [] from e = absurd (cc (nothing_starts, e))
starts_some (c ∷ cs) from e = (c, cs, refl)

pub attributes_done : (text rest : List ℕ) (all : List Pair) → steps next_attribute [] text ≡ steps next_attribute all rest
    → attribute_start rest ≡ Ok None → attributes_at text ≡ Ok (all, rest)
unfolding attributes_at
attributes_done text [] all so h = so ∙ steps_end next_attribute all
attributes_done text (c ∷ cs) all so h = so ∙ steps_stop next_attribute all c cs (start_none all (c ∷ cs) h)

pub attributes_no_start : (text rest : List ℕ) (all : List Pair) (stop : Stop) → steps next_attribute [] text ≡ steps next_attribute all rest
    → Fails stop (attribute_start rest) → Fails stop (attributes_at text)
unfolding attributes_at
attributes_no_start text rest all NoMemory so h = tt
attributes_no_start text [] all (At f) so h = absurd (cc (nothing_starts, h))
attributes_no_start text (c ∷ cs) all (At f) so h = so ∙ steps_fail next_attribute all c cs f (start_fails all (c ∷ cs) f h)

attributes_fail : (text rest : List ℕ) (all : List Pair) (f : Fault) (p : (c : ℕ) × (cs : List ℕ) × (rest ≡ c ∷ cs))
    → steps next_attribute [] text ≡ steps next_attribute all rest → next_attribute all rest ≡ Err f
    → steps next_attribute [] text ≡ Err f
attributes_fail text rest all f p so h =
    so ∙ ap (steps next_attribute all) p.2 ∙ steps_fail next_attribute all p.0 p.1 f (ap (next_attribute all) (sym p.2) ∙ h)

pub attributes_no_next : (text rest from : List ℕ) (all : List Pair) (stop : Stop) → steps next_attribute [] text ≡ steps next_attribute all rest
    → attribute_start rest ≡ Ok (Some from) → Fails stop (attribute_at from)
    → Fails stop (attributes_at text)
unfolding attributes_at
attributes_no_next text rest from all NoMemory so s h = tt
attributes_no_next text rest from all (At f) so s h = attributes_fail text rest all f (starts_some rest from s) so (next_fails all rest from f s h)

pub attributes_refused : (text rest from after : List ℕ) (all : List Pair) (a : Pair) (stop : Stop)
    → steps next_attribute [] text ≡ steps next_attribute all rest → attribute_start rest ≡ Ok (Some from)
    → attribute_at from ≡ Ok (a, after) → Fails stop (admitted all a.0 from) → Fails stop (attributes_at text)
unfolding attributes_at
attributes_refused text rest from after all a NoMemory so s h d = tt
attributes_refused text rest from after all a (At f) so s h d =
    attributes_fail text rest all f (starts_some rest from s) so (next_refuses all rest from after a f s h d)

pub attributes_go : (text rest from after : List ℕ) (all : List Pair) (a : Pair) → steps next_attribute [] text ≡ steps next_attribute all rest
    → attribute_start rest ≡ Ok (Some from)
    → attribute_at from ≡ Ok (a, after) → admitted all a.0 from ≡ Ok tt → steps next_attribute [] text ≡ steps next_attribute (all ++ a ∷ []) after
attributes_go text rest from after all a so s h d =
    let p = starts_some rest from s in
    let step = ap (next_attribute all) (sym p.2) ∙ next_is all rest from after a s h d in
    so ∙ ap (steps next_attribute all) p.2 ∙ steps_on next_attribute all (all ++ a ∷ []) p.0 p.1 after next_attribute-takes step

pub attributes_shorter : (rest from after : List ℕ) (all : List Pair) (a : Pair) → attribute_start rest ≡ Ok (Some from)
    → attribute_at from ≡ Ok (a, after) → admitted all a.0 from ≡ Ok tt → length after < length rest
attributes_shorter rest from after all a s h d =
    let p = starts_some rest from s in
    let less = shortened next_attribute all (all ++ a ∷ []) p.0 p.1 after next_attribute-takes (ap (next_attribute all) (sym p.2)
    ∙ next_is all rest from after a s h d) in
    subst (λ (l : List ℕ). length after < length l) (sym p.2) less

-- ---- documents

in_step : Result (State × List ℕ) Fault → Stepped State
in_step (Ok x) = Ok (Some x)
in_step (Err f) = Err f

pair_entered : (r : Result State Fault) (rest : List ℕ)
    → ◌>>=◌ {B = Option (State × List ℕ)} r (λ n. Ok (Some (n, rest))) ≡ in_step (◌>>=◌ {B = State × List ℕ} r (λ n. Ok (n, rest)))
unfolding in_step
pair_entered (Ok n) rest = refl
pair_entered (Err f) rest = refl

pair_marked : (s : State) (text : List ℕ) (r : Result (Piece × List ℕ) Fault)
    → ◌>>=◌ {B = Option (State × List ℕ)} r (λ p. ◌>>=◌ {B = Option (State × List ℕ)} (entered s p.0 text) (λ n. Ok (Some (n, p.1))))
    ≡ in_step (◌>>=◌ {B = State × List ℕ} r (λ p. ◌>>=◌ {B = State × List ℕ} (entered s p.0 text) (λ n. Ok (n, p.1))))
unfolding in_step
pair_marked s text (Ok p) = pair_entered (entered s p.0 text) p.1
pair_marked s text (Err f) = refl

pair_step : (s : State) (text : List ℕ) → next_piece s text ≡ in_step (next_pair s text)
unfolding next_piece next_pair
pair_step s text = pair_marked s text (mark_at text)

pair_is : (s next : State) (text rest : List ℕ) → next_pair s text ≡ Ok (next, rest) → next_piece s text ≡ Ok (Some (next, rest))
unfolding in_step
pair_is s next text rest e = pair_step s text ∙ ap in_step e

pair_fails : (s : State) (text : List ℕ) (f : Fault) → next_pair s text ≡ Err f → next_piece s text ≡ Err f
unfolding in_step
pair_fails s text f e = pair_step s text ∙ ap in_step e

elements_fail : (text rest : List ℕ) (s : State) (f : Fault) → 1 ≤ length rest → steps next_piece start text ≡ steps next_piece s rest
    → next_piece s rest ≡ Err f → elements_of text ≡ Err f
unfolding elements_of
elements_fail text [] s f some so h = absurd (omega arith)
elements_fail text (c ∷ cs) s f some so h = let e : steps next_piece start text ≡ Err f = so ∙ steps_fail next_piece s c cs f h in rw e refl

pub elements_stop : (text rest : List ℕ) (s : State) (stop : Stop) → 1 ≤ length rest → steps next_piece start text ≡ steps next_piece s rest
    → Fails stop (next_pair s rest) → Fails stop (elements_of text)
elements_stop text rest s NoMemory some so h = tt
elements_stop text rest s (At f) some so h = elements_fail text rest s f some so (pair_fails s rest f h)

pub elements_go : (text rest after : List ℕ) (s next : State) → 1 ≤ length rest → steps next_piece start text ≡ steps next_piece s rest
    → next_pair s rest ≡ Ok (next, after) → steps next_piece start text ≡ steps next_piece next after
elements_go text [] after s next some so h = absurd (omega arith)
elements_go text (c ∷ cs) after s next some so h = so ∙ steps_on next_piece s next c cs after next_piece-takes (pair_is s next (c ∷ cs) after h)

pub elements_shorter : (rest after : List ℕ) (s next : State) → 1 ≤ length rest → next_pair s rest ≡ Ok (next, after) → length after < length rest
elements_shorter [] after s next some h = absurd (omega arith)
elements_shorter (c ∷ cs) after s next some h = shortened next_piece s next c cs after next_piece-takes (pair_is s next (c ∷ cs) after h)

pub elements_end : (text rest : List ℕ) (s : State) → length rest < 1 → steps next_piece start text ≡ steps next_piece s rest → elements_of text ≡ finished s
unfolding elements_of
elements_end text [] s none so = let e : steps next_piece start text ≡ Ok (s, []) = so ∙ steps_end next_piece s in rw e refl
elements_end text (c ∷ cs) s none so = absurd (omega arith)
