-- Passing pieces up to the start tag of an element.
use Rattle.std.proofs.Common.{◌≡◌, ℕ, ◌<◌, ◌≤◌, List, [], ◌∷◌, ◌++◌, length, Some, None, Ok, Err, refl, ap, ◌∙◌, arith}
use Rattle.std.specs.Prelude.{option_map, Option}
use Rattle.plain_xml.specs.declared.failure.Fault.{Fault}
use Rattle.plain_xml.specs.declared.failure.Stop.{Stop}
use Rattle.plain_xml.specs.declared.failure.Stop.TheVariants.{NoMemory, At}
use Rattle.plain_xml.specs.Faults.{◌>>=◌, Fails, steps}
use Rattle.plain_xml.specs.Marks.{Piece, mark_at}
use Rattle.plain_xml.specs.Places.{counted, next_mark, from_element}
use Rattle.plain_xml.proofs.Tools.{bind_ok, ok_is}
use Rattle.plain_xml.proofs.Stepping.{Takes, steps_on, steps_stop, steps_fail, steps_end}
use Rattle.plain_xml.proofs.ValueForms.{some_is}
use Rattle.plain_xml.proofs.SkipForms.{mark_taken, piece_front}
use Rattle.plain_xml.proofs.Loops.{shortened}

abbrev pair : ℕ → List ℕ → ℕ × List ℕ
pair m rest = (m, rest)

map_some : (o : Option ℕ) (rest : List ℕ) (next : ℕ) (left : List ℕ) → option_map (λ (m : ℕ). pair m rest) o ≡ Some (pair next left) → rest ≡ left
map_some None rest next left e = absurd cc
map_some (Some m) rest next left e = ap (λ (x : ℕ × List ℕ). x.1) (some_is (pair m rest) (pair next left) e)

behind_first : (front : List ℕ) (c : ℕ) (cs rest : List ℕ) (h : (d : ℕ) × (more : List ℕ) × (front ≡ d ∷ more)) → c ∷ cs ≡ front ++ rest
    → (more : List ℕ) × (cs ≡ more ++ rest)
behind_first front c cs rest h e =
    let whole : c ∷ cs ≡ h.0 ∷ (h.1 ++ rest) = e ∙ ap (λ (l : List ℕ). l ++ rest) h.2 in
    (h.1, cc)

next_mark-takes : Takes next_mark
unfolding next_mark
next_mark-takes s next c cs rest e =
    let a = bind_ok (mark_at (c ∷ cs)) (λ piece. Ok (option_map (λ left. (left, piece.1)) (counted s piece.0))) (Some (next, rest)) e in
    let same = map_some (counted s a.0.0) a.0.1 next rest (ok_is (option_map (λ (m : ℕ). pair m a.0.1) (counted s a.0.0)) (Some (pair next rest)) a.2) in
    let t = mark_taken (c ∷ cs) a.0.1 a.0.0 a.1 in
    behind_first t.front c cs rest (piece_front a.0.0 t.front t.is) (t.parts ∙ ap (λ (l : List ℕ). t.front ++ l) same)

pub place_goes : (index n m : ℕ) (text rest after : List ℕ) → 1 ≤ length rest → steps next_mark index text ≡ steps next_mark n rest
    → next_mark n rest ≡ Ok (Some (m, after)) → steps next_mark index text ≡ steps next_mark m after
place_goes index n m text [] after some so e = absurd (omega arith)
place_goes index n m text (c ∷ cs) after some so e = so ∙ steps_on next_mark n m c cs after next_mark-takes e

pub place_shorter : (n m : ℕ) (rest after : List ℕ) → 1 ≤ length rest → next_mark n rest ≡ Ok (Some (m, after)) → length after < length rest
place_shorter n m [] after some e = absurd (omega arith)
place_shorter n m (c ∷ cs) after some e = shortened next_mark n m c cs after next_mark-takes e

pub place_found : (index n : ℕ) (text rest : List ℕ) → 1 ≤ length rest → steps next_mark index text ≡ steps next_mark n rest
    → next_mark n rest ≡ Ok None → from_element index text ≡ Ok rest
unfolding from_element
place_found index n text [] some so e = absurd (omega arith)
place_found index n text (c ∷ cs) some so e =
    let all : steps next_mark index text ≡ Ok (n, c ∷ cs) = so ∙ steps_stop next_mark n c cs e in
    rw all refl

place_bad : (index n : ℕ) (text rest : List ℕ) (f : Fault) → 1 ≤ length rest → steps next_mark index text ≡ steps next_mark n rest
    → next_mark n rest ≡ Err f → from_element index text ≡ Err f
unfolding from_element
place_bad index n text [] f some so e = absurd (omega arith)
place_bad index n text (c ∷ cs) f some so e =
    let all : steps next_mark index text ≡ Err f = so ∙ steps_fail next_mark n c cs f e in
    rw all refl

pub place_stops : (index n : ℕ) (text rest : List ℕ) (stop : Stop) → 1 ≤ length rest → steps next_mark index text ≡ steps next_mark n rest
    → Fails stop (next_mark n rest) → Fails stop (from_element index text)
place_stops index n text rest NoMemory some so e = tt
place_stops index n text rest (At f) some so e = place_bad index n text rest f some so e

pub place_ends : (index n : ℕ) (text rest : List ℕ) → length rest < 1 → steps next_mark index text ≡ steps next_mark n rest
    → from_element index text ≡ Ok rest
unfolding from_element
place_ends index n text [] none so = let all : steps next_mark index text ≡ Ok (n, []) = so ∙ steps_end next_mark n in rw all refl
place_ends index n text (c ∷ cs) none so = absurd (omega arith)
