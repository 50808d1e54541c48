use Rattle.std.proofs.Common.{◌≡◌, ◌≢◌, ◌∙◌, ℕ, Bool, true, false, List, [], ◌∷◌, drop, get_or, ap, sym, refl}
use Rattle.std.proofs.Common.{arith, ◌&&◌, ◌==◌}
use Rattle.std.proofs.lemmas.Bool.{eqb-true, and_parts}
use Rattle.ttlv_run.specs.Columns.{mark_length}
use Rattle.ttlv_run.proofs.guess.unmarked.Goals as goal

-- a text with the mark
marked : (s : List ℕ) → get_or s 0 0 ≡ 239 → get_or s 1 0 ≡ 187 → get_or s 2 0 ≡ 191 → (rest : List ℕ) × (s ≡ 239 ∷ 187 ∷ 191 ∷ rest)
marked [] x y z = absurd (omega (arith, x))
marked (a ∷ []) x y z = absurd (omega (arith, y))
marked (a ∷ b ∷ []) x y z = absurd (omega (arith, z))
marked (a ∷ b ∷ c ∷ rest) x y z = (rest, cc)

-- a text without it, by whether its first three bytes are those of the mark
none_by : (s : List ℕ) (b : Bool) → ((get_or s 0 0 == 239) && ((get_or s 1 0 == 187) && (get_or s 2 0 == 191))) ≡ b
    → ((rest : List ℕ) → s ≢ 239 ∷ 187 ∷ 191 ∷ rest) → mark_length s ≡ 0
none_by s false e none = rw e refl
none_by s true e none =
    let h = and_parts (get_or s 0 0 == 239) ((get_or s 1 0 == 187) && (get_or s 2 0 == 191)) e in
    let k = and_parts (get_or s 1 0 == 187) (get_or s 2 0 == 191) h.1 in
    let m = marked s (eqb-true (get_or s 0 0) 239 h.0) (eqb-true (get_or s 1 0) 187 k.0) (eqb-true (get_or s 2 0) 191 k.1) in
    absurd (none m.0 m.1)

pub returns-in-Some : goal.returns-in-Some
returns-in-Some c =
    let h = c.in-Some.ensures.cases in
    let s = c.args.text.now in
    let three : h.0 ≡ 3 = h.1.0 in
    let long : mark_length s ≡ 3 = ap mark_length h.1.1 in
    record { is = h.2 ∙ ap (λ (n : ℕ). drop n s) (three ∙ sym long); length = omega (arith, h.3, three, long) }

pub returns-in-None : goal.returns-in-None
returns-in-None c =
    let s = c.args.text.now in
    let none : mark_length s ≡ 0 = none_by s _ refl c.in-None.ensures.cases in
    record { is = ap (λ (n : ℕ). drop n s) (sym none); length = omega (arith, none) }
