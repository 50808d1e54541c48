-- Tags with and without a prefix.
use Rattle.std.proofs.Common.{◌≡◌, ℕ, List, ◌++◌, Bool, true, false, drop, length, refl, ap}
use Rattle.std.specs.{Prelude.nat_eq, List.starts_with}
use Rattle.std.proofs.lemmas.{Slice.Eq.starts_is, Bool.Decides.Decides-eqb}
use Rattle.kmip_ttlv_util.specs.Outlines.{stripped}

-- a text that begins with the prefix
pub stripped_some : (p s : List ℕ) (n : ℕ) → n ≡ length p → s ≡ p ++ drop n s → drop n s ≡ stripped p s
stripped_some p s n e h =
    let begins : starts_with nat_eq s p ≡ true = (starts_is Decides-eqb s p (starts_with nat_eq s p) refl).1 _ h in
    rw begins (ap (λ k. drop k s) e)

-- a test that never succeeds
bool_false : (b : Bool) → (b ≡ true → ⊥) → b ≡ false
bool_false true never = absurd (never refl)
bool_false false never = refl

-- a text that does not
pub stripped_none : (p s : List ℕ) → ((rest : List ℕ) → s ≡ p ++ rest → ⊥) → s ≡ stripped p s
stripped_none p s none =
    let off : starts_with nat_eq s p ≡ false = bool_false _ (λ t. none _ ((starts_is Decides-eqb s p (starts_with nat_eq s p) refl).0 t)) in
    rw off refl
