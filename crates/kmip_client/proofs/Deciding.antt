-- What a test that decides a fact says of it.
use Rattle.std.proofs.Common.{◌≡◌, ◌↔◌, ◌⊎◌, Bool, true, false, IsTrue, subst}
use Rattle.std.proofs.Common.{inl, inr}

-- a test of one value decides the same of an equal one
pub decides : {X : Type 0} (P : X → Type 0) (test : Bool) {x y : X} → x ≡ y → IsTrue test ↔ P x → IsTrue test ↔ P y
decides P test e so = subst (λ z. IsTrue test ↔ P z) e so

-- it is passed
pub passed : {P : Type 0} {test : Bool} → IsTrue test ↔ P → test ≡ true → P
passed so is = so.0 is

-- it isn't
pub not_passed : {P : Type 0} (test : Bool) → IsTrue test ↔ P → test ≡ false → P → ⊥
not_passed test so is p = let is_true : test ≡ true = so.1 p in cc

-- of two facts the first is false
pub the_other : {P Q : Type 0} (test : Bool) → IsTrue test ↔ Q → (P → ⊥) → IsTrue test ↔ (P ⊎ Q)
the_other test so is_false = ((λ is. inr (so.0 is)), (λ h. so.1 (elim h [ inl p ↦ absurd (is_false p) | inr q ↦ q ])))
