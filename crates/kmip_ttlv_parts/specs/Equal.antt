-- Types that lose nothing: values that are decoded from the same are equal.
use Rattle.std.specs.Prelude.{◌≡◌, Bool, true}
use Rattle.kmip_ttlv_base.specs.Values.{Value}

-- of a type whose values stand for these, two that stand for the same are equal by this `==`
abbrev pub AreEqual : {T : Type 0} → (T → Value) → (T → T → Bool) → Type 0
AreEqual {T} stands_for eq = (x y : T) → stands_for x ≡ stands_for y → eq x y ≡ true
