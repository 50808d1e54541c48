-- Boxed parts agree with their forms, and are equal, as what is in the boxes.
use Rattle.std.proofs.Common.{Bool}
use Rattle.kmip_ttlv_base.specs.{Forms.Form, Values.Value}
use Rattle.kmip_ttlv_parts.specs.{Agreements.Head, Boxes.boxed, Boxes.IsBoxed, Equal.AreEqual, declared.boxed.Boxed.Boxed}
use Rattle.kmip_ttlv_parts.proofs.MessageParts.{PartAgrees}

-- one agrees, of whose content something has to be known
pub in_box : {T A : Type 0} {P : T → Type 0} {f g : T → Value} {s : Form} {x : Head} → ((t : T) → P t → PartAgrees s (f t) x (g t))
    → (y : Boxed T A) → IsBoxed P y → PartAgrees s (boxed f y) x (boxed g y)
in_box agrees y is = agrees y.inner.value is

-- the same where nothing has to be known
pub in_any_box : {T A : Type 0} {f g : T → Value} {s : Form} {x : Head} → ((t : T) → PartAgrees s (f t) x (g t)) → (y : Boxed T A)
    → PartAgrees s (boxed f y) x (boxed g y)
in_any_box agrees y = agrees y.inner.value

-- two are equal, if what is in them is
pub boxes_equal : {T A : Type 0} (f : T → Value) (E : T → T → Bool) → AreEqual f E
    → AreEqual {T = Boxed T A} (boxed f) (λ x y. E x.inner.value y.inner.value)
boxes_equal f E equal x y same = equal x.inner.value y.inner.value same
