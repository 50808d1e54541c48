-- What a boxed part is: what is in the box.
use Rattle.kmip_ttlv_base.specs.Values.{Value}
use Rattle.kmip_ttlv_parts.specs.declared.boxed.Boxed.{Boxed}

-- the value of what is in the box
abbrev pub boxed : {T A : Type 0} → (T → Value) → Boxed T A → Value
boxed f x = f x.inner.value

-- this is true of what is in the box
abbrev pub IsBoxed : {T A : Type 0} → (T → Type 0) → Boxed T A → Type 0
IsBoxed P x = P x.inner.value
