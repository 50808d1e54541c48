-- Results.
use Rattle.std.specs.Prelude.{IfOk, OnOk, Result, Ok, Err}

-- what holds of a result's success where something else does
pub if_ok_map : {T E : Type 0} {P Q : T → Type 0} (r : Result T E) → ((x : T) → P x → Q x) → IfOk r P → IfOk r Q
if_ok_map (Ok x) f h = f x h
if_ok_map (Err e) f h = tt

pub on_ok_map : {T E : Type 0} {P Q : Type 0} (r : Result T E) → (P → Q) → OnOk r P → OnOk r Q
on_ok_map (Ok x) f h = f h
on_ok_map (Err e) f h = tt
