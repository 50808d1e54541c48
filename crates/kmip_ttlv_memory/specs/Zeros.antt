-- Memory that was overwritten.
use Rattle.std.specs.Prelude.{ℕ, replicate}
use mir.Syntax.{w8, ty_int, ty_array}
use mir.Val.{vint}
use base.Fraction.{full_share}
use base.Fml.{Fml, ffalse, fat}
use denote.Array.{array_val}
use denote.RawPtr.{Ptr, block_ptr, null_ptr}

-- n bytes at this pointer are zero
abbrev pub zeros_at : ℕ → Ptr → Fml
zeros_at n (block_ptr b o) = fat full_share (ty_array (ty_int w8) n) b o (array_val (replicate n (vint w8 0)))
zeros_at n null_ptr = ffalse
