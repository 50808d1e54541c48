-- Calls of `wipe`: what each is passed, and what the caller gets; and a block as bytes. Assumes `Logic`.
use Rattle.std.proofs.Common.{◌≡◌, ℕ, ◌+◌, ◌-◌, ◌*◌, ◌^◌, ◌<◌, ◌≤◌, Bool, true, false, cond, ltb, List, [], ◌∷◌, refl, sym, ap, subst, arith, w64}
use lib.Dec.{T, nltb→le}
use mathlib.Core.Bool.{not}
use seplogic.Ra.Ura.{Ura}
use mir.Syntax.{Ty, w8, ty_int, ty_array}
use mir.Val.{Val, vint, vptr, vunit}
use base.Fraction.{full_share}
use base.Logic.{SProp, ent, sep, wand, guard, apply∗, id⊢}
use base.Fml.{ftrue, fsep, fat, froom}
use prog.Memory.{Memory, size, align, capped}
use prog.Align.{dv_one}
use prog.Routine.{Routine}
use types.Logic.{Logic, sem}
use contract.Monad.{Fun}
use types.Kit.{‵, raw, ◌⊛◌, some, later, ◌$◌, ◌∵◌, !, qed, by, move, keep}
use types.Kit.{drop, use1, use2, split, join, pick, frame, assume, rewrite, fjoin, feq_i, flt_i, feq_l}
use types.Kit.{check, await, updating, now as at_once, done}
use denote.Array.{array_val}
use denote.Builtin.{unit}
use denote.RawPtr.{block_ptr}
use denote.RawPtr.Room.{room_cut, room_glue, past}
use denote.Steps.{nothing, only}
use denote.Triple.{Statement.Contract, Spec.triple_of}
use Rattle.std.specs.Prelude.{replicate}
use Rattle.kmip_ttlv_memory.specs.Zeros.{zeros_at}
use Rattle.kmip_ttlv_memory.specs.contracts.wiping.wipe as W

abbrev pub byte : Ty
byte = ty_int w8

-- a size in a word is no larger than the size
capped_most : (n : ℕ) → capped n ≤ n
capped_most n = by_test (ltb n (2 ^ 64)) refl
  where
    by_test : (t : Bool) → ltb n (2 ^ 64) ≡ t → cond t n (2 ^ 64 - 1) ≤ n
    by_test true e = omega arith
    by_test false e = let over : 2 ^ 64 ≤ n = nltb→le n (2 ^ 64) (subst (λ b. T (not b)) (sym e) tt) in omega (arith, over)

module _ {M : Type 1} {𝓤 : Ura M} (𝓛 : Logic 𝓤) where
  open 𝓛 use {H}

  -- a block is room for its bytes, and is the same block again
  pub bytes_of : (τ : Ty) (b o n : ℕ) → capped (size τ) ≡ n
      → ent 𝓤 (H.room τ b o) (sep 𝓤 (H.room (ty_array byte n) b o) (wand 𝓤 (H.room (ty_array byte n) b o) (H.room τ b o)))
  bytes_of τ b o n sized =
      let least = capped_most (size τ) in
      let m : ℕ = size τ - n in
      let all : Ty = ty_array byte (size τ) in
      let sum : size τ ≡ n + m = omega arith in
      let same : size all ≡ size τ = omega arith in
      qed 𝓛 (raw (H.room τ b o) ∷ []) ∵
      use1 𝓛 (raw (H.room all b o) ⊛ raw (wand 𝓤 (H.room all b o) (H.room τ b o))) (𝓛.laws.room_as τ all b o same (dv_one (align τ))) $ split ! $
      rewrite ! 0 (λ (k : ℕ). raw (H.room (ty_array byte k) b o)) sum refl $
      use1 𝓛 (raw (H.room (ty_array byte n) b o) ⊛ raw (H.room (ty_array byte m) b (past byte n o))) (room_cut 𝓛 byte n m b o) $ split ! $ frame ! $
      assume ! (raw (H.room (ty_array byte n) b o)) $ use2 𝓛 (raw (H.room (ty_array byte (n + m)) b o)) (room_glue 𝓛 byte n m b o) $
      rewrite ! 0 (λ (k : ℕ). raw (H.room (ty_array byte k) b o)) (sym sum) refl $ by ! (apply∗ 𝓤 (H.room all b o) (H.room τ b o))

module _ {M : Type 1} {𝓤 : Ura M} (𝓛 : Logic 𝓤) (at_mem : Memory → SProp 𝓤) (run : Routine → Fun 𝓤) where
  open 𝓛 use {H}

  abbrev pub Wipes : Contract 𝓤
  Wipes = triple_of 𝓛 W.signature (W.spec 𝓛 at_mem run)

  abbrev pub at_wipes : ℕ → ℕ → ℕ → Wipes.Ghost
  at_wipes b o n = ((tt, tt, tt, (block_ptr b o, (n, tt)), (vptr b o ∷ [], (vint w64 n ∷ [], tt))), tt)

  pub Wipes-goes : (b o n : ℕ) → n < 2 ^ 64 → ent 𝓤 (H.room (ty_array byte n) b o) (Wipes.pre (at_wipes b o n))
  Wipes-goes b o n fn = qed 𝓛 (‵ (froom (ty_array byte n) b o) ∷ []) ∵
      nothing ! $ flt_i ! n (2 ^ 64) fn $ feq_i ! (List Val) (vint w64 n ∷ []) (vint w64 n ∷ []) refl $ fjoin ! $ fjoin ! $
      feq_i ! (List Val) (vptr b o ∷ []) (vptr b o ∷ []) refl $ fjoin ! $ nothing ! $ join ! $ done !

  pub Wipes-gives : (b o n : ℕ) (v : Val) → ent 𝓤 (Wipes.post (at_wipes b o n) v) (𝓛.H.⇛ (guard 𝓤 (v ≡ vunit) (H.room (ty_array byte n) b o)))
  Wipes-gives b o n v =
      qed 𝓛 (raw (Wipes.post (at_wipes b o n) v) ∷ []) ∵ updating ! $
      use1 𝓛 (later (some (λ (r : Unit {0}). (‵ ftrue ⊛ ‵ (unit.own_val r (v ∷ []))) ⊛ some
      (λ (ws : Unit {0} × (Unit {0} × Unit {0})). ‵ (fsep ftrue (fsep ftrue ftrue)) ⊛ ‵ (zeros_at n (block_ptr b o)))))) (id⊢ 𝓤 _) $ await ! tt $ pick ! (λ r.
      split ! $ move ! (1 ∷ []) $ pick ! (λ ws. split ! $ drop ! $ move ! (1 ∷ []) $ split ! $ drop ! $ feq_l ! (λ e. at_once ! $ check ! (ap only e) $
      use1 𝓛 (‵ (froom (ty_array byte n) b o)) (𝓛.laws.at_room (ty_array byte n) b o (array_val (replicate n (vint w8 0)))) $ keep ! (0 ∷ []) $ done !)))
