-- Calls of `is_beyond` and `give_back`: what each is passed, and what the caller gets. Assumes `Logic`.
use Rattle.std.proofs.Common.{◌≡◌, ℕ, ◌^◌, ◌<◌, List, [], ◌∷◌, refl, ap, w64}
use seplogic.Ra.Ura.{Ura}
use mathlib.Core.Bool.{Bool}
use mir.Val.{Val, vbool, vint, vptr, vunit}
use base.Logic.{SProp, ent, ex, sep, guard, id⊢}
use base.Fml.{Lft, Share, ftrue, fsep, flft}
use prog.Memory.{Memory}
use prog.Routine.{Routine}
use types.Logic.{Logic, sem}
use contract.Monad.{Fun}
use types.Kit.{‵, ◌⊛◌, some, later, ◌$◌, ◌∵◌, !, qed, move, keep, use1, split, join, pick, fjoin, feq_i, flt_i, feq_l, check, await, updating, show}
use types.Kit.{now as at_once, done}
use denote.Memory.{hidden_shr}
use denote.Builtin.{bool, unit}
use denote.Steps.{nothing, only}
use denote.Triple.{Statement.Contract, Spec.triple_of}
use Rattle.kmip_ttlv_memory.specs.contracts.Limits as LI
use Rattle.kmip_ttlv_memory.specs.contracts.is_beyond as BE
use Rattle.kmip_ttlv_memory.specs.contracts.give_back as GB

module _ {M : Type 1} {𝓤 : Ura M} (𝓛 : Logic 𝓤) (at_mem : Memory → SProp 𝓤) (run : Routine → Fun 𝓤) where
  abbrev pub Beyond : Contract 𝓤
  Beyond = triple_of 𝓛 BE.signature (BE.spec 𝓛 at_mem run)

  abbrev pub at_beyond : Lft → Share → ℕ × ℕ → LI.the_row.Denot → ℕ → Beyond.Ghost
  at_beyond κ q c m s = (((κ, tt), (q, tt), tt, (record { ref_ptr = c; now = m }, (s, tt)), (vptr c.0 c.1 ∷ [], (vint w64 s ∷ [], tt))), tt)

  abbrev pub Back : Contract 𝓤
  Back = triple_of 𝓛 GB.signature (GB.spec 𝓛 at_mem run)

  abbrev pub at_back : Lft → Share → ℕ × ℕ → LI.the_row.Denot → ℕ → Back.Ghost
  at_back κ q c m s = (((κ, tt), (q, tt), tt, (record { ref_ptr = c; now = m }, (s, tt)), (vptr c.0 c.1 ∷ [], (vint w64 s ∷ [], tt))), tt)

module _ {M : Type 1} {𝓤 : Ura M} (𝓛 : Logic 𝓤) (at_mem : Memory → SProp 𝓤) (run : Routine → Fun 𝓤) (κ : Lft) (q : Share) (c : ℕ × ℕ) (m : LI.the_row.Denot)
    (s : ℕ) where
  open 𝓛 use {H, A}

  pub Beyond-goes : s < 2 ^ 64 → ent 𝓤 (sep 𝓤 (sem 𝓛 (hidden_shr LI.the_row κ m c.0 c.1)) (A.lft κ q))
      ((Beyond 𝓛 at_mem run).pre (at_beyond 𝓛 at_mem run κ q c m s))
  Beyond-goes fs = qed 𝓛 (‵ (hidden_shr LI.the_row κ m c.0 c.1) ∷ ‵ (flft κ q) ∷ []) ∵
      nothing ! $ flt_i ! s (2 ^ 64) fs $ feq_i ! (List Val) (vint w64 s ∷ []) (vint w64 s ∷ []) refl $ fjoin ! $ fjoin ! $
      move ! (1 ∷ []) $ feq_i ! (List Val) (vptr c.0 c.1 ∷ []) (vptr c.0 c.1 ∷ []) refl $ fjoin ! $ fjoin ! $
      nothing ! $ move ! (2 ∷ []) $ join ! $ join ! $ nothing ! $ move ! (1 ∷ []) $ done !

  pub Beyond-gives : (v : Val) → ent 𝓤 ((Beyond 𝓛 at_mem run).post (at_beyond 𝓛 at_mem run κ q c m s) v)
      (H.⇛ (ex 𝓤 (λ (r : Bool). guard 𝓤 (v ≡ vbool r) (A.lft κ q))))
  Beyond-gives v =
      qed 𝓛 (types.Kit.raw ((Beyond 𝓛 at_mem run).post (at_beyond 𝓛 at_mem run κ q c m s) v) ∷ []) ∵ updating ! $
      use1 𝓛 (later (some (λ (r : Bool). ((‵ (flft κ q) ⊛ ‵ ftrue) ⊛ ‵ (bool.own_val r (v ∷ []))) ⊛ some
      (λ (ws : Unit {0} × (Unit {0} × Unit {0})). ‵ (fsep ftrue (fsep ftrue ftrue)) ⊛ ‵ ftrue)))) (id⊢ 𝓤 _) $ await ! tt $ pick ! (λ r.
      split ! $ split ! $ move ! (1 ∷ []) $ feq_l ! (λ e. split ! $ at_once ! $
      show ! (λ (b : Bool). guard 𝓤 (v ≡ vbool b) (A.lft κ q)) r $ check ! (ap only e) $ keep ! (0 ∷ []) $ done !))

  pub Back-goes : s < 2 ^ 64 → ent 𝓤 (sep 𝓤 (sem 𝓛 (hidden_shr LI.the_row κ m c.0 c.1)) (A.lft κ q)) ((Back 𝓛 at_mem run).pre (at_back 𝓛 at_mem run κ q c m s))
  Back-goes fs = qed 𝓛 (‵ (hidden_shr LI.the_row κ m c.0 c.1) ∷ ‵ (flft κ q) ∷ []) ∵
      nothing ! $ flt_i ! s (2 ^ 64) fs $ feq_i ! (List Val) (vint w64 s ∷ []) (vint w64 s ∷ []) refl $ fjoin ! $ fjoin ! $
      move ! (1 ∷ []) $ feq_i ! (List Val) (vptr c.0 c.1 ∷ []) (vptr c.0 c.1 ∷ []) refl $ fjoin ! $ fjoin ! $
      nothing ! $ move ! (2 ∷ []) $ join ! $ join ! $ nothing ! $ move ! (1 ∷ []) $ done !

  pub Back-gives : (v : Val) → ent 𝓤 ((Back 𝓛 at_mem run).post (at_back 𝓛 at_mem run κ q c m s) v) (H.⇛ (guard 𝓤 (v ≡ vunit) (A.lft κ q)))
  Back-gives v = qed 𝓛 (types.Kit.raw ((Back 𝓛 at_mem run).post (at_back 𝓛 at_mem run κ q c m s) v) ∷ []) ∵ updating ! $
      use1 𝓛 (later (some (λ (r : Unit {0}). ((‵ (flft κ q) ⊛ ‵ ftrue) ⊛ ‵ (unit.own_val r (v ∷ []))) ⊛ some
      (λ (ws : Unit {0} × (Unit {0} × Unit {0})). ‵ (fsep ftrue (fsep ftrue ftrue)) ⊛ ‵ ftrue)))) (id⊢ 𝓤 _) $ await ! tt $ pick ! (λ r.
      split ! $ split ! $ move ! (1 ∷ []) $ feq_l ! (λ e. split ! $ at_once ! $
      check ! (ap only e) $ keep ! (0 ∷ []) $ done !))
