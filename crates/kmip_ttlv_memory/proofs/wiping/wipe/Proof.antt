-- `wipe` writes a zero to each byte, from the first on. Assumes `Logic`.
use mathlib.Core.Path.{◌≡◌, refl, sym, subst}
use mathlib.Core.List.{List, [], ◌∷◌}
use mathlib.Core.WellFounded.InvImage
use Prim.Native.Nat.{ℕ, zero, suc, ◌+◌, ◌-◌, ◌*◌, ◌≤◌, ◌<◌, ◌^◌}
use native.Mathlib.Omega.{arith}
use seplogic.Ra.Ura.{Ura}
use lib.Dec.{lit<, ltb→lt, nltb→le}
use lib.ListN.{length, replicate}
use lib.WfN.{lt-wf_rel}
use base.Fraction.{full_share}
use mir.Syntax.{Ty, Body, w8, w64, ty_int, ty_array, seq, assign, cond, skip, exit, place, copy, op2, lt, unsigned}
use mir.Val.{Val, vunit, vint, vptr}
use base.Logic.{SProp, ent, sep, id⊢, never_e}
use base.Fml.{ftrue, fat, froom}
use prog.Memory.{Memory}
use prog.Model.{elems}
use prog.Routine.{Routine}
use prog.Wp.{Env, Out, Wp, WpFn, Tables, at_return, after_seq, after_block, after_turn}
use types.Logic.{Logic}
use contract.Monad.{Fun}
use contract.Running.{tables, tables_of}
use sound.WpLaws.{WpFn-mono}
use types.Kit.{Item, Sq, any_q, runs, ‵, raw, ◌⊛◌, at_ret, ◌$◌, ◌∵◌, !, qed, by, move, keep, drop, use0, use1, use2, join, split, rewrite, frame, fjoin, feq_i}
use types.Kit.{suffices, done}
use types.Run.{stop, lit, bin, unit_lit, of_opd, init, assigns, first, blocks, skips, jumps, branches, exec, returns, enter, loops, again, Below}
use types.ByLocal.{alloc_all, pass_all, free_all, look_at, get, through, sets, sets_last, env, holding, forget_but, take_at, give_at}
use denote.RattleType.{RattleType, owns}
use denote.Exit.{yes}
use denote.Builtin.{usize, u8}
use denote.Array.{Array, array_val}
use denote.Plain.{uint_vals, uint_Tells}
use denote.RawPtr.{Ptr, RawPtr, block_ptr, null_ptr, ptr_val, room_at, rawptr_vals, rawptr_Tells}
use denote.Signature.{plain}
use denote.Steps.{nothing}
use denote.Triple.Clauses.{Clauses}
use denote.Triple.Spec.{triple_of}
use denote.Triple.Table.{entered}
use denote.Triple.Walked.{Stays, stay_dropped, walk_of, ends_at, walked, Goes-dropped, walk_Meets}
use Rattle.std.proofs.VecSteps.Shapes.{after, front, inside}
use Rattle.kmip_ttlv_memory.specs.contracts.wiping.wipe as W
use Rattle.kmip_ttlv_memory.specs.contracts.wiping.wipe.Key.{name as #wipe}
use Rattle.kmip_ttlv_memory.proofs.wiping.wipe.Statement as stated
use Rattle.kmip_ttlv_memory.proofs.wiping.wipe.Code as code

abbrev τ : Ty
τ = ty_int w8

abbrev nought : Val
nought = vint w8 0

-- what the loop does each time, and what follows it
abbrev turn : Body
turn = inside (inside (front (after 1 (code.function).body)))

abbrev rest : Body
rest = after 2 (code.function).body

abbrev stayed : Stays (W.ended).signature.params (W.ended).kept
stayed = (stay_dropped (plain (λ _. RawPtr)) yes, (stay_dropped (plain (λ _. usize)) yes, tt))

one_more : (i : ℕ) → i + 1 ≡ suc i
one_more i = omega arith

counted : (n : ℕ) → length (replicate n nought) ≡ n
counted zero = refl
counted (suc n) = let e : suc (length (replicate n nought)) ≡ suc n = omega (arith, counted n) in e

module _ {M : Type 1} {𝓤 : Ura M} (𝓛 : Logic 𝓤) (at_mem : Memory → SProp 𝓤) (run : Routine → Fun 𝓤) (𝓣 : Tables 𝓤 𝓛.H) where
  open 𝓛 use {H}

  abbrev held : Clauses 𝓤 W.ended
  held = W.clauses 𝓛 at_mem run

  abbrev bound : Ptr → ℕ → (walk_of 𝓛 W.ended stayed held).Ghost
  bound p n = ((tt, tt, tt, (p, (n, tt)), (ptr_val p ∷ [], (vint w64 n ∷ [], tt))), tt)

  abbrev Goes : Ptr → ℕ → SProp 𝓤
  Goes p n = WpFn 𝓤 H 𝓣.C 𝓣.Λ code.function (ptr_val p ∷ vint w64 n ∷ []) ((walk_of 𝓛 W.ended stayed held).post (bound p n))

  abbrev els : ℕ → ℕ → List Val → SProp 𝓤
  els = elems 𝓤 H full_share τ

  -- one more zero at the end
  grows : (b o i : ℕ) → ent 𝓤 (sep 𝓤 (els b o (replicate i nought)) (H.at full_share τ b (o + i) nought)) (els b o (replicate (suc i) nought))
  grows b o zero =
      let e : o + 0 ≡ o = omega arith in
      qed 𝓛 (‵ ftrue ∷ ‵ (fat full_share τ b (o + 0) nought) ∷ []) ∵ rewrite ! 1 (λ (k : ℕ). ‵ (fat full_share τ b k nought)) e refl $
      move ! (1 ∷ 0 ∷ []) $ done !
  grows b o (suc i) =
      let e : o + suc i ≡ o + 1 + i = omega arith in
      qed 𝓛 ((‵ (fat full_share τ b o nought) ⊛ raw (els b (o + 1) (replicate i nought))) ∷ ‵ (fat full_share τ b (o + suc i) nought) ∷ []) ∵
      split ! $ frame ! $ rewrite ! 1 (λ (k : ℕ). ‵ (fat full_share τ b k nought)) e refl $ by ! (grows b (o + 1) i)

  module _ (b o n : ℕ) (fn : n < 2 ^ 64) where
    abbrev Post : Val → SProp 𝓤
    Post = (walk_of 𝓛 W.ended stayed held).post (bound (block_ptr b o) n)

    abbrev Left : Type 0
    Left = (i : ℕ) × (i ≤ n)

    abbrev Nearer : Left → Left → Type 0
    Nearer t u = n - t.0 < n - u.0

    exits : ent 𝓤 (els b o (replicate n nought)) (Post vunit)
    exits =
        qed 𝓛 (raw (els b o (replicate n nought)) ∷ []) ∵
        use1 𝓛 (‵ (fat full_share (ty_array τ (length (replicate n nought))) b o (array_val (replicate n nought))))
        (𝓛.laws.elems_at full_share τ b o (replicate n nought)) $
        rewrite ! 0 (λ (k : ℕ). ‵ (fat full_share (ty_array τ k) b o (array_val (replicate n nought)))) (counted n) refl $
        suffices ! _ (ends_at 𝓛 W.ended stayed held (bound (block_ptr b o) n) vunit tt (tt, (tt, tt)) (tt, (tt, tt))) $
        feq_i ! (List Val) (vunit ∷ []) (vunit ∷ []) refl $ nothing ! $ nothing ! $ fjoin ! $ nothing ! $ fjoin ! $ join ! $ nothing ! $ join ! $ done !

    module _ (l : ℕ → ℕ) where
      abbrev En : Env 𝓤 H
      En = env (code.function).locals l

      -- the room that is left, and the zeros in front of it
      abbrev Now : Left → List (Item 𝓤)
      Now t = ‵ (froom (ty_array τ (n - t.0)) b (o + t.0)) ∷ raw (els b o (replicate t.0 nought))
          ∷ holding 𝓛 En ((1, vptr b o) ∷ (2, vint w64 n) ∷ (3, vint w64 t.0) ∷ [])

      abbrev Turned : Left → Out → SProp 𝓤
      Turned t = after_turn 𝓤 H (Below 𝓛 Nearer Now t)
          (after_block 𝓤 H (after_seq 𝓤 H (Wp 𝓤 H 𝓣.C 𝓣.Λ En rest (at_return 𝓤 H En Post)) (at_return 𝓤 H En Post)))

      turns : (t : Left) → Sq 𝓛 (Now t) (runs 𝓣.C 𝓣.Λ En turn (any_q (Turned t)))
      unfolding after_turn
      turns t =
          let i : ℕ = t.0 in
          let le = t.1 in
          sets ! (bin ! (get ! refl) (get ! refl) tt) refl (tt, tt) $ first ! $ branches ! (get ! refl)
          (λ less.
          let h : i < n = ltb→lt i n less in
          let f₁ : i + 1 < 2 ^ 64 = omega arith in
          let due : n - i ≡ suc (n - suc i) = omega arith in
          let here : o + i ≡ i + o = omega arith in
          let next : o + i + 1 ≡ o + suc i = omega arith in
          skips ! $ exec ! 𝓣.C 𝓣.Λ En (after 2 turn) (any_q (Turned t)) $
          sets ! (bin ! (get ! refl) (get ! refl) tt) refl (tt, tt) $
          rewrite ! 0 (λ (k : ℕ). ‵ (froom (ty_array τ k) b (o + i))) due refl $
          use1 𝓛 (‵ (froom τ b (o + i)) ⊛ ‵ (froom (ty_array τ (n - suc i)) b (o + i + 1))) (𝓛.laws.room_uncons τ (n - suc i) b (o + i)) $ split ! $
          rewrite ! 0 (λ (k : ℕ). ‵ (froom τ b k)) here refl $
          assigns ! (of_opd ! (lit ! tt)) (through ! refl (stop !)) (init ! 0 refl (tt, record { fits = lit< tt })) $
          sets_last ! (bin ! (get ! refl) (lit ! tt) (record { fits = f₁ })) refl (tt, record { fits = f₁ }) $
          rewrite ! 0 (λ (k : ℕ). ‵ (fat full_share τ b k nought)) (sym here) refl $ move ! (2 ∷ 0 ∷ []) $
          use2 𝓛 (raw (els b o (replicate (suc i) nought))) (grows b o i) $ move ! (1 ∷ 0 ∷ []) $
          rewrite ! 0 (λ (k : ℕ). ‵ (froom (ty_array τ (n - suc i)) b k)) next refl $
          forget_but ! En (1 ∷ 2 ∷ 3 ∷ []) refl $ take_at ! 3 $
          rewrite ! 0 (λ (k : ℕ). ‵ (fat full_share (ty_int w64) (l 3) zero (vint w64 k))) (one_more i) refl $
          give_at ! 3 $
          again ! Nearer Now t (suc i, omega arith) (omega arith))
          (λ over.
          let ge : n ≤ i = nltb→le i n over in
          let all : i ≡ n = omega arith in
          jumps ! $ exec ! 𝓣.C 𝓣.Λ En rest (at_ret En Post) $ drop ! $ rewrite ! 0 (λ (k : ℕ). raw (els b o (replicate k nought))) all refl $
          sets ! (of_opd ! (unit_lit !)) refl (tt, tt) $ returns ! (look_at ! 0 refl) $ free_all ! refl $ by ! exits)

    runs_by : ent 𝓤 (H.room (ty_array τ n) b o) (Goes (block_ptr b o) n)
    runs_by =
        let to : o ≡ o + 0 = omega arith in
        let all : n ≡ n - 0 = omega arith in
        qed 𝓛 (‵ (froom (ty_array τ n) b o) ∷ []) ∵
        rewrite ! 0 (λ (k : ℕ). ‵ (froom (ty_array τ n) b k)) to refl $ rewrite ! 0 (λ (k : ℕ). ‵ (froom (ty_array τ k) b (o + 0))) all refl $
        use0 𝓛 (raw (els b o [])) (id⊢ 𝓤 _) $ move ! (1 ∷ 0 ∷ []) $
        enter ! 𝓣.C 𝓣.Λ code.function (vptr b o ∷ vint w64 n ∷ []) _ $ alloc_all ! (λ l. pass_all ! refl ((tt, tt), ((tt, record { fits = fn }), tt)) $
        sets ! (of_opd ! (lit ! tt)) refl (tt, record { fits = lit< tt }) $ forget_but ! (En l) (1 ∷ 2 ∷ 3 ∷ []) refl $
        first ! $ blocks ! $ loops ! 𝓣 Nearer (InvImage.wf (λ (t : Left). n - t.0) lt-wf_rel.wf) (Now l) (turns l) (0, omega arith))

  each : (p : Ptr) (n : ℕ) → n < 2 ^ 64 → ent 𝓤 ((walk_of 𝓛 W.ended stayed held).pre (bound p n)) (Goes p n)
  each (block_ptr b o) n fn =
      qed 𝓛 ((‵ ftrue ⊛ ‵ (owns (RawPtr ∷ usize ∷ []) (block_ptr b o, (n, tt)) (bound (block_ptr b o) n).0.4))
      ∷ ‵ (room_at (Array u8 n) (block_ptr b o)) ∷ []) ∵
      keep ! (1 ∷ []) $ by ! (runs_by b o n fn)
  each null_ptr n fn =
      qed 𝓛 ((‵ ftrue ⊛ ‵ (owns (RawPtr ∷ usize ∷ []) (null_ptr, (n, tt)) (bound null_ptr n).0.4)) ∷ ‵ (room_at (Array u8 n) null_ptr) ∷ []) ∵
      keep ! (1 ∷ []) $ by ! (never_e 𝓤 _)

pub wipe_spec : {M : Type 1} → stated.statement M
unfolding tables_of
wipe_spec 𝓤 𝓛 𝓜 𝓡 wired =
    let 𝓣 : Tables 𝓤 𝓛.H = tables_of 𝓤 𝓛.H 𝓜 (tables 𝓤 𝓛.H 𝓜 𝓡 𝓡.env) in
    let c = W.clauses 𝓛 𝓜.mem 𝓡.returns in
    let gone = λ (Y : RattleType). Goes-dropped 𝓛 0 (plain (λ _. Y)) yes in
    entered 𝓤 𝓛.H (triple_of 𝓛 W.signature (W.spec 𝓛 𝓜.mem 𝓡.returns)) 𝓣.C 𝓣.Λ #wipe code.function (code.unfolded 𝓤 𝓛.H 𝓜 𝓡 wired)
    (walk_Meets 𝓛 W.ended stayed (gone RawPtr (λ κs x f. refl), (gone usize (λ κs x f. refl), tt)) c (WpFn 𝓤 𝓛.H 𝓣.C 𝓣.Λ code.function)
    (WpFn-mono 𝓤 𝓛.H 𝓛.laws 𝓣 code.function)
    (walked 𝓛 W.ended stayed c (WpFn 𝓤 𝓛.H 𝓣.C 𝓣.Λ code.function) (λ κs. (rawptr_vals, (uint_vals w64, tt))) (λ κs. (rawptr_Tells, (uint_Tells w64, tt)))
    (λ κs qs bounds a g are. each 𝓛 𝓜.mem 𝓡.returns 𝓣 a.0 a.1.0 are.1.0.1)))
