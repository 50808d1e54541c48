-- The text and the count of the rest of a walk.
use Rattle.std.proofs.Common.{◌≡◌, ◌≢◌, ℕ, zero, suc, ◌+◌, ◌<◌, ◌≤◌, Bool, true, false, cond, eqb, List, [], ◌∷◌, ◌++◌, length, Option, Some, None, refl, ap}
use Rattle.std.proofs.Common.{arith, append_assoc, append-nil}
use Rattle.std.proofs.lemmas.Bool.{eq-eqb, ne_eqb, lt-ltb, le-ltb}
use Rattle.kmip_ttlv_types.specs.{declared.typ.TtlvType.TtlvType, Places.length_at}
use Rattle.kmip_ttlv_util.specs.Walks.{Ready}
use Rattle.kmip_ttlv_util.specs.Traces.{closes, entries_by, entries_from, trace, Style, end_text, printed_from, printed_text}
use Rattle.kmip_ttlv_util.specs.WalkPlaces.{Place, left_at, Turn, turn_left, all_closed, end_passed, entry_follows, turn, after, start}
use Rattle.kmip_ttlv_util.specs.Entries.{Entry, entry_at, type_read}

abbrev pub place : ℕ → List ℕ → ℕ → Bool → Place
place p es k z = record { pos = p; ends = es; endless = k; loose = z }

-- in no structure with an end, an entry follows
pub ready_root : (p k : ℕ) (z : Bool) → Ready (place p [] k z)
unfolding turn left_at
ready_root p k z = record { turns = refl; left = refl }

-- so it does before an end
pub ready_before : (p e : ℕ) (es : List ℕ) (k : ℕ) (z : Bool) → p < e → Ready (place p (e ∷ es) k z)
unfolding turn left_at
ready_before p e es k z lt =
    let ne : e ≢ p = omega arith in
    let off : eqb e p ≡ false = ne_eqb e p ne in
    record { turns = rw off (by z); left = rw off refl }
  where
    by : (z : Bool) → turn_left z p (e ∷ es) ≡ entry_follows
    by true = refl
    by false = rw (le-ltb e p (omega arith)) refl

-- and if ends may be passed
pub ready_loose : (p e : ℕ) (es : List ℕ) (k : ℕ) → e ≢ p → Ready (place p (e ∷ es) k true)
unfolding turn left_at
ready_loose p e es k ne =
    let off : eqb e p ≡ false = ne_eqb e p ne in
    record { turns = rw off refl; left = rw off refl }

-- one of two lists, neither of them longer
shorter_by : (b : Bool) (xs : List ℕ) (f : ℕ) (fs : List ℕ) → length xs ≤ length fs → length (cond b xs (f ∷ fs)) ≤ length (f ∷ fs)
shorter_by true xs f fs le = omega arith
shorter_by false xs f fs le = omega arith

-- removing ends makes no list longer
shorter : (q : ℕ) (fs : List ℕ) → length (left_at q fs) ≤ length fs
unfolding left_at
shorter q [] = omega arith
shorter q (f ∷ fs) = shorter_by (eqb f q) (left_at q fs) f fs (shorter q fs)

-- nothing closes here
ready_closes : (shut : List ℕ) (p : ℕ) (es : List ℕ) → left_at p es ≡ es → closes shut p es ≡ []
unfolding left_at closes
ready_closes shut p [] h = refl
ready_closes shut p (e ∷ es) h = by (eqb e p) h (shorter p es)
  where
    by : (b : Bool) → cond b (left_at p es) (e ∷ es) ≡ e ∷ es → length (left_at p es) ≤ length es → cond b (shut ++ closes shut p es) [] ≡ []
    by true g le = absurd (omega (arith, ap length g, le))
    by false g le = refl

module _ (style : Style) (closed : Bool) (bytes : List ℕ) where
  -- what is left to write
  pub text_from : ℕ → Place → List ℕ
  text_from f s = printed_from style closed (length bytes) s (entries_from f closed bytes s)

  -- how many entries are left
  pub count_from : ℕ → Place → ℕ
  count_from f s = length (entries_from f closed bytes s)

  -- at the first byte the whole text is left to write
  pub text_start : text_from (suc (length bytes)) start ≡ printed_text style closed (length bytes) (trace closed bytes)
  unfolding text_from printed_text trace
  text_start = refl

  -- and all entries are left
  pub count_start : 0 + count_from (suc (length bytes)) start ≡ length (trace closed bytes)
  unfolding count_from trace
  count_start = omega arith

  -- the entries from the next one on
  reads_entries : (f : ℕ) (s : Place) (o : Option TtlvType) → turn s ≡ entry_follows → type_read (length bytes) s.pos (entry_at bytes s.pos) ≡ o
      → entries_from (suc f) closed bytes s ≡ entries_by entry_follows (entry_at bytes s.pos) o
      (λ t. entries_from f closed bytes (after closed s t (length_at (entry_at bytes s.pos).header 0)))
  unfolding entries_from
  reads_entries f s o turns is = rw (turns, is) refl

  -- what is written for an entry and for the others, and how many they are
  pub turn_reads : (f : ℕ) (s : Place) (t : TtlvType) → Ready s → type_read (length bytes) s.pos (entry_at bytes s.pos) ≡ Some t
      → (text_from (suc f) s ≡ style.item (s.endless + length s.ends) s.pos (entry_at bytes s.pos) t ++ text_from f
      (after closed s t (length_at (entry_at bytes s.pos).header 0)))
      × (count_from (suc f) s ≡ suc (count_from f (after closed s t (length_at (entry_at bytes s.pos).header 0))))
  unfolding text_from printed_from count_from
  turn_reads f s t ready is = (
    rw (reads_entries f s (Some t) ready.turns is) (rw (ready_closes style.close s.pos s.ends ready.left, is, ready.left) refl),
    ap length (reads_entries f s (Some t) ready.turns is),
  )

  -- an unreadable entry is the last
  pub turn_unreadable : (f : ℕ) (s : Place) → Ready s → type_read (length bytes) s.pos (entry_at bytes s.pos) ≡ None
      → (text_from (suc f) s ≡ style.unreadable) × (count_from (suc f) s ≡ 1)
  unfolding text_from printed_from count_from
  turn_unreadable f s ready is = (
    rw (reads_entries f s None ready.turns is) (rw (ready_closes style.close s.pos s.ends ready.left, is) refl),
    ap length (reads_entries f s None ready.turns is),
  )

  -- ---- an end is reached

  -- closing one structure changes no turn
  same_turn : (p e : ℕ) (es : List ℕ) (k : ℕ) (z : Bool) → turn (place p (p ∷ e ∷ es) k z) ≡ turn (place p (e ∷ es) k z)
  unfolding turn left_at
  same_turn p e es k z = rw (eq-eqb p p refl) refl

  -- nor the ends that are left
  same_left : (p : ℕ) (es : List ℕ) → left_at p (p ∷ es) ≡ left_at p es
  unfolding left_at
  same_left p es = rw (eq-eqb p p refl) refl

  -- one more close
  more_closes : (p : ℕ) (es : List ℕ) → closes style.close p (p ∷ es) ≡ style.close ++ closes style.close p es
  unfolding closes
  more_closes p es = rw (eq-eqb p p refl) refl

  -- nor the entries
  same_entries : (f p e : ℕ) (es : List ℕ) (k : ℕ) (z : Bool) → entries_from f closed bytes (place p (p ∷ e ∷ es) k z) ≡ entries_from f closed bytes
      (place p (e ∷ es) k z)
  unfolding entries_from after
  same_entries zero p e es k z = refl
  same_entries (suc f) p e es k z = rw (same_turn p e es k z, same_left p (e ∷ es)) refl

  -- what is written has one more close
  same_outline : (p e : ℕ) (es : List ℕ) (k : ℕ) (z : Bool) (xs : List Entry) → printed_from style closed (length bytes) (place p (p ∷ e ∷ es) k z) xs
      ≡ style.close ++ printed_from style closed (length bytes) (place p (e ∷ es) k z) xs
  unfolding printed_from after
  same_outline p e es k z [] = rw (same_turn p e es k z, more_closes p (e ∷ es)) (append_assoc style.close (closes style.close p (e ∷ es))
      (end_text style (turn (place p (e ∷ es) k z))))
  same_outline p e es k z (x ∷ xs) = rw (more_closes p (e ∷ es), same_left p (e ∷ es)) (append_assoc style.close (closes style.close p (e ∷ es)) _)

  -- so it has when a structure closes, and the count is unchanged
  pub turn_closes : (f p e : ℕ) (es : List ℕ) (k : ℕ) (z : Bool)
      → (text_from f (place p (p ∷ e ∷ es) k z) ≡ style.close ++ text_from f (place p (e ∷ es) k z))
      × (count_from f (place p (p ∷ e ∷ es) k z) ≡ count_from f (place p (e ∷ es) k z))
  unfolding text_from count_from
  turn_closes f p e es k z = (rw (same_entries f p e es k z) (same_outline p e es k z _), ap length (same_entries f p e es k z))

  -- ---- the walk ends

  -- no entry follows when the walk ends
  no_entries : (f : ℕ) (s : Place) → turn s ≢ entry_follows → entries_from f closed bytes s ≡ []
  unfolding entries_from
  no_entries zero s ne = refl
  no_entries (suc f) s ne = by (turn s) ne
    where
      by : (t : Turn) → t ≢ entry_follows → entries_by t (entry_at bytes s.pos) (type_read (length bytes) s.pos (entry_at bytes s.pos))
          (λ t. entries_from f closed bytes (after closed s t (length_at (entry_at bytes s.pos).header 0))) ≡ []
      by all_closed h = refl
      by end_passed h = refl
      by entry_follows h = absurd (h refl)

  -- at the last end all is closed
  pub last_turn : (p k : ℕ) (z : Bool) → turn (place p (p ∷ []) k z) ≡ all_closed
  unfolding turn left_at
  last_turn p k z = rw (eq-eqb p p refl) refl

  -- the last close, and no more entries
  pub turn_over : (f p k : ℕ) (z : Bool) → (text_from f (place p (p ∷ []) k z) ≡ style.close) × (count_from f (place p (p ∷ []) k z) ≡ 0)
  unfolding text_from printed_from count_from closes
  turn_over f p k z =
      let none = no_entries f (place p (p ∷ []) k z) (λ h. let m = last_turn p k z in cc) in
      (rw none (rw (last_turn p k z, eq-eqb p p refl, append-nil, append-nil) refl), ap length none)

  -- an end was passed
  pub past_turn : (p e : ℕ) (es : List ℕ) (k : ℕ) → e < p → turn (place p (e ∷ es) k false) ≡ end_passed
  unfolding turn left_at
  past_turn p e es k lt = let ne : e ≢ p = omega arith in rw (ne_eqb e p ne, lt-ltb e p lt) refl

  -- what is written then, and no more entries either
  pub turn_past : (f p e : ℕ) (es : List ℕ) (k : ℕ) → e < p
      → (text_from f (place p (e ∷ es) k false) ≡ style.passed) × (count_from f (place p (e ∷ es) k false) ≡ 0)
  unfolding text_from printed_from count_from closes
  turn_past f p e es k lt =
      let ne : e ≢ p = omega arith in
      let none = no_entries f (place p (e ∷ es) k false) (λ h. let m = past_turn p e es k lt in cc) in
      (rw none (rw (past_turn p e es k lt, ne_eqb e p ne) refl), ap length none)
