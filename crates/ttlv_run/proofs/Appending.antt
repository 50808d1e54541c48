-- Texts that are written one behind the other.
use Rattle.std.proofs.Common.{◌≡◌, ◌∙◌, inl, inr, is_ok, is_err, ℕ, List, [], ◌++◌, Bool, true, false, Result, Ok, Err, OnOk, OnErr}
use Rattle.std.proofs.Common.{ap, refl, sym, subst, append-nil}
use Rattle.std.specs.Borrow.{GName}
use Rattle.kmip_ttlv_types.specs.Held.{Held, Gets, GetsFront, Says}
use Rattle.kmip_ttlv_types.proofs.Held.{tight_second, whole_front}
use Rattle.kmip_ttlv_types.proofs.Taken.{AppendsFront-second}
use Rattle.kmip_ttlv_util.specs.Pieces.{Buffered, Moves, Stops}
use Rattle.kmip_ttlv_util.specs.Sinks.{stops_second}
use Rattle.kmip_ttlv_util.proofs.Saying.{sink_of, whole_sent, stopped_front}
use Rattle.ttlv_run.specs.declared.run_error.RunError.{RunError}
use Rattle.ttlv_run.specs.declared.run_error.RunError.TheVariants.{NoMemory}
use Rattle.ttlv_run.specs.Reasons.{Reports, PrintsFront}

pub decided_says : (writable : Bool) (old new : Held) (text : List ℕ) → Reports writable old new text → Says old new text
decided_says true old new text h = inl h
decided_says false old new text h = inr h

-- a beginning of a text behind another one is a beginning of both
pub prints_behind : {why : RunError} {a b c : Held} (s t : List ℕ) → Gets a b s → PrintsFront why b c t → PrintsFront why a c (s ++ t)
prints_behind {why} {a} {b} {c} s t x y = record {
  appended = AppendsFront-second a.pending b.pending c.pending s t x.appended y.appended;
  reason = elim y.reason [ inl memory ↦ inl memory | inr tight ↦ inr (tight_second a.room b.room s t x.used tight) ];
}

-- memory ran out behind a text
pub memory_ended : {a b : Held} (text : List ℕ) → Gets a b text → PrintsFront NoMemory a b text
memory_ended {a} {b} text x = record { appended = whole_front a.pending b.pending text x.appended; reason = inl refl }

-- a call that didn't fail
pub ok_here : {T E P : Type 0} (r : Result T E) → is_err r ≡ false → OnOk r P → P
ok_here (Ok x) fine h = h
ok_here (Err e) fine h = absurd cc

-- a name that was added to an empty buffer before a sink
module _ (name : GName) (old : Held) (a : Buffered) (is : a ≡ record { name = name; pending = old.pending; room = old.room; waits = []; failed = false }) where
  none : a.waits ≡ []
  none = ap (λ (x : Buffered). x.waits) is

  same : a.name ≡ name
  same = ap (λ (x : Buffered). x.name) is

  -- a write failed
  name_stopped : (b : Buffered) (text : List ℕ) → Stops a text b → (b.name ≡ name) × Reports false old (sink_of b) text
  name_stopped b text x = (x.same ∙ same, subst (λ (y : Buffered). GetsFront (sink_of y) (sink_of b) text) is (stopped_front a b none text x))

  -- what was buffered was sent, to its end or not
  pub name_ended : {T E : Type 0} (r : Result T E) (said : Bool) (b c : Buffered) (text : List ℕ) → said ≡ is_ok r → Moves a text b → OnOk r (Moves b [] c)
      → OnErr r (Stops b [] c) → c.waits ≡ [] → (c.name ≡ name) × Reports said old (sink_of c) text
  name_ended (Ok x) said b c text says moves ok err empty = (
    ok.same ∙ moves.same ∙ same,
    subst (λ (t : Bool). Reports t old (sink_of c) text) (sym says)
        (subst (λ (y : Buffered). Gets (sink_of y) (sink_of c) text) is (whole_sent a b c none text moves ok empty)),
  )
  name_ended (Err e) said b c text says moves ok err empty =
      let h = name_stopped c text (subst (λ (t : List ℕ). Stops a t c) (append-nil text) (stops_second a b c text [] moves err)) in
      (h.0, subst (λ (t : Bool). Reports t old (sink_of c) text) (sym says) h.1)
