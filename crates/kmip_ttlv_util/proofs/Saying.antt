-- The loop of a printer over any sink, and its result.
use Rattle.std.proofs.Common.{◌≡◌, ◌≤◌, ℕ, true, false, List, [], ◌++◌, length, take, drop, append-nil, append_assoc, inl, inr, sym, ap, subst, ◌∙◌}
use Rattle.std.proofs.Common.{arith, length-append}
use Rattle.std.proofs.{lemmas.List.take-append-drop, Math.Seq.take-append_seam}
use Rattle.std.specs.Prelude.{Option, Result, Ok, Err, IfOk, OnOk, OnErr, ◌⊎◌}
use Rattle.std.specs.{Borrow.GName, Io.KnownBytes.Appends, IoError.error_kind, declared.io.Error.Error as IoFault}
use Rattle.std.specs.declared.io.ErrorKind.TheVariants.{OutOfMemory}
use Rattle.kmip_ttlv_types.specs.{Held.Held, Held.Gets, Held.GetsFront, Streams.AppendsFront, Streams.UsesRoom, Streams.IsTight}
use Rattle.kmip_ttlv_util.specs.{declared.pieces.Pieces.Pieces, Waiting.waiting}
use Rattle.kmip_ttlv_util.specs.Pieces.{SomeText, WritesText, WritesFront, Buffered, buffered, Moves, Stops, MovesSome, MovesFront, Closes}
use Rattle.kmip_ttlv_util.specs.Sinks.{moves_both, stops_second}

-- a text of this kind, with this property, by cases
module _ {T E : Type 0} where
  -- if the call succeeds
  pub ok_text : (r : Result T E) (kind said : List ℕ → Type 0) (t : List ℕ) → OnOk r (said t) → kind t → OnOk r (SomeText kind said)
  ok_text (Ok x) kind said t h is = record { text = t; is = is; holds = h }
  ok_text (Err e) kind said t h is = tt

  -- if it fails
  pub err_text : (r : Result T E) (kind said : List ℕ → Type 0) (t : List ℕ) → OnErr r (said t) → kind t → OnErr r (SomeText kind said)
  err_text (Ok x) kind said t h is = tt
  err_text (Err e) kind said t h is = record { text = t; is = is; holds = h }

  pub err_map : (r : Result T E) (P Q : Type 0) → OnErr r P → (P → Q) → OnErr r Q
  err_map (Ok x) P Q h f = tt
  err_map (Err e) P Q h f = f h

-- a text of one kind is of another kind
pub written_as : {T : Type 0} (r : Result T IoFault) (kind kind' : List ℕ → Type 0) (old new : Held) → WritesText kind old new r
    → ((t : List ℕ) → kind t → kind' t) → WritesText kind' old new r
written_as (Ok x) kind kind' old new w f = record { text = w.text; is = f w.text w.is; holds = w.holds }
written_as (Err e) kind kind' old new w f = record { text = w.text; is = f w.text w.is; holds = w.holds }

-- sinks, by what was appended to them
module _ {X : Type 0} (adds breaks : X → List ℕ → X → Type 0) where
  -- if appending a beginning of a text failed, appending the text failed
  pub breaks_rest : ((a b : X) (s t : List ℕ) → breaks a s b → breaks a (s ++ t) b) → (a b : X) (s rest whole : List ℕ) → breaks a s b → s ++ rest ≡ whole
      → breaks a whole b
  breaks_rest first a b s rest whole h is = subst (λ (t : List ℕ). breaks a t b) is (first a b s rest h)

  -- an equal text
  pub adds_same : (a b : X) (s t : List ℕ) → adds a s b → s ≡ t → adds a t b
  adds_same a b s t h is = subst (λ (u : List ℕ). adds a u b) is h

  pub breaks_same : (a b : X) (s t : List ℕ) → breaks a s b → s ≡ t → breaks a t b
  breaks_same a b s t h is = subst (λ (u : List ℕ). breaks a u b) is h

  module _ {T E : Type 0} where
    pub ok_same : (r : Result T E) (a b : X) (s t : List ℕ) → OnOk r (adds a s b) → s ≡ t → OnOk r (adds a t b)
    ok_same r a b s t h is = subst (λ (u : List ℕ). OnOk r (adds a u b)) is h

    pub err_same : (r : Result T E) (a b : X) (s t : List ℕ) → OnErr r (breaks a s b) → s ≡ t → OnErr r (breaks a t b)
    err_same r a b s t h is = subst (λ (u : List ℕ). OnErr r (breaks a u b)) is h

    -- the call failed
    pub err_now : (r : Result T E) (a b : X) (s : List ℕ) → breaks a s b → OnErr r (breaks a s b)
    err_now (Ok x) a b s h = tt
    err_now (Err e) a b s h = h

    -- a text after one that was appended
    pub ok_then : ((a b c : X) (s t : List ℕ) → adds a s b → adds b t c → adds a (s ++ t) c) → (r : Result T E) (a b c : X) (s t : List ℕ) → adds a s b
        → OnOk r (adds b t c) → OnOk r (adds a (s ++ t) c)
    ok_then both (Ok x) a b c s t p q = both a b c s t p q
    ok_then both (Err e) a b c s t p q = tt

    pub err_then : ((a b c : X) (s t : List ℕ) → adds a s b → breaks b t c → breaks a (s ++ t) c) → (r : Result T E) (a b c : X) (s t : List ℕ) → adds a s b
        → OnErr r (breaks b t c) → OnErr r (breaks a (s ++ t) c)
    err_then second (Ok x) a b c s t p q = tt
    err_then second (Err e) a b c s t p q = second a b c s t p q

-- what a text begins with
pub record Begins (front text : List ℕ) : Type 0 where
  pub more : List ℕ
  pub is : text ≡ front ++ more

pub begins_equal : {s t : List ℕ} → s ≡ t → Begins s t
begins_equal {s} is = record { more = []; is = sym is ∙ sym (append-nil s) }

-- the call failed, and a beginning of a text was appended
pub err_front : {X T E : Type 0} {breaks : X → List ℕ → X → Type 0} {a b : X} {s t : List ℕ}
    → ((a b : X) (s t : List ℕ) → breaks a s b → breaks a (s ++ t) b) → (r : Result T E) → breaks a s b → Begins s t → OnErr r (breaks a t b)
err_front first (Ok x) h k = tt
err_front first (Err e) h k = rw k.is (first _ _ _ k.more h)

-- what a call that appends a text does
pub record Does {X T E : Type 0} (adds breaks : X → List ℕ → X → Type 0) (r : Result T E) (a : X) (t : List ℕ) (b : X) : Type 0 where
  pub ok : OnOk r (adds a t b)
  pub err : OnErr r (breaks a t b)

-- an equal text
pub does_same : {X T E : Type 0} {adds breaks : X → List ℕ → X → Type 0} {r : Result T E} {a b : X} {s t : List ℕ} → Does adds breaks r a s b → s ≡ t
    → Does adds breaks r a t b
does_same {adds = adds} {breaks = breaks} {r = r} {a = a} {b = b} d is = subst (λ (t : List ℕ). Does adds breaks r a t b) is d

-- after a text that was appended
pub does_then : {X T E : Type 0} {adds breaks : X → List ℕ → X → Type 0} {a b c : X} {s : List ℕ}
    → ((a b c : X) (s t : List ℕ) → adds a s b → adds b t c → adds a (s ++ t) c)
    → ((a b c : X) (s t : List ℕ) → adds a s b → breaks b t c → breaks a (s ++ t) c) → (r : Result T E) (t : List ℕ) → adds a s b
    → Does adds breaks r b t c → Does adds breaks r a (s ++ t) c
does_then {adds = adds} {breaks = breaks} both second r t h d = record {
  ok = ok_then adds breaks both r _ _ _ _ t h d.ok;
  err = err_then adds breaks second r _ _ _ _ t h d.err;
}

-- an empty string becomes the text that was appended
pub from_none : (kind : List ℕ → Type 0) (old new : List ℕ) → SomeText kind (λ t. new ≡ old ++ t) → old ≡ [] → kind new
from_none kind old new s none = subst kind (sym (s.holds ∙ ap (λ (o : List ℕ). o ++ s.text) none)) s.is

-- ---- a buffer before a sink

-- the sink of a buffer
abbrev pub sink_of : Buffered → Held
sink_of a = record { pending = a.pending; room = a.room }

-- nothing is buffered any more
pub whole_sent : (a b c : Buffered) → a.waits ≡ [] → (t : List ℕ) → Moves a t b → Moves b [] c → c.waits ≡ [] → Gets (sink_of a) (sink_of c) t
whole_sent a b c none t x y empty =
    let m = moves_both a b c t [] x y in
    let is : m.sent ≡ t = sym (append-nil m.sent) ∙ ap (λ (z : List ℕ). m.sent ++ z) (sym empty) ∙ sym m.parts ∙ ap (λ (z : List ℕ). z ++ (t ++ [])) none
    ∙ append-nil t in
    record {
      appended = subst (Appends a.pending c.pending) is m.appended;
      used = subst (λ (z : List ℕ). UsesRoom a.room c.room (length z)) is m.used;
    }

-- what is left of a text when nothing was buffered, and a write failed
pub stopped_front : (a c : Buffered) → a.waits ≡ [] → (t : List ℕ) → Stops a t c → GetsFront (sink_of a) (sink_of c) t
stopped_front a c none t x =
    let is : a.waits ++ t ≡ t = ap (λ (z : List ℕ). z ++ t) none in
    record {
      appended = subst (AppendsFront a.pending c.pending) is x.front;
      tight = subst (λ (z : List ℕ). IsTight a.room (length z)) is x.tight;
    }

stopped_sent : (a c : Buffered) (e : IoFault) → a.waits ≡ [] → (t : List ℕ) → Stops a t c → WritesFront (sink_of a) (sink_of c) e t
stopped_sent a c e none t x = let h = stopped_front a c none t x in record { appended = h.appended; why = inl h.tight }

-- when none did
some_sent : (a c : Buffered) (e : IoFault) → a.waits ≡ [] → (t : List ℕ) → MovesSome a t c → error_kind e ≡ OutOfMemory
    → WritesFront (sink_of a) (sink_of c) e t
some_sent a c e none t x memory =
    let m = x.moves in
    let parts : take x.count t ≡ m.sent ++ c.waits = ap (λ (z : List ℕ). z ++ take x.count t) (sym none) ∙ m.parts in
    let all : t ≡ m.sent ++ (c.waits ++ drop x.count t) =
    sym (take-append-drop x.count t) ∙ ap (λ (z : List ℕ). z ++ drop x.count t) parts ∙ append_assoc m.sent c.waits (drop x.count t) in
    let is : m.sent ≡ take (length m.sent) t =
    sym (take-append_seam m.sent (c.waits ++ drop x.count t)) ∙ ap (take (length m.sent)) (sym all) in
    let within : length m.sent ≤ length t = omega (arith, ap length all, length-append m.sent (c.waits ++ drop x.count t)) in
    let appended : Appends a.pending c.pending (take (length m.sent) t) = subst (Appends a.pending c.pending) is m.appended in
    record {
      appended = record { count = length m.sent; within = within; appends = appended };
      why = inr (
        memory,
        record {
          count = length m.sent;
          within = within;
          gets = record { appended = appended; used = subst (λ (z : List ℕ). UsesRoom a.room c.room (length z)) is m.used };
        },
      );
    }

-- printing failed, as a write had, or memory ran out
broken_sent : (a b : Buffered) (f e : IoFault) → a.waits ≡ [] → a.failed ≡ false → (t : List ℕ) → MovesFront a t b
    → ((b.failed ≡ true) × (e ≡ f)) ⊎ ((b.failed ≡ false) × (error_kind e ≡ OutOfMemory))
    → WritesFront (sink_of a) (sink_of b) e t
broken_sent a b f e none going t (inl x) why = stopped_sent a b e none t x
broken_sent a b f e none going t (inr x) (inl failed) =
    let k : true ≡ false = sym failed.0 ∙ x.moves.goes_on ∙ going in absurd cc
broken_sent a b f e none going t (inr x) (inr memory) = some_sent a b e none t x memory.1

-- the sink is the same
front_name : (a b : Buffered) (t : List ℕ) → MovesFront a t b → b.name ≡ a.name
front_name a b t (inl x) = x.same
front_name a b t (inr x) = x.moves.same

-- what closing a buffer returns: a sink got a text that is due to the value, or, on an error, a beginning of one
abbrev pub ClosesText : {T : Type 0} → (T → List ℕ → Type 0) → (List ℕ → Type 0) → Held → Held → Result T IoFault → Type 0
ClosesText kind broken old new (Ok x) = SomeText (kind x) (Gets old new)
ClosesText kind broken old new (Err e) = SomeText broken (WritesFront old new e)

-- whatever is added to an empty buffer is sent when it is closed
closed_text : {T : Type 0} (kind : T → List ℕ → Type 0) (broken : List ℕ → Type 0) (printed r : Result T IoFault) (a b c : Buffered) → a.waits ≡ []
    → a.failed ≡ false
    → IfOk printed (λ x. SomeText (kind x) (λ t. Moves a t b)) → OnErr printed (SomeText broken (λ t. MovesFront a t b))
    → IfOk printed (λ x. (t : List ℕ) → kind x t → broken t) → Closes printed b c r
    → (c.name ≡ a.name) × ClosesText kind broken (sink_of a) (sink_of c) r
closed_text kind broken (Ok x) (Ok y) a b c none going ok err ends (is, sent, empty) =
    let same : x ≡ y = cc in (
      sent.same ∙ ok.holds.same,
      record { text = ok.text; is = subst (λ v. kind v ok.text) same ok.is; holds = whole_sent a b c none ok.text ok.holds sent empty },
    )
closed_text kind broken (Err f) (Ok y) a b c none going ok err ends (is, sent, empty) = absurd cc
closed_text kind broken (Ok x) (Err e) a b c none going ok err ends stops =
    let m = subst (λ (t : List ℕ). Stops a t c) (append-nil ok.text) (stops_second a b c ok.text [] ok.holds stops) in
    (m.same, record { text = ok.text; is = ends ok.text ok.is; holds = stopped_sent a c e none ok.text m })
closed_text kind broken (Err f) (Err e) a b c none going ok err ends (same, why) =
    let w = broken_sent a b f e none going err.text err.holds why in
    let h : c ≡ b = same in (
      ap (λ (x : Buffered). x.name) h ∙ front_name a b err.text err.holds,
      record { text = err.text; is = err.is; holds = subst (λ (x : Buffered). WritesFront (sink_of a) (sink_of x) e err.text) (sym h) w },
    )

-- an empty buffer over a sink that was lent
pub lent_buffer : {S : Type 0} (emitted : S → Option (List ℕ)) (room : S → Option ℕ) (p : Pieces S) {name : GName} {sink : S} → p.sink.ghost_name ≡ name
    → p.sink.now ≡ sink → waiting p.buffer ≡ [] → p.failed ≡ false
    → buffered emitted room p ≡ record { name = name; pending = emitted sink; room = room sink; waits = []; failed = false }
lent_buffer emitted room p same is empty going = cc

-- of a sink that was lent
pub closed_by : {T : Type 0} (kind : T → List ℕ → Type 0) (broken : List ℕ → Type 0) (printed r : Result T IoFault) (a b c : Buffered) (name : GName)
    (old : Held)
    → a ≡ record { name = name; pending = old.pending; room = old.room; waits = []; failed = false }
    → IfOk printed (λ x. SomeText (kind x) (λ t. Moves a t b)) → OnErr printed (SomeText broken (λ t. MovesFront a t b))
    → IfOk printed (λ x. (t : List ℕ) → kind x t → broken t) → Closes printed b c r
    → (c.name ≡ name) × ClosesText kind broken old (sink_of c) r
closed_by kind broken printed r a b c name old is ok err ends closes =
    let h = closed_text kind broken printed r a b c (ap (λ (x : Buffered). x.waits) is) (ap (λ (x : Buffered). x.failed) is) ok err ends closes in (
      h.0 ∙ ap (λ (x : Buffered). x.name) is,
      subst (λ (x : Buffered). ClosesText kind broken (sink_of x) (sink_of c) r) is h.1,
    )

-- where the text doesn't depend on the value
pub closed_lent : {T : Type 0} (kind : List ℕ → Type 0) (printed r : Result T IoFault) (a b c : Buffered) (name : GName) (old : Held)
    → a ≡ record { name = name; pending = old.pending; room = old.room; waits = []; failed = false } → OnOk printed (SomeText kind (λ t. Moves a t b))
    → OnErr printed (SomeText kind (λ t. MovesFront a t b)) → Closes printed b c r → (c.name ≡ name) × WritesText kind old (sink_of c) r
closed_lent {T} kind (Ok x) (Ok y) a b c name old is ok err closes = closed_by {T = T} (λ _. kind) kind (Ok x) (Ok y) a b c name old is ok err (λ t k. k) closes
closed_lent {T} kind (Ok x) (Err e) a b c name old is ok err closes =
    closed_by {T = T} (λ _. kind) kind (Ok x) (Err e) a b c name old is ok err (λ t k. k) closes
closed_lent {T} kind (Err f) (Ok y) a b c name old is ok err (is_ok, sent, empty) = absurd cc
closed_lent {T} kind (Err f) (Err e) a b c name old is ok err closes = closed_by {T = T} (λ _. kind) kind (Err f) (Err e) a b c name old is ok err tt closes
