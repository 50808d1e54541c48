-- The laws of text sinks.
use Rattle.std.proofs.Common.{◌≡◌, ℕ, ◌+◌, List, [], ◌++◌, length, take, Some, inl, inr, refl, sym, ap, subst, ◌∙◌, append_assoc, append-nil, le_refl}
use Rattle.std.proofs.{lemmas.List.take-append-le, Math.Seq.take-append-add, Math.Seq.take-length}
use Rattle.std.proofs.Common.{length-append, arith}
use Rattle.std.proofs.KnownBytes.{Appends-nil, Appends-trans}
use Rattle.kmip_ttlv_types.specs.Streams.{AppendsFront, IsTight}
use Rattle.kmip_ttlv_types.proofs.Held.{uses_none, uses_both, tight_longer, tight_second, whole_front}
use Rattle.kmip_ttlv_types.proofs.Taken.{AppendsFront-first, AppendsFront-second}
use Rattle.kmip_ttlv_util.specs.Pieces.{Buffered, Moves, Stops, MovesSome, MovesFront}

-- ---- a string

pub string_none : (a : List ℕ) → a ≡ a ++ []
string_none a = sym (append-nil a)

pub string_both : (a b c s t : List ℕ) → b ≡ a ++ s → c ≡ b ++ t → c ≡ a ++ (s ++ t)
string_both a b c s t p q = q ∙ ap (λ (x : List ℕ). x ++ t) p ∙ append_assoc a s t

pub string_first : (a b s t : List ℕ) → AppendsFront (Some a) (Some b) s → AppendsFront (Some a) (Some b) (s ++ t)
string_first a b s t p = AppendsFront-first (Some a) (Some b) s t p

pub string_second : (a b c s t : List ℕ) → b ≡ a ++ s → AppendsFront (Some b) (Some c) t → AppendsFront (Some a) (Some c) (s ++ t)
string_second a b c s t p q = AppendsFront-second (Some a) (Some b) (Some c) s t p q

pub string_after : (a b s : List ℕ) → b ≡ a ++ s → AppendsFront (Some a) (Some b) s
string_after a b s p = whole_front (Some a) (Some b) s p

-- ---- a buffer before a sink

pub moves_none : (a : Buffered) → Moves a [] a
moves_none a = record {
  same = refl;
  goes_on = refl;
  sent = [];
  appended = Appends-nil a.pending;
  used = uses_none a.room;
  parts = append-nil a.waits;
}

pub moves_both : (a b c : Buffered) (s t : List ℕ) → Moves a s b → Moves b t c → Moves a (s ++ t) c
moves_both a b c s t x y = record {
  same = y.same ∙ x.same;
  goes_on = y.goes_on ∙ x.goes_on;
  sent = x.sent ++ y.sent;
  appended = Appends-trans a.pending b.pending c.pending x.sent y.sent x.appended y.appended;
  used = uses_both a.room b.room c.room x.sent y.sent x.used y.used;
  parts = sym (append_assoc a.waits s t) ∙ ap (λ (z : List ℕ). z ++ t) x.parts ∙ append_assoc x.sent b.waits t
      ∙ ap (λ (z : List ℕ). x.sent ++ z) y.parts ∙ sym (append_assoc x.sent y.sent c.waits);
}

-- where a write failed
pub stops_first : (a b : Buffered) (s t : List ℕ) → Stops a s b → Stops a (s ++ t) b
stops_first a b s t x = record {
  same = x.same;
  failed = x.failed;
  front = subst (AppendsFront a.pending b.pending) (append_assoc a.waits s t) (AppendsFront-first a.pending b.pending (a.waits ++ s) t x.front);
  tight = tight_longer a.room (a.waits ++ s) (a.waits ++ (s ++ t)) x.tight
      (omega (arith, length-append a.waits s, length-append a.waits (s ++ t), length-append s t));
}

pub stops_second : (a b c : Buffered) (s t : List ℕ) → Moves a s b → Stops b t c → Stops a (s ++ t) c
stops_second a b c s t x y =
    let all : x.sent ++ (b.waits ++ t) ≡ a.waits ++ (s ++ t) =
    sym (append_assoc x.sent b.waits t) ∙ ap (λ (z : List ℕ). z ++ t) (sym x.parts) ∙ append_assoc a.waits s t in
    record {
      same = y.same ∙ x.same;
      failed = y.failed;
      front = subst (AppendsFront a.pending c.pending) all
          (AppendsFront-second a.pending b.pending c.pending x.sent (b.waits ++ t) x.appended y.front);
      tight = subst (λ (z : List ℕ). IsTight a.room (length z)) all (tight_second a.room b.room x.sent (b.waits ++ t) x.used y.tight);
    }

-- where none did
some_first : (a b : Buffered) (s t : List ℕ) → MovesSome a s b → MovesSome a (s ++ t) b
some_first a b s t x = record {
  count = x.count;
  within = omega (arith, x.within, length-append s t);
  moves = subst (λ (z : List ℕ). Moves a z b) (sym (take-append-le x.count s t x.within)) x.moves;
}

some_second : (a b c : Buffered) (s t : List ℕ) → Moves a s b → MovesSome b t c → MovesSome a (s ++ t) c
some_second a b c s t x y = record {
  count = length s + y.count;
  within = omega (arith, y.within, length-append s t);
  moves = subst (λ (z : List ℕ). Moves a z c) (sym (take-append-add s t y.count)) (moves_both a b c s (take y.count t) x y.moves);
}

pub front_first : (a b : Buffered) (s t : List ℕ) → MovesFront a s b → MovesFront a (s ++ t) b
front_first a b s t (inl x) = inl (stops_first a b s t x)
front_first a b s t (inr x) = inr (some_first a b s t x)

pub front_second : (a b c : Buffered) (s t : List ℕ) → Moves a s b → MovesFront b t c → MovesFront a (s ++ t) c
front_second a b c s t x (inl y) = inl (stops_second a b c s t x y)
front_second a b c s t x (inr y) = inr (some_second a b c s t x y)

pub front_after : (a b : Buffered) (s : List ℕ) → Moves a s b → MovesFront a s b
front_after a b s x = inr record {
  count = length s;
  within = le_refl (length s);
  moves = subst (λ (z : List ℕ). Moves a z b) (sym (take-length s)) x;
}
