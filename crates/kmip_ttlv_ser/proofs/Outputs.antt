-- What outputs got, piece after piece.
use Rattle.std.proofs.Common.{◌≡◌, ℕ, Bool, true, false, ◌+◌, ◌≤◌, List, [], ◌++◌, length, take, Option, Some, None, refl, sym, ap, ◌∙◌, arith, append_assoc}
use Rattle.std.proofs.Common.{append-nil, length-append, subst}
use Rattle.std.proofs.Math.Seq.{take-append-add}
use Rattle.std.specs.{Option.is_some, Io.KnownBytes.Appends, declared.io.Error.Error, Borrow.GName, declared.io.ErrorKind.ErrorKind as IoKind}
use Rattle.std.proofs.KnownBytes.{Appends-nil}
use Rattle.kmip_ttlv_types.specs.{Held.Held, Streams.AppendsFront, Streams.IsTight}
use Rattle.kmip_ttlv_types.proofs.Held.{uses_none, tight_second}
use Rattle.kmip_ttlv_types.specs.Trees.{Tree, bytes_all}
use Rattle.kmip_ttlv_ser.specs.{declared.pending.Place.Place, Passes.Measured, declared.pending.PendingTag.TheVariants.Nothing, WrittenItems.items}
use Rattle.kmip_ttlv_ser.specs.{Sizes.FitsAfter, Outputs.IsGiven}
use Rattle.kmip_ttlv_base.specs.Errors.{Kind, io_error, Location, unknown}
use Rattle.kmip_ttlv_base.specs.Values.{Value}
use Rattle.kmip_ttlv_ser.specs.EncodeResults.{IsWrittenAs, WrittenTo, PartlyWritten, IsNotWritten}
use Rattle.kmip_ttlv_ser.specs.Gathers.{Lent, Sends, IsGathered}
use Rattle.kmip_ttlv_ser.proofs.Leaves.{place_len}

-- a beginning of a piece, after what was appended
pub front_after : (a b c : Option (List ℕ)) (xs : List ℕ) {ys : List ℕ} → Appends a b xs → AppendsFront b c ys → AppendsFront a c (xs ++ ys)
front_after None b c xs first front = record { count = 0; within = omega arith; appends = tt }
front_after (Some xs0) None c xs first front = absurd first
front_after (Some xs0) (Some ys0) None xs first front = absurd front.appends
front_after (Some xs0) (Some ys0) (Some zs0) xs {ys} first front = record {
  count = length xs + front.count;
  within = omega (arith, front.within, length-append xs ys);
  appends = front.appends ∙ ap (λ zs. zs ++ take front.count ys) first ∙ append_assoc xs0 xs (take front.count ys)
      ∙ ap (λ zs. xs0 ++ zs) (sym (take-append-add xs ys front.count));
}

-- a sink that fails at this piece
pub fails_now : (start : Held) (sent piece : List ℕ) (pending held' : Option (List ℕ)) (room : Option ℕ) (failure : Option Error) {failed : Bool}
    → failed ≡ is_some failure → failed ≡ false → IsGiven start sent pending room failure → AppendsFront pending held' piece → IsTight room (length piece)
    → AppendsFront start.pending held' (sent ++ piece) × IsTight start.room (length (sent ++ piece))
fails_now start sent piece pending held' room (Some e) is not given front tight = let k : true ≡ false = sym is ∙ not in absurd cc
fails_now start sent piece pending held' room None is not given front tight =
    (front_after start.pending pending held' sent given.0 front, tight_second start.room room sent piece given.1 tight)

-- a sink that got nothing yet
pub given_nothing : {xs ys : List ℕ} (free room : ℕ) {failure : Option Error} → ys ≡ xs → free ≤ room → failure ≡ None
    → IsGiven record { pending = Some xs; room = Some free } [] (Some ys) (Some room) failure
given_nothing {xs} free room same le none = rw none (same ∙ sym (append-nil xs), omega (arith, le))

-- there was room for what was measured
pub never_fails : {o : Option (List Tree)} {p q : Place} {plan : List ℕ} (xs : List ℕ) (free : ℕ) (pending : Option (List ℕ)) (room : Option ℕ)
    {failure : Option Error} {e : Error} → (m : Measured o p q [] plan) → q.offset ≤ p.offset + free → failure ≡ Some e
    → IsGiven record { pending = Some xs; room = Some free } (bytes_all m.trees) pending room failure → ⊥
never_fails {p = p} {q = q} xs free pending room m fits is given =
    let g = rw is at given in absurd (omega (arith, fits, g.1, place_len p q m.trees m.reached))

pub gave_all : (start : Held) (sent xs ys : List ℕ) (room : Option ℕ) {failure : Option Error} → failure ≡ None → start.pending ≡ Some xs
    → IsGiven start sent (Some ys) room failure → ys ≡ xs ++ sent
gave_all start sent xs ys room is pending given =
    let g = rw is at given in let a : Appends (Some xs) (Some ys) sent = subst (λ h. Appends h (Some ys) sent) pending g.0 in a

-- ---- a sink behind a buffer

-- a piece that is buffered after the others
pub waits_too : {start : Lent} {sent w w' : List ℕ} (piece : List ℕ) {name : GName} {now : Held} {failure : Option Error}
    → IsGathered start sent name now w failure → w' ≡ w ++ piece → IsGathered start (sent ++ piece) name now w' failure
waits_too {w = w} piece g more =
    let parts = ap (λ bs. bs ++ piece) g.parts ∙ append_assoc g.front w piece ∙ ap (λ bs. g.front ++ bs) (sym more) in
    record { same = g.same; front = g.front; parts = parts; reached = g.reached }

-- nothing is buffered any more
pub flushed : {start : Lent} {sent w w' : List ℕ} {name name' : GName} {now now' : Held} {failure failure' : Option Error}
    → IsGathered start sent name now w failure → name' ≡ name → Sends now now' failure failure' w → w' ≡ []
    → IsGathered start sent name' now' w' failure'
flushed {start} {sent} {now' = now'} {failure' = failure'} g same sends empty =
    let reached = subst (λ bs. IsGiven start.before bs now'.pending now'.room failure') (sym g.parts) (sends start.before g.front g.reached) in
    record { same = same ∙ g.same; front = sent; parts = sym (ap (λ bs. sent ++ bs) empty ∙ append-nil sent); reached = reached }

-- if nothing is buffered, all was written
pub whole_reached : {start : Lent} {sent w : List ℕ} {name : GName} {now : Held} {failure : Option Error}
    → IsGathered start sent name now w failure → w ≡ [] → IsGiven start.before sent now.pending now.room failure
whole_reached {start} {now = now} {failure} g empty =
    let whole = g.parts ∙ ap (λ bs. g.front ++ bs) empty ∙ append-nil g.front in
    subst (λ bs. IsGiven start.before bs now.pending now.room failure) (sym whole) g.reached

-- a piece that is written while nothing is buffered
pub sent_too : {start : Lent} {sent w : List ℕ} (piece : List ℕ) {name : GName} {now now' : Held} {failure failure' : Option Error}
    → IsGathered start sent name now w failure → w ≡ [] → Sends now now' failure failure' piece
    → IsGathered start (sent ++ piece) name now' w failure'
sent_too {start} {sent} piece g empty sends =
    let parts = sym (ap (λ bs. (sent ++ piece) ++ bs) empty ∙ append-nil (sent ++ piece)) in
    record { same = g.same; front = sent ++ piece; parts = parts; reached = sends start.before sent (whole_reached g empty) }

pub gathered_nothing : (start : Lent) {name : GName} {now : Held} {w : List ℕ} {failure : Option Error} → name ≡ start.name → now ≡ start.before
    → w ≡ [] → failure ≡ None → IsGathered start [] name now w failure
gathered_nothing start {failure = failure} same is empty none =
    record {
      same = same;
      front = [];
      parts = sym empty;
      reached = rw none (subst (λ (b : Held). IsGiven start.before [] b.pending b.room None) (sym is) nothing);
    }
  where
    nothing : IsGiven start.before [] start.before.pending start.before.room None
    nothing = (Appends-nil start.before.pending, uses_none start.before.room)

module _ {v : Value} {p q : Place} {plan : List ℕ} (here : p.offset ≡ 0) (m : Measured (items v Nothing) p q [] plan) (old now : Held) where
  -- all bytes of a value that was measured
  written_whole : IsWrittenAs v 0 (bytes_all m.trees)
  written_whole =
      let fit : FitsAfter 0 m.trees = record { each = m.each; total = omega (arith, m.small, here, place_len p q m.trees m.reached) } in
      record { trees = m.trees; are = m.are; fit = fit; bytes_are = refl }

  pub written_to : {failure : Option Error} → IsGiven old (bytes_all m.trees) now.pending now.room failure → failure ≡ None → WrittenTo v old now
  written_to reached is =
      let given = rw is at reached in
      record { bytes = bytes_all m.trees; written = written_whole; appends = record { appended = given.0; used = given.1 } }

  pub partly_written : {failure : Option Error} {e : Error} → IsGiven old (bytes_all m.trees) now.pending now.room failure → failure ≡ Some e
      → PartlyWritten v old now
  partly_written reached is =
      let given = rw is at reached in
      record { bytes = bytes_all m.trees; written = written_whole; appends = record { appended = given.0; tight = given.1 } }

pub not_written : {v : Value} {old new : Held} {kind : Kind} {location : Location} {e : IoKind} → kind ≡ io_error e → location ≡ unknown
    → PartlyWritten v old new → IsNotWritten v old new kind location
not_written {v} {old} {new} {location = location} is nowhere partly = subst (λ k. IsNotWritten v old new k location) (sym is) (nowhere, partly)
