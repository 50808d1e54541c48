-- What becomes of one message.
use Rattle.std.proofs.Common.{◌≡◌, ℕ, List, Option, Result, Ok, Err, IsErrAnd, codes, inl, inr, refl, subst}
use Rattle.std.specs.Io.KnownBytes.{Appends}
use Rattle.std.specs.declared.vec.Vec.{Vec}
use Rattle.kmip_ttlv_types.specs.Streams.{AppendsFront}
use Rattle.kmip_ttlv_base.specs.declared.error.Error.{Error}
use Rattle.kmip_messages.specs.declared.envelope.RequestEnvelope.{RequestEnvelope}
use Rattle.kmip_server.specs.declared.reply.NoReply.{NoReply}
use Rattle.kmip_server.specs.declared.serve.ServeError.{ServeError}
use Rattle.kmip_server.specs.declared.serve.ServeError.TheVariants as errors
use Rattle.kmip_server.specs.Serving.{Breaks, Desk, IsDealtWith, IsLogged, IsNoted, IsSentTo, Logs, LogsFront}
use Rattle.kmip_server.proofs.Sending.{at_error}

module _ {H A : Type 0} (Sends : H → Result (RequestEnvelope A) (Error A) → Result (Vec ℕ A) (NoReply A) → H → Type 0) (old : Desk H)
    (read : Result (RequestEnvelope A) (Error A)) (came : List ℕ) where
  -- the log fails at the line of the request
  pub loses_asked : (e : ServeError A) (logged : Option (List ℕ)) → IsNoted (codes "> ") came old.logged (Err e) logged
      → Breaks Sends old read came e record { handler = old.handler; written = old.written; logged = logged }
  loses_asked (errors.Log e) logged noted = inl record { asked = noted; undone = refl; unwritten = refl }
  loses_asked (errors.NoReply e) logged noted = absurd noted
  loses_asked (errors.Writer e) logged noted = absurd noted
  loses_asked errors.Count logged noted = absurd noted

  module _ (bytes : Vec ℕ A) (between : Option (List ℕ)) (asked : Logs (codes "> ") came old.logged between) where
    -- the log fails at the line of the response, whose bytes are shown
    pub loses_answered : (handler : H) → Sends old.handler read (Ok bytes) handler → (shown : List ℕ) → shown ≡ bytes.items → (e : ServeError A)
        (logged : Option (List ℕ)) → IsNoted (codes "< ") shown between (Err e) logged
        → Breaks Sends old read came e record { handler = handler; written = old.written; logged = logged }
    loses_answered handler sends shown is (errors.Log e) logged noted =
        let of_shown : List ℕ → Type 0 = λ b. LogsFront (codes "< ") b between logged in
        inr record { bytes = bytes; sends = sends; between = between; asked = asked; answered = subst of_shown is noted; unwritten = refl }
    loses_answered handler sends shown is (errors.NoReply e) logged noted = absurd noted
    loses_answered handler sends shown is (errors.Writer e) logged noted = absurd noted
    loses_answered handler sends shown is errors.Count logged noted = absurd noted

    -- the response has its line in the log
    pub is_logged : (new : Desk H) → Sends old.handler read (Ok bytes) new.handler → (shown : List ℕ) → shown ≡ bytes.items
        → Logs (codes "< ") shown between new.logged → IsLogged Sends old read came bytes new
    is_logged new sends shown is answered =
        let of_shown : List ℕ → Type 0 = λ b. Logs (codes "< ") b between new.logged in
        record { sends = sends; between = between; asked = asked; answered = subst of_shown is answered }

  -- the response is written, or the writer fails
  pub dealt_with : (bytes : Vec ℕ A) (new : Desk H) → IsLogged Sends old read came bytes new → (shown : List ℕ) → shown ≡ bytes.items
      → (r : Result (Unit {0}) (ServeError A)) → IsSentTo shown old.written r new.written → IsDealtWith Sends old read came r new
  dealt_with bytes new logged shown is (Ok done) sent =
      let of_shown : List ℕ → Type 0 = λ b. Appends old.written new.written b in
      record { bytes = bytes; logged = logged; writes = subst of_shown is sent }
  dealt_with bytes new logged shown is (Err (errors.Writer e)) sent =
      let of_shown : List ℕ → Type 0 = λ b. AppendsFront old.written new.written b in
      record { bytes = bytes; logged = logged; writes = subst of_shown is sent }
  dealt_with bytes new logged shown is (Err (errors.Log e)) sent = absurd sent
  dealt_with bytes new logged shown is (Err (errors.NoReply e)) sent = absurd sent
  dealt_with bytes new logged shown is (Err errors.Count) sent = absurd sent

  -- an error that is handed on says why the message is not answered
  pub breaks_by : (e : ServeError A) (r : Result (Unit {0}) (ServeError A)) (new : Desk H) → IsErrAnd r (λ found. found ≡ e) → Breaks Sends old read came e new
      → IsDealtWith Sends old read came r new
  breaks_by e r new is breaks = at_error (λ found. IsDealtWith Sends old read came found new) e r is breaks
