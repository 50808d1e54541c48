-- Messages are answered one after the other.
use Rattle.std.proofs.Common.{◌≡◌, ℕ, Bool, List, [], ◌∷◌, ◌++◌, Option, Result, Err, refl, subst}
use Rattle.std.specs.declared.vec.Vec.{Vec}
use Rattle.kmip_ttlv_base.specs.declared.error.Error.{Error}
use Rattle.kmip_messages.specs.declared.envelope.RequestEnvelope.{RequestEnvelope}
use Rattle.kmip_server.specs.declared.reply.NoReply.{NoReply}
use Rattle.kmip_server.specs.declared.serve.End.{End}
use Rattle.kmip_server.specs.declared.serve.ServeError.{ServeError}
use Rattle.kmip_server.specs.declared.serve.ServeError.TheVariants as errors
use Rattle.kmip_server.specs.Serving.{At, HandlesMessage, IsLast, Leads, Stops}

-- the messages so far lead from first to here
pub record IsLed {S : Type 0} (Next : S → S → Type 0) (first here : S) : Type 0 where
  pub answered : List S
  pub leads : Leads Next first answered here

-- one message more
pub leads_on : {S : Type 0} (Next : S → S → Type 0) (first : S) (mids : List S) (here next : S) → Leads Next first mids here → Next here next
    → Leads Next first (mids ++ next ∷ []) next
leads_on {S} Next first [] here next is turn = let P : S → Type 0 = λ h. Next h next in (subst P is turn, refl)
leads_on Next first (mid ∷ mids) here next leads turn = (leads.0, leads_on Next mid mids here next leads.1 turn)

pub led_on : {S : Type 0} (Next : S → S → Type 0) (first here next : S) → IsLed Next first here → Next here next → IsLed Next first next
led_on Next first here next led turn = record { answered = led.answered ++ next ∷ []; leads = leads_on Next first led.answered here next led.leads turn }

module _ {H A : Type 0} (answers : List ℕ → Result (RequestEnvelope A) (Error A) → Type 0)
    (Sends : H → Result (RequestEnvelope A) (Error A) → Result (Vec ℕ A) (NoReply A) → H → Type 0) (can_fail : Bool) where
  -- a message that isn't answered is the last
  pub stops_last : (limit : Option ℕ) (old : At H) (error : ServeError A) (new : At H) → Stops answers Sends can_fail limit old error new
      → IsLast answers Sends can_fail limit (Err error) old new
  stops_last limit old errors.Count new stops = absurd stops.breaks
  stops_last limit old (errors.NoReply e) new stops = stops
  stops_last limit old (errors.Log e) new stops = stops
  stops_last limit old (errors.Writer e) new stops = stops

  -- a message by the limit that it is known to have, with what is known to come of it
  pub by_limit : (limit limit' : Option ℕ) (old : At H) (result result' : Result (Option End) (ServeError A)) (new : At H) → limit ≡ limit' → result ≡ result'
      → HandlesMessage answers Sends can_fail limit old result new → HandlesMessage answers Sends can_fail limit' old result' new
  by_limit limit limit' old result result' new limits results handled =
      let of_limit : Option ℕ → Type 0 = λ l. HandlesMessage answers Sends can_fail l old result' new in
      let of_result : Result (Option End) (ServeError A) → Type 0 = λ r. HandlesMessage answers Sends can_fail limit old r new in
      subst of_limit limits (subst of_result results handled)
