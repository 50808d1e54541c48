-- The bytes of a reply.
use Rattle.std.specs.Prelude.{◌≤◌, ◌<◌, ◌⊎◌, ℕ, List, Option, Some, None, Result, Ok, Err, length}
use Rattle.std.specs.declared.alloc.AllocError.{AllocError}
use Rattle.std.specs.declared.vec.Vec.{Vec}
use Rattle.kmip_ttlv_base.specs.declared.error.Error.{Error}
use Rattle.kmip_ttlv_base.specs.Errors.{IsMemory}
use Rattle.kmip_ttlv_base.specs.Values.{Value}
use Rattle.kmip_ttlv_ser.specs.EncodeResults.{Fails, IsWrittenAs, origin}
use Rattle.kmip_headers.specs.declared.header.ProtocolVersion.{ProtocolVersion}
use Rattle.kmip_messages.specs.declared.envelope.RequestEnvelope.{RequestEnvelope}
use Rattle.kmip_messages.specs.declared.response.Response.{Response}
use Rattle.kmip_server.specs.declared.messages.Reply.{Reply}
use Rattle.kmip_server.specs.declared.reply.NoReply.{NoReply}
use Rattle.kmip_server.specs.declared.reply.NoReply.TheVariants.{Encoding, NoRoom}
use Rattle.kmip_server.specs.Refusals.{general_failure, response_too_large}
use Rattle.kmip_server.specs.Items.{reason_for}
use Rattle.kmip_server.specs.Abilities.{Declaration}
use Rattle.kmip_server.specs.Messages.{IsRefused, IsReply, Refuses, best}

-- a value's bytes, of which there are no more than the limit
pub record IsWithin (v : Value) (limit : ℕ) (bytes : List ℕ) : Type 0 where
  pub written : IsWrittenAs v 0 bytes
  pub within : length bytes ≤ limit

-- a value has more bytes than the limit
pub record IsBeyond (v : Value) (limit : ℕ) : Type 0 where
  pub bytes : List ℕ
  pub written : IsWrittenAs v 0 bytes
  pub beyond : limit < length bytes

-- memory ran out
abbrev pub IsForMemory : {A : Type 0} → NoReply A → Type 0
IsForMemory (Encoding e) = IsMemory e
IsForMemory NoRoom = ⊥

-- the bytes of a value, if there are no more than the limit, or why it can't be encoded
abbrev pub Fits : {A : Type 0} → Value → ℕ → Result (Option (Vec ℕ A)) (Error A) → Type 0
Fits v limit (Ok (Some bytes)) = IsWithin v limit bytes.items
Fits v limit (Ok None) = IsBeyond v limit
Fits v limit (Err e) = Fails v origin e

-- a refusal in this version and for this reason, and what is true of its value
pub record IsRefusalWith {A : Type 0} (stated : Response A → Value) (version : ProtocolVersion) (reason : ℕ) (Is : Value → Type 0) : Type 0 where
  pub response : Response A
  pub refuses : Refuses version reason response
  pub is : Is (stated response)

-- the bytes of a refusal within a limit, or why there are none: it has more, it can't be encoded, or memory ran out for it
abbrev pub SendsRefusal : {A : Type 0} → (Response A → Value) → ProtocolVersion → ℕ → ℕ → Result (Vec ℕ A) (NoReply A) → Type 0
SendsRefusal stated version reason limit (Ok bytes) = IsRefusalWith stated version reason (λ v. IsWithin v limit bytes.items)
SendsRefusal stated version reason limit (Err NoRoom) = IsRefusalWith stated version reason (λ v. IsBeyond v limit)
SendsRefusal stated version reason limit (Err (Encoding e)) = IsMemory e ⊎ IsRefusalWith stated version reason (λ v. Fails v origin e)

-- the bytes of a response within a limit, or why it can't be encoded
abbrev pub SendsWhole : {A : Type 0} → Value → ℕ → Result (Vec ℕ A) (NoReply A) → Type 0
SendsWhole v limit (Ok bytes) = IsWithin v limit bytes.items
SendsWhole v limit (Err NoRoom) = ⊥
SendsWhole v limit (Err (Encoding e)) = Fails v origin e

-- what is sent for a reply: its response, or, if this has more bytes than its limit, a refusal that says so
abbrev pub IsSent : {A : Type 0} → (Response A → Value) → Reply A → Result (Vec ℕ A) (NoReply A) → Type 0
IsSent stated reply sent =
    SendsWhole (stated reply.response) reply.limit sent
    ⊎ (IsBeyond (stated reply.response) reply.limit × SendsRefusal stated reply.response.header.version response_too_large reply.limit sent)

-- what is sent if there is a reply; and if memory ran out for one: a General Failure in the server's best version
abbrev pub IsSentFor : {A : Type 0} → (Response A → Value) → ProtocolVersion → ℕ → Result (Reply A) AllocError → Result (Vec ℕ A) (NoReply A) → Type 0
IsSentFor stated own limit (Ok reply) sent = IsSent stated reply sent
IsSentFor stated own limit (Err e) sent = SendsRefusal stated own general_failure limit sent

-- the reply to what was read: to a request, or to what is none, which is refused in the server's best version, and nothing is done
abbrev pub RepliesToRead : {H A : Type 0} → (H → RequestEnvelope A → Result (Reply A) AllocError → H → Type 0) → (H → Declaration) → ℕ
    → H → Result (RequestEnvelope A) (Error A) → Result (Reply A) AllocError → H → Type 0
RepliesToRead Replies declaration limit old (Ok request) reply new = Replies old request reply new
RepliesToRead Replies declaration limit old (Err e) reply new =
    IsReply (λ response. IsRefused (best (declaration old).versions) (reason_for e) old response new) limit reply

-- From old this is sent for what was read, or it says why nothing is, and new is what that leads to: what was done is all that belongs to a
-- reply, or, if memory ran out before there was one, a part
pub record Sends {H A : Type 0} (stated : Response A → Value) (Replies : H → RequestEnvelope A → Result (Reply A) AllocError → H → Type 0)
    (declaration : H → Declaration) (limit : ℕ) (old : H) (read : Result (RequestEnvelope A) (Error A)) (sent : Result (Vec ℕ A) (NoReply A)) (new : H)
    : Type 0 where
  pub reply : Result (Reply A) AllocError
  pub replies : RepliesToRead Replies declaration limit old read reply new
  pub is_sent : IsSentFor stated (best (declaration new).versions) limit reply sent
