-- A whole request, and its response.
use Rattle.std.specs.Prelude.{◌≡◌, ◌≢◌, ◌⊎◌, ◌<◌, ◌^◌, Bool, true, false, ℕ, ℤ, pos, negsuc, min, List, [], ◌∷◌, Option, Some, None, Result, Ok, Err, MatchBool, IfOk, nat_eq, if◌then◌else◌, length, vec_len}
use Rattle.std.specs.declared.alloc.AllocError.{AllocError}
use Rattle.kmip_ttlv_base.specs.declared.error.Error.{Error}
use Rattle.kmip_ttlv_parts.specs.declared.enumeration.Enumeration.{Enumeration}
use Rattle.kmip_headers.specs.declared.header.ProtocolVersion.{ProtocolVersion}
use Rattle.kmip_headers.specs.declared.header.RequestHeader.{RequestHeader}
use Rattle.kmip_headers.specs.declared.header.ResponseHeader.{ResponseHeader}
use Rattle.kmip_messages.specs.declared.envelope.EnvelopeHeader.{EnvelopeHeader}
use Rattle.kmip_messages.specs.declared.envelope.RequestEnvelope.{RequestEnvelope}
use Rattle.kmip_messages.specs.declared.envelope.RequestEnvelopeItem.{RequestEnvelopeItem}
use Rattle.kmip_messages.specs.declared.response.Response.{Response}
use Rattle.kmip_messages.specs.declared.response.ResponseItem.{ResponseItem}
use Rattle.kmip_responses.specs.declared.response_payload.ResponsePayload.{ResponsePayload}
use Rattle.kmip_server.specs.declared.messages.Reply.{Reply}
use Rattle.kmip_server.specs.declared.refusal.Refusal.{Refusal}
use Rattle.kmip_server.specs.Refusals.{reason_of, authentication_not_successful, feature_not_supported, invalid_message}
use Rattle.kmip_server.specs.Abilities.{Declaration, speaks}
use Rattle.kmip_server.specs.Batches.{AreAnswers, BreaksOff}
use Rattle.kmip_server.specs.Items.{Answers, IsUnanswered, SaysRefused, ends, reason_for}

-- whether a batch stops at the first item that fails: by Stop (2), and where there is no option; it goes on by Continue (1). None for Undo
-- (3), and for a number that is no option (KMIP 1.0, section 6.13)
abbrev pub stops_by : Option (Enumeration 0x42000E) → Option Bool
stops_by None = Some true
stops_by (Some option) = if nat_eq option.number 2 then Some true else (if nat_eq option.number 1 then Some false else None)

-- why a request is refused by its header: its Batch Count isn't the number of its items, or its option isn't there
abbrev pub IsRefusedBy : {A : Type 0} → RequestHeader A → ℕ → Refusal → Type 0
IsRefusedBy header items refusal =
    ((reason_of refusal ≡ invalid_message) × (header.batch_count ≢ pos items))
    ⊎ ((reason_of refusal ≡ feature_not_supported) × (stops_by header.batch_error_continuation_option ≡ None))

-- a header has this count of items, and its batch stops or not
pub record AreTerms {A : Type 0} (header : RequestHeader A) (items : ℕ) (stops : Bool) : Type 0 where
  pub counted : header.batch_count ≡ pos items
  pub option : stops_by header.batch_error_continuation_option ≡ Some stops

-- the same, or why the request is refused
abbrev pub Terms : {A : Type 0} → RequestHeader A → ℕ → Result Bool Refusal → Type 0
Terms header items (Ok stops) = AreTerms header items stops
Terms header items (Err refusal) = IsRefusedBy header items refusal

-- a header as it is decoded, or why it isn't
abbrev pub HeaderIs : {A : Type 0} → (Result (RequestHeader A) (Error A) → Type 0) → Result (RequestHeader A) Refusal → Type 0
HeaderIs {A} Reads (Ok header) = Reads (Ok header)
HeaderIs {A} Reads (Err refusal) = (e : Error A) × Reads (Err e) × (reason_of refusal ≡ reason_for e)

-- a header of a response says nothing but its version, its time and a count
pub record IsPlain {A : Type 0} (version : ProtocolVersion) (header : ResponseHeader A) : Type 0 where
  pub version_is : header.version ≡ version
  pub nonce : header.nonce ≡ None
  pub password : header.server_hashed_password ≡ None
  pub attestation : header.attestation_types.items ≡ []
  pub client : header.client_correlation_value ≡ None
  pub server : header.server_correlation_value ≡ None

-- the response that refuses a request as a whole: in this version, with one item, which is of no operation and says why
pub record Refuses {A : Type 0} (version : ProtocolVersion) (reason : ℕ) (response : Response A) : Type 0 where
  pub header : IsPlain version response.header
  pub counted : response.header.batch_count ≡ pos 1
  pub item : ResponseItem A
  pub items_are : response.items.items ≡ item ∷ []
  pub operation_is : item.operation ≡ None
  pub identifier_is : item.unique_batch_item_id ≡ None
  pub refusal : Refusal
  pub reason_is : reason_of refusal ≡ reason
  pub says : SaysRefused refusal item

-- the server's best version
abbrev pub best : List ProtocolVersion → ProtocolVersion
best [] = record { major = pos 1; minor = pos 0 }
best (version ∷ versions) = version

-- the response to a batch: in this version, with as many items as it says
pub record IsResponse {A : Type 0} (version : ProtocolVersion) (response : Response A) : Type 0 where
  pub header : IsPlain version response.header
  pub counted : vec_len response.items < 2 ^ 31 → response.header.batch_count ≡ pos (vec_len response.items)

-- nothing is done of a request, and its response says why, unless memory ran out for it
pub record IsRefused {H A : Type 0} (version : ProtocolVersion) (reason : ℕ) (here : H) (response : Result (Response A) AllocError) (new : H) : Type 0 where
  pub refuses : IfOk response (Refuses version reason)
  pub unchanged : new ≡ here

-- the most bytes of a response: the server's limit, or the client's Maximum Response Size if that is less (KMIP 1.0, section 6.3)
abbrev pub limit_for : ℕ → Option ℤ → ℕ
limit_for limit None = limit
limit_for limit (Some (pos size)) = min size limit
limit_for limit (Some (negsuc size)) = 0

-- the items of a request are answered
pub record IsBatch {H A : Type 0} (Answers : H → RequestEnvelopeItem A → ResponseItem A → H → Type 0) (version : ProtocolVersion) (stops : Bool)
    (here : H) (items : List (RequestEnvelopeItem A)) (response : Response A) (new : H) : Type 0 where
  pub is : IsResponse version response
  pub answers : AreAnswers Answers (ends stops) here items response.items.items new

-- a reply has a response that is due, within this limit; or memory ran out for it
abbrev pub IsReply : {A : Type 0} → (Result (Response A) AllocError → Type 0) → ℕ → Result (Reply A) AllocError → Type 0
IsReply IsDue limit (Ok reply) = IsDue (Ok reply.response) × (reply.limit ≡ limit)
IsReply IsDue limit (Err e) = IsDue (Err e)

module _ {H A : Type 0} (Admits : H → RequestHeader A → Bool → H → Type 0) (Done : H → RequestEnvelopeItem A → Result (ResponsePayload A) Refusal → H → Type 0)
    (IsSound : ResponseItem A → Type 0) where
  -- the items of a request are done, and answered, unless memory runs out at one of them
  abbrev pub Runs : ProtocolVersion → Bool → H → List (RequestEnvelopeItem A) → Result (Response A) AllocError → H → Type 0
  Runs version stops here items (Ok response) new = IsBatch (Answers Done IsSound) version stops here items response new
  Runs version stops here items (Err e) new = BreaksOff (Answers Done IsSound) (IsUnanswered Done) (ends stops) here items new

  -- a request whose header is good is admitted or not, and only then are its items done
  abbrev pub Goes : ProtocolVersion → Bool → Bool → H → List (RequestEnvelopeItem A) → Result (Response A) AllocError → H → Type 0
  Goes version true stops mid items response new = Runs version stops mid items response new
  Goes version false stops mid items response new = IsRefused version authentication_not_successful mid response new

  -- the response to a request whose header says this
  abbrev pub RespondsBy : ProtocolVersion → RequestHeader A → Result Bool Refusal → H → List (RequestEnvelopeItem A) → Result (Response A) AllocError
      → H → Type 0
  RespondsBy version header (Err refusal) old items response new = IsRefused version (reason_of refusal) old response new
  RespondsBy version header (Ok stops) old items response new =
      (admitted : Bool) × (mid : H) × Admits old header admitted mid × Goes version admitted stops mid items response new

  -- the response to a request with this header and these items
  abbrev pub Responds : ProtocolVersion → RequestHeader A → H → List (RequestEnvelopeItem A) → H → Result (Response A) AllocError → Type 0
  Responds version header old items new response =
      (terms : Result Bool Refusal) × Terms header (length items) terms × RespondsBy version header terms old items response new

  -- the reply to a request whose header was decoded, or wasn't, where the server's limit is this
  abbrev pub RepliesTo : ProtocolVersion → ℕ → Result (RequestHeader A) Refusal → H → List (RequestEnvelopeItem A) → Result (Reply A) AllocError → H → Type 0
  RepliesTo version limit (Err refusal) old items reply new = IsReply (λ response. IsRefused version (reason_of refusal) old response new) limit reply
  RepliesTo version limit (Ok header) old items reply new =
      IsReply (Responds version header old items new) (limit_for limit header.maximum_response_size) reply

  -- From old a request has this reply, or memory runs out on the way to it, and it leads to new: it is refused, in the server's best version,
  -- if it is of a version that the server doesn't speak; otherwise it is answered in its own
  abbrev pub Replies : (EnvelopeHeader A → Result (RequestHeader A) (Error A) → Type 0) → (H → Declaration) → ℕ
      → H → RequestEnvelope A → Result (Reply A) AllocError → H → Type 0
  Replies Reads declaration limit old request reply new =
      MatchBool (speaks (declaration old).versions request.header.version)
      ((header : Result (RequestHeader A) Refusal) × HeaderIs (Reads request.header) header
      × RepliesTo request.header.version limit header old request.items.items reply new)
      (IsReply (λ response. IsRefused (best (declaration old).versions) invalid_message old response new) limit reply)
