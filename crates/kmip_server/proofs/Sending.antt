-- What is sent.
use Rattle.std.proofs.Common.{◌≡◌, ℕ, Option, Some, None, Result, Ok, Err, IsErrAnd, inl, subst, sym}
use Rattle.std.specs.declared.vec.Vec.{Vec}
use Rattle.kmip_ttlv_base.specs.Values.{Value}
use Rattle.kmip_headers.specs.declared.header.ProtocolVersion.{ProtocolVersion}
use Rattle.kmip_messages.specs.declared.response.Response.{Response}
use Rattle.kmip_server.specs.declared.reply.NoReply.{NoReply}
use Rattle.kmip_server.specs.declared.reply.NoReply.TheVariants.{Encoding, NoRoom}
use Rattle.kmip_server.specs.Replies.{Fits, IsBeyond, IsForMemory, IsWithin, SendsRefusal}

-- bytes that are there are within the limit
pub within_limit : {A : Type 0} (v : Value) (limit : ℕ) (found : Option (Vec ℕ A)) (bytes : Vec ℕ A) → found ≡ Some bytes → Fits v limit (Ok found)
    → IsWithin v limit bytes.items
within_limit v limit found bytes is fits = let P : Option (Vec ℕ _) → Type 0 = λ o. Fits v limit (Ok o) in subst P is fits

-- where there are none they are beyond it
pub beyond_limit : {A : Type 0} (v : Value) (limit : ℕ) (found : Option (Vec ℕ A)) → found ≡ None → Fits v limit (Ok found) → IsBeyond v limit
beyond_limit v limit found is fits = let P : Option (Vec ℕ _) → Type 0 = λ o. Fits v limit (Ok o) in subst P is fits

-- the bytes of a refusal in the version and for the reason that are known
pub sends_refusal_as : {A : Type 0} (stated : Response A → Value) (version version' : ProtocolVersion) (reason reason' limit : ℕ)
    (sent : Result (Vec ℕ A) (NoReply A)) → version ≡ version' → reason ≡ reason' → SendsRefusal stated version reason limit sent
    → SendsRefusal stated version' reason' limit sent
sends_refusal_as stated version version' reason reason' limit sent versions reasons sends =
    let of_version : ProtocolVersion → Type 0 = λ v. SendsRefusal stated v reason' limit sent in
    let of_reason : ℕ → Type 0 = λ n. SendsRefusal stated version n limit sent in
    subst of_version versions (subst of_reason reasons sends)

-- memory ran out for a refusal
pub lost_to_memory : {A : Type 0} (stated : Response A → Value) (version : ProtocolVersion) (reason limit : ℕ) (sent : Result (Vec ℕ A) (NoReply A))
    → IsErrAnd sent IsForMemory → SendsRefusal stated version reason limit sent
lost_to_memory stated version reason limit (Ok bytes) memory = absurd memory
lost_to_memory stated version reason limit (Err (Encoding e)) memory = inl memory
lost_to_memory stated version reason limit (Err NoRoom) memory = absurd memory

-- what is true of an error that is known is true of a result that has it
pub at_error : {T E : Type 0} (Of : Result T E → Type 0) (e : E) (r : Result T E) → IsErrAnd r (λ found. found ≡ e) → Of (Err e) → Of r
at_error Of e (Ok x) is of = absurd is
at_error {E = E} Of e (Err found) is of = let of_error : E → Type 0 = λ f. Of (Err f) in subst of_error (sym is) of
