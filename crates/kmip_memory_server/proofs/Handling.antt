-- What is done of an item, by what it asks for.
use Rattle.std.proofs.Common.{◌≡◌, ℤ, Result, refl, subst, sym}
use Rattle.kmip_ttlv_base.specs.declared.error.Error.{Error}
use Rattle.kmip_ttlv_parts.specs.declared.kept.Kept.{Kept}
use Rattle.kmip_ttlv_parts.specs.declared.boxed.Boxed.{Boxed}
use Rattle.kmip_attribute_set.specs.declared.attributes.Attributes.{Attributes}
use Rattle.kmip_memory_store.specs.declared.object.Step.TheVariants as steps
use Rattle.kmip_requests.specs.declared.request_payload.CreateRequest.{CreateRequest}
use Rattle.kmip_requests.specs.declared.request_payload.GetAttributesRequest.{GetAttributesRequest}
use Rattle.kmip_requests.specs.declared.request_payload.GetRequest.{GetRequest}
use Rattle.kmip_requests.specs.declared.request_payload.LocateRequest.{LocateRequest}
use Rattle.kmip_requests.specs.declared.request_payload.ObjectRequest.{ObjectRequest}
use Rattle.kmip_requests.specs.declared.request_payload.RegisterRequest.{RegisterRequest}
use Rattle.kmip_requests.specs.declared.request_payload.RevokeRequest.{RevokeRequest}
use Rattle.kmip_requests.specs.declared.request_payload.RequestPayload.{RequestPayload}
use Rattle.kmip_requests.specs.declared.request_payload.RequestPayload.TheVariants as requests
use Rattle.kmip_responses.specs.declared.response_payload.ResponsePayload.{ResponsePayload}
use Rattle.kmip_responses.specs.declared.response_payload.ResponsePayload.TheVariants as responses
use Rattle.kmip_operations.specs.Effects.{Moves, Revokes}
use Rattle.kmip_operations.specs.declared.objects.Objects.{Objects}
use Rattle.kmip_memory_server.specs.Effects.{Adds, Handles}

module _ {K A E : Type 0} (IsTagged : Attributes A → Result (Kept A) (Error A) → Type 0) (IsOfTags : Kept A → Result (Attributes A) (Error A) → Type 0)
    (old : Objects K) (asked : RequestPayload A) (result : Result (ResponsePayload A) E) (new : Objects K) where
  pub handles_as : (this : RequestPayload A) → asked ≡ this → Handles IsTagged IsOfTags old this result new → Handles IsTagged IsOfTags old asked result new
  handles_as this e h = subst (λ p. Handles IsTagged IsOfTags old p result new) (sym e) h

  pub registers_as : (this : Boxed (RegisterRequest A) A) (a : RegisterRequest A) → asked ≡ requests.Register this → a ≡ this.inner.value
      → Adds IsOfTags a old result new → Handles IsTagged IsOfTags old asked result new
  registers_as this a e f h = handles_as (requests.Register this) e (subst (λ x. Adds IsOfTags x old result new) f h)

  pub activates_as : (this : ObjectRequest A) (now : ℤ) → asked ≡ requests.Activate this
      → Moves steps.Activate now this.unique_identifier responses.Activate old result new → Handles IsTagged IsOfTags old asked result new
  activates_as this now e h = handles_as (requests.Activate this) e (now, h)

  pub revokes_as : (this : RevokeRequest A) (now : ℤ) → asked ≡ requests.Revoke this → Revokes now this old result new
      → Handles IsTagged IsOfTags old asked result new
  revokes_as this now e h = handles_as (requests.Revoke this) e (now, h)

  pub destroys_as : (this : ObjectRequest A) (now : ℤ) → asked ≡ requests.Destroy this
      → Moves steps.Destroy now this.unique_identifier responses.Destroy old result new → Handles IsTagged IsOfTags old asked result new
  destroys_as this now e h = handles_as (requests.Destroy this) e (now, h)

-- anything else changes nothing
pub handles_other : {K A E : Type 0} (IsTagged : Attributes A → Result (Kept A) (Error A) → Type 0)
    (IsOfTags : Kept A → Result (Attributes A) (Error A) → Type 0) (old : Objects K) (asked : RequestPayload A) (result : Result (ResponsePayload A) E)
    → ((x : CreateRequest A) → asked ≡ requests.Create x → ⊥) → ((x : Boxed (RegisterRequest A) A) → asked ≡ requests.Register x → ⊥)
    → ((x : LocateRequest A) → asked ≡ requests.Locate x → ⊥) → ((x : GetRequest A) → asked ≡ requests.Get x → ⊥)
    → ((x : GetAttributesRequest A) → asked ≡ requests.GetAttributes x → ⊥) → ((x : ObjectRequest A) → asked ≡ requests.GetAttributeList x → ⊥)
    → ((x : ObjectRequest A) → asked ≡ requests.Activate x → ⊥) → ((x : RevokeRequest A) → asked ≡ requests.Revoke x → ⊥)
    → ((x : ObjectRequest A) → asked ≡ requests.Destroy x → ⊥) → Handles IsTagged IsOfTags old asked result old
handles_other T O old (requests.Create x) r a b c d e f g h i = absurd (a x refl)
handles_other T O old (requests.Register x) r a b c d e f g h i = absurd (b x refl)
handles_other T O old (requests.Locate x) r a b c d e f g h i = absurd (c x refl)
handles_other T O old (requests.Get x) r a b c d e f g h i = absurd (d x refl)
handles_other T O old (requests.GetAttributes x) r a b c d e f g h i = absurd (e x refl)
handles_other T O old (requests.GetAttributeList x) r a b c d e f g h i = absurd (f x refl)
handles_other T O old (requests.Activate x) r a b c d e f g h i = absurd (g x refl)
handles_other T O old (requests.Revoke x) r a b c d e f g h i = absurd (h x refl)
handles_other T O old (requests.Destroy x) r a b c d e f g h i = absurd (i x refl)
handles_other T O old _ r a b c d e f g h i = refl
