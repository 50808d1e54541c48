-- How attributes go and come, where it is known whether they do by their tags.
use Rattle.std.proofs.Common.{◌≡◌, ℕ, Bool, true, List, Option, Some, None, Result, Ok, MatchBool, String, subst, sym}
use Rattle.kmip_ttlv_base.specs.declared.error.Error.{Error}
use Rattle.kmip_ttlv_parts.specs.declared.kept.Kept.{Kept}
use Rattle.kmip_attributes.specs.declared.attribute.Attribute.{Attribute}
use Rattle.kmip_attribute_set.specs.declared.attributes.Attributes.{Attributes}
use Rattle.kmip_headers.specs.declared.header.ProtocolVersion.{ProtocolVersion}
use Rattle.kmip_objects.specs.declared.key.KeyBlock.{KeyBlock}
use Rattle.kmip_requests.specs.declared.request_payload.RegisterRequest.{RegisterRequest}
use Rattle.kmip_client.specs.declared.failure.Failure.{Failure}
use Rattle.kmip_client.specs.Payloads.{AreAsked, AreTagged, AreTaken, IsRegister, Reading, Tagging, is_by_tags}

-- they go by their tags
pub tagged_by : {A : Type 0} (IsTagged : Tagging A) (version : ProtocolVersion) (given : Attributes A) (items : Kept A) → is_by_tags version ≡ true
    → IsTagged given (Ok items) → AreTagged IsTagged version given (Some items)
tagged_by IsTagged version given items e h = subst (λ b. MatchBool b (IsTagged given (Ok items)) (Some items ≡ None)) (sym e) h

-- they are asked for so
pub asked_by : {A : Type 0} (IsTagged : Tagging A) {b way : Bool} (names : List (List ℕ)) (asked : List (String A)) (items : Kept A) → b ≡ way
    → AreAsked IsTagged way names asked items → AreAsked IsTagged b names asked items
asked_by IsTagged names asked items e h = subst (λ b. AreAsked IsTagged b names asked items) (sym e) h

-- they come so
pub taken_by : {A : Type 0} (IsOfTags : Reading A) (list : List (Attribute A)) {items way : Option (Kept A)} (r : Result (Attributes A) (Failure A))
    → items ≡ way → AreTaken IsOfTags list way r → AreTaken IsOfTags list items r
taken_by IsOfTags list r e h = subst (λ o. AreTaken IsOfTags list o r) (sym e) h

-- an equal request keeps the same
pub kept_by : {A : Type 0} (IsTagged : Tagging A) (version : ProtocolVersion) (block : KeyBlock A) (given : Attributes A) {r s : RegisterRequest A} → r ≡ s
    → IsRegister IsTagged version block given s → IsRegister IsTagged version block given r
kept_by IsTagged version block given e h = subst (λ r. IsRegister IsTagged version block given r) (sym e) h
