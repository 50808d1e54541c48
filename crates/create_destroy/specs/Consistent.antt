-- Messages that are consistent: what `is_consistent` decides.
use Rattle.std.specs.Prelude.{◌≡◌, ◌⊎◌, ◌<◌, ℕ, List, codes, string_bytes, length, All}
use Rattle.create_destroy.specs.declared.attribute.Attribute.{Attribute}
use Rattle.create_destroy.specs.declared.attribute.AttributeValue.{AttributeValue}
use Rattle.create_destroy.specs.declared.attribute.AttributeValue.TheVariants as kinds
use Rattle.create_destroy.specs.declared.operation.Operation.{Operation}
use Rattle.create_destroy.specs.declared.operation.Operation.TheVariants as operations
use Rattle.create_destroy.specs.declared.request.RequestPayload.{RequestPayload}
use Rattle.create_destroy.specs.declared.request.RequestPayload.TheVariants as asked
use Rattle.create_destroy.specs.declared.request.RequestItem.{RequestItem}
use Rattle.create_destroy.specs.declared.messages.Request.{Request}
use Rattle.create_destroy.specs.declared.response.ResponsePayload.{ResponsePayload}
use Rattle.create_destroy.specs.declared.response.ResponsePayload.TheVariants as answered
use Rattle.create_destroy.specs.declared.response.ResponseItem.{ResponseItem}
use Rattle.create_destroy.specs.declared.messages.Response.{Response}

-- a name chooses this kind of value
abbrev pub Chooses : List ℕ → AttributeValue → Type 0
Chooses name kinds.Aes = name ≡ codes "Cryptographic Algorithm"
Chooses name (kinds.Integer n) = (name ≡ codes "Cryptographic Length") ⊎ (name ≡ codes "Cryptographic Usage Mask")

-- an attribute's name chooses its kind of value
abbrev pub IsConsistentAttribute : {A : Type 0} → Attribute A → Type 0
IsConsistentAttribute x = Chooses (string_bytes x.name) x.value

-- the operation agrees with the payload, which has an attribute where it creates
abbrev pub Asks : {A : Type 0} → Operation → RequestPayload A → Type 0
Asks operations.Create (asked.Create xs) = (0 < length xs.items) × All IsConsistentAttribute xs.items
Asks operations.Destroy (asked.Destroy identifier) = Unit {0}
Asks _ _ = ⊥

-- the same of an item
abbrev pub IsConsistentItem : {A : Type 0} → RequestItem A → Type 0
IsConsistentItem x = Asks x.operation x.payload

-- there is an item, and each is consistent
abbrev pub IsConsistentRequest : {A : Type 0} → Request A → Type 0
IsConsistentRequest x = (0 < length x.items.items) × All IsConsistentItem x.items.items

-- the operation agrees with what was done
abbrev pub Answers : {A : Type 0} → Operation → ResponsePayload A → Type 0
Answers operations.Create (answered.Create identifier) = Unit {0}
Answers operations.Destroy (answered.Destroy identifier) = Unit {0}
Answers _ _ = ⊥

-- the same of an item
abbrev pub IsConsistentAnswer : {A : Type 0} → ResponseItem A → Type 0
IsConsistentAnswer x = Answers x.operation x.payload

-- there is an item, and each is consistent
abbrev pub IsConsistentResponse : {A : Type 0} → Response A → Type 0
IsConsistentResponse x = (0 < length x.items.items) × All IsConsistentAnswer x.items.items
