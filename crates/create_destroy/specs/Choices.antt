-- Written by codegen from types.table: change that, and run codegen/codegen.
-- Which rules choose what, and what is there of what may be.
use Rattle.std.proofs.Common.{refl, true}
use Rattle.std.proofs.Math.Logic.{⊎_elim}
use Rattle.std.specs.Prelude.{List, codes, ℕ, ◌≡◌, ◌⊎◌, [], ◌∷◌}
use Rattle.kmip_ttlv_kinds.specs.Choices.{Case, ChoiceOf, Held, Meaning, as_item, case_of, choice_by}
use Rattle.kmip_ttlv_parts.proofs.Equal.{apart, in_variant}
use Rattle.kmip_ttlv_parts.proofs.ChoiceTexts.{BeginsBy, chosen_by_text, is_there}
use Rattle.kmip_ttlv_parts.specs.RuleParts.{parts_of}
use Rattle.kmip_ttlv_parts.specs.Forms.{Variants, enum, no_variants, variant, wrapped}
use Rattle.std.proofs.Common.{Bool as Boole}
use Rattle.kmip_ttlv_parts.specs.declared.types.TtlvType.{TtlvType}
use Rattle.kmip_ttlv_parts.specs.declared.types.TtlvType.TheVariants as types
use Rattle.kmip_ttlv_parts.specs.declared.enumeration.Enumeration.{Enumeration}
use Rattle.create_destroy.specs.declared.attribute.AttributeValueAes.{AttributeValueAes}
use Rattle.create_destroy.specs.declared.attribute.AttributeValueAes.TheVariants as attribute_value_aes
use Rattle.std.proofs.Common.{String, Vec}
use Rattle.std.proofs.Common.{ℤ}
use Rattle.create_destroy.specs.declared.attribute.AttributeValue.{AttributeValue}
use Rattle.create_destroy.specs.declared.attribute.AttributeValue.TheVariants as attribute_value
use Rattle.create_destroy.specs.declared.request.RequestPayload.{RequestPayload}
use Rattle.create_destroy.specs.declared.request.RequestPayload.TheVariants as request_payload
use Rattle.create_destroy.specs.declared.response.ResponsePayload.{ResponsePayload}
use Rattle.create_destroy.specs.declared.response.ResponsePayload.TheVariants as response_payload
use Rattle.create_destroy.specs.declared.attribute.Attribute.{Attribute}

-- what is said, if it is the text of 42000A, chooses what is in a `AttributeValue`
abbrev pub ChoosesAttributeValue : List ℕ → AttributeValue → Type 0
ChoosesAttributeValue said attribute_value.Aes = (said ≡ codes "Cryptographic Algorithm")
ChoosesAttributeValue said (attribute_value.Integer x) = (said ≡ codes "Cryptographic Length") ⊎ (said ≡ codes "Cryptographic Usage Mask")

-- the type of the item of a `AttributeValue`
abbrev pub attribute_value_typ : AttributeValue → TtlvType
attribute_value_typ attribute_value.Aes = types.Enumeration
attribute_value_typ (attribute_value.Integer x) = types.Integer

-- what each thing means that a `AttributeValue` may hold
pub record AttributeValueCases : Type 1 where
  pub aes : Meaning
  pub integer : ℤ → Meaning

-- what it means
unfoldable pub attribute_value_by : AttributeValueCases → AttributeValue → Meaning
attribute_value_by f attribute_value.Aes = f.aes
attribute_value_by f (attribute_value.Integer x) = f.integer x

-- what a `AttributeValue` may hold
pub record AttributeValueItems (eq : AttributeValue → AttributeValue → Boole) : Type 1 where
  pub aes : Held 0x42000B types.Enumeration (λ (x : AttributeValueAes). attribute_value.Aes) eq
  pub integer : Held 0x42000B types.Integer attribute_value.Integer eq

-- its variants, by their rules
abbrev pub attribute_value_variants : {eq : AttributeValue → AttributeValue → Boole} → AttributeValueItems eq → Variants
attribute_value_variants i =
    variant (codes "if 0x42000A==Cryptographic Algorithm") (wrapped i.aes.form) (
    variant (codes "if 0x42000A in [Cryptographic Length, Cryptographic Usage Mask]") (wrapped i.integer.form) no_variants)

abbrev pub attribute_value_cases : {eq : AttributeValue → AttributeValue → Boole} → AttributeValueItems eq → AttributeValueCases
attribute_value_cases i = record {
  aes = as_item (codes "value") (codes "if 0x42000A==Cryptographic Algorithm") i.aes attribute_value_aes.Only;
  integer = as_item (codes "value") (codes "if 0x42000A in [Cryptographic Length, Cryptographic Usage Mask]") i.integer;
}

-- the texts of 42000A that its rules ask for
abbrev pub attribute_value_texts : List (List (List ℕ))
attribute_value_texts =
    (codes "Cryptographic Algorithm" ∷ []) ∷
    (codes "Cryptographic Length" ∷ codes "Cryptographic Usage Mask" ∷ []) ∷
    []

attribute_value_begins : {eq : AttributeValue → AttributeValue → Boole} (i : AttributeValueItems eq) → BeginsBy 0x42000A attribute_value_texts (attribute_value_variants i) no_variants
unfolding parts_of
attribute_value_begins i = record { all = (refl, (refl, refl)) }

pub attribute_value_case : {eq : AttributeValue → AttributeValue → Boole} (i : AttributeValueItems eq) (x : AttributeValue)
    → Case 0x42000B 0x42000A (attribute_value_typ x) (enum (codes "value") (attribute_value_variants i)) (λ said. ChoosesAttributeValue said x) (attribute_value_by (attribute_value_cases i) x)
unfolding attribute_value_by
attribute_value_case i attribute_value.Aes = case_of i.aes attribute_value_aes.Only (is_there _ 0 refl) (λ said chooses. chosen_by_text types.Enumeration (attribute_value_begins i) chooses refl)
attribute_value_case i (attribute_value.Integer x) = case_of i.integer x (is_there _ 1 refl) (λ said chooses. ⊎_elim (λ (e : said ≡ codes "Cryptographic Length"). chosen_by_text types.Integer (attribute_value_begins i) e refl) (λ (e : said ≡ codes "Cryptographic Usage Mask"). chosen_by_text types.Integer (attribute_value_begins i) e refl) chooses)

pub attribute_value_same : {eq : AttributeValue → AttributeValue → Boole} (i : AttributeValueItems eq) (x y : AttributeValue)
    → (attribute_value_by (attribute_value_cases i) x).value ≡ (attribute_value_by (attribute_value_cases i) y).value
    → eq x y ≡ true
unfolding attribute_value_by
attribute_value_same i attribute_value.Aes attribute_value.Aes e = i.aes.same attribute_value_aes.Only attribute_value_aes.Only (i.aes.rules.same attribute_value_aes.Only attribute_value_aes.Only (in_variant e))
attribute_value_same i (attribute_value.Integer x) (attribute_value.Integer y) e = i.integer.same x y (i.integer.rules.same x y (in_variant e))
attribute_value_same i x y e = absurd (apart e refl)

-- the choice
abbrev pub attribute_value_choice : (eq : AttributeValue → AttributeValue → Boole) → AttributeValueItems eq → ChoiceOf AttributeValue
attribute_value_choice eq i = choice_by {typ = attribute_value_typ} {C = ChoosesAttributeValue} {m = attribute_value_by (attribute_value_cases i)} 0x42000B 0x42000A (attribute_value_case i) eq (attribute_value_same i)

-- what is said, if it is the text of 42005C, chooses what is in a `RequestPayload`
abbrev pub ChoosesRequestPayload : {A : Type 0} → List ℕ → RequestPayload A → Type 0
ChoosesRequestPayload said (request_payload.Create x) = (said ≡ codes "0x00000001")
ChoosesRequestPayload said (request_payload.Destroy x) = (said ≡ codes "0x00000014")

-- what each thing means that a `RequestPayload` may hold
pub record RequestPayloadCases (A : Type 0) : Type 1 where
  pub create : Vec (Attribute A) A → Meaning
  pub destroy : String A → Meaning

-- what it means
unfoldable pub request_payload_by : {A : Type 0} → RequestPayloadCases A → RequestPayload A → Meaning
request_payload_by f (request_payload.Create x) = f.create x
request_payload_by f (request_payload.Destroy x) = f.destroy x

-- what a `RequestPayload` may hold
pub record RequestPayloadItems (A : Type 0) (eq : RequestPayload A → RequestPayload A → Boole) : Type 1 where
  pub create : Held 0x420079 types.Structure request_payload.Create eq
  pub destroy : Held 0x420079 types.Structure request_payload.Destroy eq

-- its variants, by their rules
abbrev pub request_payload_variants : {A : Type 0} {eq : RequestPayload A → RequestPayload A → Boole} → RequestPayloadItems A eq → Variants
request_payload_variants i =
    variant (codes "if 0x42005C==0x00000001") (wrapped i.create.form) (
    variant (codes "if 0x42005C==0x00000014") (wrapped i.destroy.form) no_variants)

abbrev pub request_payload_cases : {A : Type 0} {eq : RequestPayload A → RequestPayload A → Boole} → RequestPayloadItems A eq → RequestPayloadCases A
request_payload_cases i = record {
  create = as_item (codes "payload") (codes "if 0x42005C==0x00000001") i.create;
  destroy = as_item (codes "payload") (codes "if 0x42005C==0x00000014") i.destroy;
}

-- the texts of 42005C that its rules ask for
abbrev pub request_payload_texts : List (List (List ℕ))
request_payload_texts =
    (codes "0x00000001" ∷ []) ∷
    (codes "0x00000014" ∷ []) ∷
    []

request_payload_begins : {A : Type 0} {eq : RequestPayload A → RequestPayload A → Boole} (i : RequestPayloadItems A eq) → BeginsBy 0x42005C request_payload_texts (request_payload_variants i) no_variants
unfolding parts_of
request_payload_begins i = record { all = (refl, (refl, refl)) }

pub request_payload_case : {A : Type 0} {eq : RequestPayload A → RequestPayload A → Boole} (i : RequestPayloadItems A eq) (x : RequestPayload A)
    → Case 0x420079 0x42005C types.Structure (enum (codes "payload") (request_payload_variants i)) (λ said. ChoosesRequestPayload said x) (request_payload_by (request_payload_cases i) x)
unfolding request_payload_by
request_payload_case i (request_payload.Create x) = case_of i.create x (is_there _ 0 refl) (λ said chooses. chosen_by_text types.Structure (request_payload_begins i) chooses refl)
request_payload_case i (request_payload.Destroy x) = case_of i.destroy x (is_there _ 1 refl) (λ said chooses. chosen_by_text types.Structure (request_payload_begins i) chooses refl)

pub request_payload_same : {A : Type 0} {eq : RequestPayload A → RequestPayload A → Boole} (i : RequestPayloadItems A eq) (x y : RequestPayload A)
    → (request_payload_by (request_payload_cases i) x).value ≡ (request_payload_by (request_payload_cases i) y).value
    → eq x y ≡ true
unfolding request_payload_by
request_payload_same i (request_payload.Create x) (request_payload.Create y) e = i.create.same x y (i.create.rules.same x y (in_variant e))
request_payload_same i (request_payload.Destroy x) (request_payload.Destroy y) e = i.destroy.same x y (i.destroy.rules.same x y (in_variant e))
request_payload_same i x y e = absurd (apart e refl)

-- the choice
abbrev pub request_payload_choice : {A : Type 0} (eq : RequestPayload A → RequestPayload A → Boole) → RequestPayloadItems A eq → ChoiceOf (RequestPayload A)
request_payload_choice eq i = choice_by {typ = (λ x. types.Structure)} {C = ChoosesRequestPayload} {m = request_payload_by (request_payload_cases i)} 0x420079 0x42005C (request_payload_case i) eq (request_payload_same i)

-- what is said, if it is the text of 42005C, chooses what is in a `ResponsePayload`
abbrev pub ChoosesResponsePayload : {A : Type 0} → List ℕ → ResponsePayload A → Type 0
ChoosesResponsePayload said (response_payload.Create x) = (said ≡ codes "0x00000001")
ChoosesResponsePayload said (response_payload.Destroy x) = (said ≡ codes "0x00000014")

-- what each thing means that a `ResponsePayload` may hold
pub record ResponsePayloadCases (A : Type 0) : Type 1 where
  pub create : String A → Meaning
  pub destroy : String A → Meaning

-- what it means
unfoldable pub response_payload_by : {A : Type 0} → ResponsePayloadCases A → ResponsePayload A → Meaning
response_payload_by f (response_payload.Create x) = f.create x
response_payload_by f (response_payload.Destroy x) = f.destroy x

-- what a `ResponsePayload` may hold
pub record ResponsePayloadItems (A : Type 0) (eq : ResponsePayload A → ResponsePayload A → Boole) : Type 1 where
  pub create : Held 0x42007C types.Structure response_payload.Create eq
  pub destroy : Held 0x42007C types.Structure response_payload.Destroy eq

-- its variants, by their rules
abbrev pub response_payload_variants : {A : Type 0} {eq : ResponsePayload A → ResponsePayload A → Boole} → ResponsePayloadItems A eq → Variants
response_payload_variants i =
    variant (codes "if 0x42005C==0x00000001") (wrapped i.create.form) (
    variant (codes "if 0x42005C==0x00000014") (wrapped i.destroy.form) no_variants)

abbrev pub response_payload_cases : {A : Type 0} {eq : ResponsePayload A → ResponsePayload A → Boole} → ResponsePayloadItems A eq → ResponsePayloadCases A
response_payload_cases i = record {
  create = as_item (codes "payload") (codes "if 0x42005C==0x00000001") i.create;
  destroy = as_item (codes "payload") (codes "if 0x42005C==0x00000014") i.destroy;
}

-- the texts of 42005C that its rules ask for
abbrev pub response_payload_texts : List (List (List ℕ))
response_payload_texts =
    (codes "0x00000001" ∷ []) ∷
    (codes "0x00000014" ∷ []) ∷
    []

response_payload_begins : {A : Type 0} {eq : ResponsePayload A → ResponsePayload A → Boole} (i : ResponsePayloadItems A eq) → BeginsBy 0x42005C response_payload_texts (response_payload_variants i) no_variants
unfolding parts_of
response_payload_begins i = record { all = (refl, (refl, refl)) }

pub response_payload_case : {A : Type 0} {eq : ResponsePayload A → ResponsePayload A → Boole} (i : ResponsePayloadItems A eq) (x : ResponsePayload A)
    → Case 0x42007C 0x42005C types.Structure (enum (codes "payload") (response_payload_variants i)) (λ said. ChoosesResponsePayload said x) (response_payload_by (response_payload_cases i) x)
unfolding response_payload_by
response_payload_case i (response_payload.Create x) = case_of i.create x (is_there _ 0 refl) (λ said chooses. chosen_by_text types.Structure (response_payload_begins i) chooses refl)
response_payload_case i (response_payload.Destroy x) = case_of i.destroy x (is_there _ 1 refl) (λ said chooses. chosen_by_text types.Structure (response_payload_begins i) chooses refl)

pub response_payload_same : {A : Type 0} {eq : ResponsePayload A → ResponsePayload A → Boole} (i : ResponsePayloadItems A eq) (x y : ResponsePayload A)
    → (response_payload_by (response_payload_cases i) x).value ≡ (response_payload_by (response_payload_cases i) y).value
    → eq x y ≡ true
unfolding response_payload_by
response_payload_same i (response_payload.Create x) (response_payload.Create y) e = i.create.same x y (i.create.rules.same x y (in_variant e))
response_payload_same i (response_payload.Destroy x) (response_payload.Destroy y) e = i.destroy.same x y (i.destroy.rules.same x y (in_variant e))
response_payload_same i x y e = absurd (apart e refl)

-- the choice
abbrev pub response_payload_choice : {A : Type 0} (eq : ResponsePayload A → ResponsePayload A → Boole) → ResponsePayloadItems A eq → ChoiceOf (ResponsePayload A)
response_payload_choice eq i = choice_by {typ = (λ x. types.Structure)} {C = ChoosesResponsePayload} {m = response_payload_by (response_payload_cases i)} 0x42007C 0x42005C (response_payload_case i) eq (response_payload_same i)
