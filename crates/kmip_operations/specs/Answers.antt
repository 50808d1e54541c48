-- What a response has of an object.
use Rattle.std.specs.Prelude.{◌≡◌, ℕ, List, Option, Some, None}
use Rattle.kmip_objects.specs.declared.key.KeyBlock.{KeyBlock}
use Rattle.kmip_objects.specs.declared.key.KeyMaterial.{KeyMaterial}
use Rattle.kmip_objects.specs.declared.key.KeyMaterial.TheVariants.{Bytes, Structure}
use Rattle.kmip_objects.specs.declared.key.KeyValue.{KeyValue}
use Rattle.kmip_objects.specs.declared.key.KeyValue.TheVariants.{Plain, Wrapped}
use Rattle.kmip_responses.specs.declared.response_payload.GetResponse.{GetResponse}

-- the bytes of a key, if it has some
abbrev pub bytes_of_material : {A : Type 0} → KeyMaterial A → Option (List ℕ)
bytes_of_material (Bytes bytes) = Some bytes.items
bytes_of_material (Structure _) = None

abbrev pub bytes_of_value : {A : Type 0} → KeyValue A → Option (List ℕ)
bytes_of_value (Plain value) = bytes_of_material value.key_material
bytes_of_value (Wrapped _) = None

abbrev pub bytes_of_block : {A : Type 0} → KeyBlock A → Option (List ℕ)
bytes_of_block block = bytes_of_value block.key_value

-- the first of two, if it is there
abbrev pub first_of : {X : Type 0} → Option X → Option X → Option X
first_of (Some x) y = Some x
first_of None y = y

abbrev pub and_then : {X Y : Type 0} → (X → Option Y) → Option X → Option Y
and_then f (Some x) = f x
and_then f None = None

-- the bytes of the object that a response has
abbrev pub bytes_of_response : {A : Type 0} → GetResponse A → Option (List ℕ)
bytes_of_response r =
    first_of (and_then (λ c. Some c.certificate_value.items) r.certificate)
    (first_of (and_then (λ k. bytes_of_block k.inner.value.key_block) r.symmetric_key)
    (first_of (and_then (λ k. bytes_of_block k.inner.value.key_block) r.public_key)
    (first_of (and_then (λ k. bytes_of_block k.inner.value.key_block) r.private_key)
    (and_then (λ s. bytes_of_block s.inner.value.key_block) r.secret_data))))

-- a response has no object yet
pub record IsEmpty {A : Type 0} (r : GetResponse A) : Type 0 where
  pub certificate : r.certificate ≡ None
  pub symmetric_key : r.symmetric_key ≡ None
  pub public_key : r.public_key ≡ None
  pub private_key : r.private_key ≡ None
  pub secret_data : r.secret_data ≡ None
