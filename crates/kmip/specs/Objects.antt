-- The bytes of an object.
use Rattle.std.specs.Prelude.{◌≡◌, ℕ, List, Option, Some, None}
use Rattle.kmip_objects.specs.declared.object.ManagedObject.{ManagedObject}
use Rattle.kmip_objects.specs.declared.object.ManagedObject.TheVariants as objects
use Rattle.kmip_responses.specs.Choices.{IsGetResponseObject}
use Rattle.kmip_responses.specs.declared.response_payload.GetResponse.{GetResponse}
use Rattle.kmip_client.specs.Payloads.{bytes_of_value}

-- the bytes of an object, if it has any that are its own: of a key that isn't wrapped, of a secret, of a certificate, or such as no server interprets
abbrev pub bytes_of_object : {A : Type 0} → ManagedObject A → Option (List ℕ)
bytes_of_object (objects.SymmetricKey k) = bytes_of_value k.now.key_block.key_value
bytes_of_object (objects.PublicKey k) = bytes_of_value k.now.key_block.key_value
bytes_of_object (objects.PrivateKey k) = bytes_of_value k.now.key_block.key_value
bytes_of_object (objects.SecretData k) = bytes_of_value k.now.key_block.key_value
bytes_of_object (objects.Certificate c) = Some c.now.certificate_value.items
bytes_of_object (objects.OpaqueObject o) = Some o.now.opaque_data_value.items
bytes_of_object (objects.SplitKey k) = None
bytes_of_object (objects.Template t) = None

-- what an object, if there is one, has
abbrev pub bytes_if_any : {A : Type 0} → Option (ManagedObject A) → Option (List ℕ)
bytes_if_any (Some object) = bytes_of_object object
bytes_if_any None = None

-- these are the bytes of the one object of a response
pub record IsOfObject {A : Type 0} (found : GetResponse A) (bytes : Option (List ℕ)) : Type 0 where
  pub object : Option (ManagedObject A)
  pub is_object : IsGetResponseObject found object
  pub bytes_are : bytes ≡ bytes_if_any object
