-- Which tags of KMIP's items are secret. Written by codegen/names from data/kmip_tags.tsv: change that, and run codegen/names.
use Rattle.std.specs.Prelude.{◌≡◌, ℕ, Bool, List, [], ◌∷◌, Option, is_some, ◌==◌, codes, map}
use Rattle.std.specs.List.{list_any}
use Rattle.std.specs.Str.Parse.{digits_value}

-- their hexadecimal digits: items with one of these tags can hold a key, data to encrypt or decrypt, or proof of identity
unfoldable pub secret_digits : List (List ℕ)
secret_digits =
    -- Credential Value
    codes "420025" ∷
    -- CRT Coefficient
    codes "420027" ∷
    -- D
    codes "42002E" ∷
    -- Derivation Data
    codes "420030" ∷
    -- Digest Value
    codes "420035" ∷
    -- Key
    codes "42003F" ∷
    -- Key Material
    codes "420043" ∷
    -- Key Value
    codes "420045" ∷
    -- Opaque Data Value
    codes "42005A" ∷
    -- P
    codes "42005E" ∷
    -- Prime Exponent P
    codes "420060" ∷
    -- Prime Exponent Q
    codes "420061" ∷
    -- Private Exponent
    codes "420063" ∷
    -- Q
    codes "420071" ∷
    -- Vendor Extension
    codes "42009C" ∷
    -- X
    codes "42009F" ∷
    -- Password
    codes "4200A1" ∷
    -- Device Identifier
    codes "4200A2" ∷
    -- Machine Identifier
    codes "4200A9" ∷
    -- Media Identifier
    codes "4200AA" ∷
    -- Network Identifier
    codes "4200AB" ∷
    -- Device Serial Number
    codes "4200B0" ∷
    -- Data
    codes "4200C2" ∷
    -- Signature Data
    codes "4200C3" ∷
    -- MAC Data
    codes "4200C6" ∷
    -- Attestation Measurement
    codes "4200CB" ∷
    -- Attestation Assertion
    codes "4200CC" ∷
    -- Authenticated Encryption Additional Data
    codes "4200FE" ∷
    -- Digested Data
    codes "420107" ∷
    -- Ticket Value
    codes "42014B" ∷
    -- Server Hashed Password
    codes "420155" ∷
    -- One Time Password
    codes "420156" ∷
    -- Hashed Password
    codes "420157" ∷
    -- PKCS#11 Input Parameters
    codes "42015B" ∷
    -- PKCS#11 Output Parameters
    codes "42015C" ∷
    []

-- their numbers
unfoldable pub secret_tags : List ℕ
secret_tags = map (digits_value 16) secret_digits

-- whether a tag is secret
unfoldable pub is_secret : ℕ → Bool
is_secret tag = list_any (λ t. t == tag) secret_tags

-- names that are given to each secret tag, and to no other
abbrev pub NamesSecrets : (ℕ → Option (List ℕ)) → Type 0
NamesSecrets names = (tag : ℕ) → is_some (names tag) ≡ is_secret tag
