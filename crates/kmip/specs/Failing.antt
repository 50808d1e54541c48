-- What an error line says of a failure.
use Rattle.std.specs.Prelude.{◌≡◌, ◌⊎◌, ◌++◌, ℕ, ℤ, List, codes}
use Rattle.std.specs.Fmt.{signed_decimal}
use Rattle.kmip_client.specs.declared.failure.Failure.{Failure}
use Rattle.kmip_client.specs.declared.failure.Failure.TheVariants as failures

-- a version in words
unfoldable pub version_words : ℤ → ℤ → List ℕ
version_words major minor = signed_decimal major ++ (codes "." ++ signed_decimal minor)

-- one of four lines was added, of which two are given
abbrev pub IsOneOf : (broken bad old new : List ℕ) → Type 0
IsOneOf broken bad old new = (new ≡ old ++ codes "out of memory") ⊎ ((new ≡ old ++ codes "the response has more than 1048576 bytes")
    ⊎ ((new ≡ old ++ broken) ⊎ (new ≡ old ++ bad)))

-- what was added of a failure: of a response that answers something else, miscounts, lacks a payload, has a bad attribute or isn't one, nothing that depends on
-- it; of one of another version that alone. What a server says of a refusal is its own
abbrev pub Tells : {A : Type 0} → Failure A → (old new : List ℕ) → Type 0
Tells (failures.Sending e) old new = (new ≡ old ++ codes "no attribute of KMIP 2.0 has such a name")
    ⊎ IsOneOf (codes "the request can't be written") (codes "the request can't be encoded") old new
Tells (failures.Receiving e) old new = IsOneOf (codes "no whole response came") (codes "what came is no response") old new
Tells (failures.Refused f) old new = Unit {0}
Tells (failures.Miscounted r) old new = new ≡ old ++ codes "the response miscounts its items"
Tells (failures.OtherVersion r) old new =
    new ≡ (old ++ codes "the response is of KMIP ") ++ version_words r.header.version.major r.header.version.minor
Tells (failures.Unasked r) old new = new ≡ old ++ codes "the response answers something else"
Tells (failures.OtherPayload p) old new = new ≡ old ++ codes "the response lacks what was asked for"
Tells (failures.BadAttributes e) old new =
    IsOneOf (codes "an attribute is not what its tag says") (codes "an attribute is not what its tag says") old new
Tells failures.NoCommonVersion old new = new ≡ old ++ codes "the server has none of the versions 1.0 to 2.0"
