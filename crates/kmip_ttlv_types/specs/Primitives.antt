-- A leaf's length, content and padding, and what reading and writing them do (KMIP 1.0, 9.1.1).
use Rattle.std.specs.Prelude.{◌≡◌, ◌≢◌, ℕ, ◌+◌, ◌^◌, ◌≤◌, ◌<◌, List, [], ◌∷◌, ◌++◌, length, take, drop, replicate, Bool}
use Rattle.std.specs.Prelude.{true, false, IsTrue, ◌⊎◌, nat_lt, if◌then◌else◌, Option, Some, IfSome, Result, Ok, Err}
use Rattle.std.specs.Int.{w32, w64, to_be_bytes, from_be_bytes}
use Rattle.std.specs.Io.KnownBytes.{Appends, Consumes, Keeps}
use Rattle.std.specs.IoError.{error_kind}
use Rattle.std.specs.declared.io.ErrorKind.TheVariants.{UnexpectedEof}
use Rattle.kmip_ttlv_types.specs.declared.error.Error.{Error}
use Rattle.kmip_ttlv_types.specs.declared.error.Error.TheVariants as errors
use Rattle.kmip_ttlv_types.specs.declared.typ.TtlvType.{TtlvType}
use Rattle.kmip_ttlv_types.specs.declared.typ.TtlvType.TheVariants.{BigInteger}
use Rattle.kmip_ttlv_types.specs.ItemTypes.{code, fixed_length, pad_len}
use Rattle.kmip_ttlv_types.specs.Leaves.{is_valid}
use Rattle.kmip_ttlv_types.specs.Streams.{AppendsFront, ConsumesUpTo, Lacks, UsesRoom, IsTight}

-- the byte that extends the sign of a number in two's complement
abbrev pub sign_byte : List ℕ → ℕ
sign_byte [] = 0
sign_byte (b ∷ bs) = if nat_lt b 128 then 0 else 255

-- the same number, extended to a multiple of eight bytes
unfoldable pub sign_extended : List ℕ → List ℕ
sign_extended bytes = replicate (pad_len (length bytes)) (sign_byte bytes) ++ bytes

-- the content that a value of these bytes is written as: a Big Integer's length is a multiple of eight
abbrev pub content_of : TtlvType → List ℕ → List ℕ
content_of BigInteger bytes = sign_extended bytes
content_of _ bytes = bytes

-- the content of a Boolean
abbrev pub boolean_bytes : Bool → List ℕ
boolean_bytes b = to_be_bytes w64 (if b then 1 else 0)

-- a length, and the content of that length
unfoldable pub length_and_content : List ℕ → List ℕ
length_and_content content = to_be_bytes w32 (length content) ++ content

-- a leaf without its tag: type, length, content and zero padding
unfoldable pub leaf_rest : TtlvType → List ℕ → List ℕ
leaf_rest typ content = code typ ∷ (length_and_content content ++ replicate (pad_len (length content)) 0)

-- a value of this type can have n bytes
abbrev pub CanHaveLength : TtlvType → ℕ → Type 0
CanHaveLength typ n = IfSome (fixed_length typ) (λ k. n ≡ k)

-- the length of content, or an error if four bytes can't hold it
abbrev pub IsLengthOf : {A : Type 0} → List ℕ → Result ℕ (Error A) → Type 0
IsLengthOf content (Ok n) = (n ≡ length content) × (n < 2 ^ 32)
IsLengthOf content (Err errors.LengthOverflow) = 2 ^ 32 ≤ length content
IsLengthOf content (Err _) = ⊥

-- these bytes were written, whose content is n bytes long; or none, because four bytes can't hold n; or
-- a beginning, if there is no room or the writer failed
abbrev pub WritesLong :
    {T A : Type 0} → ℕ → List ℕ
    → (old new : Option (List ℕ)) → (room_old room_new : Option ℕ) → Result T (Error A) → Type 0
WritesLong n bytes old new room_old room_new (Ok done) =
    (n < 2 ^ 32) × Appends old new bytes × UsesRoom room_old room_new (length bytes)
WritesLong n bytes old new room_old room_new (Err errors.LengthOverflow) = (2 ^ 32 ≤ n) × Keeps old new
WritesLong n bytes old new room_old room_new (Err (errors.IoError e)) =
    (n < 2 ^ 32) × AppendsFront old new bytes × IsTight room_old (length bytes)
WritesLong n bytes old new room_old room_new (Err _) = ⊥

-- n bytes of any value were read, or they didn't come
abbrev pub Skips : {T A : Type 0} → ℕ → Bool → (old new : Option (List ℕ)) → Result T (Error A) → Type 0
Skips n can_fail old new (Ok done) = (bytes : List ℕ) × (length bytes ≡ n) × Consumes old new bytes
Skips n can_fail old new (Err (errors.IoError e)) = Lacks can_fail old n e × ConsumesUpTo old new n
Skips n can_fail old new (Err _) = ⊥

-- content of n bytes was read, and is a value; or no value has the length n, and nothing was read; or
-- the content is no value; or it didn't come; or memory ran out, if any is needed
abbrev pub ReadsValue :
    {T A : Type 0} → TtlvType → (T → List ℕ) → (takes_memory can_fail : Bool)
    → (old new : Option (List ℕ)) → ℕ → Result T (Error A) → Type 0
ReadsValue typ bytes_of takes_memory can_fail old new n (Ok v) =
    Consumes old new (bytes_of v) × (length (bytes_of v) ≡ n) × (is_valid typ (bytes_of v) ≡ true)
ReadsValue typ bytes_of takes_memory can_fail old new n (Err (errors.InvalidTtlvValueLength expected actual t)) =
    (t ≡ typ) × (actual ≡ n) × (fixed_length typ ≡ Some expected) × (n ≢ expected) × Keeps old new
ReadsValue typ bytes_of takes_memory can_fail old new n (Err (errors.InvalidTtlvValue t)) =
    (t ≡ typ)
    × CanHaveLength typ n
    × ((content : List ℕ) × Consumes old new content × (length content ≡ n) × (is_valid typ content ≡ false))
ReadsValue typ bytes_of takes_memory can_fail old new n (Err (errors.IoError e)) =
    CanHaveLength typ n × Lacks can_fail old n e × ConsumesUpTo old new n
ReadsValue typ bytes_of takes_memory can_fail old new n (Err errors.OutOfMemory) =
    IsTrue takes_memory × (0 < n) × CanHaveLength typ n × ConsumesUpTo old new n
ReadsValue typ bytes_of takes_memory can_fail old new n (Err _) = ⊥

-- the length that these bytes begin with
abbrev pub stated_length : List ℕ → ℕ
stated_length bytes = from_be_bytes w32 (take 4 bytes)

-- the content that follows
abbrev pub stated_content : List ℕ → List ℕ
stated_content bytes = take (stated_length bytes) (drop 4 bytes)

-- the bytes end within length, content or padding, and what is there before is valid
abbrev pub IsCut : TtlvType → List ℕ → Type 0
IsCut typ bytes =
    let n = stated_length bytes in
    (length bytes < 4)
    ⊎ (CanHaveLength typ n
    × ((length bytes < 4 + n)
    ⊎ ((is_valid typ (stated_content bytes) ≡ true) × (length bytes < 4 + n + pad_len n))))

-- no value of the type has the length
abbrev pub HasWrongLength : TtlvType → ℕ → ℕ → List ℕ → Type 0
HasWrongLength typ expected actual bytes =
    (4 ≤ length bytes) × (stated_length bytes ≡ actual) × (fixed_length typ ≡ Some expected) × (actual ≢ expected)

-- the content is there, and is no value of the type
abbrev pub HasWrongContent : TtlvType → List ℕ → Type 0
HasWrongContent typ bytes =
    let n = stated_length bytes in
    CanHaveLength typ n × (4 + n ≤ length bytes) × (is_valid typ (stated_content bytes) ≡ false)

-- the length is there, and isn't zero
abbrev pub HasContent : List ℕ → Type 0
HasContent bytes = (4 ≤ length bytes) × (0 < stated_length bytes)

-- nothing beyond length, content and padding was consumed
abbrev pub StaysWithin : (old new : Option (List ℕ)) → Type 0
StaysWithin old new = IfSome old (λ bytes. let n = stated_length bytes in ConsumesUpTo old new (4 + n + pad_len n))

-- length, content and padding of any value were consumed
pub record ConsumesLeaf (old new : Option (List ℕ)) (content : List ℕ) : Type 0 where
  pub fits : length content < 2 ^ 32
  pub pad : List ℕ
  pub pad_length : length pad ≡ pad_len (length content)
  pub consumes : Consumes old new (length_and_content content ++ pad)

-- a leaf's length, content and padding were read, and the content is a value; or there is an error, which is
-- true of what is there, and nothing beyond them was consumed
abbrev pub ReadsLeaf :
    {T A : Type 0} → TtlvType → (T → List ℕ) → (takes_memory can_fail : Bool)
    → (old new : Option (List ℕ)) → Result T (Error A) → Type 0
ReadsLeaf typ bytes_of takes_memory can_fail old new (Ok v) =
    ConsumesLeaf old new (bytes_of v) × (is_valid typ (bytes_of v) ≡ true)
ReadsLeaf typ bytes_of takes_memory can_fail old new (Err (errors.InvalidTtlvValueLength expected actual t)) =
    (t ≡ typ) × IfSome old (HasWrongLength typ expected actual) × StaysWithin old new
ReadsLeaf typ bytes_of takes_memory can_fail old new (Err (errors.InvalidTtlvValue t)) =
    (t ≡ typ) × IfSome old (HasWrongContent typ) × StaysWithin old new
ReadsLeaf typ bytes_of takes_memory can_fail old new (Err (errors.IoError e)) =
    (IsTrue can_fail ⊎ ((error_kind e ≡ UnexpectedEof) × IfSome old (IsCut typ))) × StaysWithin old new
ReadsLeaf typ bytes_of takes_memory can_fail old new (Err errors.OutOfMemory) =
    IsTrue takes_memory × IfSome old HasContent × StaysWithin old new
ReadsLeaf typ bytes_of takes_memory can_fail old new (Err _) = ⊥
