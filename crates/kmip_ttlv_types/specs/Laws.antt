-- Laws of the definitions, which are the contracts of the module `laws`.
use Rattle.std.specs.Prelude.{◌≡◌, ◌↔◌, ℕ, ◌+◌, ◌%◌, ◌^◌, ◌<◌, ◌≤◌, ◌⊎◌, IsOk, None, List, ◌∷◌, ◌++◌, length, replicate}
use Rattle.std.specs.Prelude.{Bool, true, false, IsTrue, Option, Some, Result, Ok, Err, MatchResult}
use Rattle.std.specs.declared.alloc.Global.{Global}
use Rattle.kmip_ttlv_types.specs.declared.error.Error.{Error}
use Rattle.kmip_ttlv_types.specs.declared.error.Error.TheVariants.{OutOfMemory, InvalidTtlvType, IoError}
use Rattle.kmip_ttlv_types.specs.declared.error.Error.TheVariants.{LengthOverflow}
use Rattle.kmip_ttlv_types.specs.declared.field.FieldType.{FieldType}
use Rattle.kmip_ttlv_types.specs.declared.field.FieldType.TheVariants.{Tag, Typ}
use Rattle.kmip_ttlv_types.specs.declared.machine.TtlvStateMachineMode.TheVariants.{Deserializing, Serializing}
use Rattle.kmip_ttlv_types.specs.declared.typ.TtlvType.{TtlvType}
use Rattle.kmip_ttlv_types.specs.ItemTypes.{pad_len, code, type_of}
use Rattle.kmip_ttlv_types.specs.Leaves.{is_valid}
use Rattle.kmip_ttlv_types.specs.Headers.{ReadsNumber, ReadsType, Writes}
use Rattle.kmip_ttlv_types.specs.Machine.{State, Step, step}
use Rattle.kmip_ttlv_types.specs.Primitives.{content_of, length_and_content, leaf_rest, ReadsLeaf, WritesLong}
use Rattle.kmip_ttlv_types.specs.Trees.{leaf_bytes}
use Rattle.std.specs.Int.{bytes_high_first}

-- what is written of a value after its type
abbrev pub written_rest : TtlvType → List ℕ → List ℕ
written_rest typ bytes =
    let content = content_of typ bytes in length_and_content content ++ replicate (pad_len (length content)) 0

-- why a whole leaf that is there isn't read: reading failed, if it can; or memory ran out, if the type
-- allocates and the content isn't empty
abbrev pub FailsToRead : {A : Type 0} → (takes_memory can_fail : Bool) → List ℕ → Error A → Type 0
FailsToRead takes_memory can_fail content (IoError e) = IsTrue can_fail
FailsToRead takes_memory can_fail content OutOfMemory = IsTrue takes_memory × (0 < length content)
FailsToRead takes_memory can_fail content e = ⊥

-- where a value was written, a value with these bytes is read, and what follows is left; or reading
-- fails for such a reason
abbrev pub IsReadBack : {T : Type 0} → TtlvType → (T → List ℕ) → Bool → T → Type 0
IsReadBack {T} typ bytes_of takes_memory v =
    length (content_of typ (bytes_of v)) < 2 ^ 32
    → (can_fail : Bool) (rest : List ℕ) (new : Option (List ℕ)) (result : Result T (Error Global))
    → ReadsLeaf typ bytes_of takes_memory can_fail (Some (written_rest typ (bytes_of v) ++ rest)) new result
    → MatchResult result
    (λ w. (bytes_of w ≡ content_of typ (bytes_of v)) × (new ≡ Some rest))
    (FailsToRead takes_memory can_fail (content_of typ (bytes_of v)))

-- a whole leaf that is there, with padding of any value, is read, and what follows is left
abbrev pub ReadsWholeLeaves : {T : Type 0} → TtlvType → (T → List ℕ) → Bool → Type 0
ReadsWholeLeaves {T} typ bytes_of takes_memory =
    (content pad rest : List ℕ)
    → length content < 2 ^ 32
    → length pad ≡ pad_len (length content)
    → is_valid typ content ≡ true
    → (can_fail : Bool) (new : Option (List ℕ)) (result : Result T (Error Global))
    → ReadsLeaf typ bytes_of takes_memory can_fail (Some ((length_and_content content ++ pad) ++ rest)) new result
    → MatchResult result (λ w. (bytes_of w ≡ content) × (new ≡ Some rest)) (FailsToRead takes_memory can_fail content)

-- a value was written into memory and read back: it has the bytes that were written; or it is too long to
-- be written; or it isn't, and memory ran out for its bytes or for the value that is read
abbrev pub Rereads : {T A : Type 0} → TtlvType → (T → List ℕ) → T → Result T (Error A) → Type 0
Rereads typ bytes_of v (Ok w) =
    (length (content_of typ (bytes_of v)) < 2 ^ 32) × (bytes_of w ≡ content_of typ (bytes_of v))
Rereads typ bytes_of v (Err LengthOverflow) = 2 ^ 32 ≤ length (content_of typ (bytes_of v))
Rereads typ bytes_of v (Err OutOfMemory) = length (content_of typ (bytes_of v)) < 2 ^ 32
Rereads typ bytes_of v (Err _) = ⊥

-- a tag, a type or a length is read from memory that has its bytes, unless a type's byte is no code
abbrev pub ReadsHeaders : Type 0
ReadsHeaders =
    ((bytes_of : ℕ → List ℕ) (n : ℕ) (there : List ℕ) (new : Option (List ℕ)) (result : Result ℕ (Error Global))
    → n ≤ length there
    → ReadsNumber bytes_of n false (Some there) new result
    → IsOk result)
    × ((c : ℕ) (rest : List ℕ) (new : Option (List ℕ)) (result : Result TtlvType (Error Global))
    → ReadsType false (Some (c ∷ rest)) new result
    → MatchResult result (λ t. code t ≡ c) (λ e. (e ≡ InvalidTtlvType c) × (type_of c ≡ None)))

-- bytes are written if there is room for them; those of a leaf, if its length fits too
abbrev pub WritesWhereRoom : Type 0
WritesWhereRoom =
    (bytes : List ℕ) (n : ℕ) (old new : Option (List ℕ)) (room : ℕ) (room_new : Option ℕ)
    (result : Result (Unit {0}) (Error Global))
    → length bytes ≤ room
    → n < 2 ^ 32
    → Writes bytes old new (Some room) room_new result ⊎ WritesLong n bytes old new (Some room) room_new result
    → IsOk result

-- while deserializing, `advance` returns true for each accepted field
abbrev pub ReadsEachField : Type 0
ReadsEachField =
    (s : State) (given : FieldType) (t : Step)
    → s.mode ≡ Deserializing
    → step s given ≡ Some t
    → t.answer ≡ true

-- while serializing, `advance` returns false for an accepted field if and only if it is a tag to be ignored
abbrev pub SkipsIgnoredTags : Type 0
SkipsIgnoredTags =
    (s : State) (given : FieldType) (t : Step)
    → s.mode ≡ Serializing
    → step s given ≡ Some t
    → (t.answer ≡ false) ↔ ((s.ignores ≡ true) × (s.due ≡ Typ) × (given ≡ Tag))

-- content and its padding are a multiple of eight bytes
abbrev pub PadsToEight : Type 0
PadsToEight = (n : ℕ) → (n + pad_len n) % 8 ≡ 0

-- a leaf is its tag and what is written after it, together a multiple of eight bytes
abbrev pub LeavesAreTagAndRest : Type 0
LeavesAreTagAndRest =
    (tag : ℕ) (typ : TtlvType) (content : List ℕ)
    → (leaf_bytes tag typ content ≡ bytes_high_first 3 tag ++ leaf_rest typ content)
    × (length (leaf_bytes tag typ content) % 8 ≡ 0)
