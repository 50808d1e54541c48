-- What reading and writing the fields of a header do: a tag, a type's code, a length.
use Rattle.std.specs.Prelude.{◌≡◌, ℕ, List, [], ◌∷◌, length, Bool, Option, None, Result, Ok, Err}
use Rattle.std.specs.Io.KnownBytes.{Appends, Consumes}
use Rattle.kmip_ttlv_types.specs.declared.error.Error.{Error}
use Rattle.kmip_ttlv_types.specs.declared.error.Error.TheVariants as errors
use Rattle.kmip_ttlv_types.specs.declared.typ.TtlvType.{TtlvType}
use Rattle.kmip_ttlv_types.specs.ItemTypes.{code, type_of}
use Rattle.kmip_ttlv_types.specs.Streams.{AppendsFront, ConsumesUpTo, Lacks, UsesRoom, IsTight}

-- a number was read from the n bytes that encode it, or they didn't come
abbrev pub ReadsNumber :
    {A : Type 0} → (ℕ → List ℕ) → ℕ → Bool
    → Option (List ℕ) → Option (List ℕ) → Result ℕ (Error A) → Type 0
ReadsNumber bytes_of n can_fail old new (Ok number) = Consumes old new (bytes_of number)
ReadsNumber bytes_of n can_fail old new (Err (errors.IoError e)) = Lacks can_fail old n e × ConsumesUpTo old new n
ReadsNumber bytes_of n can_fail old new (Err _) = ⊥

-- a type was read from its code; or the byte is no type's code; or none came
abbrev pub ReadsType : {A : Type 0} → Bool → Option (List ℕ) → Option (List ℕ) → Result TtlvType (Error A) → Type 0
ReadsType can_fail old new (Ok typ) = Consumes old new (code typ ∷ [])
ReadsType can_fail old new (Err (errors.InvalidTtlvType c)) = Consumes old new (c ∷ []) × (type_of c ≡ None)
ReadsType can_fail old new (Err (errors.IoError e)) = Lacks can_fail old 1 e × ConsumesUpTo old new 1
ReadsType can_fail old new (Err _) = ⊥

-- these bytes were written; or a beginning of them, if there is no room or the writer failed
abbrev pub Writes :
    {T A : Type 0} → List ℕ
    → (old new : Option (List ℕ)) → (room_old room_new : Option ℕ) → Result T (Error A) → Type 0
Writes bytes old new room_old room_new (Ok done) = Appends old new bytes × UsesRoom room_old room_new (length bytes)
Writes bytes old new room_old room_new (Err (errors.IoError e)) =
    AppendsFront old new bytes × IsTight room_old (length bytes)
Writes bytes old new room_old room_new (Err _) = ⊥
