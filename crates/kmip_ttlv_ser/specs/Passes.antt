-- What the two passes over a value do.
use Rattle.std.specs.Prelude.{◌≡◌, ℕ, ◌<◌, ◌≤◌, ◌^◌, List, ◌++◌, Option, Some}
use Rattle.std.specs.Prelude.{◌⊎◌}
use Rattle.std.specs.List.{AllByRecursion}
use Rattle.kmip_ttlv_types.specs.Trees.{Tree, Fits}
use Rattle.kmip_ttlv_base.specs.declared.error.Error.{Error}
use Rattle.kmip_ttlv_base.specs.Errors.{Kind, mismatch, invalid_tag, invalid_variant, unsupported_rust_type}
use Rattle.kmip_ttlv_base.specs.Errors.{length_overflow, unknown, only_offset, kind_of, view_of_kind, location_of}
use Rattle.kmip_ttlv_base.specs.Errors.{view_of_location, IsMemory}
use Rattle.kmip_ttlv_ser.specs.declared.pending.Place.{Place}
use Rattle.kmip_ttlv_ser.specs.declared.encode_error.Cause.{Cause}
use Rattle.kmip_ttlv_ser.specs.declared.encode_error.Cause.TheVariants.{NoTag, TagUnused, InvalidTag, InvalidVariant}
use Rattle.kmip_ttlv_ser.specs.declared.encode_error.Cause.TheVariants.{UnsupportedType}
use Rattle.kmip_ttlv_ser.specs.declared.encode_error.EncodeError.{EncodeError}
use Rattle.kmip_ttlv_ser.specs.declared.encode_error.EncodeError.TheVariants.{LengthOverflow, Invalid}
use Rattle.kmip_ttlv_ser.specs.Sizes.{sizes_all}
use Rattle.kmip_ttlv_ser.specs.Faults.{EncodeFault, no_tag, tag_unused, place_after}
use Rattle.kmip_ttlv_ser.specs.Lengths.{reach}

-- the kind of error of a cause
abbrev pub kind_of_cause : Cause → Kind
kind_of_cause (NoTag opened) = no_tag opened
kind_of_cause TagUnused = tag_unused
kind_of_cause (InvalidTag name) = mismatch (invalid_tag name.now)
kind_of_cause (InvalidVariant name) = mismatch (invalid_variant name.now)
kind_of_cause (UnsupportedType name) = mismatch (unsupported_rust_type name.now)

-- a leaf is too long, or a structure, or the offset that is reached after n bytes
abbrev pub Overlong : Type 0 → Type 0 → Option (List Tree) → EncodeFault → ℕ → Type 0
Overlong leaf structure o stop n = leaf ⊎ structure ⊎ (2 ^ 64 ≤ reach o stop n)

-- the items are there, q is the place after them, and their structures' lengths were added
pub record Measured (o : Option (List Tree)) (p q : Place) (old new : List ℕ) : Type 0 where
  pub trees : List Tree
  pub are : o ≡ Some trees
  pub each : AllByRecursion Fits trees
  pub reached : q ≡ place_after p trees
  pub small : q.offset < 2 ^ 64
  pub kept : new ≡ old ++ sizes_all trees

-- the error that is returned for an `EncodeError`; its text may need memory
abbrev pub IsErrorOf : {A : Type 0} → EncodeError → Error A → Type 0
IsErrorOf LengthOverflow e = (view_of_kind (kind_of e) ≡ length_overflow) × (view_of_location (location_of e) ≡ unknown)
IsErrorOf (Invalid cause offset) e =
    IsMemory e
    ⊎ ((view_of_kind (kind_of e) ≡ kind_of_cause cause) × (view_of_location (location_of e) ≡ only_offset offset))
