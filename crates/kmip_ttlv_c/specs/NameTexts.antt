-- The names of tags, values and bits in the tables of the KMIP specifications, and what the calls that look them up return.
use Rattle.std.specs.Prelude.{◌≡◌, ℕ, Bool, zero, suc, ◌*◌, ◌/◌, ◌%◌, ◌==◌, nat_lt, List, [], ◌∷◌, ◌++◌, Option, Some, None, if◌then◌else◌, codes, option_map}
use Rattle.kmip_ttlv_names.specs.NameTables.{names_of}
use Rattle.kmip_ttlv_names.specs.ValueNames.{name_of_value}
use Rattle.kmip_ttlv_names.specs.declared.standard.TheConstants.{STANDARD_TAGS}
use Rattle.kmip_ttlv_names.specs.declared.enumerations.TheConstants.{STANDARD_VALUES}
use Rattle.kmip_ttlv_names.specs.declared.masks.TheConstants.{STANDARD_MASKS}
use Rattle.kmip_ttlv_c.specs.declared.status.TheConstants.{OUT_OF_MEMORY, NO_NAME}

-- what a table has for a number, if that is a tag, which has three bytes
abbrev pub name_by : (ℕ → Option (List ℕ)) → ℕ → Option (List ℕ)
name_by names number = if nat_lt number 16_777_216 then names number else None

-- the name of a value in a list, if there is one
abbrev pub value_in : Option (List ℕ) → ℕ → Option (List ℕ)
value_in None value = None
value_in (Some list) value = name_of_value value list

-- names, and one more behind a bar
abbrev pub joined : List ℕ → Option (List ℕ) → List ℕ
joined text None = text
joined [] (Some name) = name
joined (c ∷ text) (Some name) = (c ∷ text) ++ (codes " | " ++ name)

-- the name of a bit, if it is set
abbrev pub set_name : (ℕ → Option (List ℕ)) → ℕ → Bool → Option (List ℕ)
set_name names bit is_set = if is_set then names bit else None

-- names, and those of so many bits, the lowest of which stands for `bit`, as far as they are set in a number
unfoldable pub bits_joined : (ℕ → Option (List ℕ)) → ℕ → ℕ → ℕ → List ℕ → List ℕ
bits_joined names zero bit rest text = text
bits_joined names (suc n) bit rest text =
    bits_joined names n (bit * 2) (rest / 2) (joined text (set_name names bit (rest % 2 == 1)))

-- the names of the bits of a mask that are set, from the lowest on
unfoldable pub mask_text : (ℕ → Option (List ℕ)) → ℕ → List ℕ
mask_text names mask = bits_joined names 32 1 mask []

-- the name of a tag
unfoldable pub tag_name : ℕ → Option (List ℕ)
tag_name tag = name_by (names_of STANDARD_TAGS.now) tag

-- the name of a value of an Enumeration with this tag
unfoldable pub value_name : ℕ → ℕ → Option (List ℕ)
value_name tag value = value_in (name_by (names_of STANDARD_VALUES.now) tag) value

-- the names of the bits that are set in a mask with this tag, if it is the tag of a mask
unfoldable pub mask_names : ℕ → ℕ → Option (List ℕ)
mask_names tag mask = option_map (λ list. mask_text (λ bit. name_of_value bit list) mask) (name_by (names_of STANDARD_MASKS.now) tag)

-- the text is this name
abbrev pub IsName : Option (List ℕ) → List ℕ → Type 0
IsName name text = name ≡ Some text

-- a name fails when out of memory, or if there is none
pub data NameFails (name : Option (List ℕ)) (status : ℕ) : Type 0 where
  no_memory : status ≡ OUT_OF_MEMORY → NameFails name status
  no_name : name ≡ None → status ≡ NO_NAME → NameFails name status
