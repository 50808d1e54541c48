-- By which tag the value of an attribute is named.
use Rattle.std.specs.Prelude.{ℕ, Bool, true, false, ◌==◌, ◌&&◌, List, Option, Some, None, if◌then◌else◌, nat_lt, option_map}
use Rattle.kmip_ttlv_types.specs.declared.typ.TtlvType.{TtlvType}
use Rattle.kmip_ttlv_types.specs.declared.typ.TtlvType.TheVariants.{TextString}
use Rattle.kmip_ttlv_items.specs.declared.found.FoundItem.{FoundItem}
use Rattle.kmip_ttlv_items.specs.ItemWalks.{content_at}
use Rattle.kmip_ttlv_names.specs.ValueNames.{or_else}
use Rattle.ttlv_run.specs.declared.attributes.Attribute.{Attribute}
use Rattle.ttlv_run.specs.declared.job.Values.{Values}
use Rattle.ttlv_run.specs.declared.job.Values.TheVariants.{Hidden, Secret}

-- the tags of an attribute's name and of its value, and of a reference to an attribute by its tag
abbrev pub attribute_name : ℕ
attribute_name = 0x42000A

abbrev pub attribute_value : ℕ
attribute_value = 0x42000B

abbrev pub attribute_reference : ℕ
attribute_reference = 0x42013B

-- a value is printed
abbrev pub is_printed : Values → Bool
is_printed Hidden = false
is_printed Secret = false
is_printed values = true

-- the attribute that a text names, in so many structures: the tag of this name, if there is one
abbrev pub attribute_named : (List ℕ → Option ℕ) → TtlvType → ℕ → List ℕ → Option Attribute
attribute_named named TextString depth name = option_map (λ tag. record { depth = depth; tag = tag }) (named name)
attribute_named named typ depth name = None

-- an attribute, while a walk is in the structure of its name
abbrev pub still_inside : ℕ → Option Attribute → Option Attribute
still_inside depth None = None
still_inside depth (Some attribute) = if nat_lt depth attribute.depth then None else Some attribute

-- the attribute that the last Attribute Name names, if that is printed, while a walk is in its structure
abbrev pub attribute_after : (List ℕ → Option ℕ) → Values → List ℕ → Option Attribute → FoundItem → Option Attribute
attribute_after named values bytes last i =
    if i.tag == attribute_name
    then (if is_printed values then attribute_named named i.typ i.depth (content_at bytes i.offset) else None)
    else still_inside i.depth last

-- the tag by which a value is named: of an Attribute Value that of the attribute, if its name is in the same structure; of any other
-- item its own
abbrev pub naming_tag : Option Attribute → FoundItem → ℕ
naming_tag None i = i.tag
naming_tag (Some attribute) i =
    if (i.tag == attribute_value) && (i.depth == attribute.depth) then attribute.tag else i.tag

-- the name of the tag that a number is, if it is one
abbrev pub name_of_tag : (ℕ → Option (List ℕ)) → ℕ → Option (List ℕ)
name_of_tag tags number = if nat_lt number 0x1000000 then tags number else None

-- the name of an enumeration's value, as its tag has it; of a reference to an attribute, the name of the tag
abbrev pub enumeration_name : (ℕ → ℕ → Option (List ℕ)) → (ℕ → Option (List ℕ)) → ℕ → ℕ → Option (List ℕ)
enumeration_name values tags tag value =
    or_else (values tag value) (if tag == attribute_reference then name_of_tag tags value else None)
