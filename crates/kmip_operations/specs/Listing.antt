-- What is known of an object, as its attributes say it.
use Rattle.std.specs.Prelude.{◌+◌, ℕ, ℤ, pos, min, Bool, true, List, [], ◌∷◌, ◌++◌, Option, Some, None, String, bytes_eq, codes, filter, string_bytes}
use Rattle.std.specs.Fmt.{decimal}
use Rattle.std.specs.List.{list_any}
use Rattle.kmip_ttlv_parts.specs.declared.enumeration.Enumeration.{Enumeration}
use Rattle.kmip_attributes.specs.declared.attribute.Attribute.{Attribute}
use Rattle.kmip_attributes.specs.declared.attribute.AttributeStructure.TheVariants as structures
use Rattle.kmip_attributes.specs.declared.attribute.AttributeValue.{AttributeValue}
use Rattle.kmip_attributes.specs.declared.attribute.AttributeValue.TheVariants as values
use Rattle.kmip_attributes.specs.declared.structures.Name.{Name}
use Rattle.kmip_memory_store.specs.declared.object.Dates.{Dates}
use Rattle.kmip_memory_store.specs.declared.object.Object.{Object}
use Rattle.kmip_memory_store.specs.States.{state_number}
use Rattle.kmip_operations.specs.declared.about.About.{About}

-- what the value of an attribute means, of the kinds that are known of an object
pub data Meaning : Type 0 where
  a_text : List ℕ → Meaning
  a_name : List ℕ → Enumeration 0x420054 → Meaning
  a_kind : Enumeration 0x420057 → Meaning
  an_algorithm : Enumeration 0x420028 → Meaning
  a_state : Enumeration 0x42008D → Meaning
  a_number : ℤ → Meaning
  a_date : ℤ → Meaning
  another : Meaning

abbrev pub meaning_of : {A : Type 0} → AttributeValue A → Meaning
meaning_of (values.TextString x) = a_text (string_bytes x)
meaning_of (values.Structure (structures.Name x)) = a_name (string_bytes x.value) x.name_type
meaning_of (values.ObjectType x) = a_kind x
meaning_of (values.CryptographicAlgorithm x) = an_algorithm x
meaning_of (values.State x) = a_state x
meaning_of (values.Integer x) = a_number x
meaning_of (values.DateTime x) = a_date x.0
meaning_of _ = another

-- what an attribute says
pub record Saying : Type 0 where
  pub name : List ℕ
  pub index : Option ℤ
  pub meaning : Meaning

abbrev pub saying_of : {A : Type 0} → Attribute A → Saying
saying_of x = record { name = string_bytes x.name; index = x.index; meaning = meaning_of x.value }

-- an attribute that an object has once
abbrev pub says : List ℕ → Meaning → Saying
says name meaning = record { name = name; index = None; meaning = meaning }

-- the same, if what it says is known
abbrev pub if_known : {X : Type 0} → List ℕ → (X → Meaning) → Option X → List Saying
if_known name into (Some x) = says name (into x) ∷ []
if_known name into None = []

-- an object's name, and how many it has before it
abbrev pub name_at : {K : Type 0} → ℕ → Name K → Saying
name_at index x = record { name = codes "Name"; index = Some (pos (min index 2147483647)); meaning = a_name (string_bytes x.value) x.name_type }

-- an object's names, behind so many
abbrev pub names_from : {K : Type 0} → ℕ → List (Name K) → List Saying
names_from index [] = []
names_from index (x ∷ names) = name_at index x ∷ names_from (index + 1) names

-- what a client said of an object, but for its names
abbrev pub said_of_it : {K : Type 0} → About K → List Saying
said_of_it about =
    says (codes "Object Type") (a_kind about.object_type) ∷ []
    ++ if_known (codes "Cryptographic Algorithm") an_algorithm about.algorithm
    ++ if_known (codes "Cryptographic Length") a_number about.length
    ++ if_known (codes "Cryptographic Usage Mask") a_number about.usage_mask

-- when what happened to an object
abbrev pub dates_of : Dates → List Saying
dates_of dates =
    if_known (codes "Initial Date") a_date (Some dates.initial)
    ++ if_known (codes "Activation Date") a_date dates.activation
    ++ if_known (codes "Deactivation Date") a_date dates.deactivation
    ++ if_known (codes "Compromise Date") a_date dates.compromise
    ++ if_known (codes "Destroy Date") a_date dates.destroy
    ++ if_known (codes "Last Change Date") a_date (Some dates.last_change)

-- all attributes of an object (KMIP 1.0, section 3)
abbrev pub own : {K : Type 0} → ℕ → Object (About K) K → List Saying
own id object =
    says (codes "Unique Identifier") (a_text (decimal (id + 1))) ∷ []
    ++ names_from 0 object.about.names.items
    ++ said_of_it object.about
    ++ says (codes "State") (a_state record { number = state_number object.state }) ∷ []
    ++ dates_of object.dates

-- whether an attribute of this name is asked for: all are, if no name is
abbrev pub is_asked : {A : Type 0} → List (String A) → List ℕ → Bool
is_asked [] name = true
is_asked (x ∷ names) name = list_any (λ asked. bytes_eq (string_bytes asked) name) (x ∷ names)

-- of these attributes those that are asked for
abbrev pub asked_of : {A : Type 0} → List (String A) → List Saying → List Saying
asked_of names all = filter (λ one. is_asked names one.name) all
