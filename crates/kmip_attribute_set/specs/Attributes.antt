-- Attributes of an object: how they are put together, and what they say.
use Rattle.std.specs.Prelude.{◌≡◌, ℕ, ℤ, List, [], ◌∷◌, ◌++◌, Option, Some, None, bytes_eq, codes, if◌then◌else◌, string_bytes}
use Rattle.kmip_ttlv_parts.specs.declared.enumeration.Enumeration.{Enumeration}
use Rattle.kmip_ttlv_reader.specs.declared.values.DateTime.{DateTime}
use Rattle.kmip_attributes.specs.declared.attribute.Attribute.{Attribute}
use Rattle.kmip_attributes.specs.declared.attribute.AttributeStructure.TheVariants as structures
use Rattle.kmip_attributes.specs.declared.attribute.AttributeValue.{AttributeValue}
use Rattle.kmip_attributes.specs.declared.attribute.AttributeValue.TheVariants as values
use Rattle.kmip_attributes.specs.declared.structures.Name.{Name}
use Rattle.kmip_attribute_set.specs.declared.attributes.Attributes.{Attributes}

-- an attribute of this name and value, without an index
pub record IsAttribute {A : Type 0} (name : List ℕ) (value : AttributeValue A) (attribute : Attribute A) : Type 0 where
  pub name_is : string_bytes attribute.name ≡ name
  pub index : attribute.index ≡ None
  pub value_is : attribute.value ≡ value

-- the attribute Name, with this text as it stands
pub record IsName {A : Type 0} (text : List ℕ) (attribute : Attribute A) : Type 0 where
  pub name : Name A
  pub attribute_is : IsAttribute (codes "Name") (values.Structure (structures.Name name)) attribute
  pub text_is : string_bytes name.value ≡ text
  pub uninterpreted : name.name_type.number ≡ 1

-- attributes with one more behind them, which is so
pub record AreWith {A : Type 0} (old : Attributes A) (IsSo : Attribute A → Type 0) (new : Attributes A) : Type 0 where
  pub attribute : Attribute A
  pub is_so : IsSo attribute
  pub list_is : new.list.items ≡ old.list.items ++ attribute ∷ []

-- what a new key is to have: an algorithm, a length, what it may be used for, and a name
pub record AreOfKey {A : Type 0} (for : Enumeration 0x420028) (bits mask : ℤ) (text : List ℕ) (attributes : List (Attribute A)) : Type 0 where
  pub algorithm : Attribute A
  pub length : Attribute A
  pub usage : Attribute A
  pub name : Attribute A
  pub attributes_are : attributes ≡ algorithm ∷ length ∷ usage ∷ name ∷ []
  pub algorithm_is : IsAttribute (codes "Cryptographic Algorithm") (values.CryptographicAlgorithm for) algorithm
  pub length_is : IsAttribute (codes "Cryptographic Length") (values.Integer bits) length
  pub usage_is : IsAttribute (codes "Cryptographic Usage Mask") (values.Integer mask) usage
  pub name_is : IsName text name

-- the value of the first attribute of this name
abbrev pub value_of : {A : Type 0} → List ℕ → List (Attribute A) → Option (AttributeValue A)
value_of name [] = None
value_of name (x ∷ attributes) = if bytes_eq (string_bytes x.name) name then Some x.value else value_of name attributes

-- the number that a value is
abbrev pub integer_of : {A : Type 0} → Option (AttributeValue A) → Option ℤ
integer_of (Some (values.Integer number)) = Some number
integer_of _ = None

-- the date that a value is
abbrev pub date_of : {A : Type 0} → Option (AttributeValue A) → Option DateTime
date_of (Some (values.DateTime date)) = Some date
date_of _ = None

-- the text that a value is
abbrev pub text_of : {A : Type 0} → Option (AttributeValue A) → Option (List ℕ)
text_of (Some (values.TextString text)) = Some (string_bytes text)
text_of _ = None

-- the text of the name that a value is
abbrev pub name_of : {A : Type 0} → Option (AttributeValue A) → Option (List ℕ)
name_of (Some (values.Structure (structures.Name name))) = Some (string_bytes name.value)
name_of _ = None

-- the type of object that a value is
abbrev pub kind_of : {A : Type 0} → Option (AttributeValue A) → Option (Enumeration 0x420057)
kind_of (Some (values.ObjectType kind)) = Some kind
kind_of _ = None

-- the algorithm that a value is
abbrev pub algorithm_of : {A : Type 0} → Option (AttributeValue A) → Option (Enumeration 0x420028)
algorithm_of (Some (values.CryptographicAlgorithm algorithm)) = Some algorithm
algorithm_of _ = None

-- the state that a value is
abbrev pub state_of : {A : Type 0} → Option (AttributeValue A) → Option (Enumeration 0x42008D)
state_of (Some (values.State state)) = Some state
state_of _ = None
