-- What is known of an object that comes, by its attributes.
use Rattle.std.specs.Prelude.{◌≡◌, ◌⊎◌, ℕ, List, [], ◌∷◌, Option, Some, None, Bool, MatchOption, Result, codes, false, is_some, string_bytes, true}
use Rattle.kmip_attributes.specs.declared.attribute.Attribute.{Attribute}
use Rattle.kmip_attributes.specs.declared.attribute.AttributeStructure.TheVariants as structures
use Rattle.kmip_attributes.specs.declared.attribute.AttributeValue.{AttributeValue}
use Rattle.kmip_attributes.specs.declared.attribute.AttributeValue.TheVariants as values
use Rattle.kmip_attributes.specs.declared.structures.Name.{Name}
use Rattle.kmip_objects.specs.declared.template.TemplateAttribute.{TemplateAttribute}
use Rattle.kmip_requests.specs.declared.request_payload.CreateRequest.{CreateRequest}
use Rattle.kmip_ttlv_base.specs.declared.error.Error.{Error}
use Rattle.kmip_ttlv_parts.specs.declared.enumeration.Enumeration.{Enumeration}
use Rattle.kmip_ttlv_parts.specs.declared.kept.Kept.{Kept}
use Rattle.kmip_attribute_set.specs.declared.attributes.Attributes.{Attributes}
use Rattle.kmip_operations.specs.declared.about.About.{About}
use Rattle.kmip_operations.specs.Tagging.{AreGiven}

-- one of these names is this text
abbrev pub HasName : {K : Type 0} → List ℕ → List (Name K) → Type 0
HasName text [] = ⊥
HasName text (x ∷ names) = (string_bytes x.value ≡ text) ⊎ HasName text names

-- an attribute of this name and value is one that a server keeps, and it is known of the object
abbrev pub Knows : {A K : Type 0} → List ℕ → AttributeValue A → About K → Type 0
Knows name (values.CryptographicAlgorithm it) about = (name ≡ codes "Cryptographic Algorithm") × (about.algorithm ≡ Some it)
Knows name (values.Integer it) about =
    ((name ≡ codes "Cryptographic Length") × (about.length ≡ Some it)) ⊎ ((name ≡ codes "Cryptographic Usage Mask") × (about.usage_mask ≡ Some it))
Knows name (values.Structure (structures.Name it)) about = (name ≡ codes "Name") × HasName (string_bytes it.value) about.names.items
Knows name _ about = ⊥

-- each of these attributes is known
abbrev pub KnowsAll : {A K : Type 0} → List (Attribute A) → About K → Type 0
KnowsAll [] about = Unit {0}
KnowsAll (x ∷ attributes) about = Knows (string_bytes x.name) x.value about × KnowsAll attributes about

-- what was known is known
abbrev pub Stays : {X : Type 0} → Option X → Option X → Type 0
Stays (Some x) new = new ≡ Some x
Stays None new = Unit {0}

-- nothing that was known is forgotten, and the object is of the same type
pub record Grows {K : Type 0} (old new : About K) : Type 0 where
  pub algorithm : Stays old.algorithm new.algorithm
  pub length : Stays old.length new.length
  pub usage_mask : Stays old.usage_mask new.usage_mask
  pub names : (text : List ℕ) → HasName text old.names.items → HasName text new.names.items
  pub kind : new.object_type ≡ old.object_type

-- what is known of an object of this type, which comes with this template: only a request before KMIP 2.0 has one
pub record IsTemplated {A K : Type 0} (by_tags : Bool) (object_type : Enumeration 0x420057) (template : Option (TemplateAttribute A))
    (about : About K) : Type 0 where
  pub kind : about.object_type ≡ object_type
  pub known : MatchOption template (Unit {0}) (λ t. (by_tags ≡ false) × KnowsAll t.attributes.items about)

-- what is known of an object of this type, which comes with this template, and with these attributes by tags
pub record IsDescribed {A K : Type 0} (IsOfTags : Kept A → Result (Attributes A) (Error A) → Type 0) (by_tags : Bool)
    (object_type : Enumeration 0x420057) (template : Option (TemplateAttribute A)) (items : Option (Kept A)) (about : About K) : Type 0 where
  pub templated : IsTemplated by_tags object_type template about
  pub given : Attributes A
  pub are_given : AreGiven IsOfTags by_tags items given
  pub known : KnowsAll given.list.items about

-- a Create asks for such a key: a symmetric one, of which is known what it may be used for
pub record IsWanted {A K : Type 0} (IsOfTags : Kept A → Result (Attributes A) (Error A) → Type 0) (by_tags : Bool) (asked : CreateRequest A)
    (about : About K) : Type 0 where
  pub described : IsDescribed IsOfTags by_tags asked.object_type asked.template_attribute asked.attributes_by_tag about
  pub anywhere : asked.protection_storage_masks ≡ None
  pub symmetric : asked.object_type.number ≡ 2
  pub usage : is_some about.usage_mask ≡ true
