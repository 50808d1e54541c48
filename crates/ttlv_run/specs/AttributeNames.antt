-- Which attribute is named where some items of a message were met.
use Rattle.std.specs.Prelude.{◌≡◌, ◌≢◌, ℕ, ◌≤◌, true, List, [], ◌∷◌, ◌++◌, Some}
use Rattle.kmip_ttlv_types.specs.declared.typ.TtlvType.TheVariants.{TextString}
use Rattle.kmip_ttlv_items.specs.declared.found.FoundItem.{FoundItem}
use Rattle.kmip_ttlv_items.specs.ItemWalks.{content_at}
use Rattle.ttlv_run.specs.declared.attributes.Attribute.{Attribute}
use Rattle.ttlv_run.specs.declared.job.Look.{Look}
use Rattle.ttlv_run.specs.Attributes.{attribute_name, is_printed}
use Rattle.ttlv_run.specs.Texts.{Names, no_reach, reach_all, values_shown}

-- items behind an Attribute Name in so many structures are all within its structure, and none is another name
abbrev pub AreBehind : ℕ → List FoundItem → Type 0
AreBehind depth [] = Unit {0}
AreBehind depth (i ∷ is) = (depth ≤ i.depth) × (i.tag ≢ attribute_name) × AreBehind depth is

-- the last Attribute Name among these items is a text that is printed, and the name of this attribute's tag; and what was met behind it
-- is within its structure
pub record NamesAttribute (names : Names) (look : Look) (bytes : List ℕ) (met : List FoundItem) (attribute : Attribute) : Type 0 where
  pub before : List FoundItem
  pub name : FoundItem
  pub behind : List FoundItem
  pub is : met ≡ before ++ (name ∷ behind)
  pub tag : name.tag ≡ attribute_name
  pub text : name.typ ≡ TextString
  pub printed : is_printed (values_shown look (reach_all names look bytes no_reach (before ++ (name ∷ []))).secret name) ≡ true
  pub depth : attribute.depth ≡ name.depth
  pub named : names.named (content_at bytes name.offset) ≡ Some attribute.tag
  pub others : AreBehind name.depth behind
