-- Rules in parts: a rule that asks whether the last text under a tag is one of some texts, or for the type of an item.
use Rattle.std.specs.Prelude.{◌≡◌, ℕ, Bool, false, List, [], ◌∷◌, map, codes, ◌==◌, if◌then◌else◌, Option, Some, None, option_map, option_and_then}
use Rattle.std.specs.List.{list_any, slice_split}
use Rattle.std.specs.Borrow.{Bor}
use Rattle.std.specs.Str.{bytes_eq, trim, trim_end, trim_start, chars}
use lib.Utf8.{encode}
use Rattle.kmip_ttlv_types.specs.Names.{after_prefix, number, tag_of}
use Rattle.kmip_ttlv_reader.specs.TagValues.{TagValue, last}
use Rattle.kmip_ttlv_base.specs.Forms.{Variants, no_variants, variant, wrapped}
use Rattle.kmip_ttlv_reader.specs.Rules.{sides, in_brackets, type_name}
use Rattle.kmip_ttlv_types.specs.declared.typ.TtlvType.{TtlvType}
use Rattle.kmip_ttlv_reader.specs.declared.rules.RuleParts.{RuleParts}
use Rattle.kmip_ttlv_reader.specs.declared.rules.RuleParts.TheVariants as parts

-- there is a text, and it is one of these
abbrev pub is_one_of : List (List ℕ) → Option (List ℕ) → Bool
is_one_of texts None = false
is_one_of texts (Some text) = list_any (bytes_eq text) texts

-- the last text stored under a tag is one of these; not where there is no such tag
abbrev pub is_stored : ℕ → List (List ℕ) → List TagValue → Bool
is_stored t texts ks = is_one_of texts (last ks t)

-- the texts themselves
abbrev pub texts_of : List (Bor (List ℕ)) → List (List ℕ)
texts_of texts = map (λ one. one.now) texts

-- whether a rule in parts holds, by the stored texts and of an item of this type
abbrev pub holds : RuleParts → List TagValue → TtlvType → Bool
holds (parts.Texts tag texts) ks typ = is_stored tag (texts_of texts.now) ks
holds (parts.Type asked) ks typ = bytes_eq (type_name asked) (type_name typ)

-- the tag and the one text of `==`, where it asks for no type
abbrev pub parts_of_equal : List ℕ → List ℕ → Option (ℕ × List (List ℕ))
parts_of_equal l x = if bytes_eq l (codes "type") then None else option_map (λ t. (t, x ∷ [])) (tag_of l)

-- the tag and the texts of `in`, where it has brackets
abbrev pub parts_of_member : List ℕ → List ℕ → Option (ℕ × List (List ℕ))
parts_of_member l x =
    option_and_then (λ all. option_map (λ t. (t, map trim (slice_split (λ c. c == 44) all))) (tag_of l)) (in_brackets x)

-- the parts of a rule, by its sides at `==`, at `>=` and at `in`: at the first of these that it has
abbrev pub parts_by : (equal at_least member : Option (List ℕ × List ℕ)) → Option (ℕ × List (List ℕ))
parts_by (Some x) at_least member = parts_of_equal x.0 x.1
parts_by None (Some x) member = None
parts_by None None (Some x) = parts_of_member x.0 x.1
parts_by None None None = None

-- the parts of a rule, by what follows `if `
abbrev pub parts_of_body : List ℕ → Option (ℕ × List (List ℕ))
parts_of_body body = parts_by (sides (codes "==") body) (sides (codes ">=") body) (sides (codes "in") body)

-- the parts of a rule, by its name
abbrev pub parts_by_name : List ℕ → Option (ℕ × List (List ℕ))
parts_by_name name = option_and_then parts_of_body (after_prefix (codes "if ") name)

-- the same: a proof that unfolds it computes them of a name
unfoldable pub parts_of : List ℕ → Option (ℕ × List (List ℕ))
unfolding tag_of number sides in_brackets trim_end trim_start chars encode
parts_of name = parts_by_name name

-- the sides of `==` in a rule's name; a proof that unfolds it computes them of a name
unfoldable pub equal_sides : List ℕ → Option (List ℕ × List ℕ)
unfolding sides trim_end trim_start chars encode
equal_sides name = option_and_then (sides (codes "==")) (after_prefix (codes "if ") name)

-- they are the parts of the rule of this name
abbrev pub AreParts : List ℕ → RuleParts → Type 0
AreParts name (parts.Texts tag texts) = parts_of name ≡ Some (tag, texts_of texts.now)
AreParts name (parts.Type asked) = equal_sides name ≡ Some (codes "type", type_name asked)

-- variants of one item each have these rules, in their order
abbrev pub AreRules : Variants → List RuleParts → Type 0
AreRules no_variants [] = Unit {0}
AreRules (variant name (wrapped s) vs) (rule ∷ rules) = AreParts name rule × AreRules vs rules
AreRules _ _ = ⊥
