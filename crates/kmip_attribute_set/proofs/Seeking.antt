-- How a search goes along a list of attributes, and how references to them grow.
use Rattle.std.proofs.Common.{◌≡◌, ◌∙◌, ℕ, List, ◌∷◌, Bool, true, false, Some, None, if◌then◌else◌, ap, length}
use Rattle.std.proofs.Common.{string_bytes, sym}
use Rattle.std.specs.Prelude.{bytes_eq, is_some}
use Rattle.std.proofs.lemmas.List.{nil_from_length}
use Rattle.kmip_attributes.specs.declared.attribute.Attribute.{Attribute}
use Rattle.kmip_attribute_set.specs.Attributes.{value_of}
use Rattle.kmip_attribute_set.specs.Names.{attribute_tag}
use Rattle.kmip_attribute_set.specs.Tags.{untagged}

-- of a value by its name: the first of the rest has it
pub found : {A : Type 0} (name : List ℕ) (all left rest : List (Attribute A)) (x : Attribute A) (t : Bool) → value_of name all ≡ value_of name left
    → left ≡ x ∷ rest → t ≡ bytes_eq (string_bytes x.name) name → t ≡ true → Some x.value ≡ value_of name all
found name all left rest x t so e test holds =
    sym (so ∙ ap (value_of name) e ∙ ap (λ b. if b then Some x.value else value_of name rest) (sym test ∙ holds))

-- it hasn't
pub seeks_on : {A : Type 0} (name : List ℕ) (all left rest : List (Attribute A)) (x : Attribute A) (t : Bool) → value_of name all ≡ value_of name left
    → left ≡ x ∷ rest → t ≡ bytes_eq (string_bytes x.name) name → t ≡ false → value_of name all ≡ value_of name rest
seeks_on name all left rest x t so e test other =
    so ∙ ap (value_of name) e ∙ ap (λ b. if b then Some x.value else value_of name rest) (sym test ∙ other)

-- none is left
pub not_found : {A : Type 0} (name : List ℕ) (all left : List (Attribute A)) → value_of name all ≡ value_of name left → length left ≡ 0
    → None ≡ value_of name all
not_found name all left so none = sym (so ∙ ap (value_of name) (nil_from_length left none))

-- of a name without a tag: the first of the rest has one
pub lacks_on : {A : Type 0} (all left rest : List (Attribute A)) (x : Attribute A) (t : Bool) → untagged all ≡ untagged left
    → left ≡ x ∷ rest → t ≡ is_some (attribute_tag (string_bytes x.name)) → t ≡ true → untagged all ≡ untagged rest
lacks_on all left rest x t so e test holds = so ∙ ap untagged e ∙ ap (λ b. if b then untagged rest else Some (string_bytes x.name)) (sym test ∙ holds)

-- it hasn't
pub lacks : {A : Type 0} (all left rest : List (Attribute A)) (x : Attribute A) (t : Bool) → untagged all ≡ untagged left
    → left ≡ x ∷ rest → t ≡ is_some (attribute_tag (string_bytes x.name)) → t ≡ false → Some (string_bytes x.name) ≡ untagged all
lacks all left rest x t so e test other =
    sym (so ∙ ap untagged e ∙ ap (λ b. if b then untagged rest else Some (string_bytes x.name)) (sym test ∙ other))

-- none is left
pub lacks_none : {A : Type 0} (all left : List (Attribute A)) → untagged all ≡ untagged left → length left ≡ 0 → None ≡ untagged all
lacks_none all left so none = sym (so ∙ ap untagged (nil_from_length left none))
