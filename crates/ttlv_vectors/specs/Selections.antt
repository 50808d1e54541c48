-- A choice whose variants contain one form, several forms, or none: its form.
use Rattle.kmip_ttlv.specs.Forms.{Content, Form, enum, field, form, int32, no_fields, no_forms, no_variants, octets, struct, text, tuple, unit, variant}
use Rattle.kmip_ttlv.specs.Forms.{wrapped, content_of, form_of}
use Rattle.kmip_ttlv_base.specs.declared.shape.{FieldShape.FieldShape, VariantShape.VariantShape}
use Rattle.std.specs.Prelude.{◌≡◌, ℕ, List, codes, false}

-- a field's shape of this name and form
abbrev pub IsField : {A : Type 0} → List ℕ → Form → FieldShape A → Type 0
IsField name s f = (f.name.now ≡ name) × (form_of f.shape ≡ s)

-- a variant's shape of this name and content
abbrev pub IsVariant : {A : Type 0} → List ℕ → Content → VariantShape A → Type 0
IsVariant name c v = (v.name.now ≡ name) × (content_of v.content ≡ c)

-- by the name before it a text, or a number and bytes in a Structure; or an Enumeration of 3
abbrev pub selection_form : Form
selection_form =
    enum (codes "0x540041") (
    variant (codes "if 0x540042==Text") (wrapped text) (
    variant (codes "if 0x540042 in [Pair, Two]") (tuple (form int32 (form octets no_forms))) (
    variant (codes "0x00000003") unit no_variants)))

-- a name, and what it chooses
abbrev pub choice_form : Form
choice_form =
    struct (codes "0x540050") (
    field (codes "0x540042") text (
    field (codes "0x540041") selection_form no_fields)) false
