-- Forms: shapes, apart from where they are in memory.
use Rattle.std.specs.Prelude.{ℕ, Bool, List, [], ◌∷◌}
use Rattle.kmip_ttlv_base.specs.declared.shape.Shape.{Shape, Row_of-FieldShape, end_of-FieldShape, more_of-FieldShape}
use Rattle.kmip_ttlv_base.specs.declared.shape.Shape.{Row_of-VariantShape, end_of-VariantShape, more_of-VariantShape}
use Rattle.kmip_ttlv_base.specs.declared.shape.Shape.TheVariants as shapes
use Rattle.kmip_ttlv_base.specs.declared.shape.VariantContent.{VariantContent, Row_of-Shape, end_of-Shape}
use Rattle.kmip_ttlv_base.specs.declared.shape.VariantContent.{more_of-Shape}
use Rattle.kmip_ttlv_base.specs.declared.shape.VariantContent.TheVariants as contents
use Rattle.kmip_ttlv_base.specs.declared.shape.FieldShape.{FieldShape}
use Rattle.kmip_ttlv_base.specs.declared.shape.VariantShape.{VariantShape}

mutual
  -- what a value is decoded by
  pub data Form : Type 0 where
    struct : (name : List ℕ) → (fields : Fields) → (deny : Bool) → Form
    option : Form → Form
    seq : Form → Form
    newtype : (name : List ℕ) → Form → Form
    enum : (name : List ℕ) → (variants : Variants) → Form
    int32 : Form
    int64 : Form
    boolean : Form
    text : Form
    octets : Form
    date_time : Form
    interval : Form
    big_integer : Form
    any_number : Form

  -- the fields of a struct, in their order
  pub data Fields : Type 0 where
    no_fields : Fields
    field : (name : List ℕ) → Form → Fields → Fields
    -- items of any tags and types, with all that is in them, up to the structure's end
    any_items : Fields

  -- the variants of an enum, in their order
  pub data Variants : Type 0 where
    no_variants : Variants
    variant : (name : List ℕ) → Content → Variants → Variants

  -- what a variant contains
  pub data Content : Type 0 where
    unit : Content
    wrapped : Form → Content
    tuple : Forms → Content

  -- forms, one after the other
  pub data Forms : Type 0 where
    no_forms : Forms
    form : Form → Forms → Forms

-- the form that a shape is
abbrev mutual
  pub form_of : {A : Type 0} → Shape A → Form
  form_of (shapes.Struct' name n fields deny) = struct name.now (fields_in fields) deny
  form_of (shapes.Option' p s) = option (form_of s)
  form_of (shapes.Seq' p s) = seq (form_of s)
  form_of (shapes.Newtype' name p s) = newtype name.now (form_of s)
  form_of (shapes.Enum' name n variants) = enum name.now (variants_in variants)
  form_of shapes.I32 = int32
  form_of shapes.I64 = int64
  form_of shapes.Bool = boolean
  form_of shapes.Text = text
  form_of shapes.Bytes = octets
  form_of shapes.DateTime = date_time
  form_of shapes.Interval = interval
  form_of shapes.BigInteger = big_integer
  form_of shapes.U32 = any_number

  pub fields_in : {A : Type 0} {n : _} → Row_of-FieldShape A n → Fields
  fields_in end_of-FieldShape = no_fields
  fields_in (more_of-FieldShape name s rest) = field name.now (form_of s) (fields_in rest)

  pub variants_in : {A : Type 0} {n : _} → Row_of-VariantShape A n → Variants
  variants_in end_of-VariantShape = no_variants
  variants_in (more_of-VariantShape name c rest) = variant name.now (content_of c) (variants_in rest)

  pub content_of : {A : Type 0} → VariantContent A → Content
  content_of contents.Unit = unit
  content_of (contents.Newtype' p s) = wrapped (form_of s)
  content_of (contents.Tuple' n all) = tuple (forms_in all)

  pub forms_in : {A : Type 0} {n : _} → Row_of-Shape A n → Forms
  forms_in end_of-Shape = no_forms
  forms_in (more_of-Shape s rest) = form (form_of s) (forms_in rest)

-- the fields of a list of them
abbrev pub fields_of : {A : Type 0} → List (FieldShape A) → Fields
fields_of [] = no_fields
fields_of (f ∷ fs) = field f.name.now (form_of f.shape) (fields_of fs)

-- the variants of a list of them
abbrev pub variants_of : {A : Type 0} → List (VariantShape A) → Variants
variants_of [] = no_variants
variants_of (v ∷ vs) = variant v.name.now (content_of v.content) (variants_of vs)

-- the forms of a list of shapes
abbrev pub forms_of : {A : Type 0} → List (Shape A) → Forms
forms_of [] = no_forms
forms_of (s ∷ ss) = form (form_of s) (forms_of ss)
