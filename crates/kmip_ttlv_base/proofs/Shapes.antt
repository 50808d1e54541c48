-- The form of a shape, variant by variant: lemmas for the proof of a type's `shape`.
use Rattle.std.proofs.Common.{◌≡◌, ℕ, Bool as Boole, List, refl, ap, ◌∙◌, Vec, Box, Bor}
use Rattle.kmip_ttlv_base.specs.declared.shape.{FieldShape.FieldShape, VariantShape.VariantShape}
use Rattle.kmip_ttlv_base.specs.declared.shape.Shape.{Shape, Row_of-FieldShape, end_of-FieldShape, more_of-FieldShape, items-the_row-FieldShape}
use Rattle.kmip_ttlv_base.specs.declared.shape.Shape.{items_hidden-the_row-FieldShape-0, Row_of-VariantShape, end_of-VariantShape, more_of-VariantShape}
use Rattle.kmip_ttlv_base.specs.declared.shape.Shape.{items-the_row-VariantShape, items_hidden-the_row-VariantShape-1}
use Rattle.kmip_ttlv_base.specs.declared.shape.Shape.TheBlock.{hidden-the_row-FieldShape-0, hidden-the_row-VariantShape-1, hidden-the_row-Shape-2}
use Rattle.kmip_ttlv_base.specs.declared.shape.Shape.TheVariants.{Struct, Option, Seq, Newtype, Enum}
use Rattle.kmip_ttlv_base.specs.declared.shape.VariantContent.{Row_of-Shape, end_of-Shape, more_of-Shape, items-the_row-Shape, items_hidden-the_row-Shape-2}
use Rattle.kmip_ttlv_base.specs.Forms.{struct, option, seq, newtype, enum, wrapped, field, variant, tuple, form, form_of, content_of, fields_in, fields_of}
use Rattle.kmip_ttlv_base.specs.Forms.{variants_in, variants_of, forms_in, forms_of}
use Rattle.kmip_ttlv_base.specs.declared.shape.VariantContent.TheVariants as contents

fields-row : {A : Type 0} {n : _} (row : Row_of-FieldShape A n) → fields_in row ≡ fields_of (items-the_row-FieldShape A n row)
fields-row end_of-FieldShape = refl
fields-row (more_of-FieldShape name s rest) = ap (field name.now (form_of s)) (fields-row rest)

variants-row : {A : Type 0} {n : _} (row : Row_of-VariantShape A n) → variants_in row ≡ variants_of (items-the_row-VariantShape A n row)
variants-row end_of-VariantShape = refl
variants-row (more_of-VariantShape name c rest) = ap (variant name.now (content_of c)) (variants-row rest)

forms-row : {A : Type 0} {n : _} (row : Row_of-Shape A n) → forms_in row ≡ forms_of (items-the_row-Shape A n row)
forms-row end_of-Shape = refl
forms-row (more_of-Shape s rest) = ap (form (form_of s)) (forms-row rest)

pub form_of-Struct : {A : Type 0} (name : Bor (List ℕ)) (v : Vec (FieldShape A) A) (deny : Boole)
    → form_of (Struct name v deny) ≡ struct name.now (fields_of v.items) deny
form_of-Struct name v deny = ap (λ fs. struct name.now fs deny) (fields-row (hidden-the_row-FieldShape-0 _ v)
    ∙ ap fields_of (items_hidden-the_row-FieldShape-0 _ v))

pub form_of-Enum : {A : Type 0} (name : Bor (List ℕ)) (v : Vec (VariantShape A) A) → form_of (Enum name v) ≡ enum name.now (variants_of v.items)
form_of-Enum name v = ap (enum name.now) (variants-row (hidden-the_row-VariantShape-1 _ v) ∙ ap variants_of (items_hidden-the_row-VariantShape-1 _ v))

pub content_of-Tuple : {A : Type 0} (v : Vec (Shape A) A) → content_of (contents.Tuple v) ≡ tuple (forms_of v.items)
content_of-Tuple v = ap tuple (forms-row (hidden-the_row-Shape-2 _ v) ∙ ap forms_of (items_hidden-the_row-Shape-2 _ v))

pub form_of-Option : {A : Type 0} (b : Box (Shape A) A) → form_of (Option b) ≡ option (form_of b.value)
form_of-Option b = refl

pub form_of-Seq : {A : Type 0} (b : Box (Shape A) A) → form_of (Seq b) ≡ seq (form_of b.value)
form_of-Seq b = refl

pub form_of-Newtype : {A : Type 0} (name : Bor (List ℕ)) (b : Box (Shape A) A) → form_of (Newtype name b) ≡ newtype name.now (form_of b.value)
form_of-Newtype name b = refl

pub content_of-Newtype : {A : Type 0} (b : Box (Shape A) A) → content_of (contents.Newtype b) ≡ wrapped (form_of b.value)
content_of-Newtype b = refl
