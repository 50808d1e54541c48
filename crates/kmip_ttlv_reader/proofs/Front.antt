-- Fields, forms and variants of a list of them, by index.
use Rattle.std.proofs.Common.{◌≡◌, ℕ, ◌+◌, ◌<◌, ◌≤◌, List, [], ◌∷◌, true, refl, arith, length, drop, get_or, ap, sym, ◌∙◌}
use Rattle.std.proofs.lemmas.List.{drop_more}
use Rattle.kmip_ttlv_base.specs.declared.shape.{FieldShape.FieldShape, Shape.Shape}
use Rattle.kmip_ttlv_base.specs.Forms.{fields_of, field, form_of, forms_of, form}
use Rattle.kmip_ttlv_reader.specs.Reads.{has_fields}

-- the fields from an index on
pub fields_at : {A : Type 0} (fs : List (FieldShape A)) (i : ℕ) (f : FieldShape A) → i < length fs → f ≡ get_or fs i f
    → fields_of (drop i fs) ≡ field f.name.now (form_of f.shape) (fields_of (drop (i + 1) fs))
fields_at fs i f lt is = ap fields_of (drop_more fs i f lt) ∙ ap (λ g. field g.name.now (form_of g.shape) (fields_of (drop (i + 1) fs))) (sym is)

pub has_some : {A : Type 0} (fs : List (FieldShape A)) → 1 ≤ length fs → true ≡ has_fields (fields_of fs)
has_some [] le = absurd (omega arith)
has_some (f ∷ fs) le = refl

-- the forms from an index on
pub forms_at : {A : Type 0} (ss : List (Shape A)) (i : ℕ) (s : Shape A) → i < length ss → s ≡ get_or ss i s
    → forms_of (drop i ss) ≡ form (form_of s) (forms_of (drop (i + 1) ss))
forms_at ss i s lt is = ap forms_of (drop_more ss i s lt) ∙ ap (λ g. form (form_of g) (forms_of (drop (i + 1) ss))) (sym is)
