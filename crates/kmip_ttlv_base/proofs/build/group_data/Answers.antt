use Rattle.std.proofs.Common.{◌∙◌, sym, ap, map}
use Rattle.kmip_ttlv_base.specs.Values.{view, some_value, newtype_value, newtype_variant_value}
use Rattle.kmip_ttlv_base.specs.{Visits.around, Builds.group_value}
use Rattle.kmip_ttlv_base.specs.Tags.{wrapper_name}
use Rattle.kmip_ttlv_base.proofs.Views.{view-Some, view-Seq, view-Struct, view-Newtype, view-Tagged, view-Structure, view-NewtypeVariant, view-TupleVariant}
use Rattle.kmip_ttlv_base.proofs.build.group_data.Goals as goal

pub returns-in_ok-new-in-Some : goal.returns-in_ok-new-in-Some
returns-in_ok-new-in-Some g c = view-Some _ ∙ ap some_value (ap view c.in_ok-new-in-Some.ensures.ok ∙ c.first.ensures)
    ∙ ap (λ a. group_value (around a) (map view c.args.values.items)) (sym c.in-Some.is)

pub returns-in-Seq : goal.returns-in-Seq
returns-in-Seq g c = view-Seq _ ∙ ap (λ a. group_value (around a) (map view c.args.values.items)) (sym c.in-Seq.is)

pub returns-in-Struct : goal.returns-in-Struct
returns-in-Struct g c =
    view-Struct _ _ ∙ ap (λ a. group_value (around a) (map view c.args.values.items)) (sym c.in-Struct.is)

pub returns-in_ok-new-in-Newtype : goal.returns-in_ok-new-in-Newtype
returns-in_ok-new-in-Newtype g c = view-Newtype _ _ ∙ ap (newtype_value c.in-Newtype.name.now)
    (ap view c.in_ok-new-in-Newtype.ensures.ok ∙ c.first-in-Newtype.ensures)
    ∙ ap (λ a. group_value (around a) (map view c.args.values.items)) (sym c.in-Newtype.is)

pub returns-in_ok-new-in-Tagged : goal.returns-in_ok-new-in-Tagged
returns-in_ok-new-in-Tagged g c = view-Tagged _ _ ∙ ap (newtype_value (wrapper_name c.in-Tagged.tag))
    (ap view c.in_ok-new-in-Tagged.ensures.ok ∙ c.first-in-Tagged.ensures)
    ∙ ap (λ a. group_value (around a) (map view c.args.values.items)) (sym c.in-Tagged.is)

pub returns-in-Structure : goal.returns-in-Structure
returns-in-Structure g c =
    view-Structure _ _ ∙ ap (λ a. group_value (around a) (map view c.args.values.items)) (sym c.in-Structure.is)

pub returns-in_ok-new-in-NewtypeVariant : goal.returns-in_ok-new-in-NewtypeVariant
returns-in_ok-new-in-NewtypeVariant g c = view-NewtypeVariant _ _ _
    ∙ ap (newtype_variant_value c.in-NewtypeVariant.name.now c.in-NewtypeVariant.variant.now)
    (ap view c.in_ok-new-in-NewtypeVariant.ensures.ok ∙ c.first-in-NewtypeVariant.ensures)
    ∙ ap (λ a. group_value (around a) (map view c.args.values.items)) (sym c.in-NewtypeVariant.is)

pub returns-in-TupleVariant : goal.returns-in-TupleVariant
returns-in-TupleVariant g c =
    view-TupleVariant _ _ _ ∙ ap (λ a. group_value (around a) (map view c.args.values.items)) (sym c.in-TupleVariant.is)
