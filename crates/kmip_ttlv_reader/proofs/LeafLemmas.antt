-- Leaves of any shape.
use Rattle.std.proofs.Common.{◌≡◌, ℕ, List, refl, ap}
use Rattle.kmip_ttlv_base.specs.{Values.newtype_value, Forms.newtype}
use Rattle.kmip_ttlv_reader.specs.{declared.leaf.Leaf.Leaf, TagValues.TagValue, LeafForms.form_of_leaf, Steps.mapped, Outcomes.outcome, Outcomes.leaf_outcome}
use Rattle.kmip_ttlv_reader.specs.declared.leaf.Leaf.TheVariants as leaves

-- what the form of a leaf reads
pub leaf_is : (l : Leaf) (b : List ℕ) (o : ℕ) (k : List TagValue) (p e : ℕ) → outcome (form_of_leaf l) b o k p e ≡ leaf_outcome (form_of_leaf l) b o k p e
unfolding outcome
leaf_is leaves.I32 b o k p e = refl
leaf_is leaves.I64 b o k p e = refl
leaf_is leaves.Bool b o k p e = refl
leaf_is leaves.Text b o k p e = refl
leaf_is leaves.Bytes b o k p e = refl
leaf_is leaves.DateTime b o k p e = refl
leaf_is leaves.Interval b o k p e = refl
leaf_is leaves.BigInteger b o k p e = refl
leaf_is leaves.U32 b o k p e = refl

-- and what it reads within a wrapper
pub wrapped_is : (name : List ℕ) (l : Leaf) (b : List ℕ) (o : ℕ) (k : List TagValue) (p e : ℕ) → outcome (newtype name (form_of_leaf l)) b o k p e ≡ mapped
    (newtype_value name) (leaf_outcome (form_of_leaf l) b o k p e)
unfolding outcome
wrapped_is name l b o k p e = ap (mapped (newtype_value name)) (leaf_is l b o k p e)
