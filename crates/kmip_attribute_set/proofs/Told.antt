-- What is told of a value that is known by an equation, and of attributes.
use Rattle.std.proofs.Common.{◌≡◌, Option, Some, None, Result, Ok, Err, List, ℕ, sym, subst, inl, inr}
use Rattle.kmip_ttlv_base.specs.Errors.{IsMemory}
use Rattle.kmip_ttlv_base.specs.Values.{Value}
use Rattle.kmip_ttlv_base.specs.declared.error.Error.{Error}
use Rattle.kmip_attributes.specs.declared.attribute.AttributeStructure.{AttributeStructure}
use Rattle.kmip_attributes.specs.declared.attribute.AttributeValue.{AttributeValue}
use Rattle.kmip_attributes.specs.declared.attribute.AttributeValue.TheVariants as values
use Rattle.kmip_attribute_set.specs.Tags.{IsNoTag, NamesItems, Tags, value_under}

pub told_as : {H : Type 0} (by : H → Value) (P : Value → Type 0) {x y : H} → x ≡ y → P (by y) → P (by x)
told_as by P is told = subst (λ z. P (by z)) (sym is) told

-- a value that is a structure
pub structure_told : {A : Type 0} (f : ℕ → AttributeStructure A → Value) (P : Value → Type 0) (tag : ℕ) {x : AttributeValue A} {s : AttributeStructure A}
    → x ≡ values.Structure s → P (f tag s) → P (value_under f tag x)
unfolding value_under
structure_told f P tag is told = subst (λ z. P (value_under f tag z)) (sym is) told

-- a value under another tag, which is the same
pub tag_told : {A : Type 0} (f : ℕ → AttributeStructure A → Value) (P : Value → Type 0) (x : AttributeValue A) {t u : ℕ} → t ≡ u → P (value_under f t x)
    → P (value_under f u x)
tag_told f P x is told = subst (λ z. P (value_under f z x)) is told

-- a value that is another
pub value_told : (P : Value → Type 0) {v w : Value} → v ≡ w → P w → P v
value_told P is told = subst P (sym is) told

-- a name has no tag
pub untagged_fails : {A T : Type 0} {name : List ℕ} {o : Option (List ℕ)} (Reads : Result T (Error A) → Type 0) {e : Error A} → o ≡ Some name → IsNoTag name e
    → Tags o Reads (Err e)
unfolding Tags
untagged_fails Reads {e = e} is bad = subst (λ n. Tags n Reads (Err e)) (sym is) bad

-- all have tags
pub tagged_reads : {A T : Type 0} {o : Option (List ℕ)} (Reads : Result T (Error A) → Type 0) (r : Result T (Error A)) → o ≡ None → Reads r → Tags o Reads r
unfolding Tags
tagged_reads Reads r is reads = subst (λ n. Tags n Reads r) (sym is) reads

-- items are named, and read
pub names_items : {T A : Type 0} (AreNamed : T → Type 0) (Reads : T → Result T (Error A) → Type 0) (raw : T) (r : Result T (Error A))
    → AreNamed raw → Reads raw r
    → NamesItems AreNamed Reads r
unfolding NamesItems
names_items AreNamed Reads raw (Ok x) named reads = record { raw = raw; named = named; reads = reads }
names_items AreNamed Reads raw (Err e) named reads = inr (record { raw = raw; named = named; reads = reads })

-- memory ran out before
pub no_memory : {T A : Type 0} (AreNamed : T → Type 0) (Reads : T → Result T (Error A) → Type 0) (e : Error A) → IsMemory e → NamesItems AreNamed Reads (Err e)
unfolding NamesItems
no_memory AreNamed Reads e h = inl h
