-- The tags of a struct's fields as a set, field by field.
use Rattle.std.proofs.Common.{◌≡◌, ℕ, List, true, false, cond, ◌||◌, ◌==◌, Some, None, BTreeSet, refl, sym, ap, ◌∙◌}
use Rattle.std.specs.{Ordering.nat_cmp, BTreeMap.is_at, BTreeSet.contains}
use Rattle.kmip_ttlv_types.specs.Names.{tag_of}
use Rattle.kmip_ttlv_base.specs.Forms.{Form, Fields, field}
use Rattle.kmip_ttlv_reader.specs.Reads.{has_tag, names_tag}
use Rattle.kmip_ttlv_reader.proofs.RuleLemmas.{is_eq-nat_cmp}

-- whether the name of a tag is that of another
has_tag_is : (name : List ℕ) (k t : ℕ) → tag_of name ≡ Some k → has_tag name t ≡ (k == t)
has_tag_is name k t named = rw (has_tag, named) refl

-- a name that is no tag is that of none
has_no_tag : (name : List ℕ) (t : ℕ) → tag_of name ≡ None → has_tag name t ≡ false
has_no_tag name t named = rw (has_tag, named) refl

-- one field more: its tag is put into the set
pub tag_put : (m n : BTreeSet ℕ) (name : List ℕ) (s : Form) (fs : Fields) (k t : ℕ) → tag_of name ≡ Some k
    → ((q : ℕ) → contains nat_cmp n q ≡ cond (is_at (nat_cmp k) q) true (contains nat_cmp m q))
    → (contains nat_cmp n t || names_tag fs t) ≡ (contains nat_cmp m t || names_tag (field name s fs) t)
tag_put m n name s fs k t named put =
    let was = contains nat_cmp m t in
    let here : contains nat_cmp n t ≡ cond (k == t) true (contains nat_cmp m t) = put t ∙ ap (λ b. cond b true (contains nat_cmp m t)) (is_eq-nat_cmp k t) in
    ap (λ b. b || names_tag fs t) here
    ∙ elim (k == t) as (λ b. (cond b true was || names_tag fs t) ≡ (was || elim b [ true ↦ true | false ↦ names_tag fs t ])) [
      | true ↦ elim (contains nat_cmp m t) as (λ b. true ≡ (b || true)) [ true ↦ refl | false ↦ refl ]
      | false ↦ refl
    ]
    ∙ sym (ap (λ b. contains nat_cmp m t || elim b [ true ↦ true | false ↦ names_tag fs t ]) (has_tag_is name k t named))

-- a field whose name is no tag
pub no_tag_put : (m : BTreeSet ℕ) (name : List ℕ) (s : Form) (fs : Fields) (t : ℕ) → tag_of name ≡ None
    → (contains nat_cmp m t || names_tag fs t) ≡ (contains nat_cmp m t || names_tag (field name s fs) t)
no_tag_put m name s fs t named = sym (ap (λ b. contains nat_cmp m t || elim b [ true ↦ true | false ↦ names_tag fs t ]) (has_no_tag name t named))
