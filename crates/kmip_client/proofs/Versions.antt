-- How a search for a version goes along a list.
use Rattle.std.proofs.Common.{◌≡◌, ◌↔◌, true, false, IsTrue, List, ◌∷◌, length, subst, refl}
use Rattle.std.proofs.Common.{inl, inr}
use Rattle.std.proofs.lemmas.List.{nil_from_length}
use Rattle.kmip_headers.specs.declared.header.ProtocolVersion.{ProtocolVersion}
use Rattle.kmip_client.specs.Negotiation.{FirstCommon, Has, NoneCommon}

-- the first of the rest is another version
pub is_behind : {P : Type 0} {v x : ProtocolVersion} {left rest : List ProtocolVersion} → P ↔ Has v left → left ≡ x ∷ rest → (x ≡ v → ⊥) → P ↔ Has v rest
is_behind {P = P} {v = v} so e other =
    let here = subst (λ y. P ↔ Has v y) e so in
    ((λ p. elim (here.0 p) [ inl q ↦ absurd (other q) | inr h ↦ h ]), (λ h. here.1 (inr h)))

-- it is this one
pub is_here : {P : Type 0} {v x : ProtocolVersion} {left rest : List ProtocolVersion} → P ↔ Has v left → left ≡ x ∷ rest → x ≡ v → IsTrue true ↔ P
is_here {P = P} {v = v} so e is =
    let here = subst (λ y. P ↔ Has v y) e so in
    ((λ _. here.1 (inl is)), (λ _. refl))

-- nothing is left
pub is_nowhere : {P : Type 0} (v : ProtocolVersion) (left : List ProtocolVersion) → P ↔ Has v left → length left ≡ 0 → IsTrue false ↔ P
is_nowhere {P = P} v left so none =
    let here = subst (λ y. P ↔ Has v y) (nil_from_length left none) so in
    ((λ no_way. cc no_way), (λ p. absurd (here.0 p)))

-- what is common with the rest is common with all of them
pub record Leads (left own theirs : List ProtocolVersion) : Type 0 where
  pub first : (v : ProtocolVersion) → FirstCommon left theirs v → FirstCommon own theirs v
  pub none : NoneCommon left theirs → NoneCommon own theirs

-- the server doesn't have the first of the rest
pub leads_on : {left own theirs rest : List ProtocolVersion} {x : ProtocolVersion}
    → Leads left own theirs → left ≡ x ∷ rest → (Has x theirs → ⊥) → Leads rest own theirs
leads_on {own = own} {theirs = theirs} so e lacks =
    let here = subst (λ y. Leads y own theirs) e so in
    record { first = λ v h. here.first v (inr (lacks, h)); none = λ h. here.none (lacks, h) }

-- it has it
pub common : {left own theirs rest : List ProtocolVersion} {x : ProtocolVersion}
    → Leads left own theirs → left ≡ x ∷ rest → Has x theirs → FirstCommon own theirs x
common {own = own} {theirs = theirs} {x = x} so e has = (subst (λ y. Leads y own theirs) e so).first x (inl (has, refl))

-- nothing is left
pub none_common : {left own theirs : List ProtocolVersion} → Leads left own theirs → length left ≡ 0 → NoneCommon own theirs
none_common {left = left} {own = own} {theirs = theirs} so none = (subst (λ y. Leads y own theirs) (nil_from_length left none) so).none tt
