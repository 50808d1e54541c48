-- Which items say that all has failed, and which refuse a request as a whole.
use Rattle.std.proofs.Common.{◌≡◌, ◌↔◌, Bool, true, false, IsTrue, List, [], ◌∷◌, Option, Some, None, is_some, length, map, ◌∙◌, subst, sym, ap, refl}
use Rattle.std.proofs.lemmas.List.{nil_from_length}
use Rattle.kmip_messages.specs.declared.response.ResponseItem.{ResponseItem}
use Rattle.kmip_client.specs.declared.failure.Refusal.{Refusal}
use Rattle.kmip_client.specs.Answers.{AllFailed, RefusesWhole, has_failed}
use Rattle.kmip_client.specs.Refusals.{refusal_of}

-- the first of what is left failed
pub fails_on : {P A : Type 0} (left : List (ResponseItem A)) {item : ResponseItem A} {rest : List (ResponseItem A)}
    → P ↔ AllFailed left → left ≡ item ∷ rest → IsTrue (has_failed item) → P ↔ AllFailed rest
fails_on {P = P} left so e failed =
    let here = subst (λ x. P ↔ AllFailed x) e so in
    ((λ p. (here.0 p).1), (λ q. here.1 (failed, q)))

-- the first of what is left did not fail
pub fails_not : {P A : Type 0} (left : List (ResponseItem A)) {item : ResponseItem A} {rest : List (ResponseItem A)}
    → P ↔ AllFailed left → left ≡ item ∷ rest → has_failed item ≡ false → IsTrue false ↔ P
fails_not {P = P} left {item = item} so e failed_not =
    let here = subst (λ x. P ↔ AllFailed x) e so in
    ((λ no. cc no), (λ p. let yes : has_failed item ≡ true = (here.0 p).0 in cc))

-- nothing is left
pub all_did : {P A : Type 0} (left : List (ResponseItem A)) → P ↔ AllFailed left → length left ≡ 0 → IsTrue true ↔ P
all_did {P = P} left so none =
    let here = subst (λ x. P ↔ AllFailed x) (nil_from_length left none) so in
    ((λ _. here.1 tt), (λ _. refl))

-- no items refuse nothing
pub nothing_refuses : {A : Type 0} (items : List (ResponseItem A)) → length items ≡ 0 → IsTrue false ↔ RefusesWhole items
nothing_refuses items none = subst (λ x. IsTrue false ↔ RefusesWhole x) (sym (nil_from_length items none)) ((λ no. cc no), (λ h. absurd h))

-- several items refuse nothing
several : {A : Type 0} (item : ResponseItem A) (rest : List (ResponseItem A)) → (length rest ≡ 0 → ⊥) → IsTrue false ↔ RefusesWhole (item ∷ rest)
several item [] there = absurd (there refl)
several item (next ∷ rest) there = ((λ no. cc no), (λ h. absurd h))

-- one item refuses a request if it has no operation and failed
alone : {A : Type 0} (item : ResponseItem A) (rest : List (ResponseItem A)) → length rest ≡ 0
    → RefusesWhole (item ∷ rest) ↔ ((item.operation ≡ None) × IsTrue (has_failed item))
alone item rest none =
    subst (λ x. RefusesWhole (item ∷ x) ↔ ((item.operation ≡ None) × IsTrue (has_failed item))) (sym (nil_from_length rest none)) ((λ h. h), (λ h. h))

-- the same, of items that are known by their first
pub several_refuse_not : {A : Type 0} (items : List (ResponseItem A)) (item : ResponseItem A) (rest : List (ResponseItem A))
    → items ≡ item ∷ rest → (length rest ≡ 0 → ⊥) → IsTrue false ↔ RefusesWhole items
several_refuse_not items item rest e there = subst (λ x. IsTrue false ↔ RefusesWhole x) (sym e) (several item rest there)

one_refuses : {A : Type 0} (items : List (ResponseItem A)) (item : ResponseItem A) (rest : List (ResponseItem A))
    → items ≡ item ∷ rest → length rest ≡ 0 → RefusesWhole items ↔ ((item.operation ≡ None) × IsTrue (has_failed item))
one_refuses items item rest e none =
    subst (λ x. RefusesWhole x ↔ ((item.operation ≡ None) × IsTrue (has_failed item))) (sym e) (alone item rest none)

-- what isn't there is absent
absent : {X : Type 0} (o : Option X) → is_some o ≡ false → o ≡ None
absent None e = refl
absent (Some x) e = cc

-- an item of no operation, by whether it failed
pub refuses_by : {A : Type 0} (items : List (ResponseItem A)) (item : ResponseItem A) (rest : List (ResponseItem A)) (failed : Bool)
    → items ≡ item ∷ rest → length rest ≡ 0 → is_some item.operation ≡ false → failed ≡ has_failed item → IsTrue failed ↔ RefusesWhole items
refuses_by items item rest failed e none no_operation is =
    let here = one_refuses items item rest e none in
    rw is ((λ yes. here.1 (absent item.operation no_operation, yes)), (λ h. (here.0 h).1))

-- an item of an operation refuses nothing
pub refuses_not : {A : Type 0} (items : List (ResponseItem A)) (item : ResponseItem A) (rest : List (ResponseItem A)) (none : Bool)
    → items ≡ item ∷ rest → length rest ≡ 0 → is_some item.operation ≡ true → none ≡ false → IsTrue none ↔ RefusesWhole items
refuses_not items item rest none e alone there is =
    let here = one_refuses items item rest e alone in
    rw is ((λ no. cc no), (λ h. let gone : item.operation ≡ None = (here.0 h).0 in cc (ap is_some gone)))

-- what refuses a request is one item
pub one_item : {A : Type 0} (items : List (ResponseItem A)) → RefusesWhole items → length items ≡ 1
one_item [] h = absurd h
one_item (x ∷ []) h = refl
one_item (x ∷ y ∷ items) h = absurd h

-- and what it says is what they say
pub the_refusal : {A : Type 0} {items : List (ResponseItem A)} {item : ResponseItem A} {f : Refusal A} → items ≡ item ∷ [] → f ≡ refusal_of item
    → map refusal_of items ≡ f ∷ []
the_refusal e is = ap (λ x. map refusal_of x) e ∙ ap (λ x. x ∷ []) (sym is)
