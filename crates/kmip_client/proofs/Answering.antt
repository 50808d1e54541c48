-- How the definition of answers goes along two lists, by what is left of them.
use Rattle.std.proofs.Common.{◌≡◌, ◌↔◌, ◌==◌, Bool, false, IsTrue, List, [], ◌∷◌, length, subst, refl}
use Rattle.std.proofs.lemmas.Bool.{eqb-true}
use Rattle.std.proofs.lemmas.List.{nil_from_length}
use Rattle.kmip_messages.specs.declared.request.RequestItem.{RequestItem}
use Rattle.kmip_messages.specs.declared.response.ResponseItem.{ResponseItem}
use Rattle.kmip_client.specs.Answers.{AnswersAfter, IsAnswer, has_failed}

-- what is known of both lists is known of equal ones
along : {P A : Type 0} (failed : Bool) {asked asked' : List (RequestItem A)} {items items' : List (ResponseItem A)}
    → asked ≡ asked' → items ≡ items' → P ↔ AnswersAfter failed asked items → P ↔ AnswersAfter failed asked' items'
along {P = P} failed {asked' = asked'} {items = items} e f so =
    subst (λ y. P ↔ AnswersAfter failed asked' y) f (subst (λ x. P ↔ AnswersAfter failed x items) e so)

-- both lists go on, and the first items answer one another
pub goes_on : {P A : Type 0} (failed next : Bool) {asked later : List (RequestItem A)} {items rest : List (ResponseItem A)}
    {x : RequestItem A} {y : ResponseItem A}
    → P ↔ AnswersAfter failed asked items → asked ≡ x ∷ later → items ≡ y ∷ rest → IsAnswer x y → next ≡ has_failed y → P ↔ AnswersAfter next later rest
goes_on failed next so e f answers is =
    let here = along failed e f so in
    rw is ((λ p. (here.0 p).1), (λ q. here.1 (answers, q)))

-- both lists go on, and the first items don't answer one another
pub differs : {P A : Type 0} (failed : Bool) {asked later : List (RequestItem A)} {items rest : List (ResponseItem A)} {x : RequestItem A} {y : ResponseItem A}
    → P ↔ AnswersAfter failed asked items → asked ≡ x ∷ later → items ≡ y ∷ rest → (IsAnswer x y → ⊥) → IsTrue false ↔ P
differs failed so e f not_answer =
    let here = along failed e f so in
    ((λ no. cc no), (λ p. absurd (not_answer (here.0 p).0)))

-- something was asked, and nothing more came
pub ends : {P A : Type 0} (failed : Bool) {asked later : List (RequestItem A)} (items : List (ResponseItem A)) {x : RequestItem A}
    → P ↔ AnswersAfter failed asked items → asked ≡ x ∷ later → length items ≡ 0 → IsTrue failed ↔ P
ends failed items so e none =
    let here = along failed e (nil_from_length items none) so in
    (here.1, here.0)

-- where nothing more was asked, only nothing answers
surplus : {P A : Type 0} (failed : Bool) (items : List (ResponseItem A)) → P ↔ AnswersAfter failed [] items → IsTrue (length items == 0) ↔ P
surplus failed [] so = ((λ _. so.1 tt), (λ _. refl))
surplus failed (y ∷ rest) so = ((λ no. cc (nil_from_length (y ∷ rest) (eqb-true _ 0 no))), (λ p. absurd (so.0 p)))

-- nothing more was asked
pub is_done : {P A : Type 0} (failed done : Bool) (asked : List (RequestItem A)) (items : List (ResponseItem A))
    → P ↔ AnswersAfter failed asked items → length asked ≡ 0 → done ≡ (length items == 0) → IsTrue done ↔ P
is_done failed done asked items so none is =
    rw is (surplus failed items (along failed (nil_from_length asked none) refl so))
