-- How a list of attributes grows along items.
use Rattle.std.proofs.Common.{◌≡◌, ◌∙◌, ℕ, Result, Ok, Err, IfOk, List, [], ◌∷◌, ◌++◌, ap, append_assoc, subst, sym}
use Rattle.std.proofs.lemmas.List.{append-nil}
use Rattle.kmip_ttlv_base.specs.Values.{Value, Values, no_values, value}
use Rattle.kmip_attributes.specs.declared.attribute.Attribute.{Attribute}
use Rattle.kmip_attributes.specs.declared.attribute.AttributeValue.{AttributeValue}
use Rattle.kmip_attribute_set.specs.Tags.{AreNamed, IsNamed}

-- where attributes of the items that are left are added, they are those of all items
pub record Completes {A : Type 0} (under : ℕ → AttributeValue A → Value) (front : Values → Values) (list : List (Attribute A)) : Type 0 where
  pub completed : (vs : Values) (xs : List (Attribute A)) → AreNamed under vs xs → AreNamed under (front vs) (list ++ xs)

-- at first there are none
pub at_first : {A : Type 0} (under : ℕ → AttributeValue A → Value) (list : List (Attribute A)) → list ≡ [] → Completes under (λ vs. vs) list
at_first under list none = record { completed = λ vs xs h. subst (λ l. AreNamed under vs (l ++ xs)) (sym none) h }

-- one more
pub one_named : {A : Type 0} {under : ℕ → AttributeValue A → Value} {front : Values → Values} {list : List (Attribute A)} (longer : List (Attribute A))
    (v : Value) (x : Attribute A) → Completes under front list → IsNamed under v x → longer ≡ list ++ x ∷ []
    → Completes under (λ vs. front (value v vs)) longer
one_named {under = under} {front = front} {list = list} longer v x so is long = record {
  completed = λ vs xs h. subst (λ l. AreNamed under (front (value v vs)) l)
      (sym (ap (λ l. l ++ xs) long ∙ append_assoc list (x ∷ []) xs)) (so.completed (value v vs) (x ∷ xs) (is, h));
}

-- none is left
pub all_named : {A : Type 0} {under : ℕ → AttributeValue A → Value} {front : Values → Values} {list : List (Attribute A)} → Completes under front list
    → AreNamed under (front no_values) list
all_named {under = under} {front = front} {list = list} so = subst (AreNamed under (front no_values)) (append-nil list) (so.completed no_values [] tt)

-- what follows from what a value is, where there is one
pub if_ok_map : {T E : Type 0} {P Q : T → Type 0} (r : Result T E) → ((x : T) → P x → Q x) → IfOk r P → IfOk r Q
if_ok_map (Ok x) f h = f x h
if_ok_map (Err e) f h = tt

-- what a list has after four more
pub four_more : {X : Type 0} {l0 l1 l2 l3 l4 : List X} {a b c d : X} → l0 ≡ [] → l1 ≡ l0 ++ a ∷ [] → l2 ≡ l1 ++ b ∷ [] → l3 ≡ l2 ++ c ∷ [] → l4 ≡ l3 ++ d ∷ []
    → l4 ≡ a ∷ b ∷ c ∷ d ∷ []
four_more {a = a} {b = b} {c = c} {d = d} e0 e1 e2 e3 e4 =
    e4 ∙ ap (λ x. x ++ d ∷ []) (e3 ∙ ap (λ x. x ++ c ∷ []) (e2 ∙ ap (λ x. x ++ b ∷ []) (e1 ∙ ap (λ x. x ++ a ∷ []) e0)))
