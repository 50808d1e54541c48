-- Items that may have more levels: what is read with few is read with one more.
use Rattle.std.proofs.Common.{◌≡◌, ℕ, zero, suc, ◌+◌, List, Bool, true, false, length, nat_lt, refl, sym, subst, if◌then◌else◌}
use Rattle.kmip_ttlv_types.specs.ItemTypes.{is_structure}
use Rattle.kmip_ttlv_types.specs.Places.{tag_at}
use Rattle.kmip_ttlv_base.specs.Values.{Value, Values}
use Rattle.kmip_ttlv_reader.specs.ReadFaults.{too_deep}
use Rattle.kmip_ttlv_reader.specs.Steps.{Outcome, gives, ends_early, fails, within, ◌>>=◌}
use Rattle.kmip_ttlv_reader.specs.Outcomes.{ItemReader, any_outcome, each_outcome, node_outcome, length_there, type_there}

-- a step and the next ones
bind_more : {X Y : Type 0} (o p : Outcome X) (k l : X → Outcome Y) → ((x : X) → o ≡ gives x → p ≡ gives x)
    → ((x : X) (y : Y) → k x ≡ gives y → l x ≡ gives y)
    → (y : Y) → (o >>= k) ≡ gives y → (p >>= l) ≡ gives y
bind_more (gives x) p k l first next y e = subst (λ z. (z >>= l) ≡ gives y) (sym (first x refl)) (next x y e)
bind_more ends_early p k l first next y e = absurd cc
bind_more (fails f) p k l first next y e = absurd cc

if_more : {X : Type 0} (t : Bool) (o p q : Outcome X) (x : X) → (o ≡ gives x → p ≡ gives x) → (if t then o else q) ≡ gives x → (if t then p else q) ≡ gives x
if_more true o p q x more e = more e
if_more false o p q x more e = e

within_more : {X : Type 0} (t : ℕ) (o p : Outcome X) → ((x : X) → o ≡ gives x → p ≡ gives x) → (x : X) → within t o ≡ gives x → within t p ≡ gives x
within_more t (gives y) p more x e = subst (λ z. within t z ≡ gives x) (sym (more y refl)) e
within_more t ends_early p more x e = absurd cc
within_more t (fails f) p more x e = absurd cc

each_more : (n : ℕ) (read write : ItemReader) (b : List ℕ) (p e : ℕ)
    → ((q : ℕ) (x : Value × ℕ) → read b q e ≡ gives x → write b q e ≡ gives x)
    → (vs : Values) → each_outcome n read b p e ≡ gives vs → each_outcome n write b p e ≡ gives vs
unfolding each_outcome
each_more zero read write b p e more vs h = absurd cc
each_more (suc n) read write b p e more vs h =
    if_more (nat_lt p e) _ _ _ vs
    (bind_more (read b p e) (write b p e) _ _ (more p) (λ x. bind_more (each_outcome n read b x.1 e) (each_outcome n write b x.1 e) _ _
    (each_more n read write b x.1 e more) (λ ws ys same. same)) vs) h

node_more : (read write : ItemReader) (b : List ℕ) (p e : ℕ)
    → ((q f : ℕ) (x : Value × ℕ) → read b q f ≡ gives x → write b q f ≡ gives x)
    → (x : Value × ℕ) → node_outcome read b p e ≡ gives x → node_outcome write b p e ≡ gives x
unfolding node_outcome
node_more read write b p e more x h =
    bind_more (length_there b p) (length_there b p) _ _ (λ n is. is) (λ n. bind_more
    (within (tag_at b p) (each_outcome (suc (length b)) read b (p + 8) (p + 8 + n)))
    (within (tag_at b p) (each_outcome (suc (length b)) write b (p + 8) (p + 8 + n))) _ _
    (within_more (tag_at b p) _ _ (each_more (suc (length b)) read write b (p + 8) (p + 8 + n) (λ q. more q (p + 8 + n))))
    (λ vs y same. same)) x h

-- a step that is followed by none gives nothing
never : {X Y : Type 0} (o : Outcome X) (k : X → Outcome Y) (y : Y) → ((x : X) → k x ≡ gives y → ⊥) → (o >>= k) ≡ gives y → ⊥
never (gives x) k y none is = none x is
never ends_early k y none is = cc
never (fails z) k y none is = cc

-- an item
pub any_more : (d : ℕ) (b : List ℕ) (p e : ℕ) (x : Value × ℕ) → any_outcome d b p e ≡ gives x → any_outcome (suc d) b p e ≡ gives x
unfolding any_outcome
any_more zero b p e x h = absurd (never (type_there b p) (λ t. fails (too_deep b p t)) x (λ t is. cc) h)
any_more (suc d) b p e x h =
    bind_more (type_there b p) (type_there b p) _ _ (λ t is. is)
    (λ t y. if_more (is_structure t) _ _ _ y (node_more (any_outcome d) (any_outcome (suc d)) b p e (any_more d b) y)) x h

-- items one after the other
pub items_more : (d : ℕ) (b : List ℕ) (p e : ℕ) (vs : Values) → each_outcome (suc (length b)) (any_outcome d) b p e ≡ gives vs
    → each_outcome (suc (length b)) (any_outcome (suc d)) b p e ≡ gives vs
items_more d b p e = each_more (suc (length b)) (any_outcome d) (any_outcome (suc d)) b p e (λ q. any_more d b q e)
