-- A clone of a map of names has the same names.
use Rattle.std.proofs.Common.{◌≡◌, ℕ, Bor, List, [], ◌∷◌, refl, ap}
use Rattle.std.specs.{Prelude.◌==◌, Option.option_map, List.AllZip, HashMap.IsClone, Map.lookup}
use Rattle.kmip_ttlv_util.specs.TagNames.{NameMap, name_in}

-- equal entries make equal lists
entries_same : (xs ys : List (ℕ × Bor (List ℕ))) → AllZip (λ p q. (q.0 ≡ p.0) × (q.1 ≡ p.1)) xs ys → ys ≡ xs
entries_same [] [] h = refl
entries_same [] (y ∷ ys) h = absurd h
entries_same (x ∷ xs) [] h = absurd h
entries_same ((a, b) ∷ xs) ((c, d) ∷ ys) h =
    let k = entries_same xs ys h.1 in
    let l : c ≡ a = h.0.0 in
    let m : d ≡ b = h.0.1 in
    cc

-- so the names are the same
pub names_same : (m n : NameMap) → IsClone (λ a b. b ≡ a) (λ a b. b ≡ a) m n → name_in n ≡ name_in m
names_same m n h = ap (λ (es : List (ℕ × Bor (List ℕ))). λ (tag : ℕ). option_map (λ (s : Bor (List ℕ)). s.now) (lookup (λ (k : ℕ). tag == k) es))
    (entries_same m.entries n.entries h)
