-- Objects that are found, one after the other.
use Rattle.std.proofs.Common.{◌≡◌, ◌+◌, ◌<◌, ℕ, Bool, true, false, if◌then◌else◌, List, [], ◌∷◌}
use Rattle.std.proofs.Common.{◌++◌, ap, ◌∙◌, length, slice_get, take, zero, suc, arith}
use Rattle.kmip_memory_store.specs.declared.object.Object.{Object}
use Rattle.kmip_operations.specs.declared.about.About.{About}
use Rattle.kmip_operations.specs.Finding.{found_from, has_all}
use Rattle.kmip_operations.specs.Listing.{Saying, own}
use Rattle.kmip_operations.specs.Matching.{is_sought}

-- one number, if it is found
abbrev pub if_found : Bool → ℕ → List ℕ
if_found b id = if b then id ∷ [] else []

-- of one object more, one number more, if it is found
found_suc : {K : Type 0} (sought : List Saying) (base id j : ℕ) (objects : List (Object (About K) K)) → j < length objects → id ≡ base + j
    → found_from sought base (take (suc j) objects) ≡ found_from sought base (take j objects) ++ if_found (has_all sought id (slice_get objects j)) id
found_suc sought base id j [] h e = absurd (omega (arith, h))
found_suc sought base id zero (x ∷ objects) h e =
    let same : base ≡ id = omega arith in ap (λ n. if_found (is_sought sought (own n x)) n) same
found_suc sought base id (suc j) (x ∷ objects) h e =
    let rest = found_suc sought (base + 1) id j objects (omega (arith, h)) (omega (arith, e)) in
    elim (is_sought sought (own base x)) as (λ b.
    (if b then base ∷ found_from sought (base + 1) (take (suc j) objects) else found_from sought (base + 1) (take (suc j) objects))
    ≡ (if b then base ∷ found_from sought (base + 1) (take j objects) else found_from sought (base + 1) (take j objects))
    ++ if_found (has_all sought id (slice_get objects j)) id)
    [ true ↦ ap (λ l. base ∷ l) rest | false ↦ rest ]

pub found_more : {K : Type 0} (sought : List Saying) (id : ℕ) (objects : List (Object (About K) K)) → id < length objects
    → found_from sought 0 (take (id + 1) objects) ≡ found_from sought 0 (take id objects) ++ if_found (has_all sought id (slice_get objects id)) id
found_more sought id objects h =
    let after : id + 1 ≡ suc id = omega arith in
    let same : id ≡ 0 + id = omega arith in
    ap (λ n. found_from sought 0 (take n objects)) after ∙ found_suc sought 0 id id objects h same
