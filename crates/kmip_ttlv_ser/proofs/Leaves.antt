-- How long items are, and trees in lists.
use Rattle.std.proofs.Common.{◌≡◌, ℕ, ◌+◌, ◌≤◌, Bool, List, [], ◌∷◌, ◌++◌, length, length-append, append-nil, refl, ap, ◌∙◌, arith}
use Rattle.std.specs.List.{AllByRecursion}
use Rattle.std.proofs.{Math.ListN.length-replicate, lemmas.List.Concat.flat_map-append}
use Rattle.kmip_ttlv_types.specs.{declared.typ.TtlvType.TtlvType, ItemTypes.pad_len}
use Rattle.kmip_ttlv_types.specs.Trees.{Tree, leaf, node, trees_of, leaf_bytes, node_bytes, bytes, bytes_below, bytes_all, Fits, FitsBelow}
use Rattle.kmip_ttlv_ser.specs.declared.pending.Place.{Place}
use Rattle.kmip_ttlv_ser.specs.Sizes.{sizes, sizes_below, sizes_all}
use Rattle.kmip_ttlv_ser.specs.Faults.{opened_by, opened_below, opened_after, place_after}

pub leaf_len : (t : ℕ) (typ : TtlvType) (c : List ℕ) → length (leaf_bytes t typ c) ≡ 8 + length c + pad_len (length c)
unfolding leaf_bytes
leaf_len t typ c = simp (length-append, length-replicate) (omega arith)

pub node_len : (t : ℕ) (c : List ℕ) → length (node_bytes t c) ≡ 8 + length c
unfolding node_bytes
node_len t c = simp length-append (omega arith)

pub below_is : (ts : List Tree) → bytes_below (trees_of ts) ≡ bytes_all ts
below_is [] = refl
below_is (t ∷ ts) = ap (λ bs. bytes t ++ bs) (below_is ts)

pub tree_len : (t : Tree) → 8 ≤ length (bytes t)
tree_len (leaf t typ c) = omega (arith, leaf_len t typ c)
tree_len (node t ts) = omega (arith, node_len t (bytes_below ts))

pub one_leaf_len : (t : ℕ) (typ : TtlvType) (c : List ℕ) → length (bytes_all (leaf t typ c ∷ [])) ≡ 8 + length c + pad_len (length c)
one_leaf_len t typ c = ap length (append-nil (leaf_bytes t typ c)) ∙ leaf_len t typ c

pub one_node_len : (t : ℕ) (ts : List Tree) → length (bytes_all (node t (trees_of ts) ∷ [])) ≡ 8 + length (bytes_all ts)
one_node_len t ts = ap length (append-nil (bytes (node t (trees_of ts)))) ∙ node_len t (bytes_below (trees_of ts)) ∙ ap (λ bs. 8 + length bs) (below_is ts)

pub bytes_append : (xs ys : List Tree) → bytes_all (xs ++ ys) ≡ bytes_all xs ++ bytes_all ys
bytes_append xs ys = flat_map-append bytes xs ys

pub len_append : (xs ys : List Tree) → length (bytes_all (xs ++ ys)) ≡ length (bytes_all xs) + length (bytes_all ys)
len_append xs ys = ap length (bytes_append xs ys) ∙ length-append (bytes_all xs) (bytes_all ys)

pub fits_below : (ts : List Tree) → AllByRecursion Fits ts → FitsBelow (trees_of ts)
fits_below [] h = tt
fits_below (t ∷ ts) h = (h.0, fits_below ts h.1)

pub fits_each : (ts : List Tree) → FitsBelow (trees_of ts) → AllByRecursion Fits ts
fits_each [] h = tt
fits_each (t ∷ ts) h = (h.0, fits_each ts h.1)

pub each_append : (xs ys : List Tree) → AllByRecursion Fits xs → AllByRecursion Fits ys → AllByRecursion Fits (xs ++ ys)
each_append [] ys h k = k
each_append (x ∷ xs) ys h k = (h.0, each_append xs ys h.1 k)

pub each_front : (xs ys : List Tree) → AllByRecursion Fits (xs ++ ys) → AllByRecursion Fits xs
each_front [] ys h = tt
each_front (x ∷ xs) ys h = (h.0, each_front xs ys h.1)

pub each_back : (xs ys : List Tree) → AllByRecursion Fits (xs ++ ys) → AllByRecursion Fits ys
each_back [] ys h = h
each_back (x ∷ xs) ys h = each_back xs ys h.1

pub sizes_below_is : (ts : List Tree) → sizes_below (trees_of ts) ≡ sizes_all ts
sizes_below_is [] = refl
sizes_below_is (t ∷ ts) = ap (λ ns. sizes t ++ ns) (sizes_below_is ts)

pub opened_below_is : (b : Bool) (ts : List Tree) → opened_below b (trees_of ts) ≡ opened_after b ts
opened_below_is b [] = refl
opened_below_is b (t ∷ ts) = opened_below_is (opened_by t) ts

pub opened_append : (b : Bool) (ts us : List Tree) → opened_after b (ts ++ us) ≡ opened_after (opened_after b ts) us
opened_append b [] us = refl
opened_append b (t ∷ ts) us = opened_append (opened_by t) ts us

-- the offset of the place after items
pub place_len : (p q : Place) (ts : List Tree) → q ≡ place_after p ts → q.offset ≡ p.offset + length (bytes_all ts)
unfolding place_after
place_len p q ts e = ap (λ x. x.offset) e
