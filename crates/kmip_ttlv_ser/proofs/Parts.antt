-- The items of values one after the other, and of what is in a wrapper.
use Rattle.std.proofs.Common.{◌≡◌, ℕ, ◌+◌, Bool, List, [], ◌∷◌, ◌++◌, length, Option, Some, None, refl, sym, ap₂, arith}
use Rattle.kmip_ttlv_types.specs.Trees.{Tree, bytes_all}
use Rattle.kmip_ttlv_ser.specs.declared.pending.{PendingTag.PendingTag, PendingTag.TheVariants.Nothing, Place.Place}
use Rattle.kmip_ttlv_ser.specs.WrittenItems.{◌>>=◌, some_item, left_over}
use Rattle.kmip_ttlv_ser.specs.Faults.{place_after}
use Rattle.kmip_ttlv_ser.proofs.Leaves.{len_append, opened_append}

pub some_same : {A : Type 0} (x y : A) → Some x ≡ Some y → x ≡ y
some_same x y e = cc

pub unwrap : (o : Option (List Tree)) (ts : List Tree) → (o >>= some_item) ≡ Some ts → o ≡ Some ts
unfolding some_item
unwrap None ts e = let k : None ≡ Some ts = e in absurd cc
unwrap (Some []) ts e = let k : None ≡ Some ts = e in absurd cc
unwrap (Some (u ∷ us)) ts e = e

pub place_append : (p : Place) (ts us : List Tree) → place_after p (ts ++ us) ≡ place_after (place_after p ts) us
unfolding place_after
place_append p ts us =
    let n : p.offset + length (bytes_all (ts ++ us)) ≡ p.offset + length (bytes_all ts) + length (bytes_all us) = omega (arith, len_append ts us) in
    ap₂ (λ (k : ℕ) (b : Bool). let q : Place = record { offset = k; opened = b } in q) n (opened_append p.opened ts us)

pub nothing_left : (ts : List Tree) → left_over Nothing ts ≡ Nothing
nothing_left [] = refl
nothing_left (t ∷ ts) = refl

pub left_append : (w : PendingTag) (xs ys : List Tree) → left_over (left_over w xs) ys ≡ left_over w (xs ++ ys)
left_append w [] ys = refl
left_append w (x ∷ xs) ys = nothing_left ys

-- the items of a value, and then those of the later ones
abbrev pub followed : Option (List Tree) → (List Tree → Option (List Tree)) → Option (List Tree)
followed first later = first >>= λ a. later a >>= λ r. Some (a ++ r)

pub record Split (first : Option (List Tree)) (later : List Tree → Option (List Tree)) (more : List Tree) : Type 0 where
  pub here : List Tree
  pub after : List Tree
  pub first_is : first ≡ Some here
  pub later_is : later here ≡ Some after
  pub joined : more ≡ here ++ after

split_at : (h : List Tree) (o : Option (List Tree)) (more : List Tree) → (o >>= λ r. Some (h ++ r)) ≡ Some more → (after : List Tree) × (o ≡ Some after)
    × (more ≡ h ++ after)
split_at h None more e = let k : None ≡ Some more = e in absurd cc
split_at h (Some r) more e = (r, refl, sym (some_same (h ++ r) more e))

pub split_of : (first : Option (List Tree)) (later : List Tree → Option (List Tree)) (more : List Tree) → followed first later ≡ Some more
    → Split first later more
split_of None later more e = let k : None ≡ Some more = e in absurd cc
split_of (Some h) later more e =
    let s = split_at h (later h) more e in
    record { here = h; after = s.0; first_is = refl; later_is = s.1; joined = s.2 }
