-- What is measured, and what is too long, step by step.
use Rattle.std.proofs.Common.{◌≡◌, ℕ, ◌+◌, ◌-◌, ◌<◌, ◌≤◌, ◌^◌, Bool, true, false, List, [], ◌∷◌, ◌++◌, length, set, Option, Some, None, inl, inr, refl, sym, ap}
use Rattle.std.proofs.Common.{ap₂, ◌∙◌, subst, arith, append-nil}
use Rattle.kmip_ttlv_types.specs.{declared.typ.TtlvType.TtlvType, ItemTypes.pad_len}
use Rattle.kmip_ttlv_types.specs.Trees.{Tree, leaf, node, trees_of, bytes_below, bytes_all}
use Rattle.kmip_ttlv_ser.specs.{declared.pending.Place.Place, Sizes.sizes, Sizes.sizes_all, Lengths.reach, Lengths.IsLongContent, Measures.place_at}
use Rattle.kmip_ttlv_ser.specs.{Passes.Overlong, Passes.Measured}
use Rattle.kmip_ttlv_ser.specs.WrittenItems.{◌>>=◌, one_node, some_item}
use Rattle.kmip_ttlv_ser.specs.Faults.{EncodeFault, within, place_after, inside}
use Rattle.kmip_ttlv_ser.proofs.Leaves.{place_len, below_is, one_leaf_len, one_node_len, fits_below, sizes_below_is, opened_below_is}

-- what there is to find: a leaf or a structure that is too long, the items, or the error if there are none
pub record Sought : Type 1 where
  pub leaf : Type 0
  pub structure : Type 0
  pub items : Option (List Tree)
  pub stop : EncodeFault

abbrev pub seek : Type 0 → Type 0 → Option (List Tree) → EncodeFault → Sought
seek l s o f = record { leaf = l; structure = s; items = o; stop = f }

-- a length in it is too long, if it begins after n bytes
abbrev pub Far : Sought → ℕ → Type 0
Far x n = Overlong x.leaf x.structure x.items x.stop n

pub far_up : (x y : Sought) (n m : ℕ) → (x.leaf → y.leaf) → (x.structure → y.structure) → reach x.items x.stop n ≤ reach y.items y.stop m → Far x n → Far y m
far_up x y n m a s le (inl l) = inl (a l)
far_up x y n m a s le (inr (inl l)) = inr (inl (s l))
far_up x y n m a s le (inr (inr l)) = inr (inr (omega (arith, le, l)))

pub measured_leaf : (p : Place) (t : ℕ) (typ : TtlvType) (c old : List ℕ) → length c < 2 ^ 32 → p.offset + (8 + length c + pad_len (length c)) < 2 ^ 64
    → Measured (Some (leaf t typ c ∷ [])) p (place_at (p.offset + (8 + length c + pad_len (length c))) false) old old
unfolding place_after
measured_leaf p t typ c old short small =
    let reached = ap (λ k. place_at (p.offset + k) false) (sym (one_leaf_len t typ c)) in
    record { trees = leaf t typ c ∷ []; are = refl; each = (short, tt); reached = reached; small = small; kept = sym (append-nil old) }

-- ---- structures

set_at : (old xs : List ℕ) (n : ℕ) → set ((old ++ 0 ∷ []) ++ xs) (length old) n ≡ old ++ n ∷ xs
set_at [] xs n = refl
set_at (x ∷ old) xs n = ap (λ ys. x ∷ ys) (set_at old xs n)

place_of_node : (p q : Place) (t : ℕ) (ts : List Tree) → q ≡ place_after (inside p) ts → q ≡ place_after p (node t (trees_of ts) ∷ [])
unfolding place_after
place_of_node p q t ts e =
    let n : p.offset + 8 + length (bytes_all ts) ≡ p.offset + length (bytes_all (node t (trees_of ts) ∷ [])) = omega (arith, one_node_len t ts) in
    e ∙ ap₂ (λ (k : ℕ) (b : Bool). place_at k b) n (sym (opened_below_is true ts))

-- a structure whose content was measured
pub measured_node : (t : ℕ) {o : Option (List Tree)} {p q : Place} (old : List ℕ) {mid : List ℕ} → (m : Measured o (inside p) q (old ++ 0 ∷ []) mid)
    → q.offset - (p.offset + 8) < 2 ^ 32
    → Measured (one_node t o) p q old (set mid (length old) (q.offset - (p.offset + 8)))
measured_node t {p = p} {q = q} old m short =
    let ts = m.trees in
    let n = q.offset - (p.offset + 8) in
    let count : n ≡ length (bytes_all ts) = omega (arith, place_len (inside p) q ts m.reached) in
    let below : length (bytes_below (trees_of ts)) ≡ length (bytes_all ts) = ap length (below_is ts) in
    record {
      trees = node t (trees_of ts) ∷ [];
      are = ap (one_node t) m.are;
      each = ((omega (arith, count, below, short), fits_below ts m.each), tt);
      reached = place_of_node p q t ts m.reached;
      small = m.small;
      kept = ap (λ ys. set ys (length old) n) m.kept ∙ set_at old (sizes_all ts) n
          ∙ ap (λ ys. old ++ ys) (ap (λ k. k ∷ sizes_all ts) (count ∙ sym below) ∙ ap (λ ys. length (bytes_below (trees_of ts)) ∷ ys) (sym (sizes_below_is ts))
          ∙ sym (append-nil (sizes (node t (trees_of ts)))));
    }

pub node_reach : (t : ℕ) (o : Option (List Tree)) (f : EncodeFault) (n : ℕ) → reach o f (n + 8) ≤ reach (one_node t o) f n
node_reach t None f n = omega arith
node_reach t (Some ts) f n = omega (arith, one_node_len t ts)

pub whole_reach : {o : Option (List Tree)} (f : EncodeFault) (p : Place) {q : Place} {start mid : List ℕ} → Measured o (inside p) q start mid
    → 2 ^ 32 ≤ q.offset - (p.offset + 8) → IsLongContent o f
whole_reach f p {q = q} m long = subst (λ x. 2 ^ 32 ≤ reach x f 0) (sym m.are) (omega (arith, long, place_len (inside p) q m.trees m.reached))

pub far_content : (o : Option (List Tree)) (f : EncodeFault) (n : ℕ) → n ≤ f.offset → n ≤ reach o f n
far_content None f n h = h
far_content (Some ts) f n h = omega arith

-- ---- wrappers

pub wrapper_reach : (o : Option (List Tree)) (f : EncodeFault) (p : Place) → reach o f p.offset ≤ reach (o >>= some_item) (within o p f) p.offset
unfolding some_item
wrapper_reach None f p = omega arith
wrapper_reach (Some []) f p = omega arith
wrapper_reach (Some (t ∷ ts)) f p = omega arith
