-- JSON as trees, and the bytes that are made of them.
use Rattle.std.proofs.Common.{◌≡◌, ◌∙◌, ℕ, ◌+◌, ◌<◌, ◌≤◌, ◌^◌, true, List, [], ◌++◌, length, replicate, Result, Ok}
use Rattle.std.proofs.Common.{Err, refl, ap, sym, arith, append_assoc, length-append}
use Rattle.kmip_ttlv_types.specs.{declared.typ.TtlvType.TheVariants.Structure, ItemTypes.pad_len, Items.header}
use Rattle.kmip_ttlv_types.specs.Trees.{Tree, Trees, leaf, node, no_trees, tree, bytes, bytes_below, leaf_bytes, node_bytes, IsStructure, Fits, FitsBelow}
use Rattle.kmip_ttlv_write.specs.OpenStructures.{add_last}
use Rattle.kmip_ttlv_write.proofs.{Opens.below_last}
use Rattle.kmip_ttlv_json.specs.{declared.failure.BadMember.BadMember, JsonTrees.both, Readings.is_node}

-- ---- trees, one after the other

-- trees, and then what others come to
abbrev pub before : Trees → Result Trees BadMember → Result Trees BadMember
before no_trees rest = rest
before (tree t ts) rest = both (Ok t) (before ts rest)

before_last : (us : Trees) (t : Tree) (rest : Result Trees BadMember) → before (add_last us t) rest ≡ before us (both (Ok t) rest)
before_last no_trees t rest = refl
before_last (tree u us) t rest = ap (both (Ok u)) (before_last us t rest)

pub before_bad : (us : Trees) (bad : BadMember) → before us (Err bad) ≡ Err bad
before_bad no_trees bad = refl
before_bad (tree u us) bad = ap (both (Ok u)) (before_bad us bad)

pub before_end : (us : Trees) → before us (Ok no_trees) ≡ Ok us
before_end no_trees = refl
before_end (tree u us) = ap (both (Ok u)) (before_end us)

-- the trees of some JSON were added, but for those of the rest
pub record Begun (whole rest : Result Trees BadMember) (old new : List ℕ) : Type 0 where
  pub done : Trees
  pub is : whole ≡ before done rest
  pub all : new ≡ old ++ bytes_below done

pub begun_more : (whole rest : Result Trees BadMember) (old mid new : List ℕ) (t : Tree) → Begun whole (both (Ok t) rest) old mid → new ≡ mid ++ bytes t
    → Begun whole rest old new
begun_more whole rest old mid new t b e = record {
  done = add_last b.done t;
  is = b.is ∙ sym (before_last b.done t rest);
  all = rw below_last (e ∙ ap (λ (s : List ℕ). s ++ bytes t) b.all ∙ append_assoc old (bytes_below b.done) (bytes t));
}

-- ---- what fits

mutual
  unfolding leaf_bytes node_bytes

  fits_short : (t : Tree) → length (bytes t) < 2 ^ 32 → Fits t
  fits_short (leaf tag typ content) lt =
      let z : List ℕ = replicate (pad_len (length content)) 0 in
      omega (arith, lt, length-append (header tag typ (length content)) (content ++ z), length-append content z)
  fits_short (node tag below) lt =
      let e = length-append (header tag Structure (length (bytes_below below))) (bytes_below below) in
      (omega (arith, e), below_short below (omega (arith, e)))

  below_short : (ts : Trees) → length (bytes_below ts) < 2 ^ 32 → FitsBelow ts
  below_short no_trees lt = tt
  below_short (tree t ts) lt =
      let e = length-append (bytes t) (bytes_below ts) in
      (fits_short t (omega (arith, e)), below_short ts (omega (arith, e)))

-- a structure fits if its content does
pub structure_fits : (t : Tree) → is_node t ≡ true → length (bytes t) < 2 ^ 32 + 8 → IsStructure t × Fits t
unfolding node_bytes
structure_fits (leaf tag typ content) is lt = absurd (cc)
structure_fits (node tag below) is lt =
    let e = length-append (header tag Structure (length (bytes_below below))) (bytes_below below) in
    (tt, (omega (arith, e), below_short below (omega (arith, e))))

pub structure_is_long : (t : Tree) → is_node t ≡ true → 2 ^ 32 + 8 ≤ length (bytes t) → IsStructure t × ¬ (Fits t)
unfolding node_bytes
structure_is_long (leaf tag typ content) is le = absurd (cc)
structure_is_long (node tag below) is le =
    let e = length-append (header tag Structure (length (bytes_below below))) (bytes_below below) in
    (tt, λ h. let lt = h.0 in omega (arith, e, lt))

-- what was added to nothing
pub added_alone : (old new : List ℕ) (t : Tree) → old ≡ [] → new ≡ old ++ bytes t → new ≡ bytes t
added_alone old new t none all = all ∙ ap (λ (s : List ℕ). s ++ bytes t) none
