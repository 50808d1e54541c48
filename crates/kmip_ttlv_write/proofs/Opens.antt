-- Open structures: what was written and given of them, and what closing one changes.
use Rattle.std.proofs.Common.{◌≡◌, ◌≢◌, ℕ, zero, suc, ◌+◌, ◌-◌, ◌<◌, ◌≤◌, ◌^◌, true, List, [], ◌∷◌, ◌++◌, length, replicate, refl, ap, sym, ◌∙◌, arith}
use Rattle.std.proofs.Common.{append_assoc, append-nil, length-append}
use Rattle.std.proofs.Math.ListN.{length-replicate}
use Rattle.kmip_ttlv_types.specs.{declared.typ.TtlvType.TtlvType, declared.typ.TtlvType.TheVariants.Structure, ItemTypes.pad_len, ItemTypes.padding}
use Rattle.kmip_ttlv_types.specs.{Items.header, Leaves.is_valid}
use Rattle.kmip_ttlv_types.specs.Trees.{Tree, Trees, leaf, node, no_trees, tree, leaf_bytes, node_bytes, bytes, bytes_below, IsTreeText, AreTreeTexts}
use Rattle.kmip_ttlv_write.specs.GivenItems.{Line, line, lines, lines_below}
use Rattle.kmip_ttlv_write.specs.OpenStructures.{add_last, Opened, outside, within, depth_of, link, spine, IsTop, since, add, close_one, close_by, leave}

pub leaf_len : (t : ℕ) (typ : TtlvType) (c : List ℕ) → length (leaf_bytes t typ c) ≡ 8 + length c + pad_len (length c)
unfolding leaf_bytes
leaf_len t typ c = simp (length-append, length-replicate) (omega arith)

pub node_len : (t : ℕ) (c : List ℕ) → length (node_bytes t c) ≡ 8 + length c
unfolding node_bytes
node_len t c = simp length-append (omega arith)

-- a tree after others: their bytes, and their lines
pub below_last : (us : Trees) (t : Tree) → bytes_below (add_last us t) ≡ bytes_below us ++ bytes t
below_last no_trees t = append-nil (bytes t)
below_last (tree u us) t = ap (λ (s : List ℕ). bytes u ++ s) (below_last us t) ∙ sym (append_assoc (bytes u) (bytes_below us) (bytes t))

lines_last : (d : ℕ) (us : Trees) (t : Tree) → lines_below d (add_last us t) ≡ lines_below d us ++ lines d t
lines_last d no_trees t = append-nil (lines d t)
lines_last d (tree u us) t = ap (λ (s : List Line). lines d u ++ s) (lines_last d us t) ∙ sym (append_assoc (lines d u) (lines_below d us) (lines d t))

-- each tree's bytes are an encoding of it
abbrev pub AllTexts : Trees → Type 0
AllTexts no_trees = Unit {0}
AllTexts (tree t ts) = IsTreeText t (bytes t) × AllTexts ts

pub texts_all : (ts : Trees) → AllTexts ts → AreTreeTexts ts (bytes_below ts)
texts_all no_trees h = refl
texts_all (tree t ts) h = (bytes t, bytes_below ts, refl, h.0, texts_all ts h.1)

texts_last : (us : Trees) (t : Tree) → AllTexts us → IsTreeText t (bytes t) → AllTexts (add_last us t)
texts_last no_trees t h k = (k, tt)
texts_last (tree u us) t h k = (h.0, texts_last us t h.1 k)

pub node_text : (tag : ℕ) (us : Trees) → tag < 2 ^ 24 → length (bytes_below us) < 2 ^ 32 → AllTexts us → IsTreeText (node tag us) (bytes (node tag us))
unfolding node_bytes
node_text tag us fits short h =
    let parts = sym (append-nil (header tag Structure (length (bytes_below us)) ++ bytes_below us)) in
    (bytes_below us, record { tag_fits = fits; length_fits = short; pad = []; pad_length = refl; parts = parts }, texts_all us h)

pub padding_is : (t : TtlvType) (n : ℕ) → t ≢ Structure → padding t n ≡ pad_len n
padding_is Structure n h = absurd (h refl)
padding_is _ n h = refl

pub leaf_text : (tag : ℕ) (typ : TtlvType) (c : List ℕ) → tag < 2 ^ 24 → typ ≢ Structure → length c < 2 ^ 32 → is_valid typ c ≡ true
    → IsTreeText (leaf tag typ c) (bytes (leaf tag typ c))
unfolding leaf_bytes
leaf_text tag typ c fits ne short valid =
    let n = pad_len (length c) in
    let long = length-replicate n 0 ∙ sym (padding_is typ (length c) ne) in
    let parts = sym (append_assoc (header tag typ (length c)) c (replicate n 0)) in
    (valid, record { tag_fits = fits; length_fits = short; pad = replicate n 0; pad_length = long; parts = parts })

-- the same of all trees in open structures, whose tags have three bytes
abbrev pub AllSound : Opened → Type 0
AllSound (outside done) = AllTexts done
AllSound (within around tag done) = AllSound around × (tag < 2 ^ 24) × AllTexts done

-- the lines so far
abbrev pub lines_so_far : Opened → List Line
lines_so_far (outside done) = lines_below 0 done
lines_so_far (within around tag done) = lines_so_far around ++ (line (depth_of around) tag 1 [] ∷ lines_below (suc (depth_of around)) done)

-- one more tree
pub add_lines_so_far : (t : Tree) (o : Opened) → lines_so_far (add t o) ≡ lines_so_far o ++ lines (depth_of o) t
add_lines_so_far t (outside done) = lines_last 0 done t
add_lines_so_far t (within around tag done) = rw (lines_last (suc (depth_of around)) done t) (simp append_assoc)

pub add_spine : (t : Tree) (o : Opened) → spine (add t o) ≡ spine o ++ bytes t
add_spine t (outside done) = below_last done t
add_spine t (within around tag done) = rw (below_last done t) (simp append_assoc)

pub add_depth : (t : Tree) (o : Opened) → depth_of (add t o) ≡ depth_of o
add_depth t (outside done) = refl
add_depth t (within around tag done) = refl

pub add_top : (t : Tree) (o : Opened) (top : ℕ) → IsTop o top → IsTop (add t o) top
add_top t (outside done) top h = tt
add_top t (within around tag done) top h = h

pub add_sound : (t : Tree) (o : Opened) → AllSound o → IsTreeText t (bytes t) → AllSound (add t o)
add_sound t (outside done) h k = texts_last done t h k
add_sound t (within around tag done) h k = (h.0, h.1, texts_last done t h.2 k)

-- how many bytes there are from the outermost structure on
pub since_more : (n m k : ℕ) (a : Opened) (tag : ℕ) (done : Trees) → k ≡ n + m → since k (within a tag done) ≡ since n (within a tag done) + m
since_more n m k (outside us) tag done is = omega (arith, is)
since_more n m k (within a t us) tag done is =
    since_more (n + 8 + length (bytes_below done)) m (k + 8 + length (bytes_below done)) a t us (omega (arith, is))

pub since_least : (n : ℕ) (o : Opened) → n ≤ since n o
since_least n (outside done) = omega arith
since_least n (within around tag done) = omega (arith, since_least (n + 8 + length (bytes_below done)) around)

below_len : (us : Trees) (t : Tree) → length (bytes_below (add_last us t)) ≡ length (bytes_below us) + length (bytes t)
below_len us t = ap length (below_last us t) ∙ length-append (bytes_below us) (bytes t)

pub add_since : (t : Tree) (a : Opened) (tag : ℕ) (done : Trees) → since 0 (add t (within a tag done)) ≡ since 0 (within a tag done) + length (bytes t)
add_since t a tag done =
    let n = length (bytes t) in
    let k : 0 + 8 + length (bytes_below (add_last done t)) ≡ n + 8 + length (bytes_below done) = omega (arith, below_len done t) in
    ap (λ (x : ℕ). since x a) k ∙ since_more 0 n n a tag done (omega arith)

-- the innermost structure ends
close_lines_so_far : (o : Opened) → lines_so_far (close_one o) ≡ lines_so_far o
close_lines_so_far (outside done) = refl
close_lines_so_far (within around tag done) = add_lines_so_far (node tag done) around

close_depth : (o : Opened) → depth_of (close_one o) ≡ depth_of o - 1
close_depth (outside done) = refl
close_depth (within around tag done) = omega (arith, add_depth (node tag done) around)

pub close_since : (o : Opened) → since 0 (close_one o) ≤ since 0 o
close_since (outside done) = omega arith
close_since (within (outside us) tag done) = omega arith
close_since (within (within a t us) tag done) =
    let n = length (bytes_below done) in
    omega (arith, add_since (node tag done) a t us, node_len tag (bytes_below done), since_more 0 (8 + n) (0 + 8 + n) a t us (omega arith))

close_sound : (o : Opened) → since 0 o < 2 ^ 32 + 8 → AllSound o → AllSound (close_one o)
close_sound (outside done) small h = h
close_sound (within around tag done) small h =
    add_sound (node tag done) around h.0 (node_text tag done h.1 (omega (arith, since_least (0 + 8 + length (bytes_below done)) around)) h.2)

close_length : (o : Opened) → length (spine (close_one o)) ≡ length (spine o)
close_length (outside done) = refl
close_length (within around tag done) =
    let h = header tag Structure (link around) in
    let whole = length-append (spine around) (h ++ bytes_below done) in
    ap length (add_spine (node tag done) around)
    ∙ omega (arith, whole, length-append (spine around) (bytes (node tag done)), node_len tag (bytes_below done), length-append h (bytes_below done))

-- several end
pub record Closes (o c : Opened) : Type 0 where
  pub said : lines_so_far c ≡ lines_so_far o
  pub less : since 0 c ≤ since 0 o
  pub long : length (spine c) ≡ length (spine o)
  pub sound : since 0 o < 2 ^ 32 + 8 → AllSound o → AllSound c

pub closes_by : (n : ℕ) (o : Opened) → Closes o (close_by n o)
closes_by zero o = record { said = refl; less = omega arith; long = refl; sound = λ small h. h }
closes_by (suc n) o =
    let k = closes_by n (close_one o) in
    record {
      said = k.said ∙ close_lines_so_far o;
      less = omega (arith, k.less, close_since o);
      long = k.long ∙ close_length o;
      sound = λ small h. k.sound (omega (arith, close_since o, small)) (close_sound o small h);
    }

by_depth : (n : ℕ) (o : Opened) → depth_of (close_by n o) ≡ depth_of o - n
by_depth zero o = omega arith
by_depth (suc n) o = by_depth n (close_one o) ∙ omega (arith, close_depth o)

pub leave_depth : (d : ℕ) (o : Opened) → d ≤ depth_of o → depth_of (leave d o) ≡ d
leave_depth d o le = by_depth (depth_of o - d) o ∙ omega arith

-- structures end one after the other
pub leave_more : (d : ℕ) (o : Opened) → d < depth_of o → leave d (close_one o) ≡ leave d o
leave_more d o lt =
    let k : depth_of o - d ≡ suc (depth_of (close_one o) - d) = omega (arith, close_depth o) in
    sym (ap (λ (n : ℕ). close_by n o) k)
