-- A buffer with what was written, when a structure ends or begins, or a leaf is written.
use Rattle.std.proofs.Common.{◌≡◌, ℕ, ◌+◌, ◌-◌, ◌*◌, ◌<◌, ◌≤◌, ◌^◌, List, ◌++◌, length, take, drop, refl, ap, sym, subst, ◌∙◌, arith, length-append}
use Rattle.std.proofs.lemmas.List.{length-take-le, length-drop}
use Rattle.std.specs.Int.{w32, to_be_bytes}
use Rattle.kmip_ttlv_types.specs.{declared.typ.TtlvType.TtlvType, declared.typ.TtlvType.TheVariants.Structure, Items.header, Places.length_at}
use Rattle.kmip_ttlv_types.specs.Trees.{Tree, Trees, leaf, node, no_trees, leaf_bytes, node_bytes, bytes, bytes_below}
use Rattle.kmip_ttlv_write.specs.declared.emit.Place.{Place}
use Rattle.kmip_ttlv_write.specs.OpenStructures.{Opened, outside, within, depth_of, link, spine, IsTop, since, add, close_one, leave, Small, Holds, CanClose}
use Rattle.kmip_ttlv_write.proofs.Opens.{add_spine, add_depth, add_top, since_more, since_least, add_since, close_since, leave_more}
use Rattle.kmip_ttlv_write.proofs.Patches.{lead, patched, length_read}

-- a place from its parts
abbrev pub place : ℕ → ℕ → ℕ → Place
place at top depth = record { at = at; top = top; depth = depth }

pub holds_length : {o : Opened} {b : List ℕ} {p : Place} → Holds o b p → p.at ≡ length (spine o)
holds_length {b = b} {p} h = sym (length-take-le p.at b h.room) ∙ ap length h.front

node_is : (tag : ℕ) (c : List ℕ) → header tag Structure (length c) ++ c ≡ node_bytes tag c
unfolding node_bytes
node_is tag c = refl

spine_len : (a : Opened) (tag : ℕ) (done : Trees) → length (spine (within a tag done)) ≡ length (spine a) + 8 + length (bytes_below done)
spine_len a tag done =
    let h = header tag Structure (link a) in
    omega (arith, length-append (spine a) (h ++ bytes_below done), length-append h (bytes_below done))

module _ {b : List ℕ} {p : Place} {a : Opened} {tag : ℕ} {done : Trees} (h : Holds (within a tag done) b p) where
  -- where the content of the innermost structure ends
  pub at_is : p.at ≡ p.top + 8 + length (bytes_below done)
  at_is = omega (arith, holds_length h, spine_len a tag done, h.top)

  pub content_short : length (bytes_below done) < 2 ^ 32
  content_short = omega (arith, h.small, since_least (0 + 8 + length (bytes_below done)) a)

  link_small : (c : Opened) → since (0 + 8 + length (bytes_below done)) c < 2 ^ 32 + 8 → link c < 2 ^ 32
  link_small (outside us) lt = omega arith
  link_small (within c t us) lt = omega (arith, since_least (0 + 8 + length (bytes_below done) + 8 + length (bytes_below us)) c)

  link_before : (c : Opened) → link c ≤ length (spine c)
  link_before (outside us) = omega arith
  link_before (within c t us) = omega (arith, spine_len c t us)

  -- the length field holds the distance from the structure around
  pub link_at : length_at b p.top ≡ link a
  link_at =
      length_read b (spine a) (lead tag Structure) (to_be_bytes w32 (link a)) (bytes_below done) p.top p.at (sym h.top) refl refl at_is h.front (link a)
      (link_small a h.small) refl

  pub link_le : length_at b p.top ≤ p.top
  link_le = omega (arith, link_at, link_before a, h.top)

  top_then : (c : Opened) → p.top ≡ length (spine c) → (t : Tree) → IsTop (add t c) (p.top - link c)
  top_then (outside us) is t = tt
  top_then (within c g us) is t = omega (arith, is, spine_len c g us)

  -- it ends
  pub node_holds : (c : List ℕ) (n : ℕ) → n ≡ length (bytes_below done) → c ≡ take (p.top + 4) b ++ (to_be_bytes w32 n ++ drop (p.top + 8) b)
      → Holds (add (node tag done) a) c (place p.at (p.top - length_at b p.top) (p.depth - 1))
  node_holds c n n-is is =
      let content = bytes_below done in
      let le : p.top + 8 ≤ length b = omega (arith, at_is, h.room) in
      let front = length-take-le (p.top + 4) b (omega arith) in
      let back = length-append (to_be_bytes w32 n) (drop (p.top + 8) b) in
      let both = length-append (take (p.top + 4) b) (to_be_bytes w32 n ++ drop (p.top + 8) b) in
      let same : length c ≡ length b = ap length is ∙ omega (arith, both, front, back, length-drop (p.top + 8) b) in
      let text : take p.at c ≡ spine a ++ (header tag Structure n ++ content) =
      ap (take p.at) is ∙ patched b (spine a) (lead tag Structure) (to_be_bytes w32 (link a)) content p.top p.at (sym h.top) refl refl at_is h.front
      (to_be_bytes w32 n) refl in
      record {
        room = omega (arith, same, h.room);
        front = text ∙ ap (λ (m : ℕ). spine a ++ (header tag Structure m ++ content)) n-is ∙ ap (λ (s : List ℕ). spine a ++ s) (node_is tag content)
            ∙ sym (add_spine (node tag done) a);
        depth = omega (arith, h.depth, add_depth (node tag done) a);
        top = subst (λ (m : ℕ). IsTop (add (node tag done) a) (p.top - m)) (sym link_at) (top_then a h.top (node tag done));
        small = omega (arith, h.small, close_since (within a tag done));
      }

-- the innermost open structure can be closed
pub record Closable (b : List ℕ) (p : Place) : Type 0 where
  pub link : length_at b p.top ≤ p.top
  pub header : p.top + 8 ≤ p.at
  pub short : p.at - p.top - 8 < 2 ^ 32
  pub room : p.at ≤ length b

pub closable : {b : List ℕ} {p : Place} → CanClose b p → Closable b p
closable {b} {p} can = by can.opened can.holds
  where
    by : (o : Opened) → Holds o b p → Closable b p
    by (outside done) h = absurd (omega (arith, h.depth, can.some))
    by (within a tag done) h = record { link = link_le h; header = omega (arith, at_is h); short = omega (arith, at_is h, content_short h); room = h.room }

pub close_holds : (b c : List ℕ) (p : Place) (n : ℕ) → 0 < p.depth → n ≡ p.at - p.top - 8 → c ≡ take (p.top + 4) b ++ (to_be_bytes w32 n ++ drop (p.top + 8) b)
    → (o : Opened) → Holds o b p → Holds (close_one o) c (place p.at (p.top - length_at b p.top) (p.depth - 1))
close_holds b c p n some n-is is (outside done) h = absurd (omega (arith, h.depth, some))
close_holds b c p n some n-is is (within a tag done) h = node_holds h c n (omega (arith, n-is, at_is h)) is

-- the distance that a further header states
pub link_is : {b : List ℕ} {p : Place} (o : Opened) → Holds o b p → 0 < p.depth → (link o ≡ p.at - p.top) × (p.top ≤ p.at)
link_is (outside done) h some = absurd (omega (arith, h.depth, some))
link_is (within a tag done) h some = (omega (arith, at_is h), omega (arith, at_is h))

pub link_fits : (o : Opened) → Small 8 o → link o < 2 ^ 32
link_fits (outside done) small = omega arith
link_fits (within a tag done) small = omega (arith, small, since_more 0 8 8 a tag done (omega arith), since_least (0 + 8 + length (bytes_below done)) a)

small_added : (o : Opened) (t : Tree) (n : ℕ) → n ≡ length (bytes t) → Small n o → since 0 (add t o) < 2 ^ 32 + 8
small_added (outside done) t n is small = omega arith
small_added (within a tag done) t n is small = omega (arith, add_since t a tag done, since_more 0 n n a tag done (omega arith), is, small)

-- a leaf is written
pub leaf_holds : {b c : List ℕ} {p : Place} (q n tag : ℕ) (typ : TtlvType) (content : List ℕ) {o : Opened} → Holds o b p → Small n o
    → n ≡ length (leaf_bytes tag typ content) → q ≤ length c → take q c ≡ take p.at b ++ leaf_bytes tag typ content
    → Holds (add (leaf tag typ content) o) c (place q p.top p.depth)
leaf_holds {p = p} q n tag typ content {o} h small is room front =
    let t = leaf tag typ content in
    record {
      room = room;
      front = front ∙ ap (λ (s : List ℕ). s ++ leaf_bytes tag typ content) h.front ∙ sym (add_spine t o);
      depth = h.depth ∙ sym (add_depth t o);
      top = add_top t o p.top h.top;
      small = small_added o t n is small;
    }

-- nothing is written yet
pub holds_none : (b : List ℕ) → Holds (outside no_trees) b (place 0 0 0)
holds_none b = record { room = omega arith; front = refl; depth = refl; top = tt; small = omega arith }

-- some structures have ended, and others still have to
pub record Left (d : ℕ) (o : Opened) (b : List ℕ) (p : Place) : Type 0 where
  pub now : Opened
  pub emitted : Holds now b p
  pub same : leave d now ≡ leave d o

-- one more has ended
pub left_more : {d : ℕ} {o : Opened} {b c : List ℕ} {p q : Place} → d < p.depth → ((x : Opened) → Holds x b p → Holds (close_one x) c q) → Left d o b p
    → Left d o c q
left_more {d} lt closes h =
    record { now = close_one h.now; emitted = closes h.now h.emitted; same = leave_more d h.now (omega (arith, h.emitted.depth, lt)) ∙ h.same }

-- each open structure took eight bytes
pub deep_spine : (o : Opened) → 8 * depth_of o ≤ length (spine o)
deep_spine (outside done) = omega arith
deep_spine (within a tag done) = omega (arith, deep_spine a, spine_len a tag done)
