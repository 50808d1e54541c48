-- The state after items: what was given, and how many bytes.
use Rattle.std.proofs.Common.{◌≡◌, ◌≢◌, inl, inr, ℕ, ◌+◌, ◌-◌, ◌<◌, ◌≤◌, ◌^◌, Bool, false, List, [], ◌∷◌, ◌++◌, length, map, drop, Option, Some, None, refl, ap}
use Rattle.std.proofs.Common.{sym, subst, ◌∙◌, arith, append_assoc, append-nil, length-append, ◌==◌, if◌then◌else◌}
use Rattle.std.specs.List.{AllByRecursion}
use Rattle.std.proofs.lemmas.Bool.{ne_eqb}
use Rattle.std.proofs.lemmas.List.{map_push, length-take-le, length-drop}
use Rattle.kmip_ttlv_types.specs.{declared.typ.TtlvType.TtlvType, declared.typ.TtlvType.TheVariants.Structure, Items.header}
use Rattle.kmip_ttlv_types.specs.ItemTypes.{code, type_of, pad_len}
use Rattle.kmip_ttlv_types.specs.Trees.{Tree, leaf, no_trees, bytes}
use Rattle.kmip_ttlv_items.proofs.Spans.{code_is}
use Rattle.kmip_ttlv_write.specs.declared.{given.GivenItem.GivenItem, judge.Reach.Reach}
use Rattle.kmip_ttlv_write.specs.GivenItems.{Line, line, line_of, given_content, IsInside, IsWritten}
use Rattle.kmip_ttlv_write.specs.FlatWrites.{taken, opened, start, advanced, typ_of, after, after_all, HasValue, HasRoom, Fits, AllFit}
use Rattle.kmip_ttlv_write.specs.OpenStructures.{Opened, outside, within, depth_of, link, spine, since, add, leave, entered_as, entered, Small}
use Rattle.kmip_ttlv_write.proofs.Opens.{AllSound, lines_so_far, texts_all, leaf_text, leaf_len, add_lines_so_far, add_depth, add_sound, add_spine, since_more}
use Rattle.kmip_ttlv_write.proofs.Opens.{add_since, Closes, closes_by, leave_depth}

-- what is known after items
pub record Stand (lent : List ℕ) (xs : List GivenItem) (o : Opened) (r : Reach) : Type 0 where
  pub lines : map (line_of lent) xs ≡ lines_so_far o
  pub inside : AllByRecursion (IsInside lent) xs
  pub sound : AllSound o
  pub depth : r.depth ≡ depth_of o
  pub size : r.size ≡ length (spine o)
  pub since : since 0 o ≤ r.content + 8
  pub content : r.content < 2 ^ 32
  pub total : r.size < 2 ^ 64

pub stand_first : (lent : List ℕ) → Stand lent [] (outside no_trees) start
stand_first lent = record { lines = refl; inside = tt; sound = tt; depth = refl; size = refl; since = omega arith; content = omega arith; total = omega arith }

-- the type of an item
pub typ_is : (i : GivenItem) (t : TtlvType) → type_of i.typ ≡ Some t → typ_of i ≡ t
typ_is i t e = ap (λ (x : Option TtlvType). elim x [ None ↦ Structure | Some u ↦ u ]) e

-- a leaf's code is not that of a structure
leaf_code : (t : TtlvType) (n : ℕ) → t ≢ Structure → type_of n ≡ Some t → n ≢ 1
leaf_code t n ne e one = let k : type_of 1 ≡ Some t = ap type_of (sym one) ∙ e in ne (cc)

pub line_structure : (lent : List ℕ) (i : GivenItem) → type_of i.typ ≡ Some Structure → line_of lent i ≡ line i.depth i.tag 1 []
line_structure lent i e = let k : 1 ≡ i.typ = code_is i.typ Structure e in
    ap (λ (n : ℕ). line i.depth i.tag n (if n == 1 then [] else given_content lent i)) (sym k)

pub line_leaf : (lent : List ℕ) (i : GivenItem) (t : TtlvType) → t ≢ Structure → type_of i.typ ≡ Some t
    → line_of lent i ≡ line i.depth i.tag (code t) (given_content lent i)
line_leaf lent i t ne e =
    let k : (i.typ == 1) ≡ false = ne_eqb i.typ 1 (leaf_code t i.typ ne e) in
    ap (λ (b : Bool). line i.depth i.tag i.typ (if b then [] else given_content lent i)) k ∙ ap (λ (n : ℕ). line i.depth i.tag n (given_content lent i))
    (sym (code_is i.typ t e))

-- the content of a leaf has the length that is given
pub content_len : (lent : List ℕ) (i : GivenItem) → i.offset + 8 + i.length ≤ length lent → length (given_content lent i) ≡ i.length
content_len lent i le = length-take-le i.length (drop (i.offset + 8) lent) (omega (arith, length-drop (i.offset + 8) lent))

inside_push : (lent : List ℕ) (xs : List GivenItem) (i : GivenItem) → AllByRecursion (IsInside lent) xs → IsInside lent i
    → AllByRecursion (IsInside lent) (xs ++ i ∷ [])
inside_push lent [] i h k = (k, tt)
inside_push lent (x ∷ xs) i h k = (h.0, inside_push lent xs i h.1 k)

-- within a structure the depth is not 0
pub content_deep : (r : Reach) (typ : TtlvType) (i : GivenItem) → 0 < i.depth → (advanced r typ i).content ≡ r.content + taken typ i.length
content_deep r typ i lt = let k : (i.depth == 0) ≡ false = ne_eqb i.depth 0 (omega arith) in
    ap (λ (b : Bool). if b then 0 else r.content + taken typ i.length) k

-- the size after a header
begun_size : (c : Opened) (tag n : ℕ) → n ≡ length (spine c) → n + 8 ≡ length (spine (within c tag no_trees))
begun_size c tag n is =
    let h = header tag Structure (link c) in
    omega (arith, is, length-append (spine c) (h ++ []), length-append h [])

module _ {lent : List ℕ} {xs : List GivenItem} {o : Opened} {r : Reach} (s : Stand lent xs o r) {i : GivenItem} (f : Fits lent r i) where
  closes : Closes o (leave i.depth o)
  closes = closes_by (depth_of o - i.depth) o

  deep : depth_of (leave i.depth o) ≡ i.depth
  deep = leave_depth i.depth o (omega (arith, f.depth, s.depth))

  sound : AllSound (leave i.depth o)
  sound = closes.sound (omega (arith, s.since, s.content)) s.sound

  -- no length gets too long with the item
  small_by : (c : Opened) → depth_of c ≡ i.depth → since 0 c ≤ r.content + 8 → Small (taken f.typ i.length) c
  small_by (outside done) d le = tt
  small_by (within a tag done) d le =
      let n = taken f.typ i.length in
      omega (arith, since_more 0 n n a tag done (omega arith), content_deep r f.typ i (omega arith), f.room.content, le)

  pub small : Small (taken f.typ i.length) (leave i.depth o)
  small = small_by (leave i.depth o) deep (omega (arith, closes.less, s.since))

  -- a structure that begins
  since_begun : (c : Opened) → depth_of c ≡ i.depth → since 0 c ≤ r.content + 8 → since 0 (within c i.tag no_trees) ≤ (advanced r Structure i).content + 8
  since_begun (outside done) d le = omega arith
  since_begun (within a tag done) d le = omega (arith, since_more 0 8 8 a tag done (omega arith), content_deep r Structure i (omega arith), le)

  since_leaf : (t : Tree) (typ : TtlvType) → length (bytes t) ≡ taken typ i.length → (c : Opened) → depth_of c ≡ i.depth → since 0 c ≤ r.content + 8
      → since 0 (add t c) ≤ (advanced r typ i).content + 8
  since_leaf t typ len (outside done) d le = omega arith
  since_leaf t typ len (within a tag done) d le = omega (arith, add_since t a tag done, len, content_deep r typ i (omega arith), le)

  lines_then : (c : Opened) (l : Line) → Closes o c → line_of lent i ≡ l → map (line_of lent) (xs ++ i ∷ []) ≡ lines_so_far c ++ (l ∷ [])
  lines_then c l k is = map_push (line_of lent) xs i ∙ ap (λ (ls : List Line). ls ++ (line_of lent i ∷ [])) (s.lines ∙ sym k.said)
      ∙ ap (λ (m : Line). lines_so_far c ++ (m ∷ [])) is

  stand_node : type_of i.typ ≡ Some Structure → HasRoom r Structure i → Stand lent (xs ++ i ∷ []) (within (leave i.depth o) i.tag no_trees)
      (advanced r Structure i)
  stand_node e room =
      let c = leave i.depth o in
      let l : line_of lent i ≡ line (depth_of c) i.tag 1 [] = line_structure lent i e ∙ ap (λ (d : ℕ). line d i.tag 1 []) (sym deep) in
      record {
        lines = lines_then c (line (depth_of c) i.tag 1 []) closes l;
        inside = inside_push lent xs i s.inside (inl (sym (code_is i.typ Structure e)));
        sound = (sound, f.tag, tt);
        depth = omega (arith, deep);
        size = begun_size c i.tag r.size (s.size ∙ sym closes.long);
        since = since_begun c deep (omega (arith, closes.less, s.since));
        content = room.content;
        total = room.total;
      }

  stand_leaf : (typ : TtlvType) → typ ≢ Structure → type_of i.typ ≡ Some typ → HasValue lent typ i → HasRoom r typ i
      → taken typ i.length ≡ 8 + i.length + pad_len i.length → opened typ i.depth ≡ i.depth
      → Stand lent (xs ++ i ∷ []) (add (leaf i.tag typ (given_content lent i)) (leave i.depth o)) (advanced r typ i)
  stand_leaf typ ne e value room taken-is opened-is =
      let c = leave i.depth o in
      let content = given_content lent i in
      let t = leaf i.tag typ content in
      let n : length content ≡ i.length = content_len lent i value.inside in
      let l : line_of lent i ≡ line (depth_of c) i.tag (code typ) content = line_leaf lent i typ ne e ∙ ap (λ (d : ℕ). line d i.tag (code typ) content)
      (sym deep) in
      let len : length (bytes t) ≡ taken typ i.length = leaf_len i.tag typ content ∙ ap (λ (m : ℕ). 8 + m + pad_len m) n ∙ sym taken-is in
      record {
        lines = lines_then c (line (depth_of c) i.tag (code typ) content) closes l ∙ sym (add_lines_so_far t c);
        inside = inside_push lent xs i s.inside (inr value.inside);
        sound = add_sound t c sound (leaf_text i.tag typ content f.tag ne (omega (arith, n, value.short)) value.valid);
        depth = opened-is ∙ sym deep ∙ sym (add_depth t c);
        size = omega (arith, s.size, closes.long, ap length (add_spine t c), length-append (spine c) (bytes t), len);
        since = since_leaf t typ len c deep (omega (arith, closes.less, s.since));
        content = room.content;
        total = room.total;
      }

  stand_by : (typ : TtlvType) → type_of i.typ ≡ Some typ → (typ ≢ Structure → HasValue lent typ i) → HasRoom r typ i
      → Stand lent (xs ++ i ∷ []) (entered_as typ lent i (leave i.depth o)) (advanced r typ i)
  stand_by Structure e value room = stand_node e room
  stand_by typ e value room = stand_leaf typ (λ is. absurd cc) e (value (λ is. absurd cc)) room refl refl

  -- one more item
  pub stand_step : Stand lent (xs ++ i ∷ []) (entered lent i o) (after r i)
  stand_step =
      subst (λ (t : TtlvType). Stand lent (xs ++ i ∷ []) (entered_as t lent i (leave i.depth o)) (advanced r t i)) (sym (typ_is i f.typ f.typed))
      (stand_by f.typ f.typed f.value f.room)

-- all items
stand_all : {lent : List ℕ} (ys : List GivenItem) {xs : List GivenItem} {o : Opened} {r : Reach} → Stand lent xs o r → AllFit lent r ys → (p : Opened)
    × Stand lent (xs ++ ys) p (after_all r ys)
stand_all {lent} [] {xs} {o} {r} s h = (o, subst (λ (zs : List GivenItem). Stand lent zs o r) (sym (append-nil xs)) s)
stand_all {lent} (y ∷ ys) {xs} {r = r} s h =
    let k = stand_all ys (stand_step s h.0) h.1 in
    (k.0, subst (λ (zs : List GivenItem). Stand lent zs k.0 (after_all (after r y) ys)) (append_assoc xs (y ∷ []) ys) k.1)

-- what is written of them
pub stand_written : {lent : List ℕ} {xs : List GivenItem} {o : Opened} {r : Reach} → Stand lent xs o r → IsWritten xs lent (spine (leave 0 o))
stand_written {lent} {xs} {o} s = by (leave 0 o) (closes_by (depth_of o - 0) o) (leave_depth 0 o (omega arith))
  where
    by : (c : Opened) → Closes o c → depth_of c ≡ 0 → IsWritten xs lent (spine c)
    by (within a tag done) k d = absurd (omega (arith, d))
    by (outside done) k d = record {
      trees = done;
      are = s.lines ∙ sym k.said;
      inside = s.inside;
      texts = texts_all done (k.sound (omega (arith, s.since, s.content)) s.sound);
      canonical = refl;
      total = omega (arith, k.long, s.size, s.total);
    }

-- the bytes of items that fit, and their number
pub record Text (xs : List GivenItem) (lent : List ℕ) (n : ℕ) : Type 0 where
  pub text : List ℕ
  pub written : IsWritten xs lent text
  pub length : n ≡ length text

pub text_of : (lent : List ℕ) (xs : List GivenItem) → AllFit lent start xs → Text xs lent (after_all start xs).size
text_of lent xs h =
    let k = stand_all xs (stand_first lent) h in
    record { text = spine (leave 0 k.0); written = stand_written k.1; length = k.1.size ∙ sym (closes_by (depth_of k.0 - 0) k.0).long }
