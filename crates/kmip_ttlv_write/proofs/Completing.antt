-- The items of trees fit, and a list of lines is that of one list of trees.
use Rattle.std.proofs.Common.{◌≡◌, ◌≢◌, inl, inr, ℕ, zero, suc, ◌+◌, ◌<◌, ◌≤◌, ◌^◌, Bool, List, [], ◌∷◌, ◌++◌, length, map, Some, refl, ap, sym, subst, ◌∙◌}
use Rattle.std.proofs.Common.{arith, ◌==◌, if◌then◌else◌}
use Rattle.std.specs.List.{AllByRecursion}
use Rattle.std.proofs.lemmas.Bool.{ne_eqb}
use Rattle.kmip_ttlv_types.specs.{declared.typ.TtlvType.TtlvType, declared.typ.TtlvType.TheVariants.Structure, ItemTypes.code, ItemTypes.type_of}
use Rattle.kmip_ttlv_types.specs.{Leaves.is_valid, Places.size}
use Rattle.kmip_ttlv_types.specs.Trees.{Tree, Trees, leaf, node, no_trees, tree, IsTreeText, AreTreeTexts}
use Rattle.kmip_ttlv_types.proofs.PlaceLemmas.{type_of-code, code_one}
use Rattle.kmip_ttlv_items.specs.FoundItems.{span, span_all}
use Rattle.kmip_ttlv_items.proofs.Spans.{leaf_not, texts_span}
use Rattle.kmip_ttlv_write.specs.declared.{given.GivenItem.GivenItem, judge.Reach.Reach}
use Rattle.kmip_ttlv_write.specs.GivenItems.{Line, line, lines, lines_below, line_of, given_content, IsInside, IsWritten}
use Rattle.kmip_ttlv_write.specs.FlatWrites.{taken, opened, start, advanced, after, after_all, Fits, AllFit}
use Rattle.kmip_ttlv_write.proofs.Stands.{typ_is, content_len, content_deep}
use Rattle.kmip_ttlv_write.proofs.Fitting.{after_append, fit_append}

-- items follow in a state and at a depth, and take n bytes
pub record Comes (lent : List ℕ) (r : Reach) (xs : List GivenItem) (d n : ℕ) : Type 0 where
  pub fit : AllFit lent r xs
  pub depth : d ≤ (after_all r xs).depth
  pub size : (after_all r xs).size ≡ r.size + n
  pub content : 0 < d → (after_all r xs).content ≡ r.content + n

-- there is room for them
record Room (r : Reach) (d n : ℕ) : Type 0 where
  depth : d ≤ r.depth
  total : r.size + n < 2 ^ 64
  content : 0 < d → r.content + n < 2 ^ 32

-- a list of lines in two parts
record Parts (lent : List ℕ) (xs : List GivenItem) (ls ms : List Line) : Type 0 where
  first : List GivenItem
  rest : List GivenItem
  are : xs ≡ first ++ rest
  first-are : map (line_of lent) first ≡ ls
  rest-are : map (line_of lent) rest ≡ ms
  first-in : AllByRecursion (IsInside lent) first
  rest-in : AllByRecursion (IsInside lent) rest

parts_of : (lent : List ℕ) (xs : List GivenItem) (ls ms : List Line) → map (line_of lent) xs ≡ ls ++ ms → AllByRecursion (IsInside lent) xs
    → Parts lent xs ls ms
parts_of lent xs [] ms e h = record { first = []; rest = xs; are = refl; first-are = refl; rest-are = e; first-in = tt; rest-in = h }
parts_of lent [] (l ∷ ls) ms e h = absurd cc
parts_of lent (x ∷ xs) (l ∷ ls) ms e h =
    let tail : map (line_of lent) xs ≡ ls ++ ms = cc in
    let k = parts_of lent xs ls ms tail h.1 in
    record { first = x ∷ k.first; rest = k.rest; are = cc; first-are = cc; rest-are = k.rest-are; first-in = (h.0, k.first-in); rest-in = k.rest-in }

-- the content after an item
content_at_root : (r : Reach) (typ : TtlvType) (i : GivenItem) → i.depth ≡ 0 → (advanced r typ i).content ≡ 0
content_at_root r typ i e = ap (λ (d : ℕ). if d == 0 then 0 else r.content + taken typ i.length) e

content_fits : (r : Reach) (typ : TtlvType) (i : GivenItem) (d n : ℕ) → i.depth ≡ d → taken typ i.length ≤ n → (0 < d → r.content + n < 2 ^ 32)
    → (advanced r typ i).content < 2 ^ 32
content_fits r typ i zero n e le room = omega (arith, content_at_root r typ i e)
content_fits r typ i (suc d) n e le room = omega (arith, content_deep r typ i (omega (arith, e)), room (omega arith), le)

pub taken_leaf : (typ : TtlvType) (n : ℕ) → typ ≢ Structure → taken typ n ≡ size typ n
taken_leaf Structure n ne = absurd (ne refl)
taken_leaf typ n ne = refl

opened_leaf : (typ : TtlvType) (d : ℕ) → typ ≢ Structure → opened typ d ≡ d
opened_leaf Structure d ne = absurd (ne refl)
opened_leaf typ d ne = refl

-- a leaf follows
leaf_comes : {lent : List ℕ} {r : Reach} (x : GivenItem) (d tag : ℕ) (typ : TtlvType) (content text : List ℕ)
    → IsTreeText (leaf tag typ content) text → line_of lent x ≡ line d tag (code typ) content → IsInside lent x → Room r d (span (leaf tag typ content))
    → Comes lent r (x ∷ []) d (span (leaf tag typ content))
leaf_comes {lent} {r} x d tag typ content text h is within room =
    let ne : typ ≢ Structure = leaf_not typ content h.0 in
    let depth : x.depth ≡ d = ap (λ (l : Line). l.depth) is in
    let code-is : x.typ ≡ code typ = ap (λ (l : Line). l.code) is in
    let typed : type_of x.typ ≡ Some typ = ap type_of code-is ∙ type_of-code typ in
    let not-one : x.typ ≢ 1 = λ one. ne (code_one typ Structure (sym code-is ∙ one)) in
    let given : given_content lent x ≡ content =
    sym (ap (λ (b : Bool). if b then [] else given_content lent x) (ne_eqb x.typ 1 not-one)) ∙ ap (λ (l : Line). l.content) is in
    let inside : x.offset + 8 + x.length ≤ length lent = elim within [ inl one ↦ absurd (not-one one) | inr le ↦ le ] in
    let len : x.length ≡ length content = sym (content_len lent x inside) ∙ ap length given in
    let took : taken typ x.length ≡ span (leaf tag typ content) = taken_leaf typ x.length ne ∙ ap (size typ) len in
    let next : after r x ≡ advanced r typ x = ap (λ (t : TtlvType). advanced r t x) (typ_is x typ typed) in
    let fits : Fits lent r x = record {
      depth = omega (arith, depth, room.depth);
      tag = omega (arith, ap (λ (l : Line). l.tag) is, h.1.tag_fits);
      typ = typ;
      typed = typed;
      value = λ _. record { short = omega (arith, len, h.1.length_fits); inside = inside; valid = ap (is_valid typ) given ∙ h.0 };
      room = record { content = content_fits r typ x d _ depth (omega (arith, took)) room.content; total = omega (arith, took, room.total) };
    } in
    record {
      fit = (fits, tt);
      depth = omega (arith, ap (λ (s : Reach). s.depth) next, opened_leaf typ x.depth ne, depth);
      size = omega (arith, ap (λ (s : Reach). s.size) next, took);
      content = λ lt. ap (λ (s : Reach). s.content) next ∙ content_deep r typ x (omega (arith, depth)) ∙ ap (λ (n : ℕ). r.content + n) took;
    }

-- a structure begins
record Begins (lent : List ℕ) (r : Reach) (x : GivenItem) (d : ℕ) : Type 0 where
  fits : Fits lent r x
  depth : (after r x).depth ≡ d + 1
  size : (after r x).size ≡ r.size + 8
  root : d ≡ 0 → (after r x).content ≡ 0
  content : 0 < d → (after r x).content ≡ r.content + 8

node_begins : {lent : List ℕ} {r : Reach} (x : GivenItem) {d tag : ℕ} (n : ℕ) → tag < 2 ^ 24 → line_of lent x ≡ line d tag 1 [] → Room r d (8 + n)
    → Begins lent r x d
node_begins {r = r} x {d} n tag-fits is room =
    let depth : x.depth ≡ d = ap (λ (l : Line). l.depth) is in
    let typed : type_of x.typ ≡ Some Structure = ap (λ (l : Line). type_of l.code) is in
    let next : after r x ≡ advanced r Structure x = ap (λ (t : TtlvType). advanced r t x) (typ_is x Structure typed) in
    record {
      fits = record {
        depth = omega (arith, depth, room.depth);
        tag = omega (arith, ap (λ (l : Line). l.tag) is, tag-fits);
        typ = Structure;
        typed = typed;
        value = λ ne. absurd (ne refl);
        room = record { content = content_fits r Structure x d (8 + n) depth (omega arith) room.content; total = omega (arith, room.total) };
      };
      depth = ap (λ (s : Reach). s.depth) next ∙ ap (λ (m : ℕ). m + 1) depth;
      size = ap (λ (s : Reach). s.size) next;
      root = λ e. ap (λ (s : Reach). s.content) next ∙ content_at_root r Structure x (depth ∙ e);
      content = λ lt. ap (λ (s : Reach). s.content) next ∙ content_deep r Structure x (omega (arith, depth));
    }

inner_room : {lent : List ℕ} {r : Reach} {x : GivenItem} (d n : ℕ) → n < 2 ^ 32 → Room r d (8 + n) → Begins lent r x d → Room (after r x) (suc d) n
inner_room zero n lt room b =
    record { depth = omega (arith, b.depth); total = omega (arith, b.size, room.total); content = λ _. omega (arith, b.root refl) }
inner_room (suc d) n lt room b =
    let content = b.content (omega arith) in
    record { depth = omega (arith, b.depth); total = omega (arith, b.size, room.total); content = λ _. omega (arith, content, room.content (omega arith)) }

mutual
  tree_comes : {lent : List ℕ} (t : Tree) (text : List ℕ) → IsTreeText t text → {r : Reach} (d : ℕ) (xs : List GivenItem) → map (line_of lent) xs ≡ lines d t
      → AllByRecursion (IsInside lent) xs → Room r d (span t) → Comes lent r xs d (span t)
  tree_comes {lent} (leaf tag typ content) text h d (x ∷ []) is within room =
      let l : line_of lent x ≡ line d tag (code typ) content = cc in
      leaf_comes x d tag typ content text h l within.0 room
  tree_comes {lent} (node tag below) text h {r} d (x ∷ xs) is within room =
      let l : line_of lent x ≡ line d tag 1 [] = cc in
      let ls : map (line_of lent) xs ≡ lines_below (suc d) below = cc in
      let b = node_begins {lent = lent} {r = r} x (span_all below) h.1.tag_fits l room in
      let short : span_all below < 2 ^ 32 = omega (arith, texts_span below h.0 h.2, h.1.length_fits) in
      let k = trees_come below h.0 h.2 (suc d) xs ls within.1 (inner_room d (span_all below) short room b) in
      record {
        fit = (b.fits, k.fit);
        depth = omega (arith, k.depth);
        size = omega (arith, k.size, b.size);
        content = λ lt. omega (arith, k.content (omega arith), b.content lt);
      }
  tree_comes _ text h d _ is within room = absurd cc

  trees_come : {lent : List ℕ} (ts : Trees) (text : List ℕ) → AreTreeTexts ts text → {r : Reach} (d : ℕ) (xs : List GivenItem)
      → map (line_of lent) xs ≡ lines_below d ts → AllByRecursion (IsInside lent) xs → Room r d (span_all ts) → Comes lent r xs d (span_all ts)
  trees_come no_trees text h d (x ∷ xs) is within room = absurd cc
  trees_come no_trees text h d [] is within room = record { fit = tt; depth = room.depth; size = omega arith; content = λ _. omega arith }
  trees_come {lent} (tree t ts) text h {r} d xs is within room =
      let p = parts_of lent xs (lines d t) (lines_below d ts) is within in
      let first : Room r d (span t) = record { depth = room.depth; total = omega (arith, room.total); content = λ lt. omega (arith, room.content lt) } in
      let a = tree_comes t h.0 h.3 d p.first p.first-are p.first-in first in
      let s = after_all r p.first in
      let rest : Room s d (span_all ts) =
      record { depth = a.depth; total = omega (arith, a.size, room.total); content = λ lt. omega (arith, a.content lt, room.content lt) } in
      let b = trees_come ts h.1 h.4 d p.rest p.rest-are p.rest-in rest in
      let end : after_all r xs ≡ after_all s p.rest = ap (after_all r) p.are ∙ after_append r p.first p.rest in
      record {
        fit = subst (AllFit lent r) (sym p.are) (fit_append lent r p.first p.rest a.fit b.fit);
        depth = omega (arith, ap (λ (q : Reach). q.depth) end, b.depth);
        size = omega (arith, ap (λ (q : Reach). q.size) end, b.size, a.size);
        content = λ lt. omega (arith, ap (λ (q : Reach). q.content) end, b.content lt, a.content lt);
      }

-- what is written fits
pub written_fit : (xs : List GivenItem) (lent out : List ℕ) → IsWritten xs lent out → AllFit lent start xs
written_fit xs lent out w =
    let room : Room start 0 (span_all w.trees) =
    record { depth = omega arith; total = omega (arith, texts_span w.trees out w.texts, w.total); content = λ lt. absurd (omega (arith, lt)) } in
    (trees_come w.trees out w.texts 0 xs w.are w.inside room).fit
