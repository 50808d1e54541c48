-- The pass into lent room: if it gets through a value's events, the value has items, and their bytes were written.
use Rattle.std.proofs.Common.{◌≡◌, ℕ, ◌+◌, ◌-◌, ◌<◌, ◌^◌, Bool, true, false, List, [], ◌∷◌, ◌++◌, length, take, drop, Option, Some, None}
use Rattle.std.proofs.Common.{if◌then◌else◌, nat_lt, refl, sym, ap, ◌∙◌, subst, arith, append_assoc, append-nil, length-append}
use Rattle.std.proofs.{Math.Seq.take-append_seam, Math.Seq.drop-append_seam, Math.Seq.drop-append-add, lemmas.Nat.from_be_bytes-to_be_bytes_4}
use Rattle.std.proofs.lemmas.Bool.Decides.{nat_tests}
use Rattle.std.specs.{List.AllByRecursion, Int.w32, Int.to_be_bytes, Int.from_be_bytes, Int.bytes_high_first}
use Rattle.kmip_ttlv_types.specs.{declared.typ.TtlvType.TtlvType, declared.typ.TtlvType.TheVariants.Structure, ItemTypes.code, Items.header}
use Rattle.kmip_ttlv_types.specs.Names.{transparent_name, override_name}
use Rattle.kmip_ttlv_types.specs.Trees.{Tree, leaf, node, Trees, no_trees, tree, trees_of, bytes, bytes_below, bytes_all, Fits, FitsBelow}
use Rattle.kmip_ttlv_base.specs.Values.{Value, none_value as none, some_value as some, seq_value, struct_value, newtype_value, newtype_variant_value}
use Rattle.kmip_ttlv_base.specs.Values.{tuple_variant_value, unsupported_value, Values, no_values, value}
use Rattle.kmip_ttlv_base.specs.Visits.{ended, visited, visited_in, a_some, a_seq, a_struct, a_newtype, a_newtype_variant, a_tuple_variant}
use Rattle.kmip_ttlv_ser.specs.declared.pending.PendingTag.{PendingTag, TheVariants.Nothing, TheVariants.Plain, TheVariants.Overriding}
use Rattle.kmip_ttlv_ser.specs.WrittenItems.{◌>>=◌, is_wrapper, without_override, pending_after, pending_tag, take_tag, one_leaf, one_node, some_item}
use Rattle.kmip_ttlv_ser.specs.WrittenItems.{left_over, newtype_row, variant_row, items, items_in}
use Rattle.kmip_ttlv_ser.specs.EncodeResults.{IsWrittenAs}
use Rattle.kmip_ttlv_ser.specs.Singles.{Writing, from, put, entered, left, waits, unwrapped, entered_newtype, entered_variant, left_newtype, left_variant}
use Rattle.kmip_ttlv_ser.specs.Singles.{single_step}
use Rattle.kmip_ttlv_ser.proofs.{Leaves.bytes_append, Leaves.leaf_len, Leaves.node_len, Parts.some_same, Parts.left_append, Sending.node_bytes_are}

-- these items are there, and their bytes were written
record Wrote (o : Option (List Tree)) (s r : Writing) : Type 0 where
  pub trees : List Tree
  pub are : o ≡ Some trees
  pub after : r ≡ from (s.bytes ++ bytes_all trees) (left_over s.pending trees) s.start

-- the same, whenever this gets through
abbrev Writes : (Option Writing → Option Writing) → (PendingTag → Option (List Tree)) → Type 0
Writes k o = (s r : Writing) → k (Some s) ≡ Some r → Wrote (o s.pending) s r

-- what went on to the end was there before
record Through (k : Option Writing → Option Writing) (x : Option Writing) (r : Writing) : Type 0 where
  pub mid : Writing
  pub is : x ≡ Some mid
  pub goes : k (Some mid) ≡ Some r

through : (k : Option Writing → Option Writing) (x : Option Writing) (r : Writing) → k None ≡ None → k x ≡ Some r → Through k x r
through k None r stops e = let n : None ≡ Some r = sym stops ∙ e in absurd cc
through k (Some m) r stops e = record { mid = m; is = refl; goes = e }

wrote_put : (o : Option (List Tree)) (s r : Writing) → put o s ≡ Some r → Wrote o s r
wrote_put None s r e = let n : None ≡ Some r = e in absurd cc
wrote_put (Some ts) s r e = record { trees = ts; are = refl; after = sym (some_same _ _ e) }

-- ---- structures

into_room : (b : Bool) (n m : ℕ) (x y : Writing) → nat_lt n m ≡ b → (if b then Some x else None) ≡ Some y → (n < m) × (y ≡ x)
into_room true n m x y is e = let lt : n < m = grind (arith, nat_tests) in (lt, sym (some_same x y e))
into_room false n m x y lt e = let k : None ≡ Some y = e in absurd cc

-- four bytes between others, and what stands when others are written over them
record Replaced (p w v content bytes : List ℕ) (n : ℕ) : Type 0 where
  pub was : take 4 (drop (n - 4) bytes) ≡ w
  pub count : length bytes - n ≡ length content
  pub becomes : take (n - 4) bytes ++ v ++ drop n bytes ≡ p ++ v ++ content

replaced : (p w v content : List ℕ) (n : ℕ) → length w ≡ 4 → n ≡ length p + 4 → Replaced p w v content (p ++ (w ++ content)) n
replaced p w v content n four end =
    let begin : n - 4 ≡ length p = omega (arith, end) in
    let rest : drop n (p ++ (w ++ content)) ≡ content = ap (λ i. drop i (p ++ (w ++ content))) end ∙ drop-append-add p (w ++ content) 4
    ∙ ap (λ i. drop i (w ++ content)) (sym four) ∙ drop-append_seam w content in
    record {
      was = ap (λ i. take 4 (drop i (p ++ (w ++ content)))) begin ∙ ap (take 4) (drop-append_seam p (w ++ content))
          ∙ ap (λ i. take i (w ++ content)) (sym four) ∙ take-append_seam w content;
      count = omega (arith, length-append p (w ++ content), length-append w content, four, end);
      becomes = ap (λ i. take i (p ++ (w ++ content)) ++ v ++ drop n (p ++ (w ++ content))) begin
          ∙ ap (λ xs. xs ++ v ++ drop n (p ++ (w ++ content))) (take-append_seam p (w ++ content)) ∙ ap (λ xs. p ++ v ++ xs) rest;
    }

-- a structure whose content follows the place for its length, which holds n
placed : (old : List ℕ) (t n : ℕ) (content : List ℕ) (w : PendingTag) → n < 2 ^ 32
    → left (from (old ++ header t Structure n ++ content) w (length old + 8))
    ≡ Some (from (old ++ header t Structure (length content) ++ content) Nothing n)
placed old t n content w small =
    let h = bytes_high_first 3 t ++ code Structure ∷ [] in
    let bytes = (old ++ h) ++ (to_be_bytes w32 n ++ content) in
    let new = to_be_bytes w32 (length content) in
    let is : old ++ header t Structure n ++ content ≡ bytes = simp append_assoc in
    let end : length old + 8 ≡ length (old ++ h) + 4 = omega (arith, length-append old h) in
    let r = replaced (old ++ h) (to_be_bytes w32 n) new content (length old + 8) refl end in
    let around : from_be_bytes w32 (take 4 (drop (length old + 8 - 4) bytes)) ≡ n = ap (from_be_bytes w32) r.was ∙ from_be_bytes-to_be_bytes_4 n small in
    ap (λ bs. left (from bs w (length old + 8))) is
    ∙ ap (λ k. Some (from (take (length old + 8 - 4) bytes ++ to_be_bytes w32 k ++ drop (length old + 8) bytes) Nothing
    (from_be_bytes w32 (take 4 (drop (length old + 8 - 4) bytes))))) r.count
    ∙ ap (λ k. Some (from (take (length old + 8 - 4) bytes ++ new ++ drop (length old + 8) bytes) Nothing k)) around
    ∙ ap (λ bs. Some (from bs Nothing n)) (r.becomes ∙ ap (λ bs. bs ++ content) (append_assoc old h new))

structure_writes : (o : Option ℕ) (below : PendingTag → Option (List Tree)) (k : Option Writing → Option Writing) → k None ≡ None → Writes k below
    → (s m r : Writing) → k (entered o s) ≡ Some m → left m ≡ Some r → Wrote (o >>= λ t. one_node t (below Nothing)) s r
structure_writes None below k stops ih s m r e l = let n : None ≡ Some m = sym stops ∙ e in absurd cc
structure_writes (Some t) below k stops ih s m r e l =
    let first = from (s.bytes ++ header t Structure s.start) Nothing (length s.bytes + 8) in
    let h = through k (entered (Some t) s) m stops e in
    let began = into_room (nat_lt s.start (2 ^ 32)) s.start (2 ^ 32) first h.mid refl h.is in
    let w = ih first m (subst (λ x. k (Some x) ≡ Some m) began.1 h.goes) in
    let bytes = (s.bytes ++ header t Structure (length (bytes_all w.trees))) ++ bytes_all w.trees in
    let ends : Some (from bytes Nothing s.start) ≡ Some r =
    sym (placed s.bytes t s.start (bytes_all w.trees) (left_over Nothing w.trees) began.0) ∙ sym (ap left w.after) ∙ l in
    record {
      trees = node t (trees_of w.trees) ∷ [];
      are = ap (one_node t) w.are;
      after = sym (some_same (from bytes Nothing s.start) r ends) ∙ ap (λ bs. from bs Nothing s.start) (node_bytes_are t w.trees s.bytes);
    }

-- ---- wrappers

wrapper_writes : (o : Option ℕ) (hold : ℕ → PendingTag) (inside : PendingTag → Option (List Tree)) (k : Option Writing → Option Writing)
    → ((t : ℕ) (m : Writing) → unwrapped (hold t) m ≡ None) → k None ≡ None → Writes k inside
    → (s m r : Writing) → k (waits o hold s) ≡ Some m → unwrapped m.pending m ≡ Some r → Wrote (o >>= λ t. inside (hold t) >>= some_item) s r
unfolding some_item
wrapper_writes None hold inside k waiting stops ih s m r e l = let n : None ≡ Some m = sym stops ∙ e in absurd cc
wrapper_writes (Some t) hold inside k waiting stops ih s m r e l =
    let w = ih (from s.bytes (hold t) s.start) m e in
    closed w.trees w.are w.after
  where
    closed : (ts : List Tree) → inside (hold t) ≡ Some ts → m ≡ from (s.bytes ++ bytes_all ts) (left_over (hold t) ts) s.start
        → Wrote (inside (hold t) >>= some_item) s r
    closed [] are after =
        let n : None ≡ Some r = sym (waiting t m) ∙ ap (λ p. unwrapped p m) (sym (ap (λ x. x.pending) after)) ∙ l in absurd cc
    closed (x ∷ xs) are after =
        let same : Some m ≡ Some r = ap (λ p. unwrapped p m) (sym (ap (λ x. x.pending) after)) ∙ l in
        record { trees = x ∷ xs; are = ap (λ o. o >>= some_item) are; after = sym (some_same m r same) ∙ after }

over_waits : (w : PendingTag) (name : List ℕ) (t : ℕ) (m : Writing) → unwrapped (pending_after w name t) m ≡ None
unfolding pending_after
over_waits Nothing name t m = some_over (override_name name)
  where
    some_over : (o : Option (List ℕ)) → unwrapped (elim o [ None ↦ Plain t | Some rest ↦ Overriding t ]) m ≡ None
    some_over None = refl
    some_over (Some rest) = refl
over_waits _ name t m = refl

newtype_writes : (b : Option (List ℕ)) (name : List ℕ) (inside : PendingTag → Option (List Tree)) (k : Option Writing → Option Writing) → k None ≡ None
    → Writes k inside → (s m r : Writing) → k (entered_newtype b name s) ≡ Some m → left_newtype b m ≡ Some r → Wrote (newtype_row b name s.pending inside) s r
newtype_writes None name inside k stops ih s m r = structure_writes (take_tag s.pending name) inside k stops ih s m r
newtype_writes (Some n) name inside k stops ih s m r = wrapper_writes (take_tag s.pending n) Plain inside k (λ t x. refl) stops ih s m r

variant_writes : (b : Bool) (name : List ℕ) (inside : PendingTag → Option (List Tree)) (k : Option Writing → Option Writing) → k None ≡ None
    → Writes k inside → (s m r : Writing) → k (entered_variant b name s) ≡ Some m → left_variant b m ≡ Some r → Wrote (variant_row b name s.pending inside) s r
variant_writes true name inside k stops ih s m r =
    wrapper_writes (take_tag s.pending (without_override name)) (pending_after s.pending name) inside k (over_waits s.pending name) stops ih s m r
variant_writes false name inside k stops ih s m r = structure_writes (take_tag s.pending (without_override (without_override name))) inside k stops ih s m r

-- ---- all events

-- once it gave up nothing is known any more
mutual
  stays : (v : Value) → visited single_step v None ≡ None
  stays (some v) = ap (single_step (ended a_some)) (stays v)
  stays (seq_value vs) = ap (single_step (ended a_seq)) (stays_in vs)
  stays (struct_value name vs) = ap (single_step (ended (a_struct name))) (stays_in vs)
  stays (newtype_value name v) = ap (single_step (ended (a_newtype name))) (stays v)
  stays (newtype_variant_value name vname v) = ap (single_step (ended (a_newtype_variant name vname))) (stays v)
  stays (tuple_variant_value name vname vs) = ap (single_step (ended (a_tuple_variant name vname))) (stays_in vs)
  stays _ = refl

  stays_in : (vs : Values) → visited_in single_step vs None ≡ None
  stays_in no_values = refl
  stays_in (value v vs) = ap (visited_in single_step vs) (stays v) ∙ stays_in vs

-- nothing happens at the end
same_end : {o : Option (List Tree)} {s m r : Writing} → Wrote o s m → Some m ≡ Some r → Wrote o s r
same_end {o} {s} {m} {r} w e = subst (Wrote o s) (some_same m r e) w

in_turn : (first : PendingTag → Option (List Tree)) (later : PendingTag → Option (List Tree)) {s m r : Writing} → Wrote (first s.pending) s m
    → Wrote (later m.pending) m r → Wrote (first s.pending >>= λ a. later (left_over s.pending a) >>= λ b. Some (a ++ b)) s r
in_turn first later {s} {m} {r} w u =
    let xs = w.trees in
    let ys = u.trees in
    record {
      trees = xs ++ ys;
      are = ap (λ o. o >>= λ a. later (left_over s.pending a) >>= λ b. Some (a ++ b)) w.are
          ∙ ap (λ o. o >>= λ b. Some (xs ++ b)) (ap later (sym (ap (λ x. x.pending) w.after)) ∙ u.are);
      after = u.after ∙ ap (λ x. from (x.bytes ++ bytes_all ys) (left_over x.pending ys) x.start) w.after
          ∙ ap (λ bs. from bs (left_over (left_over s.pending xs) ys) s.start)
          (append_assoc s.bytes (bytes_all xs) (bytes_all ys) ∙ ap (λ bs. s.bytes ++ bs) (sym (bytes_append xs ys)))
          ∙ ap (λ p. from (s.bytes ++ bytes_all (xs ++ ys)) p s.start) (left_append s.pending xs ys);
    }

mutual
  writes : (v : Value) → Writes (visited single_step v) (items v)
  writes none s r e = let n : None ≡ Some r = e in absurd cc
  writes (some v) s r e = let h = through (single_step (ended a_some)) (visited single_step v (Some s)) r refl e in same_end (writes v s h.mid h.is) h.goes
  writes (seq_value vs) s r e =
      let h = through (single_step (ended a_seq)) (visited_in single_step vs (Some s)) r refl e in same_end (writes_in vs s h.mid h.is) h.goes
  writes (struct_value name vs) s r e =
      let h = through (single_step (ended (a_struct name))) _ r refl e in
      structure_writes (take_tag s.pending name) (items_in vs) (visited_in single_step vs) (stays_in vs) (writes_in vs) s h.mid r h.is h.goes
  writes (newtype_value name v) s r e =
      let h = through (single_step (ended (a_newtype name))) _ r refl e in
      newtype_writes (transparent_name name) name (items v) (visited single_step v) (stays v) (writes v) s h.mid r h.is h.goes
  writes (newtype_variant_value name vname v) s r e =
      let h = through (single_step (ended (a_newtype_variant name vname))) _ r refl e in
      variant_writes (is_wrapper vname) name (items v) (visited single_step v) (stays v) (writes v) s h.mid r h.is h.goes
  writes (tuple_variant_value name vname vs) s r e =
      let h = through (single_step (ended (a_tuple_variant name vname))) _ r refl e in
      structure_writes (take_tag s.pending (without_override name)) (items_in vs) (visited_in single_step vs) (stays_in vs) (writes_in vs) s h.mid r h.is h.goes
  writes (unsupported_value name) s r e = let n : None ≡ Some r = e in absurd cc
  writes v s r e = wrote_put (items v s.pending) s r e

  writes_in : (vs : Values) → Writes (visited_in single_step vs) (items_in vs)
  writes_in no_values s r e = record { trees = []; are = refl; after = sym (some_same s r e) ∙ ap (λ bs. from bs s.pending s.start) (sym (append-nil s.bytes)) }
  writes_in (value v vs) s r e =
      let h = through (visited_in single_step vs) (visited single_step v (Some s)) r (stays_in vs) e in
      in_turn (items v) (items_in vs) (writes v s h.mid h.is) (writes_in vs h.mid r h.goes)

-- ---- what the functions write

-- a leaf under the pending tag
pub put_is : (s : Writing) {t : ℕ} (typ : TtlvType) (c : List ℕ) {new : List ℕ} → pending_tag s.pending ≡ Some t
    → new ≡ s.bytes ++ bytes_all (leaf t typ c ∷ []) → put (one_leaf s.pending typ c) s ≡ Some (from new Nothing s.start)
put_is s typ c tag are = rw (tag, are) refl

-- in less than 4 GiB each length fits
mutual
  fits : (t : Tree) → length (bytes t) < 2 ^ 32 → Fits t
  fits (leaf t typ c) h = omega (arith, leaf_len t typ c, h)
  fits (node t ts) h = let n = node_len t (bytes_below ts) in (omega (arith, n, h), fits_below_all ts (omega (arith, n, h)))

  fits_below_all : (ts : Trees) → length (bytes_below ts) < 2 ^ 32 → FitsBelow ts
  fits_below_all no_trees h = tt
  fits_below_all (tree t ts) h =
      let n = length-append (bytes t) (bytes_below ts) in (fits t (omega (arith, n, h)), fits_below_all ts (omega (arith, n, h)))

fits_all : (ts : List Tree) → length (bytes_all ts) < 2 ^ 32 → AllByRecursion Fits ts
fits_all [] h = tt
fits_all (t ∷ ts) h = let n = length-append (bytes t) (bytes_all ts) in (fits t (omega (arith, n, h)), fits_all ts (omega (arith, n, h)))

-- after all events of a value
pub written_as : (v : Value) {bytes : List ℕ} {r : Writing} → bytes ≡ [] → visited single_step v (Some (from bytes Nothing 0)) ≡ Some r
    → length r.bytes < 2 ^ 32 → IsWrittenAs v 0 r.bytes
written_as v {bytes} {r} empty e small =
    let w = writes v (from [] Nothing 0) r (subst (λ bs. visited single_step v (Some (from bs Nothing 0)) ≡ Some r) empty e) in
    let is : r.bytes ≡ bytes_all w.trees = ap (λ x. x.bytes) w.after in
    let few : length (bytes_all w.trees) < 2 ^ 32 = subst (λ bs. length bs < 2 ^ 32) is small in
    record { trees = w.trees; are = w.are; fit = record { each = fits_all w.trees few; total = omega (arith, few) }; bytes_are = is }
