-- The second pass: the events of a value that has items write their bytes.
use Rattle.std.proofs.Common.{◌≡◌, ℕ, ◌+◌, Bool, true, false, List, [], ◌∷◌, ◌++◌, length, replicate, Option, Some, None, refl, sym, ap, ◌∙◌, subst}
use Rattle.std.proofs.Common.{append_assoc, append-nil, arith}
use Rattle.kmip_ttlv_types.specs.{declared.typ.TtlvType.TtlvType, ItemTypes.pad_len, Items.header, Names.number, Names.transparent_name, Primitives.sign_byte}
use Rattle.kmip_ttlv_types.specs.{Primitives.sign_extended}
use Rattle.kmip_ttlv_types.specs.declared.typ.TtlvType.TheVariants.{Structure, Enumeration, BigInteger}
use Rattle.std.specs.Int.{w32, to_be_bytes}
use Rattle.kmip_ttlv_types.specs.Trees.{Tree, leaf, node, trees_of, leaf_bytes, node_bytes, bytes_all}
use Rattle.kmip_ttlv_base.specs.Values.{Value, none_value as none, some_value as some, seq_value, struct_value, newtype_value, unit_variant_value}
use Rattle.kmip_ttlv_base.specs.Values.{newtype_variant_value, tuple_variant_value, unsupported_value, Values, no_values, value}
use Rattle.kmip_ttlv_ser.specs.declared.pending.PendingTag.{PendingTag, TheVariants.Nothing, TheVariants.Plain}
use Rattle.kmip_ttlv_ser.specs.WrittenItems.{◌>>=◌, is_wrapper, without_override, pending_after, take_tag, one_leaf, one_node, pending_tag, some_item}
use Rattle.kmip_ttlv_ser.specs.WrittenItems.{left_over, enumeration, newtype_row, variant_row, items, items_in}
use Rattle.kmip_ttlv_types.proofs.Padding.{length-sign_extended}
use Rattle.kmip_ttlv_ser.specs.declared.emitter.Emitter.{Emitter}
use Rattle.kmip_ttlv_ser.specs.Sizes.{sizes, sizes_below, sizes_all}
use Rattle.kmip_ttlv_ser.proofs.Leaves.{below_is, bytes_append, sizes_below_is}
use Rattle.kmip_ttlv_ser.proofs.Parts.{some_same, unwrap, nothing_left, left_append, split_of}
use Rattle.std.proofs.lemmas.List.Concat.{flat_map-append}
use Rattle.kmip_ttlv_base.specs.Visits.{visited, visited_in}
use Rattle.kmip_ttlv_ser.specs.Emits.{Written, HasWritten, state, wrote, header_of, began, waits, began_newtype, began_variant, emit_step}

wrote_some : {S : Type 0} (st : S) (o : Option (List Tree)) (w : PendingTag) (ts : List Tree) (old plan rest : List ℕ) → o ≡ Some ts → plan ≡ rest
    → wrote o (state st old plan w) ≡ state st (old ++ bytes_all ts) rest (left_over w ts)
wrote_some st o w ts old plan rest e p = rw (e, p) refl

leaf_sizes : (o : Option ℕ) (typ : TtlvType) (c : List ℕ) (ts : List Tree) → (o >>= λ t. Some (leaf t typ c ∷ [])) ≡ Some ts → sizes_all ts ≡ []
leaf_sizes None typ c ts e = let k : None ≡ Some ts = e in absurd cc
leaf_sizes (Some t) typ c ts e = ap sizes_all (sym (some_same (leaf t typ c ∷ []) ts e))

unit_sizes : (o : Option ℕ) (vname : List ℕ) (ts : List Tree) → (o >>= λ t. enumeration t vname) ≡ Some ts → sizes_all ts ≡ []
unfolding enumeration
unit_sizes None vname ts e = let k : None ≡ Some ts = e in absurd cc
unit_sizes (Some t) vname ts e = number_sizes (number vname) e
  where
    number_sizes : (o : Option ℕ) → (o >>= λ n. one_leaf (Plain t) Enumeration (to_be_bytes w32 n)) ≡ Some ts → sizes_all ts ≡ []
    number_sizes None e = let k : None ≡ Some ts = e in absurd cc
    number_sizes (Some n) e = leaf_sizes (Some t) Enumeration (to_be_bytes w32 n) ts e

node_plan : (t : ℕ) (us : List Tree) (rest : List ℕ) → sizes_all (node t (trees_of us) ∷ []) ++ rest ≡ length (bytes_all us) ∷ (sizes_all us ++ rest)
node_plan t us rest = ap (λ ns. ns ++ rest) (append-nil (sizes (node t (trees_of us)))) ∙ ap (λ bs. length bs ∷ (sizes_below (trees_of us) ++ rest))
    (below_is us) ∙ ap (λ ns. length (bytes_all us) ∷ (ns ++ rest)) (sizes_below_is us)

pub node_bytes_are : (t : ℕ) (us : List Tree) (old : List ℕ) → (old ++ header t Structure (length (bytes_all us))) ++ bytes_all us ≡ old ++ bytes_all
    (node t (trees_of us) ∷ [])
unfolding node_bytes
node_bytes_are t us old = rw (below_is us, append-nil (bytes_all us)) (simp append_assoc)

-- this writes the bytes of these items, whatever was written before, and leaves whatever plan follows
abbrev pub Does : {S : Type 0} → (Written S → Written S) → PendingTag → Option (List Tree) → Type 0
Does {S = S} k w o = (st : S) (ts : List Tree) (old plan rest : List ℕ) → o ≡ Some ts → plan ≡ sizes_all ts ++ rest
    → k (state st old plan w) ≡ state st (old ++ bytes_all ts) rest (left_over w ts)

leaf_does : {S : Type 0} (w : PendingTag) (typ : TtlvType) (c : List ℕ) → Does {S = S} (λ s. wrote (one_leaf s.pending typ c) s) w (one_leaf w typ c)
leaf_does w typ c st ts old plan rest e p = wrote_some st (one_leaf w typ c) w ts old plan rest e
    (p ∙ ap (λ ns. ns ++ rest) (leaf_sizes (pending_tag w) typ c ts e))

structure_does : {S : Type 0} (o : Option ℕ) (below : Option (List Tree)) (k : Written S → Written S) (w : PendingTag) → Does k Nothing below
    → Does (λ s. k (began o s)) w (o >>= λ t. one_node t below)
structure_does (Some t) (Some us) k w ih st ts old plan rest e p =
    let same : ts ≡ node t (trees_of us) ∷ [] = sym (some_same (node t (trees_of us) ∷ []) ts e) in
    let starts : plan ≡ length (bytes_all us) ∷ (sizes_all us ++ rest) = p ∙ ap (λ vs. sizes_all vs ++ rest) same ∙ node_plan t us rest in
    ap (λ ns. k (header_of t ns (state st old ns w))) starts
    ∙ ih st us (old ++ header t Structure (length (bytes_all us))) (sizes_all us ++ rest) rest refl refl
    ∙ ap (λ bs. state st bs rest (left_over Nothing us)) (node_bytes_are t us old)
    ∙ ap (λ h. state st (old ++ bytes_all (node t (trees_of us) ∷ [])) rest h) (nothing_left us)
    ∙ ap (λ vs. state st (old ++ bytes_all vs) rest (left_over w vs)) (sym same)
structure_does _ _ k w ih st ts old plan rest e p = let n : None ≡ Some ts = e in absurd cc

some_left : (o : Option (List Tree)) (ts : List Tree) (u w : PendingTag) → (o >>= some_item) ≡ Some ts → left_over u ts ≡ left_over w ts
unfolding some_item
some_left (Some (x ∷ xs)) ts u w e = let same : x ∷ xs ≡ ts = some_same (x ∷ xs) ts e in ap (left_over u) (sym same) ∙ ap (left_over w) same
some_left _ ts u w e = let n : None ≡ Some ts = e in absurd cc

wrapper_does : {S : Type 0} (o : Option ℕ) (f : ℕ → PendingTag) (inside : PendingTag → Option (List Tree)) (k : Written S → Written S) (w : PendingTag)
    → ((u : PendingTag) → Does k u (inside u)) → Does (λ s. k (waits o f s)) w (o >>= λ t. inside (f t) >>= some_item)
wrapper_does None f inside k w ih st ts old plan rest e p = let n : None ≡ Some ts = e in absurd cc
wrapper_does (Some t) f inside k w ih st ts old plan rest e p =
    ih (f t) st ts old plan rest (unwrap (inside (f t)) ts e) p
    ∙ ap (λ h. state st (old ++ bytes_all ts) rest h) (some_left (inside (f t)) ts (f t) w e)

newtype_does : {S : Type 0} (r : Option (List ℕ)) (name : List ℕ) (inside : PendingTag → Option (List Tree)) (k : Written S → Written S) (w : PendingTag)
    → ((u : PendingTag) → Does k u (inside u)) → Does (λ s. k (began_newtype r name s)) w (newtype_row r name w inside)
newtype_does None name inside k w ih = structure_does (take_tag w name) (inside Nothing) k w (ih Nothing)
newtype_does (Some n) name inside k w ih = wrapper_does (take_tag w n) Plain inside k w ih

variant_does : {S : Type 0} (b : Bool) (name : List ℕ) (inside : PendingTag → Option (List Tree)) (k : Written S → Written S) (w : PendingTag)
    → ((u : PendingTag) → Does k u (inside u)) → Does (λ s. k (began_variant b name s)) w (variant_row b name w inside)
variant_does true name inside k w ih = wrapper_does (take_tag w (without_override name)) (pending_after w name) inside k w ih
variant_does false name inside k w ih = structure_does (take_tag w (without_override (without_override name))) (inside Nothing) k w (ih Nothing)

mutual
  pub emits : {S : Type 0} (v : Value) (w : PendingTag) → Does {S = S} (visited emit_step v) w (items v w)
  emits none w = λ st ts old plan rest e p. let n : None ≡ Some ts = e in absurd cc
  emits (some v) w = emits v w
  emits (seq_value vs) w = emits_in vs w
  emits (struct_value name vs) w = structure_does (take_tag w name) (items_in vs Nothing) (visited_in emit_step vs) w (emits_in vs Nothing)
  emits (newtype_value name v) w = newtype_does (transparent_name name) name (items v) (visited emit_step v) w (emits v)
  emits (unit_variant_value name vname) w = λ st ts old plan rest e p. wrote_some st (items (unit_variant_value name vname) w) w ts old plan rest e
      (p ∙ ap (λ ns. ns ++ rest) (unit_sizes (take_tag w name) vname ts e))
  emits (newtype_variant_value name vname v) w = variant_does (is_wrapper vname) name (items v) (visited emit_step v) w (emits v)
  emits (tuple_variant_value name vname vs) w =
      structure_does (take_tag w (without_override name)) (items_in vs Nothing) (visited_in emit_step vs) w (emits_in vs Nothing)
  emits (unsupported_value name) w = λ st ts old plan rest e p. let n : None ≡ Some ts = e in absurd cc
  emits _ w = leaf_does w _ _

  pub emits_in : {S : Type 0} (vs : Values) (w : PendingTag) → Does {S = S} (visited_in emit_step vs) w (items_in vs w)
  emits_in no_values w st ts old plan rest e p =
      let same : [] ≡ ts = some_same [] ts e in
      ap (λ ns. state st old ns w) (p ∙ ap (λ us. sizes_all us ++ rest) (sym same)) ∙ ap (λ bs. state st bs rest w) (sym (append-nil old))
      ∙ ap (λ us. state st (old ++ bytes_all us) rest (left_over w us)) same
  emits_in (value v vs) w st ts old plan rest e p =
      let h = split_of (items v w) (λ front. items_in vs (left_over w front)) ts e in
      let starts : plan ≡ sizes_all h.here ++ (sizes_all h.after ++ rest) = p ∙ ap (λ us. sizes_all us ++ rest) h.joined
      ∙ ap (λ ns. ns ++ rest) (flat_map-append sizes h.here h.after) ∙ append_assoc (sizes_all h.here) (sizes_all h.after) rest in
      ap (visited_in emit_step vs) (emits v w st h.here old plan (sizes_all h.after ++ rest) h.first_is starts)
      ∙ emits_in vs (left_over w h.here) st h.after (old ++ bytes_all h.here) (sizes_all h.after ++ rest) rest h.later_is refl
      ∙ ap (λ bs. state st bs rest (left_over (left_over w h.here) h.after)) (append_assoc old (bytes_all h.here) (bytes_all h.after)
      ∙ ap (λ bs. old ++ bs) (sym (bytes_append h.here h.after)))
      ∙ ap (λ u. state st (old ++ bytes_all (h.here ++ h.after)) rest u) (left_append w h.here h.after)
      ∙ ap (λ us. state st (old ++ bytes_all us) rest (left_over w us)) (sym h.joined)

-- ---- what the functions write

pub leaf_bytes_are : (t : ℕ) (typ : TtlvType) (c old pad : List ℕ) → pad ≡ replicate (pad_len (length c)) 0
    → ((old ++ header t typ (length c)) ++ c) ++ pad ≡ old ++ bytes_all (leaf t typ c ∷ [])
unfolding leaf_bytes
leaf_bytes_are t typ c old pad is = rw is (simp (append_assoc, append-nil))

no_more : (n : ℕ) → pad_len (pad_len n + n) ≡ 0
no_more n = omega arith

-- a sign-extended big integer needs no padding
pub big_integer_bytes_are : (t : ℕ) (bs old : List ℕ) (n : ℕ) → n ≡ pad_len (length bs)
    → ((old ++ header t BigInteger (n + length bs)) ++ replicate n (sign_byte bs)) ++ bs ≡ old ++ bytes_all (leaf t BigInteger (sign_extended bs) ∷ [])
unfolding sign_extended
big_integer_bytes_are t bs old n len =
    let c = sign_extended bs in
    let full : length c ≡ n + length bs = omega (arith, length-sign_extended bs, len) in
    let more : pad_len (length c) ≡ 0 = ap pad_len (length-sign_extended bs) ∙ no_more (length bs) in
    ap (λ k. ((old ++ header t BigInteger k) ++ replicate n (sign_byte bs)) ++ bs) (sym full)
    ∙ ap (λ k. ((old ++ header t BigInteger (length c)) ++ replicate k (sign_byte bs)) ++ bs) len
    ∙ append_assoc (old ++ header t BigInteger (length c)) (replicate (pad_len (length bs)) (sign_byte bs)) bs
    ∙ sym (append-nil ((old ++ header t BigInteger (length c)) ++ c))
    ∙ leaf_bytes_are t BigInteger c old [] (sym (ap (λ k. replicate k 0) more))

pub wrote_leaf : {S O : Type 0} {given : S → List ℕ → O → Type 0} {old e : Emitter O} {s : Written S} {t : ℕ} (typ : TtlvType) (c : List ℕ) {bytes : List ℕ}
    → HasWritten given old s → pending_tag old.pending ≡ Some t → bytes ≡ s.bytes ++ bytes_all (leaf t typ c ∷ []) → given s.start bytes e.out
    → e.plan.now ≡ old.plan.now → e.pending ≡ Nothing → HasWritten given e (wrote (one_leaf s.pending typ c) s)
wrote_leaf {given = given} {old} {e} {s} {t} typ c h tag are gave plan pending =
    let is : one_leaf s.pending typ c ≡ Some (leaf t typ c ∷ []) = rw (h.pending_is, tag) refl in
    subst (λ k. HasWritten given e (wrote k s)) (sym is)
    record { gave = subst (λ bs. given s.start bs e.out) are gave; plan_is = h.plan_is ∙ sym plan; pending_is = sym pending }

-- the items of a unit variant, under the tag that its name gave
pub unit_items : (name vname : List ℕ) {w v : PendingTag} (t : ℕ) {o : Option ℕ} → w ≡ v → take_tag v name ≡ Some t → number vname ≡ o
    → items (unit_variant_value name vname) w ≡ (o >>= λ n. one_leaf (Plain t) Enumeration (to_be_bytes w32 n))
unfolding enumeration
unit_items name vname t same is number_is = rw (same, is, number_is) refl

pub wrote_unit : {S O : Type 0} {given : S → List ℕ → O → Type 0} {old e : Emitter O} {s : Written S} (name vname : List ℕ) (t n : ℕ) → HasWritten given old s
    → take_tag old.pending name ≡ Some t → number vname ≡ Some n
    → HasWritten given e (wrote (one_leaf (Plain t) Enumeration (to_be_bytes w32 n)) (state s.start s.bytes s.plan (Plain t)))
    → HasWritten given e (wrote (items (unit_variant_value name vname) s.pending) s)
wrote_unit {given = given} {e = e} {s} name vname t n h is number_is leaf_written =
    subst (λ k. HasWritten given e (wrote k s)) (sym (unit_items name vname t h.pending_is is number_is)) leaf_written

pub wrote_no_unit : {S O : Type 0} {given : S → List ℕ → O → Type 0} {e : Emitter O} {s : Written S} (name vname : List ℕ) (t : ℕ) → HasWritten given e s
    → take_tag e.pending name ≡ Some t → number vname ≡ None → HasWritten given e (wrote (items (unit_variant_value name vname) s.pending) s)
wrote_no_unit {given = given} {e} {s} name vname t h is none_is =
    subst (λ k. HasWritten given e (wrote k s)) (sym (unit_items name vname t h.pending_is is none_is)) h

-- after all events of a value its bytes were written
pub all_given : {S O : Type 0} (given : S → List ℕ → O → Type 0) (v : Value) {ts : List Tree} {start : S} {plan : List ℕ} {old : Emitter O} (new : Emitter O)
    → items v Nothing ≡ Some ts → plan ≡ sizes_all ts → given start [] old.out → old.plan.now ≡ plan → old.pending ≡ Nothing
    → ((s : Written S) → HasWritten given old s → HasWritten given new (visited emit_step v s)) → given start (bytes_all ts) new.out
all_given {S = S} given v {ts} {start} {plan} new are planned empty plan_is pending received =
    let ends = received (state start [] plan Nothing) record { gave = empty; plan_is = sym plan_is; pending_is = sym pending } in
    let is = emits v Nothing start ts [] plan [] are (planned ∙ sym (append-nil (sizes_all ts))) in
    subst (λ (s : Written S). given s.start s.bytes new.out) is ends.gave
