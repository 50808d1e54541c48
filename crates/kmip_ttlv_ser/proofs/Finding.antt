-- The first pass: the events of a value lead to its first error, or to the lengths of its structures.
use Rattle.std.proofs.Common.{codes, ◌≡◌, ℕ, ◌+◌, ◌-◌, ◌<◌, ◌≤◌, ◌^◌, Bool, true, false, List, [], ◌∷◌, ◌++◌, length, Option, Some, None, Result, Ok, Err, ◌⊎◌}
use Rattle.std.proofs.Common.{inl, inr, if◌then◌else◌, nat_lt, refl, sym, ap, ◌∙◌, subst, arith, append_assoc, append-nil}
use Rattle.std.proofs.lemmas.{Bool.Decides.nat_tests, Bool.ltb-true, List.Concat.flat_map-append}
use Rattle.kmip_ttlv_types.specs.{declared.typ.TtlvType.TtlvType, ItemTypes.pad_len, Primitives.sign_extended}
use Rattle.kmip_ttlv_types.specs.Names.{tag_of, override_name, number, transparent_name}
use Rattle.kmip_ttlv_types.specs.Trees.{Tree, leaf, bytes_all}
use Rattle.kmip_ttlv_base.specs.Errors.{Kind, mismatch, invalid_variant, unsupported_rust_type}
use Rattle.kmip_ttlv_ser.specs.{declared.pending.PendingTag.PendingTag, declared.pending.Place.Place, Passes.Measured, Sizes.sizes, Sizes.sizes_all}
use Rattle.kmip_ttlv_ser.specs.declared.pending.PendingTag.TheVariants.{Nothing, Plain, Overriding}
use Rattle.kmip_ttlv_ser.specs.WrittenItems.{◌>>=◌, take_tag, one_leaf, one_node, pending_tag, left_over, some_item, pending_after, without_override}
use Rattle.kmip_ttlv_ser.specs.WrittenItems.{newtype_row, variant_row, enumeration, is_wrapper, items, items_in}
use Rattle.kmip_ttlv_ser.specs.Faults.{EncodeFault, fault_at, no_tag, tag_unused, name_kind, pending_len, inside, under_name, within, newtype_fault}
use Rattle.kmip_ttlv_ser.specs.Faults.{variant_fault, in_turn, place_after, fault, fault_in}
use Rattle.kmip_ttlv_ser.specs.Lengths.{IsLongContent, newtype_long, variant_long, Under, After, reach, HasLongLeaf, HaveLongLeaf, HasLongStructure}
use Rattle.kmip_ttlv_ser.specs.Lengths.{HaveLongStructure, content_start}
use Rattle.kmip_ttlv_ser.proofs.Measuring.{Sought, seek, Far, far_up, measured_leaf, measured_node, node_reach, whole_reach, far_content, wrapper_reach}
use Rattle.kmip_ttlv_ser.proofs.Leaves.{place_len, one_leaf_len, len_append, each_append}
use Rattle.std.specs.Int.{w32, to_be_bytes}
use Rattle.kmip_ttlv_types.specs.declared.typ.TtlvType.TheVariants.{Enumeration, BigInteger, TextString, ByteString}
use Rattle.kmip_ttlv_types.proofs.Padding.{length-sign_extended}
use Rattle.kmip_ttlv_base.specs.Values.{Value, text_value, bytes_value, big_integer_value, none_value as none, some_value as some, seq_value, struct_value}
use Rattle.kmip_ttlv_base.specs.Values.{newtype_value, unit_variant_value, newtype_variant_value, tuple_variant_value, unsupported_value, Values, no_values}
use Rattle.kmip_ttlv_base.specs.Values.{value}
use Rattle.kmip_ttlv_ser.proofs.Reaching.{fault_least, fault_in_least}
use Rattle.kmip_ttlv_base.specs.Visits.{a_some, a_seq, a_struct, a_newtype, a_newtype_variant, a_tuple_variant, ended, visited, visited_in}
use Rattle.kmip_ttlv_ser.specs.Measures.{after_number, after_unit, measure_step, Halt, too_long, halted, Going, from, under, begun_at, halt_before, after_leaf}
use Rattle.kmip_ttlv_ser.specs.Measures.{into, wrapped, into_newtype, into_variant, out_of, unwrapped, out_of_newtype, out_of_variant}
use Rattle.kmip_ttlv_ser.proofs.Parts.{some_same, followed, place_append, left_append}

-- ---- tests

choose : {T : Type 0} (b : Bool) (n m : ℕ) (x y : T) (P : T → Type 0) → nat_lt n m ≡ b → (n < m → P x) → (m ≤ n → P y) → P (if b then x else y)
choose true n m x y P e f g = let lt : n < m = grind (arith, nat_tests) in f lt
choose false n m x y P e f g = let le : m ≤ n = grind (arith, nat_tests) in g le

if_lt : {T : Type 0} (n m : ℕ) (x y : T) (P : T → Type 0) → (n < m → P x) → (m ≤ n → P y) → P (if nat_lt n m then x else y)
if_lt n m x y P f g = choose (nat_lt n m) n m x y P refl f g

-- ---- what it finds

pub record Found (o : Option (List Tree)) (g new : Going) : Type 0 where
  pub measured : Measured o g.place new.place g.sizes new.sizes
  pub pending_is : new.pending ≡ left_over g.pending measured.trees
  pub nest_is : new.nest ≡ g.nest

abbrev pub Finds : Sought → Going → Result Going Halt → Type 0
Finds x g (Ok new) = Found x.items g new
Finds x g (Err too_long) = Far x g.place.offset
Finds x g (Err (halted k n)) = (x.items ≡ None) × (x.stop ≡ record { kind = k; offset = n })

-- what there is to find of a value, and of values
abbrev pub sought : Value → PendingTag → Place → Sought
sought v w p = seek (HasLongLeaf v) (HasLongStructure v w) (items v w) (fault v w p)

abbrev sought_in : Values → PendingTag → Place → Sought
sought_in vs w p = seek (HaveLongLeaf vs) (HaveLongStructure vs w) (items_in vs w) (fault_in vs w p)

-- an error stays
abbrev Stays : (Result Going Halt → Result Going Halt) → Type 0
Stays run = (h : Halt) → run (Err h) ≡ Err h

abbrev next : (Going → Result Going Halt) → Result Going Halt → Result Going Halt
next f (Ok g) = f g
next f (Err h) = Err h

-- there are no items, and the error passes through what follows
stops : (x : Sought) (g : Going) (k : Kind) (n : ℕ) (run : Result Going Halt → Result Going Halt) → Stays run → x.items ≡ None
    → x.stop ≡ record { kind = k; offset = n } → Finds x g (run (halt_before k n))
stops x g k n run stays empty is =
    if_lt n (2 ^ 64) (Err (halted k n)) (Err too_long) (λ r. Finds x g (run r)) (λ _. subst (Finds x g) (sym (stays (halted k n))) (empty, is))
    (λ far. subst (Finds x g) (sym (stays too_long))
    (inr (inr (omega (arith, far, ap (λ o. reach o x.stop g.place.offset) empty, ap (λ f. f.offset) is)))))

-- ---- leaves

tagged_finds : (A S : Type 0) (f : EncodeFault) (t : ℕ) (typ : TtlvType) (c : List ℕ) (g : Going) → (2 ^ 32 ≤ length c → A)
    → Finds (seek A S (Some (leaf t typ c ∷ [])) f) g (after_leaf (Some t) (length c) g)
tagged_finds A S f t typ c g long =
    let x = seek A S (Some (leaf t typ c ∷ [])) f in
    if_lt (length c) (2 ^ 32) _ _ (Finds x g)
    (λ short. if_lt (g.place.offset + (8 + length c + pad_len (length c))) (2 ^ 64) _ _ (Finds x g)
    (λ small. let m = measured_leaf g.place t typ c g.sizes short small in
    record { measured = m; pending_is = ap (left_over g.pending) (some_same _ _ m.are); nest_is = refl })
    (λ far. inr (inr (omega (arith, far, one_leaf_len t typ c)))))
    (λ l. inl (long l))

leaf_finds : (A : Type 0) (w : PendingTag) (typ : TtlvType) (c : List ℕ) (g : Going) → (2 ^ 32 ≤ length c → A)
    → Finds (seek A ⊥ (one_leaf w typ c) (fault_at (no_tag g.place.opened) w g.place)) (under w g)
    (after_leaf (pending_tag w) (length c) (under w g))
leaf_finds A Nothing typ c g long = stops _ (under Nothing g) (no_tag g.place.opened) (g.place.offset + 0) (λ r. r) (λ h. refl) refl refl
leaf_finds A (Plain t) typ c g long = tagged_finds A ⊥ (fault_at (no_tag g.place.opened) (Plain t) g.place) t typ c (under (Plain t) g) long
leaf_finds A (Overriding t) typ c g long = tagged_finds A ⊥ (fault_at (no_tag g.place.opened) (Overriding t) g.place) t typ c (under (Overriding t) g) long

short_finds : (x : Sought) (typ : TtlvType) (c : List ℕ) (g : Going)
    → x ≡ seek ⊥ ⊥ (one_leaf g.pending typ c) (fault_at (no_tag g.place.opened) g.pending g.place)
    → nat_lt (length c) (2 ^ 32) ≡ true → Finds x g (after_leaf (pending_tag g.pending) (length c) g)
short_finds x typ c g is e = subst (λ y. Finds y g (after_leaf (pending_tag g.pending) (length c) g)) (sym is)
    (leaf_finds ⊥ g.pending typ c g (λ l. absurd (omega (arith, l, ltb-true (length c) (2 ^ 32) e))))

-- ---- structures

-- in a structure that begins
abbrev entered : Going → Going
entered g = from (inside g.place) Nothing (g.sizes ++ 0 ∷ []) (begun_at (length g.sizes) (g.place.offset + 8) ∷ g.nest)

-- a structure of what is sought, under a tag if there is one
abbrev structure : Option ℕ → List ℕ → Sought → EncodeFault → Going → Sought
structure k name x f0 g = seek x.leaf (Under k (λ _. IsLongContent x.items f0 ⊎ x.structure)) (k >>= λ t. one_node t x.items)
    (under_name k name g.pending g.place (λ _. x.stop))

-- a length in a structure's content is too long
content_far : (t : ℕ) (name : List ℕ) (x : Sought) (f0 : EncodeFault) (g : Going) → Far x (g.place.offset + 8)
    → Far (structure (Some t) name x f0 g) g.place.offset
content_far t name x f0 g long = far_up x (structure (Some t) name x f0 g) (g.place.offset + 8) g.place.offset (λ a. a) (λ s. inr s)
    (node_reach t x.items x.stop g.place.offset) long

ends_structure : (t : ℕ) (name : List ℕ) (x : Sought) (f0 : EncodeFault) (g : Going) (r : Result Going Halt) → Finds x (entered g) r
    → Finds (structure (Some t) name x f0 g) g (next (λ new. out_of new.nest new) r)
ends_structure t name x f0 g (Err too_long) long = content_far t name x f0 g long
ends_structure t name x f0 g (Err (halted k n)) h = (ap (one_node t) h.0, h.1)
ends_structure t name x f0 g (Ok new) found =
    let y = structure (Some t) name x f0 g in
    subst (λ os. Finds y g (out_of os new)) (sym found.nest_is)
    (if_lt (new.place.offset - (g.place.offset + 8)) (2 ^ 32) _ _ (Finds y g)
    (λ short. let m = measured_node t g.sizes found.measured short in
    record { measured = m; pending_is = ap (left_over g.pending) (some_same _ _ (ap (one_node t) (sym found.measured.are) ∙ m.are)); nest_is = refl })
    (λ long. inr (inl (inl (whole_reach f0 g.place found.measured long)))))

-- a structure: `run` is the events of its content
structure_at : (k : Option ℕ) (name : List ℕ) (x : Sought) (f0 : EncodeFault) (g : Going) (run : Result Going Halt → Result Going Halt) → Stays run
    → g.place.offset + 8 ≤ x.stop.offset → (g.place.offset + 8 < 2 ^ 64 → Finds x (entered g) (run (Ok (entered g))))
    → Finds (structure k name x f0 g) g (next (λ new. out_of new.nest new) (run (into k name g)))
structure_at None name x f0 g run stays least ih =
    stops _ g (name_kind (tag_of name) name) (g.place.offset + pending_len g.pending) (λ r. next (λ new. out_of new.nest new) (run r))
    (λ h. ap (next (λ new. out_of new.nest new)) (stays h)) refl refl
structure_at (Some t) name x f0 g run stays least ih =
    let y = structure (Some t) name x f0 g in
    if_lt (g.place.offset + 8) (2 ^ 64) (Ok (entered g)) (Err too_long) (λ r. Finds y g (next (λ new. out_of new.nest new) (run r)))
    (λ small. ends_structure t name x f0 g (run (Ok (entered g))) (ih small))
    (λ far. subst (λ r. Finds y g (next (λ new. out_of new.nest new) r)) (sym (stays too_long))
    (content_far t name x f0 g (inr (inr (omega (arith, far, far_content x.items x.stop (g.place.offset + 8) least))))))

-- ---- wrappers

-- what is sought, as the content of a wrapper
abbrev wrapper : Sought → Place → Sought
wrapper x p = seek x.leaf x.structure (x.items >>= some_item) (within x.items p x.stop)

-- this tag must be used before its wrapper ends
abbrev Waits : PendingTag → Type 0
Waits u = (g : Going) → unwrapped u g ≡ halt_before tag_unused (g.place.offset + 3)

closes_wrapper : (x : Sought) (g : Going) (u : PendingTag) (new : Going) (ts : List Tree) → Waits u → (found : Found x.items (under u g) new)
    → found.measured.trees ≡ ts → Finds (wrapper x g.place) g (unwrapped (left_over u ts) new)
unfolding some_item
closes_wrapper x g u new [] waits found is =
    let m = found.measured in
    let here : new.place.offset ≡ g.place.offset = omega (arith, place_len g.place new.place m.trees m.reached, ap (λ us. length (bytes_all us)) is) in
    subst (Finds (wrapper x g.place) g) (sym (waits new))
    (stops (wrapper x g.place) g tag_unused (new.place.offset + 3) (λ r. r) (λ h. refl) (ap (λ o. o >>= some_item) (m.are ∙ ap Some is))
    (ap (λ o. within o g.place x.stop) m.are ∙ ap (λ n. let f : EncodeFault = record { kind = tag_unused; offset = n + 3 } in f) (sym here)))
closes_wrapper x g u new (t ∷ ts) waits found is =
    let m = found.measured in
    let are = ap (λ o. o >>= some_item) (m.are ∙ ap Some is) ∙ ap Some (sym is) in
    let left = found.pending_is ∙ ap (left_over u) is ∙ sym (ap (left_over g.pending) is) in
    let kept : Measured (x.items >>= some_item) g.place new.place g.sizes new.sizes =
    record { trees = m.trees; are = are; each = m.each; reached = m.reached; small = m.small; kept = m.kept } in
    record { measured = kept; pending_is = left; nest_is = found.nest_is }

ends_wrapper : (x : Sought) (g : Going) (u : PendingTag) (r : Result Going Halt) → Waits u → Finds x (under u g) r
    → Finds (wrapper x g.place) g (next (λ new. unwrapped new.pending new) r)
ends_wrapper x g u (Err too_long) waits long =
    far_up x (wrapper x g.place) g.place.offset g.place.offset (λ a. a) (λ s. s) (wrapper_reach x.items x.stop g.place) long
ends_wrapper x g u (Err (halted k n)) waits h = (ap (λ o. o >>= some_item) h.0, ap (λ o. within o g.place x.stop) h.0 ∙ h.1)
ends_wrapper x g u (Ok new) waits found = subst (λ w. Finds (wrapper x g.place) g (unwrapped w new)) (sym found.pending_is)
    (closes_wrapper x g u new found.measured.trees waits found refl)

-- an error passes through the events of a value, and of values
mutual
  stays : (v : Value) → Stays (visited measure_step v)
  stays (some v) h = ap (measure_step (ended a_some)) (stays v h)
  stays (seq_value vs) h = ap (measure_step (ended a_seq)) (stays_in vs h)
  stays (struct_value name vs) h = ap (measure_step (ended (a_struct name))) (stays_in vs h)
  stays (newtype_value name v) h = ap (measure_step (ended (a_newtype name))) (stays v h)
  stays (newtype_variant_value name vname v) h = ap (measure_step (ended (a_newtype_variant name vname))) (stays v h)
  stays (tuple_variant_value name vname vs) h = ap (measure_step (ended (a_tuple_variant name vname))) (stays_in vs h)
  stays _ h = refl

  stays_in : (vs : Values) → Stays (visited_in measure_step vs)
  stays_in no_values h = refl
  stays_in (value v vs) h = ap (visited_in measure_step vs) (stays v h) ∙ stays_in vs h

-- the events of a value, and of values, from any state
abbrev FindsAll : Value → Type 0
FindsAll v = (g : Going) → g.place.offset < 2 ^ 64 → Finds (sought v g.pending g.place) g (visited measure_step v (Ok g))

abbrev FindsAllIn : Values → Type 0
FindsAllIn vs = (g : Going) → g.place.offset < 2 ^ 64 → Finds (sought_in vs g.pending g.place) g (visited_in measure_step vs (Ok g))

wrapper_at : (v : Value) (k : Option ℕ) (name : List ℕ) (hold : ℕ → PendingTag) (g : Going) → ((t : ℕ) → Waits (hold t)) → g.place.offset < 2 ^ 64
    → FindsAll v → Finds (seek (HasLongLeaf v) (Under k (λ t. HasLongStructure v (hold t))) (k >>= λ t. items v (hold t) >>= some_item)
    (under_name k name g.pending g.place (λ t. within (items v (hold t)) g.place (fault v (hold t) g.place)))) g
    (next (λ new. unwrapped new.pending new) (visited measure_step v (wrapped k name hold g)))
wrapper_at v None name hold g waits small ih = stops _ g (name_kind (tag_of name) name) (g.place.offset + pending_len g.pending)
    (λ r. next (λ new. unwrapped new.pending new) (visited measure_step v r)) (λ h. ap (next (λ new. unwrapped new.pending new)) (stays v h)) refl refl
wrapper_at v (Some t) name hold g waits small ih =
    ends_wrapper (sought v (hold t) g.place) g (hold t) (visited measure_step v (Ok (under (hold t) g))) (waits t) (ih (under (hold t) g) small)

newtype_at : (v : Value) (b : Option (List ℕ)) (name : List ℕ) (g : Going) → g.place.offset < 2 ^ 64 → FindsAll v
    → Finds (seek (HasLongLeaf v) (newtype_long b name g.pending (IsLongContent (items v Nothing) (fault v Nothing content_start)) (HasLongStructure v))
    (newtype_row b name g.pending (items v)) (newtype_fault b name g.pending g.place (items v) (fault v))) g
    (next (out_of_newtype b) (visited measure_step v (into_newtype b name g)))
newtype_at v None name g small ih = structure_at (take_tag g.pending name) name (sought v Nothing (inside g.place)) (fault v Nothing content_start) g
    (visited measure_step v) (stays v) (fault_least v Nothing (inside g.place)) (ih (entered g))
newtype_at v (Some n) name g small ih = wrapper_at v (take_tag g.pending n) n Plain g (λ t new. refl) small ih

over_waits : (w : PendingTag) (name : List ℕ) (t : ℕ) → Waits (pending_after w name t)
unfolding pending_after
over_waits Nothing name t g = some_over (override_name name)
  where
    some_over : (o : Option (List ℕ)) → unwrapped (elim o [ None ↦ Plain t | Some rest ↦ Overriding t ]) g ≡ halt_before tag_unused (g.place.offset + 3)
    some_over None = refl
    some_over (Some rest) = refl
over_waits _ name t g = refl

variant_at : (v : Value) (b : Bool) (name : List ℕ) (g : Going) → g.place.offset < 2 ^ 64 → FindsAll v
    → Finds (seek (HasLongLeaf v) (variant_long b name g.pending (IsLongContent (items v Nothing) (fault v Nothing content_start)) (HasLongStructure v))
    (variant_row b name g.pending (items v)) (variant_fault b name g.pending g.place (items v) (fault v))) g
    (next (out_of_variant b) (visited measure_step v (into_variant b name g)))
variant_at v true name g small ih = let n = without_override name in
    wrapper_at v (take_tag g.pending n) n (pending_after g.pending name) g (over_waits g.pending name) small ih
variant_at v false name g small ih = let n = without_override (without_override name) in
    structure_at (take_tag g.pending n) n (sought v Nothing (inside g.place)) (fault v Nothing content_start) g
    (visited measure_step v) (stays v) (fault_least v Nothing (inside g.place)) (ih (entered g))

-- ---- a unit variant

number_at : (k : Option ℕ) (vname : List ℕ) (t : ℕ) (g : Going) → Finds (seek ⊥ ⊥ (k >>= λ n. one_leaf (Plain t) Enumeration (to_be_bytes w32 n))
    (fault_at (mismatch (invalid_variant vname)) (Plain t) g.place)) g (after_number k vname (under (Plain t) g))
number_at None vname t g = stops _ g (mismatch (invalid_variant vname)) (g.place.offset + 3) (λ r. r) (λ h. refl) refl refl
number_at (Some n) vname t g =
    tagged_finds ⊥ ⊥ (fault_at (mismatch (invalid_variant vname)) (Plain t) g.place) t Enumeration (to_be_bytes w32 n) g (λ l. absurd (omega (arith, l)))

unit_at : (k : Option ℕ) (name vname : List ℕ) (g : Going) → Finds (seek ⊥ ⊥ (k >>= λ t. enumeration t vname)
    (under_name k name g.pending g.place (λ t. fault_at (mismatch (invalid_variant vname)) (Plain t) g.place))) g (after_unit k name vname g)
unfolding enumeration
unit_at None name vname g = stops _ g (name_kind (tag_of name) name) (g.place.offset + pending_len g.pending) (λ r. r) (λ h. refl) refl refl
unit_at (Some t) name vname g = number_at (number vname) vname t g

-- ---- values one after the other

first_reach : (o : Option (List Tree)) (later : List Tree → Option (List Tree)) (here : EncodeFault) (stop : List Tree → EncodeFault) (p : Place)
    → ((ts : List Tree) → (place_after p ts).offset ≤ (stop ts).offset) → reach o here p.offset ≤ reach (followed o later) (in_turn o here stop) p.offset
unfolding place_after
first_reach None later here stop p h = omega arith
first_reach (Some ts) later here stop p h = rest (later ts)
  where
    rest : (o : Option (List Tree)) → p.offset + length (bytes_all ts) ≤ reach (o >>= λ r. Some (ts ++ r)) (stop ts) p.offset
    rest None = h ts
    rest (Some r) = omega (arith, len_append ts r)

later_reach : (o : Option (List Tree)) (ts : List Tree) (f : EncodeFault) (n : ℕ)
    → reach o f (n + length (bytes_all ts)) ≤ reach (o >>= λ r. Some (ts ++ r)) f n
later_reach None ts f n = omega arith
later_reach (Some r) ts f n = omega (arith, len_append ts r)

-- what is sought first, and then these values
abbrev turn : Sought → Values → Going → Sought
turn x vs g = seek (x.leaf ⊎ HaveLongLeaf vs) (x.structure ⊎ After x.items (λ ts. HaveLongStructure vs (left_over g.pending ts)))
    (followed x.items (λ ts. items_in vs (left_over g.pending ts)))
    (in_turn x.items x.stop (λ ts. fault_in vs (left_over g.pending ts) (place_after g.place ts)))

-- what is sought behind items of the first
abbrev behind : Sought → Sought → List Tree → Sought
behind x y ts = seek (x.leaf ⊎ y.leaf) (x.structure ⊎ y.structure) (y.items >>= λ r. Some (ts ++ r)) y.stop

later_finds : (x y : Sought) (g new : Going) (first : Found x.items g new) (r : Result Going Halt) → Finds y new r
    → Finds (behind x y first.measured.trees) g r
later_finds x y g new first (Err too_long) long =
    let m = first.measured in
    far_up y (behind x y m.trees) new.place.offset g.place.offset (λ a. inr a) (λ s. inr s)
    (omega (arith, ap (λ n. reach y.items y.stop n) (place_len g.place new.place m.trees m.reached), later_reach y.items m.trees y.stop g.place.offset)) long
later_finds x y g new first (Err (halted k n)) h = (ap (λ o. o >>= λ r. Some (first.measured.trees ++ r)) h.0, h.1)
later_finds x y g new first (Ok end) found =
    let f = first.measured in
    let m = found.measured in
    record {
      measured = record {
        trees = f.trees ++ m.trees;
        are = ap (λ o. o >>= λ r. Some (f.trees ++ r)) m.are;
        each = each_append f.trees m.trees f.each m.each;
        reached = m.reached ∙ ap (λ z. place_after z m.trees) f.reached ∙ sym (place_append g.place f.trees m.trees);
        small = m.small;
        kept = m.kept ∙ ap (λ zs. zs ++ sizes_all m.trees) f.kept ∙ append_assoc g.sizes (sizes_all f.trees) (sizes_all m.trees)
            ∙ ap (λ zs. g.sizes ++ zs) (sym (flat_map-append sizes f.trees m.trees));
      };
      pending_is = found.pending_is ∙ ap (λ w. left_over w m.trees) first.pending_is ∙ left_append g.pending f.trees m.trees;
      nest_is = found.nest_is ∙ first.nest_is;
    }

first_then : (x : Sought) (vs : Values) (g : Going) (r : Result Going Halt) → FindsAllIn vs → Finds x g r
    → Finds (turn x vs g) g (visited_in measure_step vs r)
first_then x vs g (Err too_long) ih long =
    subst (Finds (turn x vs g) g) (sym (stays_in vs too_long)) (far_up x (turn x vs g) g.place.offset g.place.offset (λ a. inl a) (λ s. inl s)
    (first_reach x.items (λ ts. items_in vs (left_over g.pending ts)) x.stop (λ ts. fault_in vs (left_over g.pending ts) (place_after g.place ts)) g.place
    (λ ts. fault_in_least vs (left_over g.pending ts) (place_after g.place ts))) long)
first_then x vs g (Err (halted k n)) ih h =
    let none = ap (λ o. followed o (λ ts. items_in vs (left_over g.pending ts))) h.0 in
    let stop = ap (λ o. in_turn o x.stop (λ ts. fault_in vs (left_over g.pending ts) (place_after g.place ts))) h.0 ∙ h.1 in
    subst (Finds (turn x vs g) g) (sym (stays_in vs (halted k n))) (none, stop)
first_then x vs g (Ok new) ih first =
    let m = first.measured in
    let r = visited_in measure_step vs (Ok new) in
    subst (λ o. Finds (turn (record x { items = o }) vs g) g r) (sym m.are)
    (subst (λ w. Finds (behind x (sought_in vs w (place_after g.place m.trees)) m.trees) g r) first.pending_is
    (subst (λ q. Finds (behind x (sought_in vs new.pending q) m.trees) g r) m.reached
    (later_finds x (sought_in vs new.pending new.place) g new first r (ih new m.small))))

-- ---- the whole

place_nil : (p : Place) → p ≡ place_after p []
unfolding place_after
place_nil p = ap (λ n. let x : Place = record { offset = n; opened = p.opened } in x) (omega arith)

ends_group : (r : Result Going Halt) → r ≡ next Ok r
ends_group (Ok g) = refl
ends_group (Err h) = refl

mutual
  pub finds : (v : Value) → FindsAll v
  finds (text_value s) g small = leaf_finds (2 ^ 32 ≤ length s) g.pending TextString s g (λ l. l)
  finds (bytes_value s) g small = leaf_finds (2 ^ 32 ≤ length s) g.pending ByteString s g (λ l. l)
  finds (big_integer_value s) g small =
      subst (λ n. Finds (sought (big_integer_value s) g.pending g.place) g (after_leaf (pending_tag g.pending) n g)) (omega (arith, length-sign_extended s))
      (leaf_finds (2 ^ 32 ≤ length (sign_extended s)) g.pending BigInteger (sign_extended s) g (λ l. l))
  finds none g small = stops _ g (mismatch (unsupported_rust_type (codes "None"))) (g.place.offset + pending_len g.pending) (λ r. r) (λ h. refl) refl refl
  finds (some v) g small = subst (Finds (sought v g.pending g.place) g) (ends_group (visited measure_step v (Ok g))) (finds v g small)
  finds (seq_value vs) g small = subst (Finds (sought_in vs g.pending g.place) g) (ends_group (visited_in measure_step vs (Ok g))) (finds_in vs g small)
  finds (struct_value name vs) g small = structure_at (take_tag g.pending name) name (sought_in vs Nothing (inside g.place)) (fault_in vs Nothing content_start)
      g (visited_in measure_step vs) (stays_in vs) (fault_in_least vs Nothing (inside g.place)) (finds_in vs (entered g))
  finds (newtype_value name v) g small = newtype_at v (transparent_name name) name g small (finds v)
  finds (unit_variant_value name vname) g small = unit_at (take_tag g.pending name) name vname g
  finds (newtype_variant_value name vname v) g small = variant_at v (is_wrapper vname) name g small (finds v)
  finds (tuple_variant_value name vname vs) g small = let n = without_override name in
      structure_at (take_tag g.pending n) n (sought_in vs Nothing (inside g.place)) (fault_in vs Nothing content_start) g
      (visited_in measure_step vs) (stays_in vs) (fault_in_least vs Nothing (inside g.place)) (finds_in vs (entered g))
  finds (unsupported_value name) g small =
      stops _ g (mismatch (unsupported_rust_type name)) (g.place.offset + pending_len g.pending) (λ r. r) (λ h. refl) refl refl
  finds v g small = short_finds (sought v g.pending g.place) _ _ g refl refl

  finds_in : (vs : Values) → FindsAllIn vs
  finds_in no_values g small =
      let none : Measured (Some []) g.place g.place g.sizes g.sizes =
      record { trees = []; are = refl; each = tt; reached = place_nil g.place; small = small; kept = sym (append-nil g.sizes) } in
      record { measured = none; pending_is = refl; nest_is = refl }
  finds_in (value v vs) g small = first_then (sought v g.pending g.place) vs g (visited measure_step v (Ok g)) (finds_in vs) (finds v g small)
