-- From what the first pass returns to what the calls return.
use Rattle.std.proofs.Common.{◌≡◌, ℕ, ◌≤◌, ◌^◌, Bool, true, false, List, [], ◌∷◌, ◌++◌, length, Option, Some, None, Result, Ok, Err, ◌<◌, ◌⊎◌, inl, inr, refl}
use Rattle.std.proofs.Common.{sym, ap, ◌∙◌, subst, arith}
use Rattle.std.specs.List.{AllByRecursion}
use Rattle.kmip_ttlv_types.specs.{declared.typ.TtlvType.TtlvType, Names.transparent_name, Primitives.sign_extended}
use Rattle.kmip_ttlv_types.specs.declared.typ.TtlvType.TheVariants.{BigInteger, TextString, ByteString}
use Rattle.kmip_ttlv_types.specs.Trees.{Tree, leaf, node, trees_of, bytes_all, Fits}
use Rattle.kmip_ttlv_base.specs.{declared.error.Error.Error, Visits.visited}
use Rattle.kmip_ttlv_base.specs.Errors.{Location, only_offset, view_of_kind, location_of, view_of_location, IsMemory}
use Rattle.kmip_ttlv_base.specs.Values.{Value, text_value, bytes_value, big_integer_value, some_value as some, seq_value, struct_value, newtype_value}
use Rattle.kmip_ttlv_base.specs.Values.{newtype_variant_value, tuple_variant_value, Values, no_values, value}
use Rattle.kmip_ttlv_ser.specs.declared.pending.{PendingTag.PendingTag, PendingTag.TheVariants.Nothing, PendingTag.TheVariants.Plain, Place.Place}
use Rattle.kmip_ttlv_ser.specs.declared.encode_error.Cause.{Cause}
use Rattle.kmip_ttlv_ser.specs.declared.encode_error.Cause.TheVariants.{NoTag, TagUnused, InvalidTag, InvalidVariant, UnsupportedType}
use Rattle.kmip_ttlv_ser.specs.declared.encode_error.EncodeError.{EncodeError, TheVariants.LengthOverflow, TheVariants.Invalid}
use Rattle.kmip_ttlv_ser.specs.WrittenItems.{◌>>=◌, take_tag, pending_tag, one_node, some_item, pending_after, without_override, is_wrapper, left_over}
use Rattle.kmip_ttlv_ser.specs.WrittenItems.{newtype_row, variant_row, items, items_in}
use Rattle.kmip_ttlv_ser.specs.Faults.{EncodeFault, place_after, fault, fault_in}
use Rattle.kmip_ttlv_ser.specs.Lengths.{HasLongLeaf, HaveLongLeaf, HasLongStructure, HaveLongStructure, IsLongContent, Under, After, content_start}
use Rattle.kmip_ttlv_ser.specs.Lengths.{newtype_long, variant_long}
use Rattle.kmip_ttlv_ser.specs.Passes.{Measured, Overlong, kind_of_cause, IsErrorOf}
use Rattle.kmip_ttlv_ser.specs.Measures.{Halt, halt_of, Going, from, known_by, measure_step}
use Rattle.kmip_ttlv_ser.proofs.Finding.{Finds, sought, finds}
use Rattle.kmip_ttlv_ser.specs.EncodeResults.{IsTooLongFor, FailsAs, IsFirstError, Fails, AppendedTo}
use Rattle.kmip_ttlv_ser.proofs.Leaves.{place_len, below_is, fits_each, each_front, each_back}
use Rattle.kmip_ttlv_ser.proofs.Parts.{some_same, split_of, unwrap, followed}

-- ---- a value that has items, and a length that is too long: they don't fit

-- no items that there are fit
abbrev Never : Option (List Tree) → Type 0
Never o = (ts : List Tree) → o ≡ Some ts → AllByRecursion Fits ts → ⊥

one_never : (x : Tree) → (Fits x → ⊥) → Never (Some (x ∷ []))
one_never x never ts e h =
    let each : AllByRecursion Fits (x ∷ []) = subst (AllByRecursion Fits) (sym (some_same (x ∷ []) ts e)) h in
    never each.0

leaf_never : (o : Option ℕ) (typ : TtlvType) (c : List ℕ) → 2 ^ 32 ≤ length c → Never (o >>= λ t. Some (leaf t typ c ∷ []))
leaf_never None typ c long = λ ts e h. let k : None ≡ Some ts = e in absurd cc
leaf_never (Some t) typ c long = one_never (leaf t typ c) (λ short. absurd (omega (arith, short, long)))

-- what is in a structure doesn't fit
node_never : (k : Option ℕ) (o : Option (List Tree)) → Never o → Never (k >>= λ t. one_node t o)
node_never (Some t) (Some us) never = one_never (node t (trees_of us)) (λ f. never us refl (fits_each us f.1))
node_never _ _ never = λ ts e h. let k : None ≡ Some ts = e in absurd cc

wrapper_never : (k : Option ℕ) (its : ℕ → Option (List Tree)) → ((t : ℕ) → Never (its t)) → Never (k >>= λ t. its t >>= some_item)
wrapper_never None its never ts e h = let k : None ≡ Some ts = e in absurd cc
wrapper_never (Some t) its never ts e h = never t ts (unwrap (its t) ts e) h

newtype_never : (o : Option (List ℕ)) (name : List ℕ) (w : PendingTag) (its : PendingTag → Option (List Tree)) → ((u : PendingTag) → Never (its u))
    → Never (newtype_row o name w its)
newtype_never None name w its never = node_never (take_tag w name) (its Nothing) (never Nothing)
newtype_never (Some n) name w its never = wrapper_never (take_tag w n) (λ t. its (Plain t)) (λ t. never (Plain t))

variant_never : (b : Bool) (name : List ℕ) (w : PendingTag) (its : PendingTag → Option (List Tree)) → ((u : PendingTag) → Never (its u))
    → Never (variant_row b name w its)
variant_never true name w its never =
    wrapper_never (take_tag w (without_override name)) (λ t. its (pending_after w name t)) (λ t. never (pending_after w name t))
variant_never false name w its never = node_never (take_tag w (without_override (without_override name))) (its Nothing) (never Nothing)

-- one after the other
first_never : (o : Option (List Tree)) (later : List Tree → Option (List Tree)) → Never o → Never (followed o later)
first_never o later never ts e h =
    let s = split_of o later ts e in
    never s.here s.first_is (each_front s.here s.after (subst (AllByRecursion Fits) s.joined h))

later_never : (o : Option (List Tree)) (later : List Tree → Option (List Tree)) → ((ts : List Tree) → o ≡ Some ts → Never (later ts)) → Never (followed o later)
later_never o later never ts e h =
    let s = split_of o later ts e in
    never s.here s.first_is s.after s.later_is (each_back s.here s.after (subst (AllByRecursion Fits) s.joined h))

mutual
  leaf_long : (v : Value) (w : PendingTag) → HasLongLeaf v → Never (items v w)
  leaf_long (text_value s) w h = leaf_never (pending_tag w) TextString s h
  leaf_long (bytes_value s) w h = leaf_never (pending_tag w) ByteString s h
  leaf_long (big_integer_value s) w h = leaf_never (pending_tag w) BigInteger (sign_extended s) h
  leaf_long (some v) w h = leaf_long v w h
  leaf_long (seq_value vs) w h = leaves_long vs w h
  leaf_long (struct_value name vs) w h = node_never (take_tag w name) (items_in vs Nothing) (leaves_long vs Nothing h)
  leaf_long (newtype_value name v) w h = newtype_never (transparent_name name) name w (items v) (λ u. leaf_long v u h)
  leaf_long (newtype_variant_value name vname v) w h = variant_never (is_wrapper vname) name w (items v) (λ u. leaf_long v u h)
  leaf_long (tuple_variant_value name vname vs) w h = node_never (take_tag w (without_override name)) (items_in vs Nothing) (leaves_long vs Nothing h)
  leaf_long _ w h = absurd h

  leaves_long : (vs : Values) (w : PendingTag) → HaveLongLeaf vs → Never (items_in vs w)
  leaves_long no_values w h = absurd h
  leaves_long (value v vs) w (inl h) = first_never (items v w) (λ ts. items_in vs (left_over w ts)) (leaf_long v w h)
  leaves_long (value v vs) w (inr h) = later_never (items v w) (λ ts. items_in vs (left_over w ts)) (λ ts is. leaves_long vs (left_over w ts) h)

node_long_never : (k : Option ℕ) (o : Option (List Tree)) (f : EncodeFault) (S : Type 0) → (S → Never o) → Under k (λ t. IsLongContent o f ⊎ S)
    → Never (k >>= λ t. one_node t o)
node_long_never None o f S never h = absurd h
node_long_never (Some t) o f S never (inr h) = node_never (Some t) o (never h)
node_long_never (Some t) None f S never (inl h) = λ ts e fit. let x : None ≡ Some ts = e in absurd cc
node_long_never (Some t) (Some us) f S never (inl h) =
    one_never (node t (trees_of us)) (λ fit. absurd (omega (arith, fit.0, h, ap length (below_is us))))

wrapper_long_never : (k : Option ℕ) (its : ℕ → Option (List Tree)) (S : ℕ → Type 0) → ((t : ℕ) → S t → Never (its t)) → Under k S
    → Never (k >>= λ t. its t >>= some_item)
wrapper_long_never None its S never h = absurd h
wrapper_long_never (Some t) its S never h = λ ts e. never t h ts (unwrap (its t) ts e)

newtype_long_never : (o : Option (List ℕ)) (name : List ℕ) (w : PendingTag) (its : PendingTag → Option (List Tree)) (f : EncodeFault) (S : PendingTag → Type 0)
    → ((u : PendingTag) → S u → Never (its u)) → newtype_long o name w (IsLongContent (its Nothing) f) S → Never (newtype_row o name w its)
newtype_long_never None name w its f S never h = node_long_never (take_tag w name) (its Nothing) f (S Nothing) (never Nothing) h
newtype_long_never (Some n) name w its f S never h = wrapper_long_never (take_tag w n) (λ t. its (Plain t)) (λ t. S (Plain t)) (λ t. never (Plain t)) h

variant_long_never : (b : Bool) (name : List ℕ) (w : PendingTag) (its : PendingTag → Option (List Tree)) (f : EncodeFault) (S : PendingTag → Type 0)
    → ((u : PendingTag) → S u → Never (its u)) → variant_long b name w (IsLongContent (its Nothing) f) S → Never (variant_row b name w its)
variant_long_never true name w its f S never h = wrapper_long_never (take_tag w (without_override name)) (λ t. its (pending_after w name t))
    (λ t. S (pending_after w name t)) (λ t. never (pending_after w name t)) h
variant_long_never false name w its f S never h =
    node_long_never (take_tag w (without_override (without_override name))) (its Nothing) f (S Nothing) (never Nothing) h

mutual
  structure_long : (v : Value) (w : PendingTag) → HasLongStructure v w → Never (items v w)
  structure_long (some v) w h = structure_long v w h
  structure_long (seq_value vs) w h = structures_long vs w h
  structure_long (struct_value name vs) w h = node_long_never (take_tag w name) (items_in vs Nothing) (fault_in vs Nothing content_start)
      (HaveLongStructure vs Nothing) (structures_long vs Nothing) h
  structure_long (newtype_value name v) w h =
      newtype_long_never (transparent_name name) name w (items v) (fault v Nothing content_start) (HasLongStructure v) (structure_long v) h
  structure_long (newtype_variant_value name vname v) w h =
      variant_long_never (is_wrapper vname) name w (items v) (fault v Nothing content_start) (HasLongStructure v) (structure_long v) h
  structure_long (tuple_variant_value name vname vs) w h = node_long_never (take_tag w (without_override name)) (items_in vs Nothing)
      (fault_in vs Nothing content_start) (HaveLongStructure vs Nothing) (structures_long vs Nothing) h
  structure_long _ w h = absurd h

  structures_long : (vs : Values) (w : PendingTag) → HaveLongStructure vs w → Never (items_in vs w)
  structures_long no_values w h = absurd h
  structures_long (value v vs) w (inl h) = first_never (items v w) (λ ts. items_in vs (left_over w ts)) (structure_long v w h)
  structures_long (value v vs) w (inr h) = later_never (items v w) (λ ts. items_in vs (left_over w ts))
      (λ ts is. structures_long vs (left_over w ts) (subst (λ o. After o (λ us. HaveLongStructure vs (left_over w us))) is h))

-- ---- the results

too_long_at : (v : Value) (p : Place) (o : Option (List Tree)) → items v Nothing ≡ o → Overlong (HasLongLeaf v) (HasLongStructure v Nothing) o
    (fault v Nothing p) p.offset → IsTooLongFor v p o
too_long_at v p None e h = h
too_long_at v p (Some ts) e (inl h) = λ fit. leaf_long v Nothing h ts e fit.each
too_long_at v p (Some ts) e (inr (inl h)) = λ fit. structure_long v Nothing h ts e fit.each
too_long_at v p (Some ts) e (inr (inr h)) = λ fit. absurd (omega (arith, h, fit.total))

memory_fails : {A : Type 0} (v : Value) (p : Place) (e : Error A) → IsMemory e → Fails v p e
memory_fails v p e m = subst (λ k. FailsAs v p k (view_of_location (location_of e))) (sym (ap view_of_kind m.kind)) m.location

first_error : (v : Value) (p : Place) (cause : Cause) (location : Location) → IsFirstError v p (kind_of_cause cause) location
    → FailsAs v p (kind_of_cause cause) location
first_error v p (NoTag opened) location h = h
first_error v p TagUnused location h = h
first_error v p (InvalidTag name) location h = h
first_error v p (InvalidVariant name) location h = h
first_error v p (UnsupportedType name) location h = h

refused : {A : Type 0} (v : Value) (p : Place) (r : EncodeError) (e : Error A) → Finds (sought v Nothing p) (from p Nothing [] []) (Err (halt_of r))
    → IsErrorOf r e → Fails v p e
refused v p LengthOverflow e h is = subst (λ k. FailsAs v p k (view_of_location (location_of e))) (sym is.0) (is.1, too_long_at v p (items v Nothing) refl h)
refused v p (Invalid cause offset) e h (inl is) = memory_fails v p e is
refused v p (Invalid cause offset) e h (inr is) =
    subst (λ k. FailsAs v p k (view_of_location (location_of e))) (sym is.0) (first_error v p cause (view_of_location (location_of e)) record {
      no_items = h.0;
      kind_is = sym (ap (λ f. f.kind) h.1);
      location_is = is.1 ∙ ap (λ f. only_offset f.offset) (sym h.1);
    })

-- ---- the first pass

found : (v : Value) (p : Place) {start : Going} {r : Result Going Halt} → p.offset < 2 ^ 64 → start ≡ from p Nothing [] []
    → visited measure_step v (Ok start) ≡ r → Finds (sought v Nothing p) (from p Nothing [] []) r
found v p small fresh received = subst (Finds (sought v Nothing p) (from p Nothing [] []))
    (ap (λ s. visited measure_step v (Ok s)) (sym fresh) ∙ received) (finds v (from p Nothing [] []) small)

pub fails_as : {A : Type 0} (v : Value) (p : Place) (why : EncodeError) (g : Going) {start : Going} (e : Error A) → p.offset < 2 ^ 64
    → start ≡ from p Nothing [] [] → visited measure_step v (Ok start) ≡ known_by (Some why) g → IsErrorOf why e → Fails v p e
fails_as v p why g e small fresh received error = refused v p why e (found v p {r = Err (halt_of why)} small fresh received) error

pub planned_as : (v : Value) (p : Place) (g : Going) {start : Going} → p.offset < 2 ^ 64 → start ≡ from p Nothing [] []
    → visited measure_step v (Ok start) ≡ known_by None g → Measured (items v Nothing) p g.place [] g.sizes
planned_as v p g small fresh received = let f = found v p {r = Ok g} small fresh received in f.measured

-- ---- both passes

pub appended : {v : Value} {p q : Place} {plan old new : List ℕ} → p.offset ≡ length old → (m : Measured (items v Nothing) p q [] plan)
    → new ≡ old ++ bytes_all m.trees → AppendedTo v p.opened old new q.opened
unfolding place_after
appended {p = p} {q = q} here m wrote = record {
  trees = m.trees;
  are = m.are;
  fit = record { each = m.each; total = omega (arith, m.small, here, place_len p q m.trees m.reached) };
  bytes_are = wrote;
  opened_is = ap (λ x. x.opened) m.reached;
}
