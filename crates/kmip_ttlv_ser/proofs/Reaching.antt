-- An error isn't before the place at which the value begins.
use Rattle.std.proofs.Common.{ℕ, ◌≤◌, Bool, true, false, List, Option, Some, None, arith}
use Rattle.kmip_ttlv_types.specs.{Names.tag_of, Names.transparent_name, Trees.Tree}
use Rattle.kmip_ttlv_base.specs.Errors.{Kind, mismatch, invalid_variant}
use Rattle.kmip_ttlv_base.specs.Values.{Value, some_value as some, seq_value, struct_value, newtype_value, unit_variant_value, newtype_variant_value}
use Rattle.kmip_ttlv_base.specs.Values.{tuple_variant_value, Values, no_values, value}
use Rattle.kmip_ttlv_ser.specs.declared.pending.{PendingTag.PendingTag, PendingTag.TheVariants.Nothing, PendingTag.TheVariants.Plain, Place.Place}
use Rattle.kmip_ttlv_ser.specs.WrittenItems.{take_tag, pending_after, without_override, is_wrapper, left_over, items}
use Rattle.kmip_ttlv_ser.specs.Faults.{EncodeFault, fault_at, name_kind, no_tag, under_name, within, newtype_fault, variant_fault, in_turn, place_after, inside}
use Rattle.kmip_ttlv_ser.specs.Faults.{fault, fault_in}

at_least : (k : Kind) (w : PendingTag) (p : Place) → p.offset ≤ (fault_at k w p).offset
at_least k w p = omega arith

under_least : (o : Option ℕ) (name : List ℕ) (w : PendingTag) (p : Place) (below : ℕ → EncodeFault) → ((t : ℕ) → p.offset ≤ (below t).offset)
    → p.offset ≤ (under_name o name w p below).offset
under_least None name w p below h = at_least (name_kind (tag_of name) name) w p
under_least (Some t) name w p below h = h t

within_least : (o : Option (List Tree)) (p : Place) (f : EncodeFault) → p.offset ≤ f.offset → p.offset ≤ (within o p f).offset
within_least None p f h = h
within_least (Some ts) p f h = omega arith

newtype_least : (o : Option (List ℕ)) (name : List ℕ) (w : PendingTag) (p : Place) (its : PendingTag → Option (List Tree)) (stop : PendingTag → Place
    → EncodeFault) → ((u : PendingTag) (q : Place) → q.offset ≤ (stop u q).offset) → p.offset ≤ (newtype_fault o name w p its stop).offset
newtype_least None name w p its stop h = under_least (take_tag w name) name w p (λ t. stop Nothing (inside p)) (λ t. omega (arith, h Nothing (inside p)))
newtype_least (Some n) name w p its stop h = under_least (take_tag w n) n w p (λ t. within (its (Plain t)) p (stop (Plain t) p))
    (λ t. within_least (its (Plain t)) p (stop (Plain t) p) (h (Plain t) p))

variant_least : (b : Bool) (name : List ℕ) (w : PendingTag) (p : Place) (its : PendingTag → Option (List Tree)) (stop : PendingTag → Place → EncodeFault)
    → ((u : PendingTag) (q : Place) → q.offset ≤ (stop u q).offset) → p.offset ≤ (variant_fault b name w p its stop).offset
variant_least true name w p its stop h =
    let n = without_override name in
    under_least (take_tag w n) n w p (λ t. within (its (pending_after w name t)) p (stop (pending_after w name t) p))
    (λ t. within_least (its (pending_after w name t)) p (stop (pending_after w name t) p) (h (pending_after w name t) p))
variant_least false name w p its stop h =
    let n = without_override (without_override name) in
    under_least (take_tag w n) n w p (λ t. stop Nothing (inside p)) (λ t. omega (arith, h Nothing (inside p)))

turn_least : (o : Option (List Tree)) (p : Place) (here : EncodeFault) (later : List Tree → EncodeFault) → p.offset ≤ here.offset
    → ((ts : List Tree) → (place_after p ts).offset ≤ (later ts).offset) → p.offset ≤ (in_turn o here later).offset
unfolding place_after
turn_least None p here later h l = h
turn_least (Some ts) p here later h l = omega (arith, l ts)

mutual
  pub fault_least : (v : Value) (w : PendingTag) (p : Place) → p.offset ≤ (fault v w p).offset
  fault_least (some v) w p = fault_least v w p
  fault_least (seq_value vs) w p = fault_in_least vs w p
  fault_least (struct_value name vs) w p = under_least (take_tag w name) name w p (λ t. fault_in vs Nothing (inside p))
      (λ t. omega (arith, fault_in_least vs Nothing (inside p)))
  fault_least (newtype_value name v) w p = newtype_least (transparent_name name) name w p (items v) (fault v) (λ u q. fault_least v u q)
  fault_least (unit_variant_value name vname) w p = under_least (take_tag w name) name w p (λ t. fault_at (mismatch (invalid_variant vname)) (Plain t) p)
      (λ t. at_least (mismatch (invalid_variant vname)) (Plain t) p)
  fault_least (newtype_variant_value name vname v) w p = variant_least (is_wrapper vname) name w p (items v) (fault v) (λ u q. fault_least v u q)
  fault_least (tuple_variant_value name vname vs) w p = let n = without_override name in under_least (take_tag w n) n w p (λ t. fault_in vs Nothing (inside p))
      (λ t. omega (arith, fault_in_least vs Nothing (inside p)))
  fault_least _ w p = omega arith

  pub fault_in_least : (vs : Values) (w : PendingTag) (p : Place) → p.offset ≤ (fault_in vs w p).offset
  fault_in_least no_values w p = at_least (no_tag p.opened) w p
  fault_in_least (value v vs) w p = turn_least (items v w) p (fault v w p) (λ ts. fault_in vs (left_over w ts) (place_after p ts)) (fault_least v w p)
      (λ ts. fault_in_least vs (left_over w ts) (place_after p ts))
