-- The items of a value have sound tags, types and lengths.
use Rattle.std.proofs.Common.{◌≡◌, ℕ, ◌<◌, ◌^◌, Bool, true, false, List, [], ◌∷◌, ◌++◌, Option, Some, None, ◌↔◌, option_and_then, if◌then◌else◌, refl, sym, ap}
use Rattle.std.proofs.Common.{◌∙◌, subst, nat_lt}
use Rattle.std.proofs.lemmas.Bool.{ltb-true}
use Rattle.std.specs.{List.AllByRecursion, Int.w32, Int.to_be_bytes}
use Rattle.kmip_ttlv_types.specs.{declared.typ.TtlvType.TtlvType, declared.typ.TtlvType.TheVariants.Enumeration, ItemTypes.is_structure}
use Rattle.kmip_ttlv_types.specs.Names.{number, tag_of, below_tag_limit, transparent_name}
use Rattle.kmip_ttlv_types.specs.Trees.{Tree, leaf, node, trees_of, bytes_all, Fits}
use Rattle.kmip_ttlv_base.specs.Values.{Value, none_value as none, some_value as some, seq_value, struct_value, newtype_value, unit_variant_value}
use Rattle.kmip_ttlv_base.specs.Values.{newtype_variant_value, tuple_variant_value, unsupported_value, Values, no_values, value}
use Rattle.kmip_ttlv_ser.specs.{declared.pending.PendingTag.PendingTag, EncodeResults.IsWrittenAs, WriteLaws.IsSound, WriteLaws.AreSound}
use Rattle.kmip_ttlv_ser.specs.declared.pending.PendingTag.TheVariants.{Nothing, Plain, Overriding}
use Rattle.kmip_ttlv_ser.specs.WrittenItems.{◌>>=◌, take_tag, pending_tag, one_leaf, one_node, enumeration, some_item, pending_after, without_override}
use Rattle.kmip_ttlv_ser.specs.WrittenItems.{is_wrapper, left_over, newtype_row, variant_row, items, items_in}
use Rattle.kmip_ttlv_ser.proofs.Leaves.{fits_each, each_front, each_back}
use Rattle.kmip_ttlv_ser.proofs.Parts.{some_same, split_of, unwrap}
use Rattle.kmip_ttlv_ser.proofs.Receiving.{all_same}

-- the held tag has three bytes
abbrev Small : PendingTag → Type 0
Small Nothing = Unit {0}
Small (Plain t) = t < 2 ^ 24
Small (Overriding t) = t < 2 ^ 24

limit_at : (n t : ℕ) (b : Bool) → nat_lt n (2 ^ 24) ≡ b → (if b then Some n else None) ≡ Some t → t < 2 ^ 24
limit_at n t true h e = subst (λ k. k < 2 ^ 24) (some_same n t e) (ltb-true n (2 ^ 24) h)
limit_at n t false h e = let k : None ≡ Some t = e in absurd cc

below_limit : (o : Option ℕ) (t : ℕ) → option_and_then below_tag_limit o ≡ Some t → t < 2 ^ 24
below_limit None t e = let k : None ≡ Some t = e in absurd cc
below_limit (Some n) t e = limit_at n t (nat_lt n (2 ^ 24)) refl e

named : (name : List ℕ) (t : ℕ) → tag_of name ≡ Some t → t < 2 ^ 24
unfolding tag_of
named name t e = below_limit (number name) t e

overridden : (o : Option ℕ) (s t : ℕ) → s < 2 ^ 24 → (o >>= λ _. Some s) ≡ Some t → t < 2 ^ 24
overridden None s t h e = let k : None ≡ Some t = e in absurd cc
overridden (Some n) s t h e = subst (λ k. k < 2 ^ 24) (some_same s t e) h

taken : (w : PendingTag) (name : List ℕ) → Small w → (t : ℕ) → take_tag w name ≡ Some t → t < 2 ^ 24
unfolding take_tag
taken Nothing name h t e = named name t e
taken (Plain s) name h t e = let k : None ≡ Some t = e in absurd cc
taken (Overriding s) name h t e = overridden (tag_of name) s t h e

over_at : (o : Option (List ℕ)) (t : ℕ) → t < 2 ^ 24 → Small (elim o [ None ↦ Plain t | Some rest ↦ Overriding t ])
over_at None t h = h
over_at (Some rest) t h = h

over_small : (w : PendingTag) (name : List ℕ) (t : ℕ) → t < 2 ^ 24 → Small (pending_after w name t)
unfolding pending_after
over_small Nothing name t h = over_at _ t h
over_small (Plain s) name t h = h
over_small (Overriding s) name t h = h

left_small : (w : PendingTag) (ts : List Tree) → Small w → Small (left_over w ts)
left_small w [] h = h
left_small w (t ∷ ts) h = tt

pending_small : (w : PendingTag) → Small w → (t : ℕ) → pending_tag w ≡ Some t → t < 2 ^ 24
pending_small Nothing h t e = let k : None ≡ Some t = e in absurd cc
pending_small (Plain s) h t e = subst (λ k. k < 2 ^ 24) (some_same s t e) h
pending_small (Overriding s) h t e = subst (λ k. k < 2 ^ 24) (some_same s t e) h

-- the items, if there are any, are sound if they fit
abbrev Gives : Option (List Tree) → Type 0
Gives o = (ts : List Tree) → o ≡ Some ts → AllByRecursion Fits ts → AllByRecursion IsSound ts

-- what a name or a held tag gives has three bytes
abbrev Tags : Option ℕ → Type 0
Tags k = (t : ℕ) → k ≡ Some t → t < 2 ^ 24

one_sound : (x : Tree) → (Fits x → IsSound x) → Gives (Some (x ∷ []))
one_sound x sound ts e h =
    let same = some_same (x ∷ []) ts e in
    let each : AllByRecursion Fits (x ∷ []) = subst (AllByRecursion Fits) (sym same) h in
    subst (AllByRecursion IsSound) same (sound each.0, tt)

leaf_at : (o : Option ℕ) (typ : TtlvType) (c : List ℕ) → is_structure typ ≡ false → Tags o → Gives (o >>= λ t. Some (leaf t typ c ∷ []))
leaf_at None typ c plain small = λ ts e h. let k : None ≡ Some ts = e in absurd cc
leaf_at (Some t) typ c plain small = one_sound (leaf t typ c) (λ short. (small t refl, plain, short))

leaf_sound : (w : PendingTag) (typ : TtlvType) (c : List ℕ) → is_structure typ ≡ false → Small w → Gives (one_leaf w typ c)
leaf_sound w typ c plain h = leaf_at (pending_tag w) typ c plain (pending_small w h)

are_sound : (ts : List Tree) → AllByRecursion IsSound ts → AreSound (trees_of ts)
are_sound [] h = tt
are_sound (t ∷ ts) h = (h.0, are_sound ts h.1)

structure_sound : (k : Option ℕ) (o : Option (List Tree)) → Tags k → Gives o → Gives (k >>= λ t. one_node t o)
structure_sound (Some t) (Some us) small inner =
    one_sound (node t (trees_of us)) (λ f. (small t refl, f.0, are_sound us (inner us refl (fits_each us f.1))))
structure_sound _ _ small inner = λ ts e h. let x : None ≡ Some ts = e in absurd cc

wrapper_sound : (k : Option ℕ) (its : ℕ → Option (List Tree)) → ((t : ℕ) → k ≡ Some t → Gives (its t)) → Gives (k >>= λ t. its t >>= some_item)
wrapper_sound None its inner ts e h = let x : None ≡ Some ts = e in absurd cc
wrapper_sound (Some t) its inner ts e h = inner t refl ts (unwrap (its t) ts e) h

newtype_sound : (o : Option (List ℕ)) (name : List ℕ) (w : PendingTag) (its : PendingTag → Option (List Tree)) → Small w
    → ((u : PendingTag) → Small u → Gives (its u)) → Gives (newtype_row o name w its)
newtype_sound None name w its h inner = structure_sound (take_tag w name) (its Nothing) (taken w name h) (inner Nothing tt)
newtype_sound (Some n) name w its h inner = wrapper_sound (take_tag w n) (λ t. its (Plain t)) (λ t i. inner (Plain t) (taken w n h t i))

variant_sound : (b : Bool) (name : List ℕ) (w : PendingTag) (its : PendingTag → Option (List Tree)) → Small w
    → ((u : PendingTag) → Small u → Gives (its u)) → Gives (variant_row b name w its)
variant_sound true name w its h inner = let n = without_override name in
    wrapper_sound (take_tag w n) (λ t. its (pending_after w name t)) (λ t i. inner (pending_after w name t) (over_small w name t (taken w n h t i)))
variant_sound false name w its h inner = let n = without_override (without_override name) in
    structure_sound (take_tag w n) (its Nothing) (taken w n h) (inner Nothing tt)

number_sound : (o : Option ℕ) (t : ℕ) → t < 2 ^ 24 → Gives (o >>= λ n. one_leaf (Plain t) Enumeration (to_be_bytes w32 n))
number_sound None t h = λ ts e f. let k : None ≡ Some ts = e in absurd cc
number_sound (Some n) t h = leaf_sound (Plain t) Enumeration (to_be_bytes w32 n) refl h

unit_sound : (k : Option ℕ) (vname : List ℕ) → Tags k → Gives (k >>= λ t. enumeration t vname)
unfolding enumeration
unit_sound None vname small = λ ts e h. let x : None ≡ Some ts = e in absurd cc
unit_sound (Some t) vname small = number_sound (number vname) t (small t refl)

sound_append : (xs ys : List Tree) → AllByRecursion IsSound xs → AllByRecursion IsSound ys → AllByRecursion IsSound (xs ++ ys)
sound_append [] ys h k = k
sound_append (x ∷ xs) ys h k = (h.0, sound_append xs ys h.1 k)

mutual
  value_sound : (v : Value) (w : PendingTag) → Small w → Gives (items v w)
  value_sound none w h ts e f = let k : None ≡ Some ts = e in absurd cc
  value_sound (some v) w h ts e f = value_sound v w h ts e f
  value_sound (seq_value vs) w h ts e f = values_sound vs w h ts e f
  value_sound (struct_value name vs) w h ts e f = structure_sound (take_tag w name) (items_in vs Nothing) (taken w name h) (values_sound vs Nothing tt) ts e f
  value_sound (newtype_value name v) w h ts e f = newtype_sound (transparent_name name) name w (items v) h (value_sound v) ts e f
  value_sound (unit_variant_value name vname) w h ts e f = unit_sound (take_tag w name) vname (taken w name h) ts e f
  value_sound (newtype_variant_value name vname v) w h ts e f = variant_sound (is_wrapper vname) name w (items v) h (value_sound v) ts e f
  value_sound (tuple_variant_value name vname vs) w h ts e f = let n = without_override name in
      structure_sound (take_tag w n) (items_in vs Nothing) (taken w n h) (values_sound vs Nothing tt) ts e f
  value_sound (unsupported_value name) w h ts e f = let k : None ≡ Some ts = e in absurd cc
  value_sound _ w h ts e f = leaf_sound w _ _ refl h ts e f

  values_sound : (vs : Values) (w : PendingTag) → Small w → Gives (items_in vs w)
  values_sound no_values w h ts e f = subst (AllByRecursion IsSound) (some_same [] ts e) tt
  values_sound (value v vs) w h ts e f =
      let s = split_of (items v w) (λ a. items_in vs (left_over w a)) ts e in
      let fits : AllByRecursion Fits (s.here ++ s.after) = subst (AllByRecursion Fits) s.joined f in
      subst (AllByRecursion IsSound) (sym s.joined) (sound_append s.here s.after (value_sound v w h s.here s.first_is (each_front s.here s.after fits))
      (values_sound vs (left_over w s.here) (left_small w s.here h) s.after s.later_is (each_back s.here s.after fits)))

pub items_sound : (v : Value) (ts : List Tree) → items v Nothing ≡ Some ts → AllByRecursion Fits ts → AllByRecursion IsSound ts
items_sound v ts e f = value_sound v Nothing tt ts e f

pub distinct : (v u : Value) (m n : ℕ) (bytes other : List ℕ) → IsWrittenAs v m bytes → IsWrittenAs u n other
    → (bytes ≡ other) ↔ (items v Nothing ≡ items u Nothing)
distinct v u m n bytes other h k = (
  λ e. h.are ∙ ap Some (all_same h.trees k.trees (items_sound v h.trees h.are h.fit.each) (items_sound u k.trees k.are k.fit.each) (sym h.bytes_are ∙ e
      ∙ k.bytes_are)) ∙ sym k.are,
  λ e. h.bytes_are ∙ ap bytes_all (some_same h.trees k.trees (sym h.are ∙ e ∙ k.are)) ∙ sym k.bytes_are,
)
