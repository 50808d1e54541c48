-- The items that a value is encoded as.
use Rattle.std.specs.Prelude.{ℕ, Bool, true, false, List, [], ◌∷◌, ◌++◌, Option, Some, None, bytes_eq}
use Rattle.std.specs.Prelude.{codes}
use Rattle.std.specs.Int.{w32, w64, to_be_bytes, cast_unsigned, from_bool}
use Rattle.kmip_ttlv_types.specs.declared.typ.TtlvType.{TtlvType}
use Rattle.kmip_ttlv_types.specs.declared.typ.TtlvType.TheVariants.{Integer, LongInteger, BigInteger, Enumeration}
use Rattle.kmip_ttlv_types.specs.declared.typ.TtlvType.TheVariants.{Boolean, TextString, ByteString, DateTime}
use Rattle.kmip_ttlv_types.specs.declared.typ.TtlvType.TheVariants.{Interval}
use Rattle.kmip_ttlv_types.specs.Names.{tag_of, number, transparent_name, override_name}
use Rattle.kmip_ttlv_types.specs.Primitives.{sign_extended}
use Rattle.kmip_ttlv_types.specs.Trees.{Tree, leaf, node, trees_of}
use Rattle.kmip_ttlv_base.specs.Values.{Value, boolean_value, i8_value, i16_value, i32_value, u32_value, i64_value}
use Rattle.kmip_ttlv_base.specs.Values.{u64_value, date_time_value, interval_value, text_value, bytes_value, big_integer_value}
use Rattle.kmip_ttlv_base.specs.Values.{none_value as none, some_value as some, seq_value, struct_value, newtype_value}
use Rattle.kmip_ttlv_base.specs.Values.{unit_variant_value, newtype_variant_value, tuple_variant_value}
use Rattle.kmip_ttlv_base.specs.Values.{unsupported_value, Values, no_values, value}
use Rattle.kmip_ttlv_ser.specs.declared.pending.PendingTag.{PendingTag}
use Rattle.kmip_ttlv_ser.specs.declared.pending.PendingTag.TheVariants.{Nothing, Plain, Overriding}

-- what a step gives, if anything, passed to the next one
infixl 10 ◌>>=◌
abbrev pub ◌>>=◌ : {A B : Type 0} → Option A → (A → Option B) → Option B
None >>= f = None
(Some x) >>= f = f x

-- the tag that a name gives when it is taken
unfoldable pub take_tag : PendingTag → List ℕ → Option ℕ
take_tag Nothing name = tag_of name
take_tag (Plain t) name = None
take_tag (Overriding t) name = tag_of name >>= λ _. Some t

-- the tag of a leaf
abbrev pub pending_tag : PendingTag → Option ℕ
pending_tag Nothing = None
pending_tag (Plain t) = Some t
pending_tag (Overriding t) = Some t

-- one leaf under the pending tag
abbrev pub one_leaf : PendingTag → TtlvType → List ℕ → Option (List Tree)
one_leaf w typ content = pending_tag w >>= λ t. Some (leaf t typ content ∷ [])

-- one structure of these items
abbrev pub one_node : ℕ → Option (List Tree) → Option (List Tree)
one_node t below = below >>= λ ts. Some (node t (trees_of ts) ∷ [])

-- a structure of these items, under a name's tag
abbrev pub one_structure : PendingTag → List ℕ → Option (List Tree) → Option (List Tree)
one_structure w name below = take_tag w name >>= λ t. one_node t below

-- a wrapper's content must give an item
unfoldable pub some_item : List Tree → Option (List Tree)
some_item [] = None
some_item (t ∷ ts) = Some (t ∷ ts)

-- the pending tag after these items
abbrev pub left_over : PendingTag → List Tree → PendingTag
left_over w [] = w
left_over w (t ∷ ts) = Nothing

-- a name without one leading `Override:`
abbrev pub without_override : List ℕ → List ℕ
without_override name = elim (override_name name) [ None ↦ name | Some rest ↦ rest ]

-- the taken tag overrides if no tag was pending before and the prefix was there
unfoldable pub pending_after : PendingTag → List ℕ → ℕ → PendingTag
pending_after Nothing name t = elim (override_name name) [ None ↦ Plain t | Some rest ↦ Overriding t ]
pending_after (Plain s) name t = Plain t
pending_after (Overriding s) name t = Plain t

-- a unit variant's number, under the taken tag
unfoldable pub enumeration : ℕ → List ℕ → Option (List Tree)
enumeration t variant = number variant >>= λ n. one_leaf (Plain t) Enumeration (to_be_bytes w32 n)

-- a newtype, by what follows `Transparent:` in its name; `inside` gives the items of its content
abbrev pub newtype_row : Option (List ℕ) → List ℕ → PendingTag → (PendingTag → Option (List Tree)) → Option (List Tree)
newtype_row None name w inside = one_structure w name (inside Nothing)
newtype_row (Some n) name w inside = take_tag w n >>= λ t. inside (Plain t) >>= some_item

-- whether a newtype variant of this name is a wrapper
unfoldable pub is_wrapper : List ℕ → Bool
is_wrapper variant = bytes_eq variant (codes "Transparent")

-- a newtype variant, by whether it is named `Transparent`
abbrev pub variant_row : Bool → List ℕ → PendingTag → (PendingTag → Option (List Tree)) → Option (List Tree)
variant_row true name w inside = take_tag w (without_override name) >>= λ t. inside (pending_after w name t) >>= some_item
variant_row false name w inside = one_structure w (without_override (without_override name)) (inside Nothing)

-- the items of a value under a pending tag, if it has any
abbrev mutual
  pub items : Value → PendingTag → Option (List Tree)
  items (boolean_value b) w = one_leaf w Boolean (to_be_bytes w64 (from_bool b))
  items (i8_value z) w = one_leaf w Integer (to_be_bytes w32 (cast_unsigned w32 z))
  items (i16_value z) w = one_leaf w Integer (to_be_bytes w32 (cast_unsigned w32 z))
  items (i32_value z) w = one_leaf w Integer (to_be_bytes w32 (cast_unsigned w32 z))
  items (u32_value n) w = one_leaf w Enumeration (to_be_bytes w32 n)
  items (i64_value z) w = one_leaf w LongInteger (to_be_bytes w64 (cast_unsigned w64 z))
  items (u64_value n) w = one_leaf w DateTime (to_be_bytes w64 n)
  items (date_time_value z) w = one_leaf w DateTime (to_be_bytes w64 (cast_unsigned w64 z))
  items (interval_value n) w = one_leaf w Interval (to_be_bytes w32 n)
  items (text_value s) w = one_leaf w TextString s
  items (bytes_value s) w = one_leaf w ByteString s
  items (big_integer_value s) w = one_leaf w BigInteger (sign_extended s)
  items none w = None
  items (some v) w = items v w
  items (seq_value vs) w = items_in vs w
  items (struct_value name vs) w = one_structure w name (items_in vs Nothing)
  items (newtype_value name v) w = newtype_row (transparent_name name) name w (items v)
  items (unit_variant_value name vname) w = take_tag w name >>= λ t. enumeration t vname
  items (newtype_variant_value name vname v) w = variant_row (is_wrapper vname) name w (items v)
  items (tuple_variant_value name vname vs) w = one_structure w (without_override name) (items_in vs Nothing)
  items (unsupported_value name) w = None

  -- values one after the other: the first that gives an item uses the pending tag up
  pub items_in : Values → PendingTag → Option (List Tree)
  items_in no_values w = Some []
  items_in (value v vs) w = items v w >>= λ first. items_in vs (left_over w first) >>= λ rest. Some (first ++ rest)
