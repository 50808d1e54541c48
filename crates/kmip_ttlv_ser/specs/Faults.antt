-- The first error of a value that has no items, and its offset.
use Rattle.std.specs.Prelude.{ℕ, ◌+◌, Bool, true, false, List, [], ◌∷◌, Option, Some, None, length, codes}
use Rattle.kmip_ttlv_types.specs.declared.field.FieldType.{FieldType}
use Rattle.kmip_ttlv_types.specs.declared.field.FieldType.TheVariants.{Tag, Typ, Value as Content}
use Rattle.kmip_ttlv_types.specs.declared.field.FieldType.TheVariants.{TypeAndLengthAndValue}
use Rattle.kmip_ttlv_types.specs.Names.{tag_of, transparent_name}
use Rattle.kmip_ttlv_types.specs.Trees.{Tree, leaf, node, Trees, no_trees, tree, bytes_all}
use Rattle.kmip_ttlv_base.specs.declared.error.MalformedTtlvError.TheVariants.{UnexpectedTtlvField}
use Rattle.kmip_ttlv_base.specs.Errors.{Kind, malformed, mismatch, invalid_tag, invalid_variant, unsupported_rust_type}
use Rattle.kmip_ttlv_base.specs.Values.{Value, boolean_value, i8_value, i16_value, i32_value, u32_value, i64_value}
use Rattle.kmip_ttlv_base.specs.Values.{u64_value, date_time_value, interval_value, text_value, bytes_value, big_integer_value}
use Rattle.kmip_ttlv_base.specs.Values.{none_value as none, some_value as some, seq_value, struct_value, newtype_value}
use Rattle.kmip_ttlv_base.specs.Values.{unit_variant_value, newtype_variant_value, tuple_variant_value}
use Rattle.kmip_ttlv_base.specs.Values.{unsupported_value, Values, no_values, value}
use Rattle.kmip_ttlv_ser.specs.declared.pending.PendingTag.{PendingTag}
use Rattle.kmip_ttlv_ser.specs.declared.pending.PendingTag.TheVariants.{Nothing, Plain, Overriding}
use Rattle.kmip_ttlv_ser.specs.declared.pending.Place.{Place}
use Rattle.kmip_ttlv_ser.specs.WrittenItems.{take_tag, pending_after, without_override, is_wrapper, left_over, items}

-- why a value can't be encoded, and the number of bytes before the invalid field
pub record EncodeFault : Type 0 where
  pub kind : Kind
  pub offset : ℕ

-- the field that is expected where no item has begun: a value after a structure's length, else a tag
abbrev pub due : Bool → FieldType
due true = Content
due false = Tag

-- an item, while no tag is pending
abbrev pub no_tag : Bool → Kind
no_tag opened = malformed (UnexpectedTtlvField (due opened) TypeAndLengthAndValue)

-- a tag, or the end of a wrapper, while a tag is pending
abbrev pub tag_unused : Kind
tag_unused = malformed (UnexpectedTtlvField Typ Tag)

-- the bytes of a pending tag, which come before the next field
abbrev pub pending_len : PendingTag → ℕ
pending_len Nothing = 0
pending_len (Plain t) = 3
pending_len (Overriding t) = 3

-- whether the last field written is a structure's length, after a tree
abbrev mutual
  pub opened_by : Tree → Bool
  opened_by (leaf t typ content) = false
  opened_by (node t below) = opened_below true below

  pub opened_below : Bool → Trees → Bool
  opened_below b no_trees = b
  opened_below b (tree t ts) = opened_below (opened_by t) ts

-- the same after a list of trees, if it was b before
abbrev pub opened_after : Bool → List Tree → Bool
opened_after b [] = b
opened_after b (t ∷ ts) = opened_after (opened_by t) ts

-- the place after these items
unfoldable pub place_after : Place → List Tree → Place
place_after p ts = record { offset = p.offset + length (bytes_all ts); opened = opened_after p.opened ts }

-- the place after a structure's header
abbrev pub inside : Place → Place
inside p = record { offset = p.offset + 8; opened = true }

-- an error at the field that comes next, after the pending tag
abbrev pub fault_at : Kind → PendingTag → Place → EncodeFault
fault_at kind w p = record { kind = kind; offset = p.offset + pending_len w }

-- why a name can't be taken: it is no tag, or a tag is pending
abbrev pub name_kind : Option ℕ → List ℕ → Kind
name_kind None name = mismatch (invalid_tag name)
name_kind (Some n) name = tag_unused

-- the error of a named value: of its name, or of what follows under the tag
abbrev pub under_name : Option ℕ → List ℕ → PendingTag → Place → (ℕ → EncodeFault) → EncodeFault
under_name None name w p below = fault_at (name_kind (tag_of name) name) w p
under_name (Some t) name w p below = below t

-- the error of a structure: of its name, or of its content
abbrev pub structure_fault : PendingTag → List ℕ → Place → EncodeFault → EncodeFault
structure_fault w name p below = under_name (take_tag w name) name w p (λ t. below)

-- the error of a wrapper: of its content, or that it has no item
abbrev pub within : Option (List Tree) → Place → EncodeFault → EncodeFault
within None p below = below
within (Some ts) p below = record { kind = tag_unused; offset = p.offset + 3 }

-- the error of a newtype, by what follows `Transparent:` in its name
abbrev pub newtype_fault :
    Option (List ℕ) → List ℕ → PendingTag → Place → (PendingTag → Option (List Tree)) → (PendingTag → Place → EncodeFault) → EncodeFault
newtype_fault None name w p its stop = structure_fault w name p (stop Nothing (inside p))
newtype_fault (Some n) name w p its stop =
    under_name (take_tag w n) n w p (λ t. within (its (Plain t)) p (stop (Plain t) p))

-- the error of a newtype variant, by whether it is named `Transparent`
abbrev pub variant_fault : Bool → List ℕ → PendingTag → Place → (PendingTag → Option (List Tree)) → (PendingTag → Place → EncodeFault) → EncodeFault
variant_fault true name w p its stop =
    let n = without_override name in
    under_name (take_tag w n) n w p (λ t. within (its (pending_after w name t)) p (stop (pending_after w name t) p))
variant_fault false name w p its stop =
    structure_fault w (without_override (without_override name)) p (stop Nothing (inside p))

-- the error of the first value if it has no items, else that of what follows
abbrev pub in_turn : Option (List Tree) → EncodeFault → (List Tree → EncodeFault) → EncodeFault
in_turn None here later = here
in_turn (Some ts) here later = later ts

-- the first error of a value that has no items
abbrev mutual
  pub fault : Value → PendingTag → Place → EncodeFault
  fault (boolean_value b) w p = fault_at (no_tag p.opened) w p
  fault (i8_value z) w p = fault_at (no_tag p.opened) w p
  fault (i16_value z) w p = fault_at (no_tag p.opened) w p
  fault (i32_value z) w p = fault_at (no_tag p.opened) w p
  fault (u32_value n) w p = fault_at (no_tag p.opened) w p
  fault (i64_value z) w p = fault_at (no_tag p.opened) w p
  fault (u64_value n) w p = fault_at (no_tag p.opened) w p
  fault (date_time_value z) w p = fault_at (no_tag p.opened) w p
  fault (interval_value n) w p = fault_at (no_tag p.opened) w p
  fault (text_value s) w p = fault_at (no_tag p.opened) w p
  fault (bytes_value s) w p = fault_at (no_tag p.opened) w p
  fault (big_integer_value s) w p = fault_at (no_tag p.opened) w p
  fault none w p = fault_at (mismatch (unsupported_rust_type (codes "None"))) w p
  fault (some v) w p = fault v w p
  fault (seq_value vs) w p = fault_in vs w p
  fault (struct_value name vs) w p = structure_fault w name p (fault_in vs Nothing (inside p))
  fault (newtype_value name v) w p = newtype_fault (transparent_name name) name w p (items v) (fault v)
  fault (unit_variant_value name vname) w p =
      under_name (take_tag w name) name w p (λ t. fault_at (mismatch (invalid_variant vname)) (Plain t) p)
  fault (newtype_variant_value name vname v) w p = variant_fault (is_wrapper vname) name w p (items v) (fault v)
  fault (tuple_variant_value name vname vs) w p =
      structure_fault w (without_override name) p (fault_in vs Nothing (inside p))
  fault (unsupported_value name) w p = fault_at (mismatch (unsupported_rust_type name)) w p

  -- used only if a value has no items
  pub fault_in : Values → PendingTag → Place → EncodeFault
  fault_in no_values w p = fault_at (no_tag p.opened) w p
  fault_in (value v vs) w p = in_turn (items v w) (fault v w p) (λ ts. fault_in vs (left_over w ts) (place_after p ts))
