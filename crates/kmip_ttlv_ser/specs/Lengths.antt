-- Lengths that four bytes, or an offset that eight bytes, can't hold.
use Rattle.std.specs.Prelude.{ℕ, ◌+◌, ◌≤◌, ◌^◌, Bool, true, false, List, Option, Some, None, length, ◌⊎◌}
use Rattle.kmip_ttlv_types.specs.Names.{transparent_name}
use Rattle.kmip_ttlv_types.specs.Primitives.{sign_extended}
use Rattle.kmip_ttlv_types.specs.Trees.{Tree, bytes_all}
use Rattle.kmip_ttlv_base.specs.Values.{Value, text_value, bytes_value, big_integer_value, some_value as some}
use Rattle.kmip_ttlv_base.specs.Values.{seq_value, struct_value, newtype_value, newtype_variant_value}
use Rattle.kmip_ttlv_base.specs.Values.{tuple_variant_value, Values, no_values, value}
use Rattle.kmip_ttlv_ser.specs.declared.pending.PendingTag.{PendingTag}
use Rattle.kmip_ttlv_ser.specs.declared.pending.PendingTag.TheVariants.{Nothing, Plain}
use Rattle.kmip_ttlv_ser.specs.declared.pending.Place.{Place}
use Rattle.kmip_ttlv_ser.specs.WrittenItems.{take_tag, pending_after, without_override, is_wrapper, left_over, items}
use Rattle.kmip_ttlv_ser.specs.WrittenItems.{items_in}
use Rattle.kmip_ttlv_ser.specs.Faults.{EncodeFault, fault, fault_in}

-- a text, a byte string or a sign-extended big integer anywhere in a value is too long
abbrev mutual
  pub HasLongLeaf : Value → Type 0
  HasLongLeaf (text_value s) = 2 ^ 32 ≤ length s
  HasLongLeaf (bytes_value s) = 2 ^ 32 ≤ length s
  HasLongLeaf (big_integer_value s) = 2 ^ 32 ≤ length (sign_extended s)
  HasLongLeaf (some v) = HasLongLeaf v
  HasLongLeaf (seq_value vs) = HaveLongLeaf vs
  HasLongLeaf (struct_value name vs) = HaveLongLeaf vs
  HasLongLeaf (newtype_value name v) = HasLongLeaf v
  HasLongLeaf (newtype_variant_value name vname v) = HasLongLeaf v
  HasLongLeaf (tuple_variant_value name vname vs) = HaveLongLeaf vs
  HasLongLeaf _ = ⊥

  pub HaveLongLeaf : Values → Type 0
  HaveLongLeaf no_values = ⊥
  HaveLongLeaf (value v vs) = HasLongLeaf v ⊎ HaveLongLeaf vs

-- how many bytes there are up to the first error, or to the end if there is none, after n earlier ones
abbrev pub reach : Option (List Tree) → EncodeFault → ℕ → ℕ
reach None stop n = stop.offset
reach (Some ts) stop n = n + length (bytes_all ts)

-- the place at which a structure's content begins, counted from there
abbrev pub content_start : Place
content_start = record { offset = 0; opened = true }

-- a structure's content, counted up to the first error, is too long
abbrev pub IsLongContent : Option (List Tree) → EncodeFault → Type 0
IsLongContent below stop = 2 ^ 32 ≤ reach below stop 0

-- a tag was taken, and then this holds
abbrev pub Under : Option ℕ → (ℕ → Type 0) → Type 0
Under None inside = ⊥
Under (Some t) inside = inside t

-- what follows, if there are items
abbrev pub After : Option (List Tree) → (List Tree → Type 0) → Type 0
After None later = ⊥
After (Some ts) later = later ts

-- a structure under a name's tag: its own content is too long, or that of a structure inside
abbrev pub structure_long : PendingTag → List ℕ → Type 0 → Type 0 → Type 0
structure_long w name whole inside = Under (take_tag w name) (λ t. whole ⊎ inside)

-- a newtype, by what follows `Transparent:` in its name; whole means that its own structure is too long
abbrev pub newtype_long : Option (List ℕ) → List ℕ → PendingTag → Type 0 → (PendingTag → Type 0) → Type 0
newtype_long None name w whole inside = structure_long w name whole (inside Nothing)
newtype_long (Some n) name w whole inside = Under (take_tag w n) (λ t. inside (Plain t))

-- a newtype variant, by whether it is named `Transparent`
abbrev pub variant_long : Bool → List ℕ → PendingTag → Type 0 → (PendingTag → Type 0) → Type 0
variant_long true name w whole inside = Under (take_tag w (without_override name)) (λ t. inside (pending_after w name t))
variant_long false name w whole inside =
    structure_long w (without_override (without_override name)) whole (inside Nothing)

-- a structure, counted up to the first error, is too long
abbrev mutual
  pub HasLongStructure : Value → PendingTag → Type 0
  HasLongStructure (some v) w = HasLongStructure v w
  HasLongStructure (seq_value vs) w = HaveLongStructure vs w
  HasLongStructure (struct_value name vs) w =
      structure_long w name (IsLongContent (items_in vs Nothing) (fault_in vs Nothing content_start))
      (HaveLongStructure vs Nothing)
  HasLongStructure (newtype_value name v) w =
      newtype_long (transparent_name name) name w (IsLongContent (items v Nothing) (fault v Nothing content_start))
      (HasLongStructure v)
  HasLongStructure (newtype_variant_value name vname v) w =
      variant_long (is_wrapper vname) name w (IsLongContent (items v Nothing) (fault v Nothing content_start))
      (HasLongStructure v)
  HasLongStructure (tuple_variant_value name vname vs) w =
      structure_long w (without_override name)
      (IsLongContent (items_in vs Nothing) (fault_in vs Nothing content_start)) (HaveLongStructure vs Nothing)
  HasLongStructure _ w = ⊥

  pub HaveLongStructure : Values → PendingTag → Type 0
  HaveLongStructure no_values w = ⊥
  HaveLongStructure (value v vs) w =
      HasLongStructure v w ⊎ After (items v w) (λ ts. HaveLongStructure vs (left_over w ts))

-- some length is too long, or the offset of the first error
abbrev pub IsLong : Value → Place → Type 0
IsLong v p = HasLongLeaf v ⊎ HasLongStructure v Nothing ⊎ (2 ^ 64 ≤ (fault v Nothing p).offset)
