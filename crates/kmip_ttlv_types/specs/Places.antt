-- Items by their offsets from the first byte.
use Rattle.std.specs.Prelude.{◌≡◌, ℕ, Bool, true, ◌&&◌, ◌+◌, ◌≤◌, List, [], ◌∷◌, length, take, drop, slice_index}
use Rattle.std.specs.Prelude.{nat_lt}
use Rattle.std.specs.Int.{w32, from_be_bytes}
use Rattle.kmip_ttlv_types.specs.declared.typ.TtlvType.{TtlvType}
use Rattle.kmip_ttlv_types.specs.ItemTypes.{code, padding}
use Rattle.kmip_ttlv_types.specs.Items.{Raw}

-- the tag in the header at an offset: its first three bytes
abbrev pub tag_at : List ℕ → ℕ → ℕ
tag_at bytes p =
    from_be_bytes w32 (0 ∷ slice_index bytes p ∷ slice_index bytes (p + 1) ∷ slice_index bytes (p + 2) ∷ [])

-- the type's code in it: the fourth
abbrev pub code_at : List ℕ → ℕ → ℕ
code_at bytes p = slice_index bytes (p + 3)

-- the length in it: the last four
abbrev pub length_at : List ℕ → ℕ → ℕ
length_at bytes p =
    from_be_bytes w32 (
    slice_index bytes (p + 4)
    ∷ slice_index bytes (p + 5)
    ∷ slice_index bytes (p + 6)
    ∷ slice_index bytes (p + 7)
    ∷ [])

-- how many bytes an item takes
abbrev pub size : TtlvType → ℕ → ℕ
size typ n = 8 + n + padding typ n

-- each number is a byte
abbrev pub all_below : List ℕ → Bool
all_below [] = true
all_below (b ∷ bs) = nat_lt b 256 && all_below bs

-- the eight numbers of a header are bytes
abbrev pub is_plain : List ℕ → ℕ → Bool
is_plain bytes p =
    all_below (
    slice_index bytes p
    ∷ slice_index bytes (p + 1)
    ∷ slice_index bytes (p + 2)
    ∷ slice_index bytes (p + 3)
    ∷ slice_index bytes (p + 4)
    ∷ slice_index bytes (p + 5)
    ∷ slice_index bytes (p + 6)
    ∷ slice_index bytes (p + 7)
    ∷ [])

-- this whole item is at an offset
pub record ItemAt (bytes : List ℕ) (p : ℕ) (x : Raw) : Type 0 where
  pub plain : is_plain bytes p ≡ true
  pub tag : x.tag ≡ tag_at bytes p
  pub typ : code x.typ ≡ code_at bytes p
  pub len : length x.content ≡ length_at bytes p
  pub content : x.content ≡ take (length_at bytes p) (drop (p + 8) bytes)
  pub there : p + size x.typ (length_at bytes p) ≤ length bytes

-- these whole items are there, from one offset up to another
abbrev pub ItemsAt : List ℕ → ℕ → ℕ → List Raw → Type 0
ItemsAt bytes p e [] = p ≡ e
ItemsAt bytes p e (x ∷ xs) = ItemAt bytes p x × ItemsAt bytes (p + size x.typ (length_at bytes p)) e xs
