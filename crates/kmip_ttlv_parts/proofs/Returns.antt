-- Leaves and unit variants that were encoded are decoded again.
use Rattle.std.proofs.Common.{◌≡◌, ℕ, ℤ, Bool, true, false, List, [], ◌∷◌, Option, Some, refl, ap, subst, ◌∙◌, FitsSigned, arith}
use Rattle.std.specs.Int.{w32, w64, to_be_bytes, from_be_bytes, cast_signed, cast_unsigned}
use Rattle.std.proofs.{lemmas.Int.to_z-of_z, lemmas.Nat.from_be_bytes-to_be_bytes_4, lemmas.Nat.from_be_bytes-to_be_bytes_8, Math.Facts.Fits-of_z}
use Rattle.kmip_ttlv_types.specs.{declared.typ.TtlvType.TheVariants.Enumeration, Leaves.is_valid, Items.Raw, Trees.leaf as leaf_tree}
use Rattle.kmip_ttlv_base.specs.Forms.{Form, boolean}
use Rattle.kmip_ttlv_base.specs.Values.{Value, boolean_value, i32_value, u32_value, i64_value, date_time_value, interval_value, unit_variant_value}
use Rattle.kmip_ttlv_ser.specs.declared.pending.PendingTag.{PendingTag, TheVariants.Plain}
use Rattle.kmip_ttlv_ser.specs.WrittenItems.{pending_tag, items, enumeration, one_leaf, ◌>>=◌}
use Rattle.kmip_ttlv_reader.specs.TagValues.{TagValue}
use Rattle.kmip_ttlv_reader.specs.Reads.{Reads, leaf, by_number, decoded_leaf, takes, stored_after_leaf}
use Rattle.kmip_ttlv_parts.specs.Agreements.{is_run, leaf_type, with_value}
use Rattle.kmip_ttlv_parts.specs.ReadingLaws.{LeavesComeBack, UnitsComeBack}
use Rattle.kmip_ttlv_parts.specs.Returns.{ComesBack, as_boolean, as_date, as_date_time, as_int16, as_int32, as_int64, as_int8, as_interval, as_number, as_text}

-- a value is encoded as one leaf, whose type and content the form takes, and it reads the other value from these
pub record LeafIs (s : Form) (w v : Value) : Type 0 where
  pub content : List ℕ
  pub written : (h : PendingTag) (t : ℕ) → pending_tag h ≡ Some t → items w h ≡ Some (leaf_tree t (leaf_type w) content ∷ [])
  pub takes_it : takes s (leaf_type w) ≡ true
  pub valid : is_valid (leaf_type w) content ≡ true
  pub gives : decoded_leaf s content ≡ v
  pub single : is_run v ≡ false
  pub keeps : (t : ℕ) (k : List TagValue) → stored_after_leaf s record { tag = t; typ = leaf_type w; content = content } k ≡ with_value s t w k

leaf_by : {s : Form} {w v : Value} (content : List ℕ) → ((h : PendingTag) → items w h ≡ one_leaf h (leaf_type w) content) → takes s (leaf_type w) ≡ true
    → is_valid (leaf_type w) content ≡ true → decoded_leaf s content ≡ v → is_run v ≡ false
    → ((t : ℕ) (k : List TagValue) → stored_after_leaf s record { tag = t; typ = leaf_type w; content = content } k ≡ with_value s t w k) → LeafIs s w v
leaf_by {w = w} content are takes_it valid gives single keeps =
    let written = λ (h : PendingTag) (t : ℕ) (e : pending_tag h ≡ Some t). are h
    ∙ ap (λ (o : Option ℕ). o >>= λ n. Some (leaf_tree n (leaf_type w) content ∷ [])) e in
    record { content = content; written = written; takes_it = takes_it; valid = valid; gives = gives; single = single; keeps = keeps }

-- signed numbers come back from their bytes
four_back : (z : ℤ) → FitsSigned w32 z → cast_signed w32 (from_be_bytes w32 (to_be_bytes w32 (cast_unsigned w32 z))) ≡ z
four_back z f = ap (cast_signed w32) (from_be_bytes-to_be_bytes_4 (cast_unsigned w32 z) (omega (arith, Fits-of_z f))) ∙ to_z-of_z w32 z f

eight_back : (z : ℤ) → FitsSigned w64 z → cast_signed w64 (from_be_bytes w64 (to_be_bytes w64 (cast_unsigned w64 z))) ≡ z
eight_back z f = ap (cast_signed w64) (from_be_bytes-to_be_bytes_8 (cast_unsigned w64 z) (omega (arith, Fits-of_z f))) ∙ to_z-of_z w64 z f

-- a truth value comes back
bool_is : (b : Bool) → LeafIs boolean (boolean_value b) (boolean_value b)
bool_is true = leaf_by (to_be_bytes w64 1) (λ h. refl) refl refl refl refl (λ t k. refl)
bool_is false = leaf_by (to_be_bytes w64 0) (λ h. refl) refl refl refl refl (λ t k. refl)

-- for each rule
pub leaf_of : (s : Form) (w v : Value) → ComesBack s w v → LeafIs s w v
leaf_of s w v (as_int8 {z = z} f) = leaf_by _ (λ h. refl) refl refl (ap i32_value (four_back z f)) refl (λ t k. refl)
leaf_of s w v (as_int16 {z = z} f) = leaf_by _ (λ h. refl) refl refl (ap i32_value (four_back z f)) refl (λ t k. refl)
leaf_of s w v (as_int32 {z = z} f) = leaf_by _ (λ h. refl) refl refl (ap i32_value (four_back z f)) refl (λ t k. refl)
leaf_of s w v (as_int64 {z = z} f) = leaf_by _ (λ h. refl) refl refl (ap i64_value (eight_back z f)) refl (λ t k. refl)
leaf_of s w v (as_date {n = n} lt) =
    leaf_by _ (λ h. refl) refl refl (ap (λ m. i64_value (cast_signed w64 m)) (from_be_bytes-to_be_bytes_8 n lt)) refl (λ t k. refl)
leaf_of s w v (as_boolean {b = b}) = bool_is b
leaf_of s w v (as_text u) = leaf_by _ (λ h. refl) refl u refl refl (λ t k. refl)
leaf_of s w v (as_date_time {z = z} f) = leaf_by _ (λ h. refl) refl refl (ap date_time_value (eight_back z f)) refl (λ t k. refl)
leaf_of s w v (as_interval {n = n} lt) = leaf_by _ (λ h. refl) refl refl (ap interval_value (from_be_bytes-to_be_bytes_4 n lt)) refl (λ t k. refl)
leaf_of s w v (as_number {n = n} lt) = leaf_by _ (λ h. refl) refl refl (ap u32_value (from_be_bytes-to_be_bytes_4 n lt)) refl (λ t k. refl)
leaf_of s w v c = leaf_by _ (λ h. refl) refl refl refl refl (λ t k. refl)

-- it comes back, whatever was kept before and whatever follows
pub leaves_come_back : LeavesComeBack
leaves_come_back s v w t k xs c =
    let l = leaf_of s v w c in
    let x : Raw = record { tag = t; typ = leaf_type v; content = l.content } in
    let read : Reads s k (x ∷ xs) (decoded_leaf s l.content) (stored_after_leaf s x k) xs = leaf l.takes_it l.valid in
    (leaf_tree t (leaf_type v) l.content, l.written (Plain t) t refl, subst (λ (u : Value). Reads s k (x ∷ xs) u (stored_after_leaf s x k) xs) l.gives read)

-- a unit variant comes back by its number
pub units_come_back : UnitsComeBack
unfolding enumeration
units_come_back name vname own vs w t n k xs taken number_is names =
    let written : items (unit_variant_value name vname) w ≡ Some (leaf_tree t Enumeration (to_be_bytes w32 n) ∷ []) =
    ap (λ (o : Option ℕ). o >>= λ s. enumeration s vname) taken ∙ ap (λ (o : Option ℕ). o >>= λ m. one_leaf (Plain t) Enumeration (to_be_bytes w32 m))
    number_is in
    let h : Raw = record { tag = t; typ = Enumeration; content = to_be_bytes w32 n } in
    (leaf_tree t Enumeration (to_be_bytes w32 n), written, by_number {h = h} names.no_rule refl refl names.named)
