-- Items of any tags and types: what is read of them is encoded as items that are read as the same.
use Rattle.std.proofs.Common.{◌≡◌, ◌<◌, ◌^◌, ◌%◌, ◌+◌, ◌-◌, ℕ, suc, true, false, List, [], ◌∷◌, ◌++◌, length, Option, None, Some, refl, subst, arith}
use Rattle.std.proofs.Common.{inl, inr}
use Rattle.std.proofs.lemmas.{Bool.cases_lt, Bool.eqb-true, List.get_or_append_left, List.get_or-append_right, List.get_or_past}
use Rattle.std.specs.Int.{w32, w64, from_be_bytes}
use mir.Facts.{sfits_to_z}
use Rattle.kmip_ttlv_types.specs.{declared.typ.TtlvType.TtlvType, ItemTypes.is_structure, Leaves.is_valid, Items.IsTextOf, Items.Raw, Items.Splits}
use Rattle.kmip_ttlv_types.specs.{Items.header}
use Rattle.kmip_ttlv_types.specs.declared.typ.TtlvType.TheVariants.{BigInteger, Boolean, ByteString, DateTime, Enumeration, Integer, Interval, LongInteger}
use Rattle.kmip_ttlv_types.specs.declared.typ.TtlvType.TheVariants.{Structure, TextString}
use Rattle.kmip_ttlv_base.specs.Values.{Value, Values}
use Rattle.kmip_ttlv_reader.specs.{ReadLaws.AreBytes, Reads.AreAny, Reads.IsAny, Reads.any_leaf, Reads.any_structure, Reads.is_full, Reads.leaf_under}
use Rattle.kmip_ttlv_reader.specs.{Reads.no_item, Reads.one_item}
use Rattle.kmip_ttlv_parts.specs.Agreements.{AreItems, Head, IsItem, are_more, are_none, is_leaf, is_structure as is_node}
use Rattle.kmip_ttlv_parts.specs.Returns.{as_boolean, as_date_time, as_int32, as_int64, as_interval, as_number, as_octets, as_text}
use Rattle.kmip_ttlv_parts.proofs.MessageParts.{as_whole}

-- a beginning of bytes is bytes
pub bytes_left : (xs ys : List ℕ) → AreBytes (xs ++ ys) → AreBytes xs
bytes_left xs ys all i = elim (cases_lt i (length xs)) [
  | inl lt ↦ omega (arith, all i, get_or_append_left xs ys 0 i lt)
  | inr le ↦ omega (arith, get_or_past xs i 0 le)
]

-- and so is what follows
pub bytes_right : (xs ys : List ℕ) → AreBytes (xs ++ ys) → AreBytes ys
bytes_right xs ys all i =
    let j : length xs + i - length xs ≡ i = omega arith in
    let e = rw j at (get_or-append_right xs ys (length xs) (length xs + i) 0 refl (omega arith)) in
    omega (arith, all (length xs + i), e)

-- an item's content is bytes
content_bytes : (x : Raw) (text : List ℕ) → IsTextOf x text → AreBytes text → AreBytes x.content
content_bytes x text t all =
    bytes_left x.content t.pad (bytes_right (header x.tag x.typ (length x.content)) (x.content ++ t.pad) (subst AreBytes t.parts all))

four : (c : List ℕ) → AreBytes c → from_be_bytes w32 c < 2 ^ 32
four c all = omega (arith, all 0, all 1, all 2, all 3)

eight : (c : List ℕ) → AreBytes c → from_be_bytes w64 c < 2 ^ 64
eight c all = omega (arith, all 0, all 1, all 2, all 3, all 4, all 5, all 6, all 7)

leaf_back : {d n : ℕ} (t : TtlvType) (c : List ℕ) → n % 2 ^ 24 ≡ n → is_structure t ≡ false → is_valid t c ≡ true → is_full t c ≡ true → AreBytes c
    → IsItem (suc d) (leaf_under n t c) record { tag = n; typ = t }
leaf_back Structure c is plain valid full all = absurd cc
leaf_back Integer c is plain valid full all = is_leaf is (as_int32 (sfits_to_z record { fits = four c all }))
leaf_back LongInteger c is plain valid full all = is_leaf is (as_int64 (sfits_to_z record { fits = eight c all }))
leaf_back BigInteger c is plain valid full all = is_leaf is (as_whole c (eqb-true (length c % 8) 0 full))
leaf_back Enumeration c is plain valid full all = is_leaf is (as_number (four c all))
leaf_back Boolean c is plain valid full all = is_leaf is as_boolean
leaf_back TextString c is plain valid full all = is_leaf is (as_text valid)
leaf_back ByteString c is plain valid full all = is_leaf is as_octets
leaf_back DateTime c is plain valid full all = is_leaf is (as_date_time (sfits_to_z record { fits = eight c all }))
leaf_back Interval c is plain valid full all = is_leaf is (as_interval (four c all))

-- the head of the first of these items, if there are any
abbrev pub first_head : List Raw → Option Head
first_head [] = None
first_head (h ∷ hs) = Some record { tag = h.tag; typ = h.typ }

mutual
  item_back : {d : ℕ} {h : Raw} {v : Value} → IsAny d h v → h.tag < 2 ^ 24 → AreBytes h.content → IsItem d v record { tag = h.tag; typ = h.typ }
  item_back (any_leaf {d = d} {h = h} plain valid full) small all = leaf_back {d = d} h.typ h.content (omega (arith, small)) plain valid full all
  item_back (any_structure {d = d} {h = h} {vs = vs} is splits are) small all =
      let below = items_back h.content splits all are in
      rw is (is_node {t = h.tag} (omega (arith, small)) below)

  -- the items that bytes are split into
  pub items_back : {d : ℕ} {xs : List Raw} {vs : Values} (c : List ℕ) → Splits xs c → AreBytes c → AreAny d xs vs → AreItems d vs (first_head xs)
  items_back c splits all no_item = are_none
  items_back c (text, rest, t, parts, others) all (one_item {h = h} i are) =
      let both : AreBytes (text ++ rest) = subst AreBytes parts all in
      let later = items_back rest others (bytes_right text rest both) are in
      are_more (item_back i t.tag_fits (content_bytes h text t (bytes_left text rest both))) later
