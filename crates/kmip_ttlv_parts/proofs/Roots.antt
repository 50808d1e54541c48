-- Bytes that begin with a known item, and the values that they begin with.
use Rattle.std.proofs.Common.{◌≡◌, ℕ, true, ◌+◌, List, [], ◌∷◌, ◌++◌, length, take, drop, Some, refl, sym, ap, subst, ◌∙◌, append_assoc, append-nil, arith}
use Rattle.std.specs.Prelude.{◌↔◌}
use Rattle.std.proofs.lemmas.List.{length-append, length-take-le, take_at, take-append-drop}
use Rattle.kmip_ttlv_types.specs.{Items.Raw, Items.IsTextOf, declared.typ.TtlvType.TheVariants.Structure, declared.typ.TtlvType.TtlvType}
use Rattle.kmip_ttlv_types.specs.Places.{ItemAt, length_at, size}
use Rattle.kmip_ttlv_types.specs.Trees.{bytes, bytes_all, raw_of}
use Rattle.kmip_ttlv_base.specs.{Forms.Form, Values.Value}
use Rattle.kmip_ttlv_reader.proofs.Standing.{length_more}
use Rattle.kmip_ttlv_types.proofs.PlaceLemmas.{item_at_text, item_one}
use Rattle.kmip_ttlv_reader.specs.TagValues.{TagValue}
use Rattle.kmip_ttlv_reader.specs.Reads.{Begins, Reads, is_root}
use Rattle.kmip_ttlv_ser.specs.{declared.pending.PendingTag.TheVariants.Nothing, Sizes.FitsAfter}
use Rattle.kmip_ttlv_parts.proofs.RootForms.{root_structure}
use Rattle.kmip_ttlv_parts.proofs.Padding.{ended, reads_same, turned, types_same}
use Rattle.kmip_ttlv_parts.specs.Padding.{SameButPadding, both_end, both_go_on}
use Rattle.kmip_ttlv_parts.proofs.Made.{AllMade, Any, any_texts, items_made, text_of_tree}
use Rattle.kmip_ttlv_parts.specs.ReadingLaws.{LaterBytes, MessageAlone, CutMessages, ReadsAlone, ReadingWhatWasWritten, PaddingIsFree}

-- an encoding is as long as its item's size
pub text_length : (x : Raw) (a : List ℕ) → IsTextOf x a → length a ≡ size x.typ (length x.content)
text_length x a t = ap length t.parts ∙ omega (arith, length-append x.content t.pad, t.pad_length)

-- at most one item has an encoding at the front of the same bytes
pub one_item : (x y : Raw) (a b after other : List ℕ) → IsTextOf x a → IsTextOf y b → a ++ after ≡ b ++ other → x ≡ y
one_item x y a b after other p q e =
    item_one (a ++ after) 0 x y (item_at_text (a ++ after) 0 x a after (omega arith) refl p) (item_at_text (a ++ after) 0 y b other (omega arith) e q)

-- a root form reads the item alone
pub record ReadsRoot (s : Form) (x : Raw) (v : Value) : Type 0 where
  pub root : is_root s ≡ true
  pub is_structure : x.typ ≡ Structure
  pub stored : List TagValue
  pub reads : Reads s [] (x ∷ []) v stored []

-- bytes that begin with a value begin with an item that the form reads
root_in : {s : Form} {w : List ℕ} {v : Value} (g : Begins s w v) → ReadsRoot s g.item v
root_in g = record { root = g.root; is_structure = g.is_structure; stored = g.stored; reads = g.reads }

-- a form reads from the item what bytes with the item's encoding in front begin with; and conversely
pub root_of_begins : (s : Form) (x : Raw) (text after : List ℕ) (v : Value) → IsTextOf x text → Begins s (text ++ after) v → ReadsRoot s x v
root_of_begins s x text after v t g =
    let same : g.item ≡ x = one_item g.item x g.item_text text g.after after g.is_text t (sym g.parts) in
    subst (λ (y : Raw). ReadsRoot s y v) same (root_in g)

begins_of_root : (s : Form) (x : Raw) (text after : List ℕ) (v : Value) → IsTextOf x text → ReadsRoot s x v → Begins s (text ++ after) v
begins_of_root s x text after v t r =
    let structure = r.is_structure in
    record { root = r.root; item = x; item_text = text; after = after; stored = r.stored; is_text = t; is_structure = structure; parts = refl; reads = r.reads }

pub later_bytes : LaterBytes
later_bytes s x text after other v t =
    (λ g. begins_of_root s x text other v t (root_of_begins s x text after v t g), λ g. begins_of_root s x text after v t (root_of_begins s x text other v t g))

-- an item that is cut isn't an item
pub cut_messages : CutMessages
cut_messages s x front back v t lt g = (λ w h. absurd (shorter w h), λ refused. refused back v g)
  where
    shorter : (w : Value) → Begins s front w → ⊥
    shorter w h =
        let whole : (front ++ back) ++ [] ≡ h.item_text ++ (h.after ++ back) =
        append-nil (front ++ back) ∙ ap (λ (l : List ℕ). l ++ back) h.parts ∙ append_assoc h.item_text h.after back in
        let same : x ≡ h.item = one_item x h.item (front ++ back) h.item_text [] (h.after ++ back) t h.is_text whole in
        let long : length (front ++ back) ≡ length h.item_text = text_length x (front ++ back) t ∙ ap (λ (y : Raw). size y.typ (length y.content)) same
        ∙ sym (text_length h.item h.item_text h.is_text) in
        omega (arith, lt, long, length-append front back, ap length h.parts, length-append h.item_text h.after)

-- the encoding of a Structure in front of bytes, by its length
front_text : (w : List ℕ) (x : Raw) (text after : List ℕ) → w ≡ text ++ after → x.typ ≡ Structure → IsTextOf x text → take (8 + length_at w 0) w ≡ text
front_text w x text after e s t =
    let item : ItemAt w 0 x = item_at_text w 0 x text after (omega arith) e t in
    let long : length text ≡ 8 + length_at w 0 = text_length x text t ∙ ap (λ (y : TtlvType). size y (length x.content)) s ∙ omega (arith, item.len) in
    ap (take (8 + length_at w 0)) e ∙ take_at text after (8 + length_at w 0) long

pub message_alone : MessageAlone
message_alone s w after v le = (there, back)
  where
    there : Begins s w v → Begins s (take (8 + length_at w 0) w ++ after) v
    there g =
        let e : take (8 + length_at w 0) w ≡ g.item_text = front_text w g.item g.item_text g.after g.parts g.is_structure g.is_text in
        subst (λ (l : List ℕ). Begins s (l ++ after) v) (sym e) (begins_of_root s g.item g.item_text after v g.is_text (root_in g))

    -- the length is the same, because it is within the message
    len_same : length_at (take (8 + length_at w 0) w ++ after) 0 ≡ length_at w 0
    len_same =
        let front = take (8 + length_at w 0) w in
        let long : length front ≡ 8 + length_at w 0 = length-take-le (8 + length_at w 0) w le in
        length_more front after 0 (omega (arith, long)) ∙ sym (length_more front (drop (8 + length_at w 0) w) 0 (omega (arith, long)))
        ∙ ap (λ (l : List ℕ). length_at l 0) (take-append-drop (8 + length_at w 0) w)

    back : Begins s (take (8 + length_at w 0) w ++ after) v → Begins s w v
    back g =
        let front = take (8 + length_at w 0) w in
        let long : length front ≡ 8 + length_at w 0 = length-take-le (8 + length_at w 0) w le in
        let e : take (8 + length_at (front ++ after) 0) (front ++ after) ≡ g.item_text =
        front_text (front ++ after) g.item g.item_text g.after g.parts g.is_structure g.is_text in
        let same : g.item_text ≡ front = sym e ∙ ap (λ k. take (8 + k) (front ++ after)) len_same ∙ take_at front after (8 + length_at w 0) long in
        let text : IsTextOf g.item front = subst (IsTextOf g.item) same g.is_text in
        subst (λ (l : List ℕ). Begins s l v) (take-append-drop (8 + length_at w 0) w) (begins_of_root s g.item front _ v text (root_in g))

-- bytes begin with what a root form reads from their first item alone
pub begins_alone : (s : Form) (x : Raw) (text after : List ℕ) (v : Value) → is_root s ≡ true → IsTextOf x text → Begins s (text ++ after) v ↔ ReadsAlone s x v
begins_alone s x text after v e t = (
  λ g. let r = root_of_begins s x text after v t g in (r.stored, r.reads),
  λ r. begins_of_root s x text after v t record { root = e; is_structure = root_structure e r.1; stored = r.0; reads = r.1 },
)

pub reading_what_was_written : ReadingWhatWasWritten
reading_what_was_written v d n written r rest s w is root =
    let same : w.trees ≡ r ∷ rest = let k : Some w.trees ≡ Some (r ∷ rest) = sym w.are ∙ is in cc in
    let made : AllMade Any (r ∷ rest) = items_made Any v Nothing (r ∷ rest) (any_texts v) tt is in
    let fit : FitsAfter n (r ∷ rest) = subst (FitsAfter n) same w.fit in
    let parts : written ≡ bytes r ++ bytes_all rest = w.bytes_are ∙ ap bytes_all same in
    rw parts (begins_alone s (raw_of r) (bytes r) (bytes_all rest) d root (text_of_tree Any r made.0 fit.each.0))

-- an item that is the same but for padding is decoded alike
root_alike : (s : Form) (x y : Raw) (v : Value) → SameButPadding x y → ReadsRoot s x v → ReadsRoot s y v
root_alike s x y v e r =
    let b = reads_same r.reads (both_go_on e both_end) in
    let reads = subst (λ (l : List Raw). Reads s [] (y ∷ []) v r.stored l) (ended b.2) b.1 in
    record { root = r.root; is_structure = sym (types_same e) ∙ r.is_structure; stored = r.stored; reads = reads }

-- encodings of such items begin with the same values
begins_alike : (s : Form) (x y : Raw) (a b after other : List ℕ) (v : Value) → SameButPadding x y → IsTextOf x a → IsTextOf y b → Begins s (a ++ after) v
    → Begins s (b ++ other) v
begins_alike s x y a b after other v e t u g = begins_of_root s y b other v u (root_alike s x y v e (root_of_begins s x a after v t g))

pub padding_is_free : PaddingIsFree
padding_is_free s x y a b after other v e t u = (begins_alike s x y a b after other v e t u, begins_alike s y x b a other after v (turned e) u t)
