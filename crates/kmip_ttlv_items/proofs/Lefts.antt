-- The rest of a message from an offset within it, and the items of that rest.
use Rattle.std.proofs.Common.{◌≡◌, ◌≢◌, inl, inr, ℕ, ◌+◌, ◌-◌, ◌<◌, ◌≤◌, true, List, [], ◌∷◌, ◌++◌, length, get_or, take, drop, Some, ap, sym, refl, subst, ◌∙◌}
use Rattle.std.proofs.Common.{arith, append_assoc, append-nil, length-append}
use Rattle.std.proofs.lemmas.List.{length-take-le, length-drop, take_all}
use Rattle.kmip_ttlv_types.specs.{declared.typ.TtlvType.TtlvType, declared.typ.TtlvType.TheVariants.Structure, ItemTypes.type_of, ItemTypes.fixed_length}
use Rattle.kmip_ttlv_types.specs.{Items.IsTextOf, Leaves.is_valid}
use Rattle.kmip_ttlv_types.specs.Places.{ItemAt, tag_at, length_at, size}
use Rattle.kmip_ttlv_types.specs.Trees.{Tree, Trees, leaf, node, no_trees, tree, IsTreeText, AreTreeTexts, IsStructure}
use Rattle.kmip_ttlv_types.proofs.PlaceLemmas.{raw_with, text_length, item_at_text, text_at_item, type_of-code}
use Rattle.kmip_ttlv_items.specs.declared.found.{FoundItem.FoundItem, FaultKind.FaultKind}
use Rattle.kmip_ttlv_items.specs.declared.found.FaultKind.TheVariants.{Cut, NoStructure, UnknownType, PartialHeader, WrongLength, Overlong, InvalidValue}
use Rattle.kmip_ttlv_items.specs.FoundItems.{span_all, item, listed, listed_all, Lists}
use Rattle.kmip_ttlv_items.specs.ItemWalks.{has_length, type_at, content_at, IsWhole, Misfits, RootMisfits}
use Rattle.kmip_ttlv_items.proofs.Spans.{text_span, texts_span, span_least, valid_length, size_least, own_most}
use Rattle.kmip_ttlv_items.proofs.Leads.{TreesAt, Lead, leaf_first, node_first, lead, leaf_before, node_before, item_here}

-- trees are encoded from an offset to the innermost end, from there to the next one, and so on; and these are their items
abbrev pub Left : List ℕ → ℕ → List ℕ → List FoundItem → Type 0
Left w p [] ys = (p ≡ length w) × (ys ≡ [])
Left w p (e ∷ es) ys = (ts : Trees) × (zs : List FoundItem) × TreesAt w p e ts × (ys ≡ listed_all p (length (e ∷ es)) ts ++ zs) × Left w e es zs

-- the items of a message are those that were met, then those that are left
pub record Goes (w : List ℕ) (p : ℕ) (es : List ℕ) (found all : List FoundItem) : Type 0 where
  pub rest : List FoundItem
  pub left : Left w p es rest
  pub are : all ≡ found ++ rest

-- what is left in the innermost structure are these trees
left_in : (w : List ℕ) (p e : ℕ) (es : List ℕ) (ts : Trees) (zs : List FoundItem) → TreesAt w p e ts → Left w e es zs
    → Left w p (e ∷ es) (listed_all p (length (e ∷ es)) ts ++ zs)
left_in w p e es ts zs at outer = (ts, zs, at, refl, outer)

goes_in : {w : List ℕ} {p e : ℕ} {es : List ℕ} {found all : List FoundItem} (ts : Trees) (zs : List FoundItem) → TreesAt w p e ts → Left w e es zs
    → all ≡ found ++ (listed_all p (length (e ∷ es)) ts ++ zs) → Goes w p (e ∷ es) found all
goes_in {w} {p} {e} {es} ts zs at outer are = record { rest = listed_all p (length (e ∷ es)) ts ++ zs; left = left_in w p e es ts zs at outer; are = are }

-- an item is determined by the bytes
item_is : {w : List ℕ} {p e depth n : ℕ} {typ : TtlvType} {i : FoundItem} → IsWhole w p e depth i → n ≡ length_at w p → i.typ ≡ typ
    → i ≡ item p depth (tag_at w p) typ n
item_is {w} {p} {depth = depth} {n} {typ} {i} h is t =
    let k : item i.offset i.depth i.tag i.typ i.length ≡ item p depth (tag_at w p) typ n = rw (h.offset, h.deep, h.tag, t, h.len, is) refl in k

-- when a structure's end is reached, nothing is left in it
none_left : (w : List ℕ) (p e depth : ℕ) (ts : Trees) (zs : List FoundItem) → p ≡ e → e ≤ length w → TreesAt w p e ts → listed_all p depth ts ++ zs ≡ zs
none_left w p e depth no_trees zs at within h = refl
none_left w p e depth (tree t ts) zs at within h =
    let long = length-take-le (e - p) (drop p w) (omega (arith, length-drop p w)) in
    absurd (omega (arith, long, ap length h.2, length-append h.0 h.1, text_span t h.0 h.3, span_least t))

-- so the walk moves on past it
pub out_to : {w : List ℕ} {p e : ℕ} {es : List ℕ} {found all : List FoundItem} → p ≡ e → e ≤ length w → Goes w p (e ∷ es) found all → Goes w p es found all
out_to {w} {p} {e} {es} {found} at within h = record {
  rest = h.left.1;
  left = subst (λ (q : ℕ). Left w q es h.left.1) (sym at) h.left.4;
  are = h.are ∙ ap (λ (s : List FoundItem). found ++ s) (h.left.3 ∙ none_left w p e (length (e ∷ es)) h.left.0 h.left.1 at within h.left.2);
}

pub out_from : {w : List ℕ} {p e : ℕ} {es : List ℕ} {found all : List FoundItem} → p ≡ e → Goes w p es found all → Goes w p (e ∷ es) found all
out_from {w} {p} {e} {es} at h =
    let none : e - p ≡ 0 = omega arith in
    goes_in no_trees h.rest (ap (λ (n : ℕ). take n (drop p w)) none) (subst (λ (q : ℕ). Left w q es h.rest) at h.left) h.are

-- the trees in a structure are as long as its header states
inner_span : (w : List ℕ) (p n : ℕ) (below : Trees) → TreesAt w p (p + n) below → p + n ≤ length w → n ≡ span_all below
inner_span w p n below inner fits =
    omega (arith, texts_span below (take (p + n - p) (drop p w)) inner, length-take-le (p + n - p) (drop p w) (omega (arith, length-drop p w)))

module _ {w : List ℕ} {p e : ℕ} {es : List ℕ} {found all : List FoundItem} (le : p < e) (within : e ≤ length w) where
  -- a leaf is passed
  pub past_to : {i : FoundItem} {q : ℕ} → IsWhole w p e (length (e ∷ es)) i → i.typ ≢ Structure → q ≡ p + size i.typ i.length → Goes w p (e ∷ es) found all
      → Goes w q (e ∷ es) (found ++ (i ∷ [])) all
  past_to {i} {q} whole ne at h = by (lead w p e (omega arith) within h.left.0 le h.left.2)
    where
      by : Lead w p e h.left.0 → Goes w q (e ∷ es) (found ++ (i ∷ [])) all
      by (node_first below more is fits same inner others) = absurd (ne (let k = whole.typ in cc))
      by (leaf_first typ more is not valid long fits same others) =
          let t : i.typ ≡ typ = let k = whole.typ in cc in
          let q-is : q ≡ p + size typ (length (content_at w p)) = at ∙ rw (t, whole.len, long) refl in
          rw (q-is, item_is whole long t) (goes_in more h.left.1 (subst (λ (n : ℕ). TreesAt w (p + size typ n) e more) (sym long) others) h.left.4
          (h.are ∙ rw (h.left.3, same) (simp append_assoc)))

  -- a structure is entered
  pub into_to : {i : FoundItem} {q f : ℕ} → IsWhole w p e (length (e ∷ es)) i → i.typ ≡ Structure → q ≡ p + 8 → f ≡ p + size i.typ i.length
      → Goes w p (e ∷ es) found all → Goes w q (f ∷ e ∷ es) (found ++ (i ∷ [])) all
  into_to {i} {q} {f} whole is-node at end h = by (lead w p e (omega arith) within h.left.0 le h.left.2)
    where
      by : Lead w p e h.left.0 → Goes w q (f ∷ e ∷ es) (found ++ (i ∷ [])) all
      by (leaf_first typ more is not valid long fits same others) = absurd (not (let k = whole.typ in cc))
      by (node_first below more is fits same inner others) =
          let n : length_at w p ≡ span_all below = inner_span w (p + 8) (length_at w p) below inner (omega arith) in
          let f-is : f ≡ p + (8 + span_all below) = end ∙ rw (is-node, whole.len, n) (omega arith) in
          let zs = listed_all (p + (8 + span_all below)) (length (e ∷ es)) more in
          rw (at, f-is, item_is whole (sym n) is-node)
          (goes_in below (zs ++ h.left.1) (subst (λ (m : ℕ). TreesAt w (p + 8) m below) (omega (arith, n)) inner)
          (left_in w (p + (8 + span_all below)) e es more h.left.1 (subst (λ (m : ℕ). TreesAt w m e more) (omega (arith, n)) others) h.left.4)
          (h.are ∙ rw (h.left.3, same) (simp append_assoc)))

  -- if an item isn't whole, there is no message
  pub misfit : (kind : FaultKind) → Misfits w p e kind → Goes w p (e ∷ es) found all → ⊥
  misfit kind wrong h = by kind wrong (lead w p e (omega arith) within h.left.0 le h.left.2)
    where
      -- the first item has a type, it fits, and if it is a leaf, its length and content are valid
      against : (kind : FaultKind) → Misfits w p e kind → (typ : TtlvType) → type_at w p ≡ Some typ → p + size typ (length_at w p) ≤ e
          → has_length (fixed_length typ) (length_at w p) ≡ true → (typ ≢ Structure → is_valid typ (content_at w p) ≡ true) → ⊥
      against PartialHeader wrong typ is fits has valid = omega (arith, wrong, size_least typ (length_at w p))
      against UnknownType wrong typ is fits has valid = let k = wrong.2 in cc
      against WrongLength wrong typ is fits has valid = let t : wrong.0 ≡ typ = let k = wrong.1.typ in cc in let k = wrong.2 in let m =
          ap (λ (u : TtlvType). has_length (fixed_length u) (length_at w p)) t in cc
      against Overlong wrong typ is fits has valid = let t : wrong.0 ≡ typ = let k = wrong.1.typ in cc in
          let m : size wrong.0 (length_at w p) ≡ size typ (length_at w p) = ap (λ (u : TtlvType). size u (length_at w p)) t in omega (arith, wrong.3)
      against InvalidValue wrong typ is fits has valid = let t : wrong.0 ≡ typ = let k = wrong.1.typ in cc in let v = valid (λ s. wrong.5 (t ∙ s)) in let k =
          wrong.6 in let m = ap (λ (u : TtlvType). is_valid u (content_at w p)) t in cc
      against Cut wrong typ is fits has valid = elim wrong [
        | inl a ↦ omega (arith, a.1, fits, size_least typ (length_at w p))
        | inr b ↦ omega (arith, b.cut, b.fits, own_most b.typ (length_at w p))
      ]
      against _ wrong typ is fits has valid = wrong

      by : (kind : FaultKind) → Misfits w p e kind → Lead w p e h.left.0 → ⊥
      by kind wrong (leaf_first typ more is not valid long fits same others) = against kind wrong typ is fits (ap (has_length (fixed_length typ)) (sym long)
          ∙ valid_length typ (content_at w p) valid) (λ _. valid)
      by kind wrong (node_first below more is fits same inner others) = against kind wrong Structure is fits refl (λ ne. absurd (ne refl))

  module _ (plain : (i : ℕ) → get_or w i 0 < 256) where
    -- back over a leaf that was passed
    pub past_from : {i : FoundItem} {q : ℕ} → IsWhole w p e (length (e ∷ es)) i → i.typ ≢ Structure → q ≡ p + size i.typ i.length
        → Goes w q (e ∷ es) (found ++ (i ∷ [])) all → Goes w p (e ∷ es) found all
    past_from {i} {q} whole ne at g =
        let q-is : q ≡ p + size i.typ (length (content_at w p)) = at ∙ rw (whole.len, long) refl in
        by (rw (item_is whole long refl, q-is) at g)
      where
        long : length (content_at w p) ≡ length_at w p
        long = let n = length_at w p in
            length-take-le n (drop (p + 8) w) (omega (arith, length-drop (p + 8) w, size_least i.typ n, whole.fits, whole.len))

        by : Goes w (p + size i.typ (length (content_at w p))) (e ∷ es)
            (found ++ (item p (length (e ∷ es)) (tag_at w p) i.typ (length (content_at w p)) ∷ [])) all → Goes w p (e ∷ es) found all
        by h =
            let behind : TreesAt w (p + size i.typ (length_at w p)) e h.left.0 = subst (λ (m : ℕ). TreesAt w (p + size i.typ m) e h.left.0) long h.left.2 in
            goes_in (tree (leaf (tag_at w p) i.typ (content_at w p)) h.left.0) h.left.1
            (leaf_before w p e (omega arith) within plain i.typ h.left.0 whole.typ (whole.valid ne) (rw whole.len at whole.fits) behind) h.left.4
            (h.are ∙ rw h.left.3 (simp append_assoc))

    -- back over a structure that was entered
    pub into_from : {i : FoundItem} {q f : ℕ} → IsWhole w p e (length (e ∷ es)) i → i.typ ≡ Structure → q ≡ p + 8 → f ≡ p + size i.typ i.length
        → Goes w q (f ∷ e ∷ es) (found ++ (i ∷ [])) all → Goes w p (e ∷ es) found all
    into_from {i} {q} {f} whole is-node at end g =
        let f-is : f ≡ p + 8 + length_at w p = end ∙ rw (is-node, whole.len) (omega arith) in
        by (rw (item_is whole refl is-node, at, f-is) at g)
      where
        by : Goes w (p + 8) ((p + 8 + length_at w p) ∷ e ∷ es) (found ++ (item p (length (e ∷ es)) (tag_at w p) Structure (length_at w p) ∷ [])) all
            → Goes w p (e ∷ es) found all
        by h =
            let fits : p + size Structure (length_at w p) ≤ e = omega (arith, whole.fits) in
            let below = h.left.0 in
            let outer = h.left.4 in
            let n : length_at w p ≡ span_all below = inner_span w (p + 8) (length_at w p) below h.left.2 (omega (arith, fits)) in
            let end-is : p + 8 + span_all below ≡ p + (8 + span_all below) = omega arith in
            let behind : TreesAt w (p + size Structure (length_at w p)) e outer.0 = subst (λ (m : ℕ). TreesAt w m e outer.0) (omega arith) outer.2 in
            let typ-is : type_at w p ≡ Some Structure = whole.typ ∙ ap (λ (u : TtlvType). Some u) is-node in
            goes_in (tree (node (tag_at w p) below) outer.0) outer.1
            (node_before w p e (omega arith) within plain below outer.0 typ-is fits h.left.2 behind) outer.4
            (h.are ∙ rw (h.left.3, outer.3, n, end-is) (simp append_assoc))

-- ---- the root

-- the root of a whole message, and what is in it
root_content : (w : List ℕ) (tag : ℕ) (below : Trees) (h : IsTreeText (node tag below) w) → ItemAt w 0 (raw_with tag Structure h.0)
root_content w tag below h = item_at_text w 0 (raw_with tag Structure h.0) w [] (omega arith) (sym (append-nil w)) h.1

-- the type of a message's root, and its length
pub root_facts : {w : List ℕ} {all : List FoundItem} → Lists w all → (type_at w 0 ≡ Some Structure) × (length w ≡ 8 + length_at w 0)
root_facts {w} h = by h.message h.text h.root
  where
    by : (t : Tree) → IsTreeText t w → IsStructure t → (type_at w 0 ≡ Some Structure) × (length w ≡ 8 + length_at w 0)
    by (leaf tag typ content) text root = absurd root
    by (node tag below) text root =
        let k = root_content w tag below text in
        (ap type_of (sym k.typ) ∙ type_of-code Structure, omega (arith, text_length (raw_with tag Structure text.0) w text.1, k.len))

-- if something is wrong with the root, there is no message
pub root_misfit : (w : List ℕ) (all : List FoundItem) (kind : FaultKind) → RootMisfits w kind → Lists w all → ⊥
root_misfit w all Cut wrong h = let k = root_facts h in omega arith
root_misfit w all UnknownType wrong h = let k = (root_facts h).0 in let m = wrong.1 in cc
root_misfit w all NoStructure wrong h = let k = (root_facts h).0 in wrong.2 (let m = wrong.1.typ in cc)
root_misfit w all _ wrong h = wrong

module _ {w : List ℕ} {i : FoundItem} {q e : ℕ} (whole : IsWhole w 0 e 0 i) (is-node : i.typ ≡ Structure) (at : q ≡ 8) (end : e ≡ size i.typ i.length) where
  -- where the root ends
  root_end : e ≡ 8 + length_at w 0
  root_end = end ∙ ap (λ (t : TtlvType). size t i.length) is-node ∙ ap (size Structure) whole.len ∙ omega arith

  -- the items of a message are its root and those in it
  pub root_to : (all : List FoundItem) → Lists w all → Goes w q (e ∷ []) (i ∷ []) all
  root_to all h = by h.message h.text h.root h.items
    where
      by : (t : Tree) → IsTreeText t w → IsStructure t → all ≡ listed 0 0 t → Goes w q (e ∷ []) (i ∷ []) all
      by (leaf tag typ content) text root items = absurd root
      by (node tag below) text root items =
          let k = root_content w tag below text in
          let long : length w ≡ 8 + length_at w 0 = omega (arith, text_length (raw_with tag Structure text.0) w text.1, k.len) in
          let n : e - q ≡ length_at w 0 = omega (arith, root_end) in
          let inner : TreesAt w q e below = subst (AreTreeTexts below) (k.content ∙ ap (λ (m : ℕ). take m (drop 8 w)) (sym n)
          ∙ ap (λ (m : ℕ). take (e - q) (drop m w)) (sym at)) text.2 in
          let span-is : span_all below ≡ length_at w 0 = omega (arith, texts_span below text.0 text.2, k.len) in
          let i-is : item 0 0 tag Structure (span_all below) ≡ i =
          ap (λ (m : ℕ). item 0 0 m Structure (span_all below)) k.tag ∙ sym (item_is whole span-is is-node) in
          let ys = listed_all q 1 below in
          goes_in below [] inner (omega (arith, root_end), refl)
          (items ∙ ap (λ (m : ℕ). item 0 0 tag Structure (span_all below) ∷ listed_all m 1 below) (sym at)
          ∙ ap (λ (x : FoundItem). x ∷ ys) i-is ∙ ap (λ (s : List FoundItem). i ∷ s) (sym (append-nil ys)))

  pub root_from : (plain : (k : ℕ) → get_or w k 0 < 256) {all : List FoundItem} → Goes w q (e ∷ []) (i ∷ []) all → Lists w all
  root_from plain h =
      let below = h.left.0 in
      let n = length_at w 0 in
      let long : length w ≡ 8 + n = omega (arith, h.left.4.0, root_end) in
      let m : e - q ≡ n = omega (arith, root_end) in
      let content : AreTreeTexts below (content_at w 0) = subst (λ (k : ℕ). AreTreeTexts below (take n (drop k w))) at
      (subst (λ (k : ℕ). AreTreeTexts below (take k (drop q w))) m h.left.2) in
      let typ-is : type_at w 0 ≡ Some Structure = whole.typ ∙ ap (λ (t : TtlvType). Some t) is-node in
      let root = item_here w 0 (length w) (omega arith) (omega arith) plain Structure typ-is (omega (arith, long)) in
      let whole-text : take (size Structure n) (drop 0 w) ≡ w = take_all (size Structure n) w (omega arith) in
      let text : IsTextOf (raw_with (tag_at w 0) Structure (content_at w 0)) w = subst (IsTextOf (raw_with (tag_at w 0) Structure (content_at w 0))) whole-text
      (text_at_item w 0 (raw_with (tag_at w 0) Structure (content_at w 0)) root) in
      let span-is : span_all below ≡ n = omega (arith, texts_span below (content_at w 0) content, length-take-le n (drop 8 w) (omega (arith, length-drop 8 w)))
      in
      let i-is : i ≡ item 0 0 (tag_at w 0) Structure (span_all below) = item_is whole span-is is-node in
      let ys-is : h.rest ≡ listed_all q 1 below = h.left.3 ∙ ap (λ (s : List FoundItem). listed_all q 1 below ++ s) h.left.4.1 ∙ append-nil _ in
      record {
        message = node (tag_at w 0) below;
        text = (content_at w 0, text, content);
        root = tt;
        items = h.are ∙ ap (λ (x : FoundItem). x ∷ h.rest) i-is ∙ ap (λ (s : List FoundItem). item 0 0 (tag_at w 0) Structure (span_all below) ∷ s) ys-is
            ∙ ap (λ (k : ℕ). item 0 0 (tag_at w 0) Structure (span_all below) ∷ listed_all k 1 below) at;
      }
