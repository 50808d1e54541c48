-- What the items of a value are made of: tags of three bytes, and content that is valid if the value's texts are.
use Rattle.std.proofs.Common.{◌≡◌, ℕ, ◌<◌, ◌^◌, Bool, true, false, cond, ltb, List, [], ◌∷◌, ◌++◌, length, replicate, Option, Some, None, refl, sym, subst, ◌∙◌}
use Rattle.std.specs.{Prelude.option_and_then, List.AllByRecursion}
use Rattle.std.specs.Int.{w32, w64, to_be_bytes, from_bool}
use Rattle.std.proofs.lemmas.{Bool.ltb-true, List.append-nil, List.length-replicate}
use Rattle.kmip_ttlv_types.specs.{declared.typ.TtlvType.TtlvType, ItemTypes.pad_len, ItemTypes.padding, Leaves.is_valid, Items.IsTextOf}
use Rattle.kmip_ttlv_types.specs.declared.typ.TtlvType.TheVariants.{Structure, Enumeration, Boolean, TextString}
use Rattle.kmip_ttlv_types.specs.Names.{tag_of, number, below_tag_limit, transparent_name, override_name}
use Rattle.kmip_ttlv_types.specs.Trees.{Tree, leaf, node, Trees, no_trees, tree, trees_of, bytes, bytes_below, raw_of, leaf_bytes, node_bytes, Fits}
use Rattle.kmip_ttlv_base.specs.Values.{Value, boolean_value, text_value, none_value, some_value, seq_value, struct_value, newtype_value, unit_variant_value}
use Rattle.kmip_ttlv_base.specs.Values.{newtype_variant_value, tuple_variant_value, unsupported_value, Values, no_values, value}
use Rattle.kmip_ttlv_ser.specs.declared.pending.PendingTag.{PendingTag}
use Rattle.kmip_ttlv_ser.specs.declared.pending.PendingTag.TheVariants.{Nothing, Plain, Overriding}
use Rattle.kmip_ttlv_ser.specs.WrittenItems.{◌>>=◌, take_tag, one_leaf, one_node, one_structure, some_item, left_over, without_override, pending_after}
use Rattle.kmip_ttlv_ser.specs.WrittenItems.{enumeration, newtype_row, variant_row, is_wrapper, items, items_in}
use Rattle.kmip_ttlv_parts.specs.Texts.{EachText, EachTextIn}

-- content of a leaf of this type, whose texts satisfy P
abbrev pub IsContent : (List ℕ → Type 0) → TtlvType → List ℕ → Type 0
IsContent P TextString content = P content
IsContent P typ content = is_valid typ content ≡ true

-- each tag has three bytes, and each leaf has such content
abbrev mutual
  pub IsMade : (List ℕ → Type 0) → Tree → Type 0
  IsMade P (leaf tag typ content) = (tag < 2 ^ 24) × IsContent P typ content
  IsMade P (node tag below) = (tag < 2 ^ 24) × AreMade P below

  pub AreMade : (List ℕ → Type 0) → Trees → Type 0
  AreMade P no_trees = Unit {0}
  AreMade P (tree t ts) = IsMade P t × AreMade P ts

abbrev pub AllMade : (List ℕ → Type 0) → List Tree → Type 0
AllMade P ts = AllByRecursion (IsMade P) ts

-- a held tag has three bytes
abbrev TagFits : PendingTag → Type 0
TagFits Nothing = Unit {0}
TagFits (Plain t) = t < 2 ^ 24
TagFits (Overriding t) = t < 2 ^ 24

-- the value of a step that gave one
bind_some : {A B : Type 0} (o : Option A) (f : A → Option B) (y : B) → (o >>= f) ≡ Some y → (x : A) × (o ≡ Some x) × (f x ≡ Some y)
bind_some None f y e = absurd cc
bind_some (Some x) f y e = (x, refl, e)

-- a number below the limit stays itself
below_limit : (n t : ℕ) → below_tag_limit n ≡ Some t → t < 2 ^ 24
below_limit n t e = elim (ltb n (2 ^ 24)) as (λ b. ltb n (2 ^ 24) ≡ b → cond b (Some n) None ≡ Some t → t < 2 ^ 24) [
  | true ↦ λ lt h. let same : n ≡ t = cc in subst (λ m. m < 2 ^ 24) same (ltb-true _ _ lt)
  | false ↦ λ lt h. absurd cc
] refl e

-- a name's tag has three bytes
tag_small : (name : List ℕ) (t : ℕ) → tag_of name ≡ Some t → t < 2 ^ 24
unfolding tag_of
tag_small name t e = by_number (number name) e
  where
    by_number : (o : Option ℕ) → option_and_then below_tag_limit o ≡ Some t → t < 2 ^ 24
    by_number None h = absurd cc
    by_number (Some n) h = below_limit n t h

-- and so does the tag that is taken
take_small : (w : PendingTag) (name : List ℕ) (t : ℕ) → TagFits w → take_tag w name ≡ Some t → t < 2 ^ 24
unfolding take_tag
take_small Nothing name t f e = tag_small name t e
take_small (Plain s) name t f e = absurd cc
take_small (Overriding s) name t f e = let b = bind_some (tag_of name) (λ n. Some s) t e in let same : s ≡ t = let k = b.2 in cc in
    subst (λ m. m < 2 ^ 24) same f

-- ---- the rows of a value's items

leaf_made : (P : List ℕ → Type 0) (w : PendingTag) (typ : TtlvType) (content : List ℕ) (ts : List Tree) → TagFits w → IsContent P typ content
    → one_leaf w typ content ≡ Some ts → AllMade P ts
leaf_made P Nothing typ content ts f c e = absurd cc
leaf_made P (Plain t) typ content ts f c e = let same : leaf t typ content ∷ [] ≡ ts = cc in subst (AllMade P) same ((f, c), tt)
leaf_made P (Overriding t) typ content ts f c e = let same : leaf t typ content ∷ [] ≡ ts = cc in subst (AllMade P) same ((f, c), tt)

pub below_made : (P : List ℕ → Type 0) (ts : List Tree) → AllMade P ts → AreMade P (trees_of ts)
below_made P [] h = tt
below_made P (t ∷ ts) h = (h.0, below_made P ts h.1)

node_made : (P : List ℕ → Type 0) (t : ℕ) (o : Option (List Tree)) (ts : List Tree) → t < 2 ^ 24 → ((us : List Tree) → o ≡ Some us → AllMade P us)
    → one_node t o ≡ Some ts → AllMade P ts
node_made P t None ts small h e = absurd cc
node_made P t (Some us) ts small h e = let same : node t (trees_of us) ∷ [] ≡ ts = cc in subst (AllMade P) same ((small, below_made P us (h us refl)), tt)

structure_made : (P : List ℕ → Type 0) (w : PendingTag) (name : List ℕ) (o : Option (List Tree)) (ts : List Tree) → TagFits w
    → ((us : List Tree) → o ≡ Some us → AllMade P us) → one_structure w name o ≡ Some ts → AllMade P ts
structure_made P w name o ts f h e = let b = bind_some (take_tag w name) (λ t. one_node t o) ts e in node_made P b.0 o ts (take_small w name b.0 f b.1) h b.2

some_item_same : (us ts : List Tree) → some_item us ≡ Some ts → us ≡ ts
unfolding some_item
some_item_same [] ts e = absurd cc
some_item_same (u ∷ us) ts e = cc

-- the items of a wrapper's content, under the tag that is then held
wrapper_made : (P : List ℕ → Type 0) (inside : PendingTag → Option (List Tree)) (w : PendingTag) (ts : List Tree) → TagFits w
    → ((u : PendingTag) (us : List Tree) → TagFits u → inside u ≡ Some us → AllMade P us) → (inside w >>= some_item) ≡ Some ts → AllMade P ts
wrapper_made P inside w ts f h e = let b = bind_some (inside w) some_item ts e in subst (AllMade P) (some_item_same b.0 ts b.2) (h w b.0 f b.1)

newtype_made : (P : List ℕ → Type 0) (o : Option (List ℕ)) (name : List ℕ) (w : PendingTag) (inside : PendingTag → Option (List Tree)) (ts : List Tree)
    → TagFits w → ((u : PendingTag) (us : List Tree) → TagFits u → inside u ≡ Some us → AllMade P us) → newtype_row o name w inside ≡ Some ts → AllMade P ts
newtype_made P None name w inside ts f h e = structure_made P w name (inside Nothing) ts f (λ us. h Nothing us tt) e
newtype_made P (Some n) name w inside ts f h e =
    let b = bind_some (take_tag w n) (λ t. inside (Plain t) >>= some_item) ts e in
    wrapper_made P inside (Plain b.0) ts (take_small w n b.0 f b.1) h b.2

pending_after_fits : (w : PendingTag) (name : List ℕ) (t : ℕ) → t < 2 ^ 24 → TagFits (pending_after w name t)
unfolding pending_after
pending_after_fits Nothing name t small = by_prefix (override_name name)
  where
    by_prefix : (o : Option (List ℕ)) → TagFits (elim o [ None ↦ Plain t | Some rest ↦ Overriding t ])
    by_prefix None = small
    by_prefix (Some rest) = small
pending_after_fits (Plain s) name t small = small
pending_after_fits (Overriding s) name t small = small

variant_made : (P : List ℕ → Type 0) (b : Bool) (name : List ℕ) (w : PendingTag) (inside : PendingTag → Option (List Tree)) (ts : List Tree) → TagFits w
    → ((u : PendingTag) (us : List Tree) → TagFits u → inside u ≡ Some us → AllMade P us) → variant_row b name w inside ≡ Some ts → AllMade P ts
variant_made P true name w inside ts f h e =
    let b = bind_some (take_tag w (without_override name)) (λ t. inside (pending_after w name t) >>= some_item) ts e in
    wrapper_made P inside (pending_after w name b.0) ts (pending_after_fits w name b.0 (take_small w (without_override name) b.0 f b.1)) h b.2
variant_made P false name w inside ts f h e = structure_made P w (without_override (without_override name)) (inside Nothing) ts f (λ us. h Nothing us tt) e

unit_made : (P : List ℕ → Type 0) (w : PendingTag) (name vname : List ℕ) (ts : List Tree) → TagFits w → (take_tag w name >>= λ t. enumeration t vname) ≡ Some ts
    → AllMade P ts
unfolding enumeration
unit_made P w name vname ts f e =
    let b = bind_some (take_tag w name) (λ t. enumeration t vname) ts e in
    let n = bind_some (number vname) (λ m. one_leaf (Plain b.0) Enumeration (to_be_bytes w32 m)) ts b.2 in
    leaf_made P (Plain b.0) Enumeration (to_be_bytes w32 n.0) ts (take_small w name b.0 f b.1) refl n.2

left_over_fits : (w : PendingTag) (ts : List Tree) → TagFits w → TagFits (left_over w ts)
left_over_fits w [] f = f
left_over_fits w (t ∷ ts) f = tt

made_append : (P : List ℕ → Type 0) (ts us : List Tree) → AllMade P ts → AllMade P us → AllMade P (ts ++ us)
made_append P [] us a b = b
made_append P (t ∷ ts) us a b = (a.0, made_append P ts us a.1 b)

boolean_content : (b : Bool) → is_valid Boolean (to_be_bytes w64 (from_bool b)) ≡ true
boolean_content true = refl
boolean_content false = refl

-- the items of a value are made so
mutual
  pub items_made : (P : List ℕ → Type 0) (v : Value) (w : PendingTag) (ts : List Tree) → EachText P v → TagFits w → items v w ≡ Some ts → AllMade P ts
  items_made P (boolean_value b) w ts h f e = leaf_made P w Boolean _ ts f (boolean_content b) e
  items_made P (text_value s) w ts h f e = leaf_made P w TextString s ts f h e
  items_made P none_value w ts h f e = absurd cc
  items_made P (some_value v) w ts h f e = items_made P v w ts h f e
  items_made P (seq_value vs) w ts h f e = items_in_made P vs w ts h f e
  items_made P (struct_value name vs) w ts h f e = structure_made P w name (items_in vs Nothing) ts f (λ us. items_in_made P vs Nothing us h tt) e
  items_made P (newtype_value name v) w ts h f e = newtype_made P (transparent_name name) name w (items v) ts f (λ u us. items_made P v u us h) e
  items_made P (unit_variant_value name vname) w ts h f e = unit_made P w name vname ts f e
  items_made P (newtype_variant_value name vname v) w ts h f e = variant_made P (is_wrapper vname) name w (items v) ts f (λ u us. items_made P v u us h) e
  items_made P (tuple_variant_value name vname vs) w ts h f e = structure_made P w (without_override name) (items_in vs Nothing) ts f
      (λ us. items_in_made P vs Nothing us h tt) e
  items_made P (unsupported_value name) w ts h f e = absurd cc
  items_made P v w ts h f e = leaf_made P w _ _ ts f refl e

  pub items_in_made : (P : List ℕ → Type 0) (vs : Values) (w : PendingTag) (ts : List Tree) → EachTextIn P vs → TagFits w → items_in vs w ≡ Some ts
      → AllMade P ts
  items_in_made P no_values w ts h f e = let same : [] ≡ ts = cc in subst (AllMade P) same tt
  items_in_made P (value v vs) w ts h f e =
      let a = bind_some (items v w) (λ first. items_in vs (left_over w first) >>= λ rest. Some (first ++ rest)) ts e in
      let b = bind_some (items_in vs (left_over w a.0)) (λ rest. Some (a.0 ++ rest)) ts a.2 in
      let same : a.0 ++ b.0 ≡ ts = let k = b.2 in cc in
      subst (AllMade P) same (made_append P a.0 b.0 (items_made P v w a.0 h.0 f a.1)
      (items_in_made P vs (left_over w a.0) b.0 h.1 (left_over_fits w a.0 f) b.1))

-- no condition on texts
abbrev pub Any : List ℕ → Type 0
Any s = Unit {0}

mutual
  pub any_texts : (v : Value) → EachText Any v
  any_texts (some_value v) = any_texts v
  any_texts (seq_value vs) = any_texts_in vs
  any_texts (struct_value name vs) = any_texts_in vs
  any_texts (newtype_value name v) = any_texts v
  any_texts (newtype_variant_value name vname v) = any_texts v
  any_texts (tuple_variant_value name vname vs) = any_texts_in vs
  any_texts v = tt

  pub any_texts_in : (vs : Values) → EachTextIn Any vs
  any_texts_in no_values = tt
  any_texts_in (value v vs) = (any_texts v, any_texts_in vs)

-- ---- canonical bytes are encodings

-- a leaf is padded to a multiple of eight bytes
leaf_padding : (P : List ℕ → Type 0) (typ : TtlvType) (content : List ℕ) (n : ℕ) → IsContent P typ content → pad_len n ≡ padding typ n
leaf_padding P Structure content n h = absurd cc
leaf_padding P typ content n h = refl

-- the canonical bytes of a tree encode its item
pub text_of_tree : (P : List ℕ → Type 0) (t : Tree) → IsMade P t → Fits t → IsTextOf (raw_of t) (bytes t)
unfolding leaf_bytes node_bytes
text_of_tree P (leaf tag typ content) m f =
    let pads = length-replicate (pad_len (length content)) 0 ∙ leaf_padding P typ content (length content) m.1 in
    record { tag_fits = m.0; length_fits = f; pad = replicate (pad_len (length content)) 0; pad_length = pads; parts = refl }
text_of_tree P (node tag below) m f =
    record { tag_fits = m.0; length_fits = f.0; pad = []; pad_length = refl; parts = sym (append-nil (node_bytes tag (bytes_below below))) }
