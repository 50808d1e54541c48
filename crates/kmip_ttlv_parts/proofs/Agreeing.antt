-- What agrees with a form is read by it.
use Rattle.std.proofs.Common.{◌≡◌, ◌%◌, ℕ, suc, Bool, true, false, List, [], ◌∷◌, ◌++◌, length, map, Option, Some, None, refl, sym, ap, subst, ◌∙◌, arith}
use Rattle.std.specs.{Prelude.◌&&◌, Prelude.◌||◌, Int.w32, Int.to_be_bytes, List.AllByRecursion}
use Rattle.std.proofs.lemmas.{Bool.eq-eqb, List.append-nil, List.map-append}
use Rattle.kmip_ttlv_types.specs.{declared.typ.TtlvType.TtlvType, declared.typ.TtlvType.TheVariants.Enumeration, declared.typ.TtlvType.TheVariants.Structure}
use Rattle.kmip_ttlv_types.specs.{ItemTypes.code, ItemTypes.is_structure, Items.Raw, Items.Splits, Leaves.is_valid}
use Rattle.kmip_ttlv_types.specs.Trees.{Fits, FitsBelow, Tree, bytes_below, leaf, node, trees_of, raw_of}
use Rattle.kmip_ttlv_base.specs.Forms.{Form, big_integer, seq, Fields, Forms, Variants, Content}
use Rattle.kmip_ttlv_base.specs.{Tags.wrapper_name, Values.big_integer_value, Values.newtype_value}
use Rattle.kmip_ttlv_types.specs.Primitives.{sign_extended}
use Rattle.kmip_ttlv_types.proofs.Padding.{length-sign_extended}
use Rattle.kmip_ttlv_parts.specs.Returns.{ComesBack, as_big_integer}
use Rattle.kmip_ttlv_base.specs.Values.{Value, seq_value, Values, no_values, value}
use Rattle.kmip_ttlv_base.proofs.TagNames.{transparent_wrapper}
use Rattle.kmip_ttlv_ser.specs.declared.pending.PendingTag.{PendingTag, TheVariants.Nothing, TheVariants.Plain}
use Rattle.kmip_ttlv_ser.specs.WrittenItems.{◌>>=◌, enumeration, pending_tag, items, items_in, left_over, some_item}
use Rattle.kmip_ttlv_reader.proofs.Giving.{begins_one}
use Rattle.kmip_ttlv_reader.specs.TagValues.{TagValue}
use Rattle.kmip_ttlv_reader.specs.Reads.{Begins, Reads, ReadsContent, ReadsField, ReadsFields, ReadsForms, ReadsRun, ReadsVariant, absent, by_number, by_rule}
use Rattle.kmip_ttlv_reader.specs.Reads.{done, ends, has_tag, here, inner, is_like, is_root, is_struct, decoded_leaf, more, named, names, next, no_part, part}
use Rattle.kmip_ttlv_reader.specs.Reads.{parts, run, structure, there, whole, wrap, wrap_some, leaf as read_leaf}
use Rattle.kmip_ttlv_reader.specs.Reads.{AreAny, IsAny, any_leaf, any_structure, form_of_type, is_full, kept, no_item, one_item}
use Rattle.kmip_ttlv_parts.specs.Agreements.{Head, Agrees, goes_on, leaf_agrees, inner_agrees, option_agrees, newtype_agrees, struct_agrees, rule_agrees}
use Rattle.kmip_ttlv_parts.specs.Agreements.{tuple_agrees, number_agrees, seq_agrees, RunAgrees, last_agrees, next_agrees, FieldsAgree, no_field_agrees}
use Rattle.kmip_ttlv_parts.specs.Agreements.{nothing_agrees, absent_agrees, field_agrees, FormsAgree, no_form_agrees, form_agrees, Wraps, some_wraps}
use Rattle.kmip_ttlv_parts.specs.Agreements.{newtype_wraps, variant_wraps, EncodesStructure, struct_encodes, newtype_encodes, variant_encodes, tuple_encodes}
use Rattle.kmip_ttlv_parts.specs.Agreements.{IsNumbered, unit_is_numbered, number_is_numbered, HasVariant, first_variant, later_variant, is_named, is_alike}
use Rattle.kmip_ttlv_parts.specs.Agreements.{is_field_of, is_run, leaf_type, with_value, AreItems, IsItem, any_items_agree, are_more, are_none, is_leaf}
use Rattle.kmip_ttlv_parts.specs.Agreements.{is_structure as is_node}
use Rattle.kmip_ttlv_parts.proofs.TagNumbers.{takes_tag}
use Rattle.kmip_ttlv_parts.specs.{Contents.items_below, ReadingLaws.AgreeingIsRead, ReadingLaws.AgreeingIsWritten}
use Rattle.kmip_ttlv_parts.proofs.{Contents.below_splits, Returns.LeafIs, Returns.leaf_of, Roots.reading_what_was_written}
use Rattle.kmip_ttlv_parts.proofs.Made.{AllMade, Any, any_texts_in, below_made, items_in_made}

-- ---- heads

abbrev HasHead : Raw → Head → Type 0
HasHead r x = (r.tag ≡ x.tag) × (r.typ ≡ x.typ)

-- the first of the items, if there are any, has this head
abbrev BeginsAs : List Tree → Option Head → Type 0
BeginsAs [] None = Unit {0}
BeginsAs [] (Some x) = ⊥
BeginsAs (t ∷ ts) None = ⊥
BeginsAs (t ∷ ts) (Some x) = HasHead (raw_of t) x

-- the next item has a name's tag if its head has
named_first : (name : List ℕ) (ts : List Tree) (y : Option Head) → BeginsAs ts y → names name (map raw_of ts) ≡ is_named name y
named_first name [] None h = refl
named_first name (t ∷ ts) (Some x) h = ap (has_tag name) h.0
named_first name ts y h = absurd h

-- and it is like another item if its head is
like_first : (r : Raw) (x : Head) (ts : List Tree) (y : Option Head) → HasHead r x → BeginsAs ts y → is_like r (map raw_of ts) ≡ is_alike x y
like_first r x [] None e h = refl
like_first r x (t ∷ ts) (Some y) e h = rw (e.0, e.1, h.0, h.1) refl
like_first r x ts y e h = absurd h

-- the item after a sequence that ends isn't like its first
not_alike : (v : Value) (x : Head) (y : Option Head) → goes_on v x y ≡ false → is_run v ≡ true → is_alike x y ≡ false
not_alike v x y e is = sym (ap (λ (b : Bool). b && is_alike x y) is) ∙ e

-- ---- what fits

fits_first : (ts us : List Tree) → AllByRecursion Fits (ts ++ us) → AllByRecursion Fits ts
fits_first [] us f = tt
fits_first (t ∷ ts) us f = (f.0, fits_first ts us f.1)

fits_last : (ts us : List Tree) → AllByRecursion Fits (ts ++ us) → AllByRecursion Fits us
fits_last [] us f = f
fits_last (t ∷ ts) us f = fits_last ts us f.1

fits_below : (ts : List Tree) → FitsBelow (trees_of ts) → AllByRecursion Fits ts
fits_below [] f = tt
fits_below (t ∷ ts) f = (f.0, fits_below ts f.1)

items_same : (ts : List Tree) → items_below (trees_of ts) ≡ map raw_of ts
items_same [] = refl
items_same (t ∷ ts) = ap (λ (l : List Raw). raw_of t ∷ l) (items_same ts)

-- ---- what values are encoded as

-- a value that gives an item, and then others
two_steps : (w : Value) (ws : Values) (h : PendingTag) (t : Tree) (ts us : List Tree) → items w h ≡ Some (t ∷ ts) → items_in ws Nothing ≡ Some us
    → items_in (value w ws) h ≡ Some (t ∷ (ts ++ us))
two_steps w ws h t ts us e f = rw e (rw f refl)

-- an empty sequence, and then others
no_step : (ws : Values) (us : List Tree) → items_in ws Nothing ≡ Some us → items_in (value (seq_value no_values) ws) Nothing ≡ Some us
no_step ws us f = rw f refl

-- one value alone
one_step : (w : Value) (us : List Tree) → items_in (value w no_values) Nothing ≡ Some us → items w Nothing ≡ Some us
one_step w us e = by_items (items w Nothing) e
  where
    by_items : (o : Option (List Tree)) → (o >>= λ first. items_in no_values (left_over Nothing first) >>= λ rest. Some (first ++ rest)) ≡ Some us → o ≡ Some us
    by_items None h = absurd cc
    by_items (Some ts) h = let e : ts ++ [] ≡ ts = append-nil ts in cc

-- a value in wrappers
wrapped_items : {h i : PendingTag} {w u : Value} (t : Tree) (ts : List Tree) → Wraps h w i u → items u i ≡ Some (t ∷ ts) → items w h ≡ Some (t ∷ ts)
unfolding some_item
wrapped_items t ts some_wraps e = e
wrapped_items t ts (newtype_wraps named_is taken) e = rw named_is (rw taken (rw e refl))
wrapped_items t ts (variant_wraps wrapper taken) e = rw wrapper (rw taken (rw e refl))

-- a structure around values
enclosing_items : {h : PendingTag} {w : Value} {t : ℕ} {ws : Values} (us : List Tree) → EncodesStructure h w t ws → items_in ws Nothing ≡ Some us
    → items w h ≡ Some (node t (trees_of us) ∷ [])
enclosing_items us (struct_encodes taken) e = rw taken (rw e refl)
enclosing_items us (newtype_encodes {w = w} named_is taken) e = rw named_is (rw taken (rw (one_step w us e) refl))
enclosing_items us (variant_encodes {w = w} wrapper taken) e = rw wrapper (rw taken (rw (one_step w us e) refl))
enclosing_items us (tuple_encodes taken) e = rw taken (rw e refl)

-- a number
numbered_items : {h : PendingTag} {w : Value} {t n : ℕ} → IsNumbered h w t n → items w h ≡ Some (leaf t Enumeration (to_be_bytes w32 n) ∷ [])
unfolding enumeration
numbered_items (unit_is_numbered taken number_is) = rw taken (rw number_is refl)
numbered_items (number_is_numbered pending small) = rw pending refl

-- the items of the values in a Structure split its content
content_splits : (ws : Values) (us : List Tree) → items_in ws Nothing ≡ Some us → FitsBelow (trees_of us) → Splits (map raw_of us) (bytes_below (trees_of us))
content_splits ws us e f =
    let made : AllMade Any us = items_in_made Any ws Nothing us (any_texts_in ws) tt e in
    subst (λ (l : List Raw). Splits l (bytes_below (trees_of us))) (items_same us) (below_splits (trees_of us) (below_made Any us made) f)

-- ---- what is decoded

-- the form reads the value from the items of the encoded one, if what follows doesn't continue a sequence
pub record IsRead (s : Form) (k : List TagValue) (h : PendingTag) (w : Value) (x : Head) (v : Value) (k' : List TagValue) : Type 0 where
  pub first : Tree
  pub rest : List Tree
  pub are : items w h ≡ Some (first ∷ rest)
  pub head_is : HasHead (raw_of first) x
  pub alone : is_run v ≡ false → rest ≡ []
  pub reads : AllByRecursion Fits (first ∷ rest) → (ys : List Raw) → (is_run v ≡ true → is_like (raw_of first) ys ≡ false)
      → Reads s k (raw_of first ∷ (map raw_of rest ++ ys)) v k' ys

-- so do the elements of a sequence, at its start and after earlier elements
pub record RunIsRead (s : Form) (k : List TagValue) (h : PendingTag) (ws : Values) (x : Head) (vs : Values) (k' : List TagValue) : Type 0 where
  pub first : Tree
  pub rest : List Tree
  pub are : items_in ws h ≡ Some (first ∷ rest)
  pub head_is : HasHead (raw_of first) x
  pub starts : AllByRecursion Fits (first ∷ rest) → (ys : List Raw) → is_like (raw_of first) ys ≡ false
      → Reads (seq s) k (raw_of first ∷ (map raw_of rest ++ ys)) (seq_value vs) k' ys
  pub goes_on : AllByRecursion Fits (first ∷ rest) → (r : Raw) (ys : List Raw) → HasHead r x → is_like r ys ≡ false
      → ReadsRun s r k (raw_of first ∷ (map raw_of rest ++ ys)) vs k' ys

-- the fields read the values from the items, and use them up
pub record FieldsAreRead (fs : Fields) (k : List TagValue) (ws : Values) (y : Option Head) (vs : Values) (k' : List TagValue) : Type 0 where
  pub trees : List Tree
  pub are : items_in ws Nothing ≡ Some trees
  pub head_is : BeginsAs trees y
  pub reads : AllByRecursion Fits trees → ReadsFields fs k (map raw_of trees) vs k' []

-- and so do forms
pub record FormsAreRead (ss : Forms) (k : List TagValue) (ws : Values) (y : Option Head) (vs : Values) (k' : List TagValue) : Type 0 where
  pub trees : List Tree
  pub are : items_in ws Nothing ≡ Some trees
  pub head_is : BeginsAs trees y
  pub reads : AllByRecursion Fits trees → ReadsForms ss k (map raw_of trees) vs k' []

-- of items of any tags and types
record AnyIsRead (d : ℕ) (v : Value) (x : Head) : Type 0 where
  first : Tree
  are : items v Nothing ≡ Some (first ∷ [])
  head_is : HasHead (raw_of first) x
  reads : Fits first → IsAny d (raw_of first) v

pub record AnyAreRead (d : ℕ) (vs : Values) (y : Option Head) : Type 0 where
  pub trees : List Tree
  pub are : items_in vs Nothing ≡ Some trees
  pub head_is : BeginsAs trees y
  pub reads : AllByRecursion Fits trees → AreAny d (map raw_of trees) vs

-- so it is read from one item
read_alone : {s : Form} {k k' : List TagValue} {h : PendingTag} {w v : Value} {x : Head} (t : Tree) → items w h ≡ Some (t ∷ []) → HasHead (raw_of t) x
    → (Fits t → (ys : List Raw) → Reads s k (raw_of t ∷ ys) v k' ys) → IsRead s k h w x v k'
read_alone t are head reads = record { first = t; rest = []; are = are; head_is = head; alone = λ e. refl; reads = λ f ys apart. reads f.0 ys }

-- a leaf
leaf_is_read : {s : Form} {h : PendingTag} {w v : Value} {t : ℕ} (k : List TagValue) → pending_tag h ≡ Some t → LeafIs s w v
    → IsRead s k h w record { tag = t; typ = leaf_type w } v (with_value s t w k)
leaf_is_read {s} {h} {w} {v} {t} k pending l =
    let x : Raw = record { tag = t; typ = leaf_type w; content = l.content } in
    read_alone (leaf t (leaf_type w) l.content) (l.written h t pending) (refl, refl)
    (λ f ys. subst (λ (u : Value). Reads s k (x ∷ ys) u (with_value s t w k) ys) l.gives
    (subst (λ (c : List TagValue). Reads s k (x ∷ ys) (decoded_leaf s l.content) c ys) (l.keeps t k) (read_leaf {h = x} l.takes_it l.valid)))

-- a variant reads what its content reads
variant_reads : {vs : Variants} {i : ℕ} {own name : List ℕ} {c : Content} {k k' : List TagValue} {xs ys : List Raw} {v : Value} → HasVariant vs i name c
    → ReadsContent own name c k xs v k' ys → ReadsVariant own vs i k xs v k' ys
variant_reads first_variant r = here r
variant_reads (later_variant h) r = there (variant_reads h r)

-- a field reads what its form reads
field_reads : (name : List ℕ) (s : Form) (x : Head) (r : Raw) (k k' : List TagValue) (xs ys : List Raw) (v : Value) → is_field_of name s x ≡ true → HasHead r x
    → Reads s k (r ∷ xs) v k' ys → ReadsField name s k (r ∷ xs) v k' ys
field_reads name s x r k k' xs ys v e h read = by_kind (is_struct s) refl
  where
    by_kind : (b : Bool) → is_struct s ≡ b → ReadsField name s k (r ∷ xs) v k' ys
    by_kind true is = inner is read
    by_kind false is =
        let tagged : has_tag name x.tag ≡ true = sym (ap (λ (b : Bool). b || has_tag name x.tag) is) ∙ e in
        named (ap (has_tag name) h.0 ∙ tagged) is read

-- an item of the same head as earlier ones continues their sequence
like_head : (q r : Raw) (x : Head) (xs : List Raw) → HasHead q x → HasHead r x → is_like q (r ∷ xs) ≡ true
like_head q r x xs h g = rw (eq-eqb r.tag q.tag (g.0 ∙ sym h.0), eq-eqb (code r.typ) (code q.typ) (ap code (g.1 ∙ sym h.1))) refl

-- and what continues the one continues the other
like_same : (q r : Raw) (x : Head) (ys : List Raw) → HasHead q x → HasHead r x → is_like r ys ≡ is_like q ys
like_same q r x [] h g = refl
like_same q r x (y ∷ ys) h g = rw (h.0, h.1, g.0, g.1) refl

-- a value that is no sequence is read from one item, whatever follows
one_read : (s : Form) (k k' : List TagValue) (v : Value) (t : Tree) (rest : List Tree) (zs : List Raw) → rest ≡ [] → is_run v ≡ false
    → (AllByRecursion Fits (t ∷ rest) → (is_run v ≡ true → is_like (raw_of t) zs ≡ false) → Reads s k (raw_of t ∷ (map raw_of rest ++ zs)) v k' zs)
    → Fits t → Reads s k (raw_of t ∷ zs) v k' zs
one_read s k k' v t rest zs e single read f =
    let fits : AllByRecursion Fits (t ∷ rest) = subst (λ (l : List Tree). AllByRecursion Fits (t ∷ l)) (sym e) (f, tt) in
    let apart : is_run v ≡ true → is_like (raw_of t) zs ≡ false = λ is. absurd (let k : true ≡ false = sym is ∙ single in cc) in
    subst (λ (l : List Tree). Reads s k (raw_of t ∷ (map raw_of l ++ zs)) v k' zs) e (read fits apart)

-- a leaf is no Structure, and the forms that read leaves by their types read full ones
no_node : (t : TtlvType) (c : List ℕ) → is_valid t c ≡ true → is_structure t ≡ false
no_node Structure c valid = absurd cc
no_node t c valid = refl

-- a Big Integer that comes back as it is has a multiple of eight bytes
big_back : {s : Form} {w v : Value} → ComesBack s w v → (content : List ℕ) → s ≡ big_integer → w ≡ big_integer_value content
    → v ≡ big_integer_value (sign_extended content)
big_back (as_big_integer {s = s}) content form is = let same : s ≡ content = cc in ap (λ c. big_integer_value (sign_extended c)) same
big_back c content form is = absurd cc

extended_length : (content : List ℕ) → length (sign_extended content) % 8 ≡ 0
extended_length content = ap (λ n. n % 8) (length-sign_extended content) ∙ omega arith

full_leaf : (v : Value) → ComesBack (form_of_type (leaf_type v)) v v → (l : LeafIs (form_of_type (leaf_type v)) v v) → is_full (leaf_type v) l.content ≡ true
full_leaf (big_integer_value content) back l =
    let e : big_integer_value content ≡ big_integer_value (sign_extended content) = big_back back content refl refl in
    let same : content ≡ sign_extended content = cc in
    let is : l.content ≡ content = let g : big_integer_value l.content ≡ big_integer_value content = l.gives in cc in
    eq-eqb (length l.content % 8) 0 (ap (λ c. length c % 8) (is ∙ same) ∙ extended_length content)
full_leaf v back l = refl

mutual
  item_is_read : {d : ℕ} {v : Value} {x : Head} → IsItem d v x → AnyIsRead d v x
  item_is_read (is_leaf {d = d} {t = t} {v = v} is back) =
      let l = leaf_of _ v v back in
      let h : Raw = record { tag = t; typ = leaf_type v; content = l.content } in
      record {
        first = leaf t (leaf_type v) l.content;
        are = wrapped_items {u = v} (leaf t (leaf_type v) l.content) [] (newtype_wraps (transparent_wrapper t) (takes_tag t is)) (l.written (Plain t) t refl);
        head_is = (refl, refl);
        reads = λ f. subst (λ u. IsAny (suc d) h (newtype_value (wrapper_name t) u)) l.gives
            (any_leaf {d = d} {h = h} (no_node (leaf_type v) l.content l.valid) l.valid
            (full_leaf v back l));
      }
  item_is_read (is_node {t = t} {vs = vs} is are) =
      let r = items_are_read are in
      record {
        first = node t (trees_of r.trees);
        are = enclosing_items {ws = vs} r.trees (struct_encodes (takes_tag t is)) r.are;
        head_is = (refl, refl);
        reads = λ f. any_structure refl (content_splits vs r.trees r.are f.1) (r.reads (fits_below r.trees f.1));
      }

  pub items_are_read : {d : ℕ} {vs : Values} {y : Option Head} → AreItems d vs y → AnyAreRead d vs y
  items_are_read are_none = record { trees = []; are = refl; head_is = tt; reads = λ f. no_item }
  items_are_read (are_more {v = v} {vs = vs} i are) =
      let r = item_is_read i in
      let q = items_are_read are in
      record {
        trees = r.first ∷ q.trees;
        are = two_steps v vs Nothing r.first [] q.trees r.are q.are;
        head_is = r.head_is;
        reads = λ f. one_item (r.reads f.0) (q.reads f.1);
      }

mutual
  pub agreed : {s : Form} {k k' : List TagValue} {h : PendingTag} {w v : Value} {x : Head} → Agrees s k h w x v k' → IsRead s k h w x v k'
  agreed (leaf_agrees {s = s} {k = k} {w = w} {v = v} pending c) = leaf_is_read k pending (leaf_of s w v c)
  agreed (inner_agrees wraps a) =
      let r = agreed a in
      record { first = r.first; rest = r.rest; are = wrapped_items r.first r.rest wraps r.are; head_is = r.head_is; alone = r.alone; reads = r.reads }
  agreed (option_agrees a) =
      let r = agreed a in
      record { first = r.first; rest = r.rest; are = r.are; head_is = r.head_is; alone = r.alone; reads = λ f ys apart. wrap_some (r.reads f ys apart) }
  agreed (newtype_agrees a) =
      let r = agreed a in
      record { first = r.first; rest = r.rest; are = r.are; head_is = r.head_is; alone = r.alone; reads = λ f ys apart. wrap (r.reads f ys apart) }
  agreed (struct_agrees {t = t} {ws = ws} tagged encloses a) =
      let r = fields_agreed a in
      read_alone (node t (trees_of r.trees)) (enclosing_items r.trees encloses r.are) (refl, refl)
      (λ f ys. structure tagged refl (content_splits ws r.trees r.are f.1) (r.reads (fits_below r.trees f.1)) refl)
  agreed (rule_agrees is variant a) =
      let r = agreed a in
      record {
        first = r.first;
        rest = r.rest;
        are = r.are;
        head_is = r.head_is;
        alone = r.alone;
        reads = λ f ys apart. by_rule (rw r.head_is.1 is) (variant_reads variant (whole (r.reads f ys apart)));
      }
  agreed (tuple_agrees {t = t} {ws = ws} is variant encloses a) =
      let r = forms_agreed a in
      read_alone (node t (trees_of r.trees)) (enclosing_items r.trees encloses r.are) (refl, refl)
      (λ f ys. by_rule is (variant_reads variant (parts refl (content_splits ws r.trees r.are f.1) (r.reads (fits_below r.trees f.1)))))
  agreed (number_agrees {t = t} {n = n} numbered units) = read_alone (leaf t Enumeration (to_be_bytes w32 n)) (numbered_items numbered) (refl, refl)
      (λ f ys. by_number {h = record { tag = t; typ = Enumeration; content = to_be_bytes w32 n }} units.no_rule refl refl units.named)
  agreed (seq_agrees a) =
      let r = run_agreed a in
      record { first = r.first; rest = r.rest; are = r.are; head_is = r.head_is; alone = λ e. absurd cc; reads = λ f ys apart. r.starts f ys (apart refl) }

  run_agreed : {s : Form} {k k' : List TagValue} {h : PendingTag} {ws vs : Values} {x : Head} → RunAgrees s k h ws x vs k' → RunIsRead s k h ws x vs k'
  run_agreed (last_agrees {h = h} {w = w} {x = x} a) =
      let r = agreed a in
      record {
        first = r.first;
        rest = r.rest;
        are = two_steps w no_values h r.first r.rest [] r.are refl ∙ ap (λ (l : List Tree). Some (r.first ∷ l)) (append-nil r.rest);
        head_is = r.head_is;
        starts = λ f ys apart. run (r.reads f ys (λ e. apart)) (ends apart);
        goes_on = λ f q ys h apart. more (like_head q (raw_of r.first) x (map raw_of r.rest ++ ys) h r.head_is)
            (r.reads f ys (λ e. like_same q (raw_of r.first) x ys h r.head_is ∙ apart)) (ends apart);
      }
  run_agreed (next_agrees {s = s} {k = k} {k' = k'} {h = h} {w = w} {v = v} {ws = ws} {x = x} a single b) =
      let r = agreed a in
      let q = run_agreed b in
      let e : r.rest ≡ [] = r.alone single in
      let read : (f : AllByRecursion Fits (r.first ∷ q.first ∷ q.rest)) (zs : List Raw) → Reads s k (raw_of r.first ∷ zs) v k' zs =
      λ f zs. one_read s k k' v r.first r.rest zs e single (λ g. r.reads g zs) f.0 in
      record {
        first = r.first;
        rest = q.first ∷ q.rest;
        are = two_steps w ws h r.first r.rest (q.first ∷ q.rest) r.are q.are ∙ ap (λ (l : List Tree). Some (r.first ∷ (l ++ (q.first ∷ q.rest)))) e;
        head_is = r.head_is;
        starts = λ f ys apart. run (read f (raw_of q.first ∷ (map raw_of q.rest ++ ys))) (q.goes_on f.1 (raw_of r.first) ys r.head_is apart);
        goes_on = λ f p ys h apart. more (like_head p (raw_of r.first) x (raw_of q.first ∷ (map raw_of q.rest ++ ys)) h r.head_is)
            (read f (raw_of q.first ∷ (map raw_of q.rest ++ ys))) (q.goes_on f.1 p ys h apart);
      }

  fields_agreed : {fs : Fields} {k k' : List TagValue} {ws vs : Values} {y : Option Head} → FieldsAgree fs k ws y vs k' → FieldsAreRead fs k ws y vs k'
  fields_agreed no_field_agrees = record { trees = []; are = refl; head_is = tt; reads = λ f. done }
  fields_agreed (nothing_agrees {ws = ws} a) =
      let r = fields_agreed a in
      record { trees = r.trees; are = no_step ws r.trees r.are; head_is = r.head_is; reads = r.reads }
  fields_agreed (absent_agrees {name = name} {y = y} e a) =
      let r = fields_agreed a in
      record { trees = r.trees; are = r.are; head_is = r.head_is; reads = λ f. next (absent refl (named_first name r.trees y r.head_is ∙ e)) (r.reads f) }
  fields_agreed (field_agrees {name = name} {s = s} {k = k} {k' = k'} {w = w} {v = v} {ws = ws} {x = x} {y = y} e apart a b) =
      let r = agreed a in
      let q = fields_agreed b in
      record {
        trees = r.first ∷ (r.rest ++ q.trees);
        are = two_steps w ws Nothing r.first r.rest q.trees r.are q.are;
        head_is = r.head_is;
        reads = λ f. rw (map-append raw_of r.rest q.trees) (next
            (field_reads name s x (raw_of r.first) k k' _ (map raw_of q.trees) v e r.head_is
            (r.reads (fits_first (r.first ∷ r.rest) q.trees f) (map raw_of q.trees) (λ is. like_first (raw_of r.first) x q.trees y r.head_is q.head_is
            ∙ not_alike v x y apart is)))
            (q.reads (fits_last (r.first ∷ r.rest) q.trees f)));
      }
  fields_agreed (any_items_agree are) =
      let r = items_are_read are in
      record { trees = r.trees; are = r.are; head_is = r.head_is; reads = λ f. kept (r.reads f) }

  forms_agreed : {ss : Forms} {k k' : List TagValue} {ws vs : Values} {y : Option Head} → FormsAgree ss k ws y vs k' → FormsAreRead ss k ws y vs k'
  forms_agreed no_form_agrees = record { trees = []; are = refl; head_is = tt; reads = λ f. no_part }
  forms_agreed (form_agrees {w = w} {v = v} {ws = ws} {x = x} {y = y} apart a b) =
      let r = agreed a in
      let q = forms_agreed b in
      record {
        trees = r.first ∷ (r.rest ++ q.trees);
        are = two_steps w ws Nothing r.first r.rest q.trees r.are q.are;
        head_is = r.head_is;
        reads = λ f. rw (map-append raw_of r.rest q.trees) (part
            (r.reads (fits_first (r.first ∷ r.rest) q.trees f) (map raw_of q.trees) (λ is. like_first (raw_of r.first) x q.trees y r.head_is q.head_is
            ∙ not_alike v x y apart is))
            (q.reads (fits_last (r.first ∷ r.rest) q.trees f)));
      }

-- what a root form reads is no sequence
root_single : {s : Form} {k k' : List TagValue} {h : PendingTag} {w v : Value} {x : Head} → is_root s ≡ true → Agrees s k h w x v k' → is_run v ≡ false
root_single e (leaf_agrees {s = s} {w = w} {v = v} pending c) = (leaf_of s w v c).single
root_single e (inner_agrees wraps a) = root_single e a
root_single e (option_agrees a) = root_single e a
root_single e (newtype_agrees a) = root_single e a
root_single e (rule_agrees is variant a) = absurd cc
root_single e (seq_agrees a) = absurd cc
root_single e a = refl

pub agreeing_is_written : AgreeingIsWritten
agreeing_is_written s k k' h w v x a = let r = agreed a in (r.first, r.rest, r.are, r.head_is.0, r.head_is.1)

pub agreeing_is_read : AgreeingIsRead
agreeing_is_read s w v d n written root (x, k, a) is =
    let r = agreed a in
    let same : is.trees ≡ r.first ∷ r.rest = let e : Some is.trees ≡ Some (r.first ∷ r.rest) = sym is.are ∙ r.are in cc in
    let fits : AllByRecursion Fits (r.first ∷ r.rest) = subst (AllByRecursion Fits) same is.fit.each in
    let single = root_single root a in
    let reads = one_read s [] k v r.first r.rest [] (r.alone single) single (λ f. r.reads f []) fits.0 in
    let begins : Begins s written v = (reading_what_was_written w v n written r.first r.rest s is r.are root).1 (k, reads) in
    (λ g. begins_one s written d v g begins, λ e. subst (Begins s written) (sym e) begins)
