-- Items that are the same but for padding are decoded alike.
use Rattle.std.proofs.Common.{◌≡◌, ℕ, suc, Bool, true, List, [], ◌∷◌, ◌++◌, refl, sym, ap, subst, ◌∙◌}
use Rattle.kmip_ttlv_types.specs.{declared.typ.TtlvType.TtlvType, declared.typ.TtlvType.TheVariants.Structure, Digits.tag_text, Leaves.is_valid, Items.Raw}
use Rattle.kmip_ttlv_types.specs.{Items.Splits}
use Rattle.kmip_ttlv_base.specs.Forms.{Form, Fields, Variants, Content, Forms, enum}
use Rattle.kmip_ttlv_base.specs.Values.{Value, Values, struct_value, unit_variant_value}
use Rattle.kmip_ttlv_types.proofs.PlaceLemmas.{splits_one}
use Rattle.kmip_ttlv_reader.specs.{TagValues.TagValue, Rules.choice}
use Rattle.kmip_ttlv_reader.specs.Reads.{Reads, ReadsContent, ReadsField, ReadsFields, ReadsForms, ReadsRun, ReadsVariant, absent, by_number, by_rule, done}
use Rattle.kmip_ttlv_reader.specs.Reads.{ends, here, inner, is_like, leaf, decoded_leaf, may_follow, may_ignore, more, named, names, next, no_part, number_text}
use Rattle.kmip_ttlv_reader.specs.Reads.{part, parts, run, structure, there, whole, stored_after_leaf, wrap, wrap_some}
use Rattle.kmip_ttlv_reader.specs.Reads.{AreAny, IsAny, any_leaf, any_structure, kept, leaf_under, no_item, one_item}
use Rattle.kmip_ttlv_parts.specs.Padding.{AllSameButPadding, SameButPadding, both_go_on, both_end, equal_items, split_alike}

-- the relation is reflexive and symmetric
pub all_same : (xs : List Raw) → AllSameButPadding xs xs
all_same [] = both_end
all_same (x ∷ xs) = both_go_on equal_items (all_same xs)

mutual
  pub turned : {x y : Raw} → SameButPadding x y → SameButPadding y x
  turned equal_items = equal_items
  turned (split_alike t u w a b s) = split_alike (sym t) w u b a (all_turned s)

  pub all_turned : {xs ys : List Raw} → AllSameButPadding xs ys → AllSameButPadding ys xs
  all_turned both_end = both_end
  all_turned (both_go_on s ss) = both_go_on (turned s) (all_turned ss)

-- ---- what the two have in common

tags_same : {x y : Raw} → SameButPadding x y → x.tag ≡ y.tag
tags_same equal_items = refl
tags_same (split_alike t u w a b s) = t

pub types_same : {x y : Raw} → SameButPadding x y → x.typ ≡ y.typ
types_same equal_items = refl
types_same (split_alike t u w a b s) = u ∙ sym w

-- a leaf is no Structure
pub no_structure : (typ : TtlvType) (content : List ℕ) → is_valid typ content ≡ true → typ ≡ Structure → ⊥
no_structure typ content v e = let k : is_valid Structure content ≡ true = subst (λ (y : TtlvType). is_valid y content ≡ true) e v in absurd cc

-- so it has no padding within it
leaves_same : {x y : Raw} → is_valid x.typ x.content ≡ true → SameButPadding x y → x ≡ y
leaves_same v equal_items = refl
leaves_same {x = x} v (split_alike t u w a b s) = absurd (no_structure x.typ x.content v u)

-- none are like no others
pub ended : {zs : List Raw} → AllSameButPadding [] zs → zs ≡ []
ended both_end = refl

names_same : (name : List ℕ) {xs ys : List Raw} → AllSameButPadding xs ys → names name xs ≡ names name ys
names_same name both_end = refl
names_same name (both_go_on s ss) = rw (tags_same s) refl

like_same : (g h : Raw) {xs ys : List Raw} → g.tag ≡ h.tag → g.typ ≡ h.typ → AllSameButPadding xs ys → is_like g xs ≡ is_like h ys
like_same g h t u both_end = refl
like_same g h t u (both_go_on s ss) = rw (t, u, tags_same s, types_same s) refl

ignore_same : (fs : Fields) (deny : Bool) {x y : Raw} → SameButPadding x y → may_ignore fs deny x ≡ may_ignore fs deny y
ignore_same fs deny equal_items = refl
ignore_same fs deny (split_alike t u w a b s) = rw (t, u, w) refl

follow_same : (fs : Fields) (deny : Bool) {xs ys : List Raw} → AllSameButPadding xs ys → may_follow fs deny xs ≡ may_follow fs deny ys
follow_same fs deny both_end = refl
follow_same fs deny (both_go_on s ss) = rw (ignore_same fs deny s, follow_same fs deny ss) refl

-- what splits the one's content, and what splits the other's
record Parted (x y : Raw) (zs : List Raw) : Type 0 where
  parts_of : List Raw
  split : Splits parts_of y.content
  alike : AllSameButPadding zs parts_of

parted : {x y : Raw} (zs : List Raw) → Splits zs x.content → SameButPadding x y → Parted x y zs
parted zs z equal_items = record { parts_of = zs; split = z; alike = all_same zs }
parted {x = x} zs z (split_alike {xs = xs} {ys = ys} t u w a b s) =
    record { parts_of = ys; split = b; alike = subst (λ (l : List Raw). AllSameButPadding l ys) (splits_one x.content xs zs a z) s }

-- ---- reading from the others

-- what is left of the others is the same but for padding
abbrev Leaves : (List Raw → Type 0) → List Raw → Type 0
Leaves R ys = (left : List Raw) × R left × AllSameButPadding ys left

-- items of any tags and types are read alike
mutual
  any_same : {d : ℕ} {h g : Raw} {v : Value} → IsAny d h v → SameButPadding h g → IsAny d g v
  any_same (any_leaf {d = d} {h = h} plain valid full) q =
      subst (λ (y : Raw). IsAny (suc d) y (leaf_under h.tag h.typ h.content)) (leaves_same valid q) (any_leaf plain valid full)
  any_same {g = g} (any_structure {d = d} {zs = zs} {vs = vs} is splits are) q =
      let p = parted zs splits q in
      subst (λ n. IsAny (suc d) g (struct_value (tag_text n) vs)) (sym (tags_same q))
      (any_structure (sym (types_same q) ∙ is) p.split (all_any_same are p.alike))

  all_any_same : {d : ℕ} {xs ws : List Raw} {vs : Values} → AreAny d xs vs → AllSameButPadding xs ws → AreAny d ws vs
  all_any_same no_item both_end = no_item
  all_any_same (one_item i are) (both_go_on q qs) = one_item (any_same i q) (all_any_same are qs)

-- what the rules read from items, they read from others that are the same but for padding
mutual
  pub reads_same : {s : Form} {k k' : List TagValue} {xs ys : List Raw} {v : Value} → Reads s k xs v k' ys → {ws : List Raw} → AllSameButPadding xs ws
      → Leaves (λ (l : List Raw). Reads s k ws v k' l) ys
  reads_same (leaf {s = s} {h = h} {k = k} t v) (both_go_on {ys = zs} q qs) =
      (zs, subst (λ (y : Raw). Reads s k (y ∷ zs) (decoded_leaf s h.content) (stored_after_leaf s h k) zs) (leaves_same v q) (leaf t v), qs)
  reads_same (wrap_some r) a = let b = reads_same r a in (b.0, wrap_some b.1, b.2)
  reads_same (wrap r) a = let b = reads_same r a in (b.0, wrap b.1, b.2)
  reads_same (run r rs) (both_go_on {y = y} q qs) =
      let b = reads_same r (both_go_on q qs) in
      let c = run_same rs y (tags_same q) (types_same q) b.2 in
      (c.0, run b.1 c.1, c.2)
  reads_same (structure {name = name} {fs = fs} {deny = deny} {zs = zs} n t z f m) (both_go_on {ys = ws} q qs) =
      let p = parted zs z q in
      let g = fields_same f p.alike in
      (ws, structure (sym (names_same name (both_go_on q both_end)) ∙ n) (sym (types_same q) ∙ t) p.split g.1 (sym (follow_same fs deny g.2) ∙ m), qs)
  reads_same (by_rule {vs = vs} {k = k} e r) (both_go_on q qs) =
      let c = variant_same r (both_go_on q qs) in
      (c.0, by_rule (ap (choice vs k) (sym (types_same q)) ∙ e) c.1, c.2)
  reads_same (by_number {name = name} {vs = vs} {h = h} {k = k} e t v f) (both_go_on {ys = zs} q qs) = (
    zs,
    subst (λ (y : Raw). Reads (enum name vs) k (y ∷ zs) (unit_variant_value name (number_text h.content))
        (k ++ record { tag = h.tag; text = number_text h.content } ∷ []) zs) (leaves_same v q) (by_number e t v f),
    qs,
  )

  variant_same : {name : List ℕ} {vs : Variants} {i : ℕ} {k k' : List TagValue} {xs ys : List Raw} {v : Value} → ReadsVariant name vs i k xs v k' ys
      → {ws : List Raw} → AllSameButPadding xs ws → Leaves (λ (l : List Raw). ReadsVariant name vs i k ws v k' l) ys
  variant_same (here r) a = let b = content_same r a in (b.0, here b.1, b.2)
  variant_same (there r) a = let b = variant_same r a in (b.0, there b.1, b.2)

  content_same : {name vname : List ℕ} {c : Content} {k k' : List TagValue} {xs ys : List Raw} {v : Value} → ReadsContent name vname c k xs v k' ys
      → {ws : List Raw} → AllSameButPadding xs ws → Leaves (λ (l : List Raw). ReadsContent name vname c k ws v k' l) ys
  content_same (whole r) a = let b = reads_same r a in (b.0, whole b.1, b.2)
  content_same (parts {ss = ss} {zs = zs} {k = k} {k' = k'} {vs = vs} t z r) (both_go_on {ys = ws} q qs) =
      let p = parted zs z q in
      let g = forms_same r p.alike in
      (ws, parts (sym (types_same q) ∙ t) p.split (subst (λ (l : List Raw). ReadsForms ss k p.parts_of vs k' l) (ended g.2) g.1), qs)

  forms_same : {ss : Forms} {k k' : List TagValue} {xs ys : List Raw} {vs : Values} → ReadsForms ss k xs vs k' ys → {ws : List Raw} → AllSameButPadding xs ws
      → Leaves (λ (l : List Raw). ReadsForms ss k ws vs k' l) ys
  forms_same no_part {ws} a = (ws, no_part, a)
  forms_same (part r rs) a = let b = reads_same r a in let c = forms_same rs b.2 in (c.0, part b.1 c.1, c.2)

  run_same : {s : Form} {h : Raw} {k k' : List TagValue} {xs ys : List Raw} {vs : Values} → ReadsRun s h k xs vs k' ys → (g : Raw) → h.tag ≡ g.tag
      → h.typ ≡ g.typ → {ws : List Raw} → AllSameButPadding xs ws → Leaves (λ (l : List Raw). ReadsRun s g k ws vs k' l) ys
  run_same (ends {h = h} e) g t u {ws} a = (ws, ends (sym (like_same h g t u a) ∙ e), a)
  run_same (more {h = h} e r rs) g t u a =
      let b = reads_same r a in
      let c = run_same rs g t u b.2 in
      (c.0, more (sym (like_same h g t u a) ∙ e) b.1 c.1, c.2)

  fields_same : {fs : Fields} {k k' : List TagValue} {xs ys : List Raw} {vs : Values} → ReadsFields fs k xs vs k' ys → {ws : List Raw} → AllSameButPadding xs ws
      → Leaves (λ (l : List Raw). ReadsFields fs k ws vs k' l) ys
  fields_same done {ws} a = (ws, done, a)
  fields_same (next r rs) a = let b = field_same r a in let c = fields_same rs b.2 in (c.0, next b.1 c.1, c.2)
  fields_same (kept are) a = ([], kept (all_any_same are a), both_end)

  field_same : {name : List ℕ} {s : Form} {k k' : List TagValue} {xs ys : List Raw} {v : Value} → ReadsField name s k xs v k' ys → {ws : List Raw}
      → AllSameButPadding xs ws → Leaves (λ (l : List Raw). ReadsField name s k ws v k' l) ys
  field_same (absent {name = name} o n) {ws} a = (ws, absent o (sym (names_same name a) ∙ n), a)
  field_same (named {name = name} n o r) a = let b = reads_same r a in (b.0, named (sym (names_same name a) ∙ n) o b.1, b.2)
  field_same (inner o r) a = let b = reads_same r a in (b.0, inner o b.1, b.2)
