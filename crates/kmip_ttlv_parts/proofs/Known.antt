-- What is known of the texts that were kept, and what stays known: an item keeps no text under a tag that neither it nor a field in it has.
use Rattle.std.proofs.Common.{◌≡◌, subst, ℕ, Bool as Boole, true, false, cond, List, [], ◌++◌, ◌∷◌, Some, None, Option, option_map, filter, refl, ap, sym, ◌∙◌}
use Rattle.std.proofs.Common.{◌==◌}
use Rattle.std.specs.Prelude.{◌&&◌, ◌||◌, not}
use Rattle.std.specs.List.{last_or}
use Rattle.std.proofs.lemmas.Bool.{and_parts, eq-eqb, eqb-true, false≢true, not-true, or_right}
use Rattle.std.proofs.lemmas.{List.append-nil, List.Elements.filter-append, Option.none-some}
use Rattle.kmip_ttlv_base.specs.Forms.{Form, struct, option, seq, newtype, enum, any_number, text as text_form, Fields, no_fields, field, any_items, Variants}
use Rattle.kmip_ttlv_base.specs.Forms.{no_variants}
use Rattle.kmip_ttlv_base.specs.Forms.{variant, Content, unit, wrapped, tuple}
use Rattle.kmip_ttlv_base.specs.Values.{Value, Values, text_value, u32_value}
use Rattle.kmip_ttlv_ser.specs.declared.pending.PendingTag.{PendingTag}
use Rattle.kmip_ttlv_reader.specs.{TagValues.TagValue, TagValues.last, Reads.has_tag, Reads.is_struct}
use Rattle.kmip_ttlv_parts.specs.Agreements.{Head, Agrees, FieldsAgree, HasVariant, RunAgrees, absent_agrees, field_agrees, first_variant, inner_agrees}
use Rattle.kmip_ttlv_parts.specs.Agreements.{any_items_agree, last_agrees, later_variant, leaf_agrees, newtype_agrees, next_agrees, no_field_agrees}
use Rattle.kmip_ttlv_parts.specs.Agreements.{nothing_agrees}
use Rattle.kmip_ttlv_parts.specs.Agreements.{number_agrees, option_agrees, rule_agrees, seq_agrees, struct_agrees, tuple_agrees, with_value}

-- ---- the last text of a tag

found_last : (o : Option TagValue) (k : List TagValue) (r : TagValue) → last_or o (k ++ r ∷ []) ≡ Some r
found_last o [] r = refl
found_last o (q ∷ k) r = found_last (Some q) k r

-- the text that was kept last under a tag is the last
last_stored : (k : List TagValue) (r : TagValue) → last (k ++ r ∷ []) r.tag ≡ Some r.text
last_stored k r = rw (filter-append, eq-eqb r.tag r.tag refl) (ap (option_map (λ q. q.text)) (found_last None (filter (λ q. q.tag == r.tag) k) r))

-- and it still is after a text under another tag
still_stored : (k : List TagValue) (r : TagValue) (t : ℕ) → (r.tag == t) ≡ false → last (k ++ r ∷ []) t ≡ last k t
still_stored k r t other = rw (filter-append, other, append-nil) refl

-- ---- what is known

-- the text that was kept last under a tag, if it is known
pub record Known : Type 0 where
  pub tag : ℕ
  pub text : Option (List ℕ)

-- the text that is known of a tag: by the first that is of this tag
abbrev pub said : List Known → ℕ → Option (List ℕ)
said [] t = None
said (r ∷ known) t = cond (r.tag == t) r.text (said known t)

-- each text that is known of a tag was kept last under it
abbrev pub Finds : List Known → List TagValue → Type 0
Finds known k = (t : ℕ) (text : List ℕ) → said known t ≡ Some text → last k t ≡ Some text

-- where nothing is known
pub finds_none : (k : List TagValue) → Finds [] k
finds_none k t text e = absurd (none-some text e)

-- a text that is kept is known
pub finds_stored : (known : List Known) (k : List TagValue) (r : TagValue) → Finds known k → Finds (record { tag = r.tag; text = Some r.text } ∷ known)
    (k ++ r ∷ [])
finds_stored known k r found t text =
    elim (r.tag == t) as (λ b. (r.tag == t) ≡ b → cond b (Some r.text) (said known t) ≡ Some text → last (k ++ r ∷ []) t ≡ Some text) [
      | true ↦ λ same e. subst (λ u. last (k ++ r ∷ []) u ≡ Some text) (eqb-true r.tag t same) (last_stored k r ∙ e)
      | false ↦ λ other e. still_stored k r t other ∙ found t text e
    ] refl

-- that nothing is known of a tag is true in any case
pub finds_unknown : (known : List Known) (k : List TagValue) (u : ℕ) → Finds known k → Finds (record { tag = u; text = None } ∷ known) k
finds_unknown known k u found t text =
    elim (u == t) as (λ b. cond b None (said known t) ≡ Some text → last k t ≡ Some text) [
      | true ↦ λ e. absurd (none-some text e)
      | false ↦ λ e. found t text e
    ]

-- ---- what an item leaves

-- no text is kept under this tag of what is in an item of this form: no field in it has the tag
abbrev mutual
  pub is_without : ℕ → Form → Boole
  is_without t (struct name fs deny) = are_without t fs
  is_without t (option s) = is_without t s
  is_without t (seq s) = is_without t s
  is_without t (newtype name s) = is_without t s
  is_without t (enum name vs) = none_has t vs
  is_without t _ = true

  pub are_without : ℕ → Fields → Boole
  are_without t no_fields = true
  are_without t (field name s fs) = (is_struct s || not (has_tag name t)) && (is_without t s && are_without t fs)
  are_without t any_items = true

  pub none_has : ℕ → Variants → Boole
  none_has t no_variants = true
  none_has t (variant name c vs) = lacks t c && none_has t vs

  pub lacks : ℕ → Content → Boole
  lacks t unit = true
  lacks t (wrapped s) = is_without t s
  lacks t (tuple ss) = false

-- an item of this tag and form keeps no text under the other tag; of a Structure's own tag none is kept
abbrev pub spares : ℕ → ℕ → Form → Boole
spares t u s = (is_struct s || not (u == t)) && is_without t s

leaf_spares : (s : Form) (u : ℕ) (w : Value) (k : List TagValue) (t : ℕ) → (is_struct s || not (u == t)) ≡ true → last (with_value s u w k) t ≡ last k t
leaf_spares text_form u (text_value b) k t other = still_stored k _ t (not-true (u == t) other)
leaf_spares any_number u (u32_value n) k t other = still_stored k _ t (not-true (u == t) other)
leaf_spares _ u w k t other = refl

-- the variant that is chosen lacks the tag if each does
chosen_lacks : {vs : Variants} {i : ℕ} {name : List ℕ} {c : Content} (t : ℕ) → HasVariant vs i name c → none_has t vs ≡ true → lacks t c ≡ true
chosen_lacks t (first_variant {c = c} {vs = vs}) none = (and_parts (lacks t c) (none_has t vs) none).0
chosen_lacks t (later_variant {d = d} {vs = vs} h) none = chosen_lacks t h (and_parts (lacks t d) (none_has t vs) none).1

-- a field of another tag has no item of this one
other_item : (b : Boole) (name : List ℕ) (u t : ℕ) → (b || has_tag name u) ≡ true → (b || not (has_tag name t)) ≡ true → (b || not (u == t)) ≡ true
other_item true name u t named other = refl
other_item false name u t named other = elim (u == t) as (λ b. (u == t) ≡ b → not b ≡ true) [
  | true ↦ λ same. absurd (false≢true (sym (not-true (has_tag name t) other) ∙ sym (ap (has_tag name) (eqb-true u t same)) ∙ named))
  | false ↦ λ differ. refl
] refl

mutual
  pub spared : {s : Form} {k k' : List TagValue} {h : PendingTag} {w v : Value} {x : Head} (t : ℕ) → Agrees s k h w x v k'
      → (is_struct s || not (x.tag == t)) ≡ true → is_without t s ≡ true → last k' t ≡ last k t
  spared t (leaf_agrees {s = s} {k = k} {w = w} {t = u} pending c) other free = leaf_spares s u w k t other
  spared t (inner_agrees wraps a) other free = spared t a other free
  spared t (option_agrees {s = s} {x = x} a) other free = spared t a (or_right (is_struct s) (not (x.tag == t)) other) free
  spared t (newtype_agrees a) other free = spared t a other free
  spared t (struct_agrees tagged encloses a) other free = fields_spared t a free
  spared t (rule_agrees {s = s} {x = x} is at a) other free = spared t a (or_right (is_struct s) (not (x.tag == t)) other) (chosen_lacks t at free)
  spared t (tuple_agrees is at encloses a) other free = absurd (false≢true (chosen_lacks t at free))
  spared t (number_agrees {k = k} {t = u} numbered units) other free = still_stored k _ t (not-true (u == t) other)
  spared t (seq_agrees a) other free = run_spared t a other free

  run_spared : {s : Form} {k k' : List TagValue} {h : PendingTag} {ws vs : Values} {x : Head} (t : ℕ) → RunAgrees s k h ws x vs k' → not (x.tag == t) ≡ true
      → is_without t s ≡ true → last k' t ≡ last k t
  run_spared t (last_agrees {s = s} {x = x} a) other free = spared t a (or_right (is_struct s) (not (x.tag == t)) other) free
  run_spared t (next_agrees {s = s} {x = x} a single b) other free = run_spared t b other free
      ∙ spared t a (or_right (is_struct s) (not (x.tag == t)) other) free

  fields_spared : {fs : Fields} {k k' : List TagValue} {ws vs : Values} {y : Option Head} (t : ℕ) → FieldsAgree fs k ws y vs k' → are_without t fs ≡ true
      → last k' t ≡ last k t
  fields_spared t no_field_agrees free = refl
  fields_spared t (nothing_agrees a) free = fields_spared t a free
  fields_spared t (absent_agrees {name = name} {s = s} {fs = fs} other a) free =
      let parts = and_parts (is_struct (option s) || not (has_tag name t)) (is_without t (option s) && are_without t fs) free in
      fields_spared t a (and_parts (is_without t (option s)) (are_without t fs) parts.1).1
  fields_spared t (field_agrees {name = name} {s = s} {fs = fs} {x = x} named apart a b) free =
      let parts = and_parts (is_struct s || not (has_tag name t)) (is_without t s && are_without t fs) free in
      let inner = and_parts (is_without t s) (are_without t fs) parts.1 in
      fields_spared t b inner.1 ∙ spared t a (other_item (is_struct s) name x.tag t named parts.0) inner.0
  fields_spared t (any_items_agree are) free = refl

-- what stays known after an item of this tag and form
abbrev pub left : List Known → ℕ → Form → List Known
left known u s = filter (λ r. spares r.tag u s) known

-- of a tag that passes a test, what is known is among what passes
said_left : (p : ℕ → Boole) (known : List Known) (t : ℕ) (text : List ℕ) → said (filter (λ r. p r.tag) known) t ≡ Some text → (p t ≡ true)
    × (said known t ≡ Some text)
said_left p [] t text = λ e. absurd (none-some text e)
said_left p (r ∷ known) t text = by (p r.tag) (r.tag == t) refl refl (said_left p known t text)
  where
    by : (b d : Boole) → p r.tag ≡ b → (r.tag == t) ≡ d
        → (said (filter (λ q. p q.tag) known) t ≡ Some text → (p t ≡ true) × (said known t ≡ Some text))
        → said (cond b (r ∷ filter (λ q. p q.tag) known) (filter (λ q. p q.tag) known)) t ≡ Some text
        → (p t ≡ true) × (cond d r.text (said known t) ≡ Some text)
    by true true passes same later e = (sym (ap p (eqb-true r.tag t same)) ∙ passes, rw same at e)
    by true false passes differ later e = later (rw differ at e)
    by false true fails same later e = absurd (false≢true (sym fails ∙ ap p (eqb-true r.tag t same) ∙ (later e).0))
    by false false fails differ later e = later e

-- where less is known, it is known as well
pub finds_less : (known : List Known) (k : List TagValue) (u : ℕ) (s : Form) → Finds known k → Finds (left known u s) k
finds_less known k u s found t text e = found t text (said_left (λ r. spares r u s) known t text e).1

-- after an item that agrees with its form
pub finds_left : (known : List Known) {s : Form} {k k' : List TagValue} {h : PendingTag} {w v : Value} {x : Head} → Agrees s k h w x v k' → Finds known k
    → Finds (left known x.tag s) k'
finds_left known {s} {x = x} a found t text e =
    let both = said_left (λ r. spares r x.tag s) known t text e in
    let parts = and_parts (is_struct s || not (x.tag == t)) (is_without t s) both.0 in
    spared t a parts.0 parts.1 ∙ found t text both.1
