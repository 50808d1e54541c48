-- The attribute is that which the last Attribute Name names.
use Rattle.std.proofs.Common.{◌≡◌, ◌≢◌, ◌∙◌, ℕ, ◌≤◌, ◌==◌, Bool, true, false, if◌then◌else◌, List, [], ◌∷◌, ◌++◌}
use Rattle.std.proofs.Common.{Option, Some, None, append_assoc, append-nil, ap, sym, refl, subst, arith}
use Rattle.std.specs.Prelude.{nat_lt}
use Rattle.std.proofs.lemmas.Bool.{eq-eqb, eqb-false, eqb-true, ne_eqb, le-ltb, ltb-false}
use Rattle.kmip_ttlv_types.specs.declared.typ.TtlvType.{TtlvType}
use Rattle.kmip_ttlv_types.specs.declared.typ.TtlvType.TheVariants.{TextString}
use Rattle.kmip_ttlv_items.specs.{declared.found.FoundItem.FoundItem, ItemWalks.content_at}
use Rattle.ttlv_run.specs.declared.{attributes.Attribute.Attribute, job.Look.Look, job.Values.Values, lines.Reach.Reach}
use Rattle.ttlv_run.specs.Attributes.{attribute_name, is_printed, attribute_named, still_inside, attribute_after}
use Rattle.ttlv_run.specs.AttributeNames.{AreBehind, NamesAttribute}
use Rattle.ttlv_run.specs.Texts.{Names, reach_after, reach_all, no_reach, values_shown}

-- ---- what a name names

module _ (named : List ℕ → Option ℕ) (values : Values) (bytes : List ℕ) (i : FoundItem) where
  -- a text that is printed
  names_it : (last : Option Attribute) (a : Attribute) → i.tag ≡ attribute_name → i.typ ≡ TextString → is_printed values ≡ true → a.depth ≡ i.depth
      → named (content_at bytes i.offset) ≡ Some a.tag → attribute_after named values bytes last i ≡ Some a
  names_it last a tag text printed depth is = rw (eq-eqb i.tag attribute_name tag, printed, text, is, ← depth) refl

  -- an item behind it changes nothing
  stays : (a : Attribute) → i.tag ≢ attribute_name → a.depth ≤ i.depth → attribute_after named values bytes (Some a) i ≡ Some a
  stays a other inside = rw (ne_eqb i.tag attribute_name other, le-ltb i.depth a.depth inside) refl

  -- what is known where an attribute is named: the item is its name, or it was named before
  pub data Known (last : Option Attribute) (a : Attribute) : Type 0 where
    by_name :
        i.tag ≡ attribute_name → i.typ ≡ TextString → is_printed values ≡ true → a.depth ≡ i.depth
        → named (content_at bytes i.offset) ≡ Some a.tag → Known last a
    by_last : i.tag ≢ attribute_name → a.depth ≤ i.depth → last ≡ Some a → Known last a

  known_name : (last : Option Attribute) (a : Attribute) → i.tag ≡ attribute_name → is_printed values ≡ true → (t : TtlvType) → i.typ ≡ t
      → (o : Option ℕ) → named (content_at bytes i.offset) ≡ o
      → attribute_named named t i.depth (content_at bytes i.offset) ≡ Some a → Known last a
  known_name last a tag printed TextString text None is e =
      absurd (let none : attribute_named named TextString i.depth (content_at bytes i.offset) ≡ None = rw is refl in cc)
  known_name last a tag printed TextString text (Some n) is e =
      let same : Some (record { depth = i.depth; tag = n }) ≡ Some a = rw is at e in
      by_name tag text printed (ap (λ (o : Option Attribute). elim o [ None ↦ i.depth | Some b ↦ b.depth ]) (sym same))
      (is ∙ ap (λ (o : Option Attribute). elim o [ None ↦ None | Some b ↦ Some b.tag ]) same)
  known_name last a tag printed t other o is e = absurd (cc)

  known_last : (last : Option Attribute) (a : Attribute) → i.tag ≢ attribute_name → still_inside i.depth last ≡ Some a → Known last a
  known_last None a other e = absurd (cc)
  known_last (Some b) a other e = by (nat_lt i.depth b.depth) refl
    where
      by : (lt : Bool) → nat_lt i.depth b.depth ≡ lt → Known (Some b) a
      by true is = absurd (let none : still_inside i.depth (Some b) ≡ None = rw is refl in cc)
      by false is =
          let same : Some b ≡ Some a = rw is at e in
          let depth : b.depth ≡ a.depth = ap (λ (o : Option Attribute). elim o [ None ↦ b.depth | Some x ↦ x.depth ]) same in
          by_last other (omega (arith, depth, ltb-false i.depth b.depth is)) same

  known : (last : Option Attribute) (a : Attribute) → attribute_after named values bytes last i ≡ Some a → Known last a
  known last a e = by (i.tag == attribute_name) refl
    where
      shown : (is : Bool) → is_printed values ≡ is → i.tag ≡ attribute_name
          → (if is then attribute_named named i.typ i.depth (content_at bytes i.offset) else None) ≡ Some a → Known last a
      shown true printed tag h = known_name last a tag printed i.typ refl (named (content_at bytes i.offset)) refl h
      shown false printed tag h = absurd (cc)

      by : (b : Bool) → (i.tag == attribute_name) ≡ b → Known last a
      by true is = shown (is_printed values) refl (eqb-true i.tag attribute_name is) (rw is at e)
      by false is = known_last last a (eqb-false i.tag attribute_name is) (rw is at e)

-- ---- items that were met

module _ (names : Names) (look : Look) (bytes : List ℕ) where
  reach_both : (r : Reach) (xs ys : List FoundItem) → reach_all names look bytes r (xs ++ ys) ≡ reach_all names look bytes (reach_all names look bytes r xs) ys
  reach_both r [] ys = refl
  reach_both r (x ∷ xs) ys = reach_both (reach_after names look bytes r x) xs ys

  -- an attribute stays named within its structure
  stays_all : (r : Reach) (a : Attribute) (xs : List FoundItem) → r.attribute ≡ Some a → AreBehind a.depth xs
      → (reach_all names look bytes r xs).attribute ≡ Some a
  stays_all r a [] e behind = e
  stays_all r a (x ∷ xs) e (inside, other, behind) =
      let s = reach_after names look bytes r x in
      let values = values_shown look s.secret x in
      let here : s.attribute ≡ Some a = ap (λ (o : Option Attribute). attribute_after names.named values bytes o x) e
      ∙ stays names.named values bytes x a other inside in
      stays_all s a xs here behind

  pub named_then : (met : List FoundItem) (a : Attribute) → NamesAttribute names look bytes met a
      → (reach_all names look bytes no_reach met).attribute ≡ Some a
  named_then met a h =
      let r = reach_all names look bytes no_reach h.before in
      let s = reach_after names look bytes r h.name in
      let printed : is_printed (values_shown look s.secret h.name) ≡ true =
      subst (λ (x : Reach). is_printed (values_shown look x.secret h.name) ≡ true) (reach_both no_reach h.before (h.name ∷ [])) h.printed in
      let here : s.attribute ≡ Some a =
      names_it names.named (values_shown look s.secret h.name) bytes h.name r.attribute a h.tag h.text printed h.depth h.named in
      ap (λ (x : List FoundItem). (reach_all names look bytes no_reach x).attribute) h.is
      ∙ ap (λ (x : Reach). x.attribute) (reach_both no_reach h.before (h.name ∷ h.behind))
      ∙ stays_all s a h.behind here (subst (λ (d : ℕ). AreBehind d h.behind) (sym h.depth) h.others)

  -- an attribute that is named was named by a name
  abbrev Founded : List FoundItem → Type 0
  Founded met = (a : Attribute) → (reach_all names look bytes no_reach met).attribute ≡ Some a → NamesAttribute names look bytes met a

  one_behind : (depth : ℕ) (xs : List FoundItem) (x : FoundItem) → AreBehind depth xs → depth ≤ x.depth → x.tag ≢ attribute_name
      → AreBehind depth (xs ++ (x ∷ []))
  one_behind depth [] x behind inside other = (inside, other, tt)
  one_behind depth (y ∷ ys) x (within, no_name, behind) inside other = (within, no_name, one_behind depth ys x behind inside other)

  founded_more : (met : List FoundItem) (x : FoundItem) → Founded met → Founded (met ++ (x ∷ []))
  founded_more met x founded a e =
      let r = reach_all names look bytes no_reach met in
      let s = reach_after names look bytes r x in
      let more = reach_both no_reach met (x ∷ []) in
      let here : s.attribute ≡ Some a = sym (ap (λ (y : Reach). y.attribute) more) ∙ e in
      by r more (founded a) (known names.named (values_shown look s.secret x) bytes x r.attribute a here)
    where
      by : (r : Reach) → reach_all names look bytes no_reach (met ++ (x ∷ [])) ≡ reach_after names look bytes r x
          → (r.attribute ≡ Some a → NamesAttribute names look bytes met a)
          → Known names.named (values_shown look (reach_after names look bytes r x).secret x) bytes x r.attribute a
          → NamesAttribute names look bytes (met ++ (x ∷ [])) a
      by r more before (by_name tag text printed depth is) = record {
        before = met;
        name = x;
        behind = [];
        is = refl;
        tag = tag;
        text = text;
        printed = subst (λ (y : Reach). is_printed (values_shown look y.secret x) ≡ true) (sym more) printed;
        depth = depth;
        named = is;
        others = tt;
      }
      by r more before (by_last other inside last) =
          let h = before last in
          record {
            before = h.before;
            name = h.name;
            behind = h.behind ++ (x ∷ []);
            is = ap (λ (y : List FoundItem). y ++ (x ∷ [])) h.is ∙ append_assoc h.before (h.name ∷ h.behind) (x ∷ []);
            tag = h.tag;
            text = h.text;
            printed = h.printed;
            depth = h.depth;
            named = h.named;
            others = one_behind h.name.depth h.behind x h.others (omega (arith, h.depth, inside)) other;
          }

  founded_all : (met more : List FoundItem) → Founded met → Founded (met ++ more)
  founded_all met [] founded = subst Founded (sym (append-nil met)) founded
  founded_all met (x ∷ xs) founded =
      subst Founded (append_assoc met (x ∷ []) xs) (founded_all (met ++ (x ∷ [])) xs (founded_more met x founded))

  pub then_named : (met : List FoundItem) → Founded met
  then_named met = founded_all [] met (λ a none. absurd (cc))
