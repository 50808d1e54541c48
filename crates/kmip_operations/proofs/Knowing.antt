-- What is known stays known.
use Rattle.std.proofs.Common.{◌≡◌, inl, inr, ℕ, ◌+◌, ◌<◌, ◌≤◌, Bool, Result, zero, suc, List, [], ◌∷◌, ◌++◌, Option, Some, None}
use Rattle.std.proofs.Common.{get_or, length, string_bytes, take, refl, ap, sym, subst, ◌∙◌, arith}
use Rattle.std.proofs.Math.Seq.{take-suc}
use Rattle.kmip_attributes.specs.declared.attribute.Attribute.{Attribute}
use Rattle.kmip_attributes.specs.declared.attribute.AttributeStructure.TheVariants as structures
use Rattle.kmip_attributes.specs.declared.attribute.AttributeValue.{AttributeValue}
use Rattle.kmip_attributes.specs.declared.attribute.AttributeValue.TheVariants as values
use Rattle.kmip_attributes.specs.declared.structures.Name.{Name}
use Rattle.kmip_attribute_set.specs.declared.attributes.Attributes.{Attributes}
use Rattle.kmip_objects.specs.declared.template.TemplateAttribute.{TemplateAttribute}
use Rattle.kmip_ttlv_base.specs.declared.error.Error.{Error}
use Rattle.kmip_ttlv_parts.specs.declared.enumeration.Enumeration.{Enumeration}
use Rattle.kmip_ttlv_parts.specs.declared.kept.Kept.{Kept}
use Rattle.kmip_operations.specs.declared.about.About.{About}
use Rattle.kmip_operations.specs.Known.{Grows, HasName, IsDescribed, IsTemplated, Knows, KnowsAll, Stays}

-- nothing is known yet, so anything may be
pub stays_none : {X : Type 0} {old : Option X} (new : Option X) → old ≡ None → Stays old new
stays_none new e = subst (λ o. Stays o new) (sym e) tt

pub stays_same : {X : Type 0} (old : Option X) → Stays old old
stays_same (Some x) = refl
stays_same None = tt

stays : {X : Type 0} {old new : Option X} {x : X} → Stays old new → old ≡ Some x → new ≡ Some x
stays {X} {old} {new} s e = (subst (λ o. Stays o new) e s)

stays_too : {X : Type 0} (x y z : Option X) → Stays x y → Stays y z → Stays x z
stays_too (Some v) y z s t = stays t s
stays_too None y z s t = tt

pub grows_same : {K : Type 0} (about : About K) → Grows about about
grows_same about = record {
  algorithm = stays_same about.algorithm;
  length = stays_same about.length;
  usage_mask = stays_same about.usage_mask;
  names = λ text h. h;
  kind = refl;
}

pub grows_too : {K : Type 0} {first mid last : About K} → Grows first mid → Grows mid last → Grows first last
grows_too {first = first} {mid = mid} {last = last} g h = record {
  algorithm = stays_too first.algorithm mid.algorithm last.algorithm g.algorithm h.algorithm;
  length = stays_too first.length mid.length last.length g.length h.length;
  usage_mask = stays_too first.usage_mask mid.usage_mask last.usage_mask g.usage_mask h.usage_mask;
  names = λ text there. h.names text (g.names text there);
  kind = h.kind ∙ g.kind;
}

pub has_first : {K : Type 0} (names : List (Name K)) (one : Name K) (text : List ℕ) → HasName text names → HasName text (names ++ one ∷ [])
has_first [] one text never = elim never [ ]
has_first (x ∷ names) one text (inl e) = inl e
has_first (x ∷ names) one text (inr h) = inr (has_first names one text h)

pub has_last : {K : Type 0} (names : List (Name K)) (one : Name K) (text : List ℕ) → string_bytes one.value ≡ text → HasName text (names ++ one ∷ [])
has_last [] one text e = inl e
has_last (x ∷ names) one text e = inr (has_last names one text e)

pub known_still : {A K : Type 0} (name : List ℕ) (value : AttributeValue A) {old new : About K} → Grows old new → Knows name value old → Knows name value new
known_still name (values.CryptographicAlgorithm it) g (n, e) = (n, stays g.algorithm e)
known_still name (values.Integer it) g (inl (n, e)) = inl (n, stays g.length e)
known_still name (values.Integer it) g (inr (n, e)) = inr (n, stays g.usage_mask e)
known_still name (values.Structure (structures.Name it)) g (n, h) = (n, g.names (string_bytes it.value) h)
known_still name _ g never = elim never [ ]

pub all_still : {A K : Type 0} (attributes : List (Attribute A)) {old new : About K} → Grows old new → KnowsAll attributes old → KnowsAll attributes new
all_still [] g all = tt
all_still (x ∷ attributes) g (one, all) = (known_still (string_bytes x.name) x.value g one, all_still attributes g all)

and_one : {A K : Type 0} (attributes : List (Attribute A)) (x : Attribute A) (about : About K) → KnowsAll attributes about
    → Knows (string_bytes x.name) x.value about → KnowsAll (attributes ++ x ∷ []) about
and_one [] x about all one = (one, tt)
and_one (y ∷ attributes) x about (first, all) one = (first, and_one attributes x about all one)

-- one more attribute is known, and all before it
pub one_more : {A K : Type 0} (attributes : List (Attribute A)) (j : ℕ) (x : Attribute A) {old new : About K} → j < length attributes
    → x ≡ get_or attributes j x → Grows old new → KnowsAll (take j attributes) old → Knows (string_bytes x.name) x.value new
    → KnowsAll (take (j + 1) attributes) new
one_more attributes j x {old} {new} h e g all one =
    let after : suc j ≡ j + 1 = omega arith in
    subst (λ l. KnowsAll l new) (ap (λ y. take j attributes ++ y ∷ []) e ∙ sym (take-suc attributes j x h) ∙ ap (λ n. take n attributes) after)
    (and_one (take j attributes) x new (all_still (take j attributes) g all) one)

-- all attributes are known
pub all_known : {A K : Type 0} (attributes : List (Attribute A)) (j : ℕ) (about : About K) → length attributes ≤ j → KnowsAll (take j attributes) about
    → KnowsAll attributes about
all_known [] j about h all = tt
all_known (x ∷ attributes) zero about h all = absurd (omega arith)
all_known (x ∷ attributes) (suc j) about h (one, all) = (one, all_known attributes j about (omega (arith, h)) all)

-- what a request says of an object stays known
pub templated_still : {A K : Type 0} {by_tags : Bool} {object_type : Enumeration 0x420057} (template : Option (TemplateAttribute A)) {old new : About K}
    → Grows old new → IsTemplated by_tags object_type template old → IsTemplated by_tags object_type template new
templated_still (Some t) g it = record { kind = g.kind ∙ it.kind; known = (it.known.0, all_still t.attributes.items g it.known.1) }
templated_still None g it = record { kind = g.kind ∙ it.kind; known = tt }

pub described_still : {A K : Type 0} {IsOfTags : Kept A → Result (Attributes A) (Error A) → Type 0} {by_tags : Bool} {object_type : Enumeration 0x420057}
    {template : Option (TemplateAttribute A)} {items : Option (Kept A)} {old new : About K} → Grows old new
    → IsDescribed IsOfTags by_tags object_type template items old → IsDescribed IsOfTags by_tags object_type template items new
described_still {template = template} g it = record {
  templated = templated_still template g it.templated;
  given = it.given;
  are_given = it.are_given;
  known = all_still it.given.list.items g it.known;
}
