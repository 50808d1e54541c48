-- What is written of an element that XML can hold is a form of it.
use Rattle.std.proofs.Common.{◌≡◌, ℕ, ◌≤◌, Bool, true, false, eqb, List, [], ◌∷◌, ◌++◌, refl, sym}
use Rattle.std.proofs.Common.{ap, subst, ◌∙◌, inl, inr, arith}
use Rattle.std.specs.Prelude.{encode_utf8, encode_utf8_all}
use Rattle.std.specs.List.{AllByRecursion}
use Rattle.std.specs.Str.{chars}
use Rattle.std.proofs.Math.Utf8.{scalar, scalars}
use Rattle.std.proofs.lemmas.Bool.{eqb-true}
use Rattle.std.proofs.lemmas.Bool.Decides.{nat_tests}
use Rattle.std.proofs.lemmas.List.{append-nil}
use Rattle.std.proofs.lemmas.Str.{encodes-chars, chars-encodes}
use Rattle.plain_xml.specs.Characters.{is_space, is_character, is_name_start, is_name_part}
use Rattle.plain_xml.specs.Values.{referenced}
use Rattle.plain_xml.specs.Elements.{Pair, Tree, Trees, element, no_trees, tree}
use Rattle.plain_xml.specs.Forms.{Spelling, spelled, IsSpelled, AreSpelled, text_of_all, bytes_of_all, IsNameText, IsName}
use Rattle.plain_xml.specs.Forms.{IsAttribute, AreAttributes, MayFollow, end_of, IsOpened, IsEnded, ArePassed, IsElement, AreElements}
use Rattle.plain_xml.specs.Forms.{IsXmlOf}
use Rattle.plain_xml.specs.Writings.{spelling_of, escaped, attribute_text, attributes_text, opening_text, ending_text, text_of, texts_of, IsWritableName}
use Rattle.plain_xml.specs.Writings.{IsWritableAttribute, IsWritable, AreWritable}
use Rattle.plain_xml.proofs.Tools.{cases_bool}

spelled_right : (c : ℕ) → IsSpelled 34 (spelling_of c) c
unfolding spelling_of referenced is_character
spelled_right c = elim (cases_bool (eqb c 38)) [
  | inl e ↦ rw (eqb-true _ _ e) ((refl, (refl, (refl, tt))), refl)
  | inr a ↦ elim (cases_bool (eqb c 60)) [
    | inl e ↦ rw (eqb-true _ _ e) ((refl, (refl, tt)), refl)
    | inr b ↦ elim (cases_bool (eqb c 34)) [
      | inl e ↦ rw (eqb-true _ _ e) ((refl, (refl, (refl, (refl, tt)))), refl)
      | inr d ↦ elim (cases_bool (eqb c 9)) [
        | inl e ↦ rw (eqb-true _ _ e) ((refl, (refl, tt)), refl)
        | inr f ↦ elim (cases_bool (eqb c 10)) [
          | inl e ↦ rw (eqb-true _ _ e) ((refl, (refl, (refl, tt))), refl)
          | inr g ↦ elim (cases_bool (eqb c 13)) [
            | inl e ↦ rw (eqb-true _ _ e) ((refl, (refl, (refl, tt))), refl)
            | inr h ↦ rw (a, b, d, f, g, h) (d, rw (a, b, h) refl, rw (f, g) refl)
          ]
        ]
      ]
    ]
  ]
]

pairs : List ℕ → List (Spelling × ℕ)
pairs [] = []
pairs (c ∷ cs) = (spelling_of c, c) ∷ pairs cs

pairs_right : (cs : List ℕ) → AreSpelled 34 (pairs cs)
unfolding pairs
pairs_right [] = tt
pairs_right (c ∷ cs) = (spelled_right c, pairs_right cs)

pairs_text : (cs : List ℕ) → escaped cs ≡ text_of_all (pairs cs)
unfolding pairs
pairs_text [] = refl
pairs_text (c ∷ cs) = ap (λ (l : List ℕ). spelled (spelling_of c) ++ l) (pairs_text cs)

pairs_bytes : (cs : List ℕ) → encode_utf8_all cs ≡ bytes_of_all (pairs cs)
unfolding pairs
pairs_bytes [] = refl
pairs_bytes (c ∷ cs) = ap (λ (l : List ℕ). encode_utf8 c ++ l) (pairs_bytes cs)

named : (name : List ℕ) → IsWritableName name → IsName (chars name) name
named name w = (w.1, sym (encodes-chars name w.0))

blank : is_space 32 ≡ true
unfolding is_space
blank = refl

is_attribute : (a : Pair) → IsWritableAttribute a → IsAttribute (attribute_text a) a
is_attribute a w = record {
  first = 32;
  gap = [];
  name = chars a.0;
  before = [];
  after = [];
  value = 34 ∷ (escaped (chars a.1) ++ 34 ∷ []);
  are = ((blank, tt), tt, tt);
  named = named a.0 w.0;
  valued = record {
    quote = 34;
    either = refl;
    all = pairs (chars a.1);
    are = pairs_right (chars a.1);
    text_is = ap (λ (l : List ℕ). 34 ∷ (l ++ 34 ∷ [])) (pairs_text (chars a.1));
    value_is = sym (encodes-chars a.1 w.1) ∙ pairs_bytes (chars a.1);
  };
  text_is = refl;
}

are_attributes : (attributes : List Pair) → AllByRecursion IsWritableAttribute attributes → AreAttributes attributes (attributes_text attributes)
are_attributes [] w = refl
are_attributes (a ∷ others) w = (attribute_text a, attributes_text others, refl, is_attribute a w.0, are_attributes others w.1)

is_opened : (name : List ℕ) (attributes : List Pair) (empty : Bool) → IsWritableName name → AllByRecursion IsWritableAttribute attributes
    → MayFollow [] attributes
    → IsOpened (opening_text name attributes empty) name attributes empty
is_opened name attributes empty w wa fit = record {
  behind = chars name ++ (attributes_text attributes ++ end_of empty);
  opens = record {
    name_text = chars name;
    inner = attributes_text attributes;
    gap = [];
    named = named name w;
    are = are_attributes attributes wa;
    fit = fit;
    spaces = tt;
    text_is = refl;
  };
  text_is = refl;
}

is_ended : (name : List ℕ) → IsWritableName name → IsEnded (ending_text name) name
is_ended name w = record {
  behind = chars name ++ 62 ∷ [];
  ends = record { name_text = chars name; gap = []; named = named name w; spaces = tt; text_is = refl };
  text_is = refl;
}

nothing_passed : ArePassed []
nothing_passed = record { parts = []; are = tt; text_is = refl }

mutual
  is_element : (t : Tree) → IsWritable t → IsElement t (text_of t)
  is_element (element name attributes no_trees) w = inl (refl, is_opened name attributes true w.0 w.1 w.2)
  is_element (element name attributes (tree t ts)) w =
      inr (
        opening_text name attributes false,
        texts_of (tree t ts),
        ending_text name,
        refl,
        is_opened name attributes false w.0 w.1 w.2,
        are_elements
            (tree t ts) w.3,
        is_ended name w.0,
      )

  are_elements : (ts : Trees) → AreWritable ts → AreElements ts (texts_of ts)
  are_elements no_trees w = nothing_passed
  are_elements (tree t ts) w = ([], text_of t, texts_of ts, refl, nothing_passed, is_element t w.0, are_elements ts w.1)

-- ---- the characters

abbrev AreHeld : List ℕ → Type 0
AreHeld text = AllByRecursion (λ c. is_character c ≡ true) text

held_append : (a b : List ℕ) → AreHeld a → AreHeld b → AreHeld (a ++ b)
held_append [] b ha hb = hb
held_append (c ∷ a) b ha hb = (ha.0, held_append a b ha.1 hb)

part_bounds : (c : ℕ) → is_name_part c ≡ true → (32 ≤ c) × (c ≤ 122)
unfolding is_name_part is_name_start
part_bounds c e = (grind (arith, nat_tests), grind (arith, nat_tests))

start_bounds : (c : ℕ) → is_name_start c ≡ true → (32 ≤ c) × (c ≤ 122)
unfolding is_name_start
start_bounds c e = (grind (arith, nat_tests), grind (arith, nat_tests))

bounds_held : (c : ℕ) → 32 ≤ c → c ≤ 122 → is_character c ≡ true
unfolding is_character
bounds_held c low high = grind (arith, nat_tests)

parts_held : (cs : List ℕ) → AllByRecursion (λ d. is_name_part d ≡ true) cs → AreHeld cs
parts_held [] h = tt
parts_held (c ∷ cs) h = let b = part_bounds c h.0 in (bounds_held c b.0 b.1, parts_held cs h.1)

name_held : (cs : List ℕ) → IsNameText cs → AreHeld cs
name_held [] h = absurd h
name_held (c ∷ cs) h = let b = start_bounds c h.0 in (bounds_held c b.0 b.1, parts_held cs h.1)

spelling_held : (c : ℕ) → is_character c ≡ true → AreHeld (spelled (spelling_of c))
unfolding spelling_of is_character
spelling_held c k = elim (cases_bool (eqb c 38)) [
  | inl e ↦ rw (eqb-true _ _ e) (refl, (refl, (refl, (refl, (refl, tt)))))
  | inr a ↦ elim (cases_bool (eqb c 60)) [
    | inl e ↦ rw (eqb-true _ _ e) (refl, (refl, (refl, (refl, tt))))
    | inr b ↦ elim (cases_bool (eqb c 34)) [
      | inl e ↦ rw (eqb-true _ _ e) (refl, (refl, (refl, (refl, (refl, (refl, tt))))))
      | inr d ↦ elim (cases_bool (eqb c 9)) [
        | inl e ↦ rw (eqb-true _ _ e) (refl, (refl, (refl, (refl, tt))))
        | inr f ↦ elim (cases_bool (eqb c 10)) [
          | inl e ↦ rw (eqb-true _ _ e) (refl, (refl, (refl, (refl, (refl, tt)))))
          | inr g ↦ elim (cases_bool (eqb c 13)) [
            | inl e ↦ rw (eqb-true _ _ e) (refl, (refl, (refl, (refl, (refl, tt)))))
            | inr h ↦ rw (a, b, d, f, g, h) (k, tt)
          ]
        ]
      ]
    ]
  ]
]

escaped_held : (cs : List ℕ) → AreHeld cs → AreHeld (escaped cs)
escaped_held [] h = tt
escaped_held (c ∷ cs) h = held_append (spelled (spelling_of c)) (escaped cs) (spelling_held c h.0) (escaped_held cs h.1)

held_at : (c : ℕ) (cs : List ℕ) → 32 ≤ c → c ≤ 122 → AreHeld cs → AreHeld (c ∷ cs)
held_at c cs low high h = (bounds_held c low high, h)

attribute_held : (a : Pair) → IsWritableAttribute a → AreHeld (attribute_text a)
attribute_held a w =
    let last : AreHeld (34 ∷ []) = held_at 34 [] (omega arith) (omega arith) tt in
    let value = held_at 34 (escaped (chars a.1) ++ 34 ∷ []) (omega arith) (omega arith) (held_append (escaped (chars a.1)) (34 ∷ []) (escaped_held
    (chars a.1) w.2) last) in
    let sign = held_at 61 (34 ∷ (escaped (chars a.1) ++ 34 ∷ [])) (omega arith) (omega arith) value in
    held_at 32 (chars a.0 ++ (61 ∷ (34 ∷ (escaped (chars a.1) ++ 34 ∷ [])))) (omega arith) (omega arith) (held_append (chars a.0) (61 ∷ (34 ∷ (escaped
    (chars a.1) ++ 34 ∷ []))) (name_held (chars a.0) w.0.1) sign)

attributes_held : (attributes : List Pair) → AllByRecursion IsWritableAttribute attributes → AreHeld (attributes_text attributes)
attributes_held [] w = tt
attributes_held (a ∷ others) w = held_append (attribute_text a) (attributes_text others) (attribute_held a w.0) (attributes_held others w.1)

end_held : (empty : Bool) → AreHeld (end_of empty)
end_held true = held_at 47 (62 ∷ []) (omega arith) (omega arith) (held_at 62 [] (omega arith) (omega arith) tt)
end_held false = held_at 62 [] (omega arith) (omega arith) tt

opening_held : (name : List ℕ) (attributes : List Pair) (empty : Bool) → IsWritableName name → AllByRecursion IsWritableAttribute attributes
    → AreHeld (opening_text name attributes empty)
opening_held name attributes empty w wa =
    held_at 60 (chars name ++ (attributes_text attributes ++ end_of empty)) (omega arith) (omega arith)
    (held_append (chars name) (attributes_text attributes ++ end_of empty) (name_held (chars name) w.1)
    (held_append (attributes_text attributes) (end_of empty) (attributes_held attributes wa) (end_held empty)))

ending_held : (name : List ℕ) → IsWritableName name → AreHeld (ending_text name)
ending_held name w =
    held_at 60 (47 ∷ (chars name ++ 62 ∷ [])) (omega arith) (omega arith) (held_at 47 (chars name ++ 62 ∷ []) (omega arith) (omega arith)
    (held_append (chars name) (62 ∷ []) (name_held (chars name) w.1) (held_at 62 [] (omega arith) (omega arith) tt)))

mutual
  text_held : (t : Tree) → IsWritable t → AreHeld (text_of t)
  text_held (element name attributes no_trees) w = opening_held name attributes true w.0 w.1
  text_held (element name attributes (tree t ts)) w =
      held_append (opening_text name attributes false) (texts_of (tree t ts) ++ ending_text name) (opening_held name attributes false w.0 w.1)
      (held_append (texts_of (tree t ts)) (ending_text name) (texts_held (tree t ts) w.3) (ending_held name w.0))

  texts_held : (ts : Trees) → AreWritable ts → AreHeld (texts_of ts)
  texts_held no_trees w = tt
  texts_held (tree t ts) w = held_append (text_of t) (texts_of ts) (text_held t w.0) (texts_held ts w.1)

-- ---- all

form_of : (root : Tree) → IsWritable root → IsXmlOf (text_of root) root
form_of root w = record {
  before = [];
  front = text_of root;
  after = [];
  are = (nothing_passed, nothing_passed);
  is = is_element root w;
  text_is = sym (append-nil (text_of root));
  held = text_held root w;
}

held_scalar : (c : ℕ) → is_character c ≡ true → scalar c ≡ true
unfolding is_character
held_scalar c e = grind (arith, nat_tests)

scalars_held : (cs : List ℕ) → AreHeld cs → scalars cs ≡ true
scalars_held [] h = refl
scalars_held (c ∷ cs) h = let s = held_scalar c h.0 in rw s (scalars_held cs h.1)

pub form_read : (root : Tree) → IsWritable root → IsXmlOf (chars (encode_utf8_all (text_of root))) root
form_read root w = subst (λ (l : List ℕ). IsXmlOf l root) (sym (chars-encodes (text_of root) (scalars_held (text_of root) (text_held root w)))) (form_of root w)
