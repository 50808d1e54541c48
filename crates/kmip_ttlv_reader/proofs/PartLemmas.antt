-- What a rule says by its parts.
use Rattle.std.proofs.Common.{◌≡◌, ℕ, List, [], ◌∷◌, map, Bool, true, false, cond, ◌||◌, Option, Some, None, option_map, option_and_then, refl, sym, ap, ◌∙◌}
use Rattle.std.proofs.Common.{◌==◌, codes, rules, arith, ◌<◌, ◌≤◌, length, get_or, position, ltb, ◌+◌}
use Rattle.std.specs.{List.position_or_len, Option.option_copied}
use Rattle.std.proofs.lemmas.List.Sums.{position_or_len_is}
use Rattle.std.proofs.lemmas.Bool.{le-ltb, lt-ltb, ltb-false, ltb-true}
use Rattle.std.specs.{Borrow.Bor, List.list_any, List.slice_split}
use Rattle.std.specs.Str.{bytes_eq, trim, trim_end, trim_start, chars}
use lib.Utf8.{encode}
use Rattle.std.proofs.lemmas.Slice.Eq.{bytes_eq-Decides}
use Rattle.kmip_ttlv_types.specs.declared.typ.TtlvType.{TtlvType}
use Rattle.kmip_ttlv_types.specs.Names.{after_prefix, number, tag_of}
use Rattle.kmip_ttlv_reader.specs.{TagValues.TagValue, TagValues.last, declared.rules.RuleParts.RuleParts}
use Rattle.kmip_ttlv_reader.specs.Rules.{Verdict, fails, plain_verdict, needs, with_text, sides, in_brackets, type_name, by, equal, at_least}
use Rattle.kmip_ttlv_reader.specs.Rules.{member, verdict, rule, refused}
use Rattle.kmip_ttlv_base.specs.Errors.{invalid_rule}
use Rattle.kmip_ttlv_reader.specs.RuleParts.{is_one_of, is_stored, texts_of, holds, parts_of_equal, parts_of_member, parts_by, parts_of_body, parts_by_name}
use Rattle.kmip_ttlv_reader.specs.RuleParts.{parts_of, equal_sides, AreParts}
use Rattle.kmip_ttlv_reader.specs.declared.rules.RuleParts.TheVariants as parts

-- what a rule in parts says
abbrev texts_verdict : ℕ → List (List ℕ) → List TagValue → Verdict
texts_verdict t texts ks = with_text (last ks t) (λ text. plain_verdict (list_any (bytes_eq text) texts))

as_stored : (t : ℕ) (texts : List (List ℕ)) (ks : List TagValue) → texts_verdict t texts ks ≡ plain_verdict (is_stored t texts ks)
as_stored t texts ks = by (last ks t)
  where
    by : (o : Option (List ℕ)) → with_text o (λ text. plain_verdict (list_any (bytes_eq text) texts)) ≡ plain_verdict (is_one_of texts o)
    by None = refl
    by (Some text) = refl

-- what parts say, where there are some
abbrev said_by : List TagValue → Option (ℕ × List (List ℕ)) → Verdict
said_by ks None = fails
said_by ks (Some p) = texts_verdict p.0 p.1 ks

-- texts are equal in either order
alike : (a b : List ℕ) → bytes_eq a b ≡ bytes_eq b a
alike a b = by (bytes_eq a b) (bytes_eq b a) refl refl
  where
    by : (x y : Bool) → bytes_eq a b ≡ x → bytes_eq b a ≡ y → x ≡ y
    by true true e f = refl
    by false false e f = refl
    by true false e f = sym (sym f ∙ (bytes_eq-Decides b a).1 (sym ((bytes_eq-Decides a b).0 e)))
    by false true e f = sym e ∙ (bytes_eq-Decides a b).1 (sym ((bytes_eq-Decides b a).0 f))

or_none : (b : Bool) → b ≡ b || false
or_none true = refl
or_none false = refl

one_text : (o : Option (List ℕ)) (x : List ℕ) → with_text o (λ text. plain_verdict (bytes_eq text x)) ≡ with_text o
    (λ text. plain_verdict (list_any (bytes_eq text) (x ∷ [])))
one_text None x = refl
one_text (Some text) x = ap plain_verdict (or_none (bytes_eq text x))

trimmed : (text : List ℕ) (xs : List (List ℕ)) → list_any (λ m. bytes_eq (trim m) text) xs ≡ list_any (bytes_eq text) (map trim xs)
trimmed text [] = refl
trimmed text (x ∷ xs) = ap (λ b. b || list_any (λ m. bytes_eq (trim m) text) xs) (alike (trim x) text) ∙ ap (λ b. bytes_eq text (trim x) || b) (trimmed text xs)

some_texts : (o : Option (List ℕ)) (xs : List (List ℕ)) → with_text o (λ text. plain_verdict (list_any (λ m. bytes_eq (trim m) text) xs)) ≡ with_text o
    (λ text. plain_verdict (list_any (bytes_eq text) (map trim xs)))
some_texts None xs = refl
some_texts (Some text) xs = ap plain_verdict (trimmed text xs)

equal_in_parts : (ks : List TagValue) (typ : TtlvType) (l x : List ℕ) (p : ℕ × List (List ℕ)) → parts_of_equal l x ≡ Some p
    → equal ks typ l x ≡ texts_verdict p.0 p.1 ks
unfolding equal
equal_in_parts ks typ l x p = go (bytes_eq l (codes "type")) (tag_of l)
  where
    go : (b : Bool) (o : Option ℕ) → cond b None (option_map (λ t. (t, x ∷ [])) o) ≡ Some p
        → cond b (plain_verdict (bytes_eq x (type_name typ))) (with_text (option_and_then (last ks) o) (λ text. plain_verdict (bytes_eq text x)))
        ≡ texts_verdict p.0 p.1 ks
    go true o e = absurd (search rules)
    go false None e = absurd (search rules)
    go false (Some t) e = one_text (last ks t) x ∙ ap (said_by ks) e

member_in_parts : (ks : List TagValue) (l x : List ℕ) (p : ℕ × List (List ℕ)) → parts_of_member l x ≡ Some p → member ks l x ≡ texts_verdict p.0 p.1 ks
unfolding member
member_in_parts ks l x p = go (in_brackets x) (tag_of l)
  where
    go : (o : Option (List ℕ)) (n : Option ℕ) → option_and_then (λ all. option_map (λ t. (t, map trim (slice_split (λ c. c == 44) all))) n) o ≡ Some p
        → with_text o (λ all. needs n l
        (λ t. with_text (last ks t) (λ text. plain_verdict (list_any (λ m. bytes_eq (trim m) text) (slice_split (λ c. c == 44) all)))))
        ≡ texts_verdict p.0 p.1 ks
    go None n e = absurd (search rules)
    go (Some all) None e = absurd (search rules)
    go (Some all) (Some t) e = some_texts (last ks t) (slice_split (λ c. c == 44) all) ∙ ap (said_by ks) e

by_sides : (ks : List TagValue) (typ : TtlvType) (name : List ℕ) (a b c : Option (List ℕ × List ℕ)) (p : ℕ × List (List ℕ)) → parts_by a b c ≡ Some p
    → by a (equal ks typ) (by b (at_least ks) (by c (member ks) (refused (invalid_rule name)))) ≡ texts_verdict p.0 p.1 ks
by_sides ks typ name (Some x) b c p e = equal_in_parts ks typ x.0 x.1 p e
by_sides ks typ name None (Some x) c p e = absurd (search rules)
by_sides ks typ name None None (Some x) p e = member_in_parts ks x.0 x.1 p e
by_sides ks typ name None None None p e = absurd (search rules)

rule_by_name : (ks : List TagValue) (typ : TtlvType) (name : List ℕ) (p : ℕ × List (List ℕ)) → parts_by_name name ≡ Some p
    → rule name ks typ ≡ texts_verdict p.0 p.1 ks
unfolding rule
rule_by_name ks typ name p = go (after_prefix (codes "if ") name)
  where
    go : (o : Option (List ℕ)) → option_and_then parts_of_body o ≡ Some p → verdict name o ks typ ≡ texts_verdict p.0 p.1 ks
    go None e = absurd (search rules)
    go (Some body) e = by_sides ks typ name (sides (codes "==") body) (sides (codes ">=") body) (sides (codes "in") body) p e

computed : (name : List ℕ) → parts_of name ≡ parts_by_name name
unfolding parts_of tag_of number sides in_brackets trim_end trim_start chars encode
computed name = refl

-- a rule that asks for a text says what its tag and texts say
rule_in_parts : (ks : List TagValue) (typ : TtlvType) (name : List ℕ) (p : ℕ × List (List ℕ)) → parts_of name ≡ Some p
    → rule name ks typ ≡ texts_verdict p.0 p.1 ks
rule_in_parts ks typ name p e = rule_by_name ks typ name p (sym (computed name) ∙ e)

-- the same by what was kept last under the tag
pub said_by_texts : (ks : List TagValue) (typ : TtlvType) (name : List ℕ) (t : ℕ) (texts : List (List ℕ)) → parts_of name ≡ Some (t, texts)
    → rule name ks typ ≡ plain_verdict (is_stored t texts ks)
said_by_texts ks typ name t texts are = rule_in_parts ks typ name (t, texts) are ∙ as_stored t texts ks

-- whether the last text is one of some texts
pub is_wanted : (ks : List TagValue) (t : ℕ) (texts : List (Bor (List ℕ))) (text : List ℕ) → Some text ≡ last ks t
    → list_any (λ one. bytes_eq text one.now) texts ≡ is_stored t (texts_of texts) ks
is_wanted ks t texts text stored = seen texts ∙ ap (is_one_of (texts_of texts)) stored
  where
    seen : (xs : List (Bor (List ℕ))) → list_any (λ one. bytes_eq text one.now) xs ≡ list_any (bytes_eq text) (texts_of xs)
    seen [] = refl
    seen (x ∷ xs) = ap (λ b. bytes_eq text x.now || b) (seen xs)

found_is : (ks : List TagValue) (t asked : ℕ) (found o : Option (Bor (List ℕ))) → asked ≡ t → found ≡ o → option_copied found ≡ last ks t
    → option_copied o ≡ last ks asked
found_is ks t asked found o at there stored = ap option_copied (sym there) ∙ stored ∙ ap (last ks) (sym at)

-- a rule that asks for the text of a tag holds if what was found under it is one of its texts
pub held_by_found : (ks : List TagValue) (typ : TtlvType) (rule : RuleParts) (t asked : ℕ) (texts : Bor (List (Bor (List ℕ))))
    (found : Option (Bor (List ℕ))) (text : Bor (List ℕ)) → rule ≡ parts.Texts asked texts
    → asked ≡ t
    → found ≡ Some text
    → option_copied found ≡ last ks t
    → list_any (λ one. bytes_eq text.now one.now) texts.now ≡ holds rule ks typ
held_by_found ks typ rule t asked texts found text is at there stored =
    is_wanted ks asked texts.now text.now (found_is ks t asked found (Some text) at there stored) ∙ ap (λ r. holds r ks typ) (sym is)

-- and not if there is none
pub not_held : (ks : List TagValue) (typ : TtlvType) (rule : RuleParts) (t asked : ℕ) (texts : Bor (List (Bor (List ℕ))))
    (found : Option (Bor (List ℕ))) → rule ≡ parts.Texts asked texts
    → asked ≡ t
    → found ≡ None
    → option_copied found ≡ last ks t
    → false ≡ holds rule ks typ
not_held ks typ rule t asked texts found is at there stored =
    ap (is_one_of (texts_of texts.now)) (found_is ks t asked found None at there stored) ∙ ap (λ r. holds r ks typ) (sym is)

-- the first place at which a test passes, and that it passes nowhere
pub first_place : {X : Type 0} (f : X → Bool) (xs : List X) (at : ℕ) (d : X) → at < length xs → ((k : ℕ) → k < at → f (get_or xs k d) ≡ false)
    → f (get_or xs at d) ≡ true
    → Some at ≡ position f xs
first_place f xs at d within passed here =
    let is : position_or_len f xs ≡ at = position_or_len_is f xs at d (omega (arith, within)) passed (λ _. here) in
    rw (is, lt-ltb at (length xs) within) refl

pub no_place : {X : Type 0} (f : X → Bool) (xs : List X) (at : ℕ) (d : X) → at ≤ length xs → length xs ≤ at
    → ((k : ℕ) → k < at → f (get_or xs k d) ≡ false)
    → None ≡ position f xs
no_place f xs at d within over passed =
    let is : position_or_len f xs ≡ at = position_or_len_is f xs at d within passed (λ below. absurd (omega (arith, below, over))) in
    rw (is, le-ltb at (length xs) over) refl

pub passed_more : {X : Type 0} (f : X → Bool) (xs : List X) (at : ℕ) (d : X) → ((k : ℕ) → k < at → f (get_or xs k d) ≡ false)
    → f (get_or xs at d) ≡ false
    → (k : ℕ) → k < at + 1 → f (get_or xs k d) ≡ false
passed_more f xs at d passed here k below = by (ltb k at) refl
  where
    by : (b : Bool) → ltb k at ≡ b → f (get_or xs k d) ≡ false
    by true less = passed k (ltb-true k at less)
    by false not_less = let same : k ≡ at = omega (arith, below, ltb-false k at not_less) in ap (λ n. f (get_or xs n d)) same ∙ here

sides_computed : (name : List ℕ) → equal_sides name ≡ option_and_then (sides (codes "==")) (after_prefix (codes "if ") name)
unfolding equal_sides sides trim_end trim_start chars encode
sides_computed name = refl

-- a rule that asks for a type says whether the item's type has that name
typed : (ks : List TagValue) (typ asked : TtlvType) (name : List ℕ) → equal_sides name ≡ Some (codes "type", type_name asked)
    → rule name ks typ ≡ plain_verdict (bytes_eq (type_name asked) (type_name typ))
unfolding rule equal
typed ks typ asked name e = go (after_prefix (codes "if ") name) (sym (sides_computed name) ∙ e)
  where
    go : (o : Option (List ℕ)) → option_and_then (sides (codes "==")) o ≡ Some (codes "type", type_name asked)
        → verdict name o ks typ ≡ plain_verdict (bytes_eq (type_name asked) (type_name typ))
    go None e = absurd (search rules)
    go (Some body) e = rw e refl

-- a rule says what its parts say
pub said_in_parts : (ks : List TagValue) (typ : TtlvType) (name : List ℕ) (p : RuleParts) → AreParts name p → rule name ks typ ≡ plain_verdict (holds p ks typ)
said_in_parts ks typ name (parts.Texts tag texts) are = rule_in_parts ks typ name (tag, texts_of texts.now) are ∙ as_stored tag (texts_of texts.now) ks
said_in_parts ks typ name (parts.Type asked) are = typed ks typ asked name are

-- a name that has parts begins as a rule does
pub is_rule : (name : List ℕ) (p : RuleParts) → AreParts name p → (body : List ℕ) × (after_prefix (codes "if ") name ≡ Some body)
is_rule name (parts.Texts tag texts) are = go (after_prefix (codes "if ") name) refl (sym (computed name) ∙ are)
  where
    go : (o : Option (List ℕ)) → after_prefix (codes "if ") name ≡ o → option_and_then parts_of_body o ≡ Some (tag, texts_of texts.now)
        → (body : List ℕ) × (after_prefix (codes "if ") name ≡ Some body)
    go None is e = absurd (search rules)
    go (Some body) is e = (body, is)
is_rule name (parts.Type asked) are = go (after_prefix (codes "if ") name) refl (sym (sides_computed name) ∙ are)
  where
    go : (o : Option (List ℕ)) → after_prefix (codes "if ") name ≡ o → option_and_then (sides (codes "==")) o ≡ Some (codes "type", type_name asked)
        → (body : List ℕ) × (after_prefix (codes "if ") name ≡ Some body)
    go None is e = absurd (search rules)
    go (Some body) is e = (body, is)
