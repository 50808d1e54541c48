-- A diagnostic is read back in one way.
use Rattle.std.proofs.Common.{◌≡◌, ◌≢◌, ℕ, zero, suc, ◌/◌, ◌%◌, ◌<◌, ◌≤◌, ◌^◌, Bool, true, false, cond, eqb, List, [], ◌∷◌, ◌++◌, length, drop, Option, Some}
use Rattle.std.proofs.Common.{None, refl, sym, ap, subst, ◌∙◌, arith, append_assoc, ◌⊎◌, inl, inr}
use Rattle.std.proofs.lemmas.{List.length-drop, Fmt.digits_is_IsNumeral, Slice.Eq.starts_is, Bool.Decides.Decides-eqb}
use Rattle.std.specs.{Prelude.nat_eq, List.starts_with, List.AllByRecursion, Str.Parse.digits_value}
use Rattle.std.specs.Fmt.{digit_glyph, digits_onto, digits}
use Rattle.kmip_ttlv_types.specs.declared.typ.TtlvType.{TtlvType, TheVariants.Structure, TheVariants.Enumeration}
use Rattle.kmip_ttlv_types.specs.Digits.{six_digits}
use Rattle.kmip_ttlv_util.specs.Outlines.{Outline, Outlines, leaf_outline, node_outline, no_outlines, outline, IsShown, IsOutline, AreOutlines, hex_upper}
use Rattle.kmip_ttlv_util.specs.Outlines.{stripped, value_text, mark, diag, diag_all}
use Rattle.kmip_ttlv_util.specs.Letters.{letter, type_of_letter}
use Rattle.kmip_ttlv_util.proofs.{Letters.letter_back, HexDigits.glyph_cases, PrefixNumbers.six_last, PrefixNumbers.last_one}

-- a digit of upper case hexadecimal: no letter, no bracket and no colon
abbrev IsDigit : ℕ → Type 0
IsDigit c = (c ≤ 70) × (c ≢ 58)

abbrev pub AllDigits : List ℕ → Type 0
AllDigits cs = AllByRecursion IsDigit cs

-- ---- digits up to the first other character

record Front (xs ys r s : List ℕ) (c d : ℕ) : Type 0 where
  front : xs ≡ ys
  first : c ≡ d
  rest : r ≡ s

-- equal texts have the same leading digits
front_one : (xs ys r s : List ℕ) (c d : ℕ) → AllDigits xs → AllDigits ys → (IsDigit c → ⊥) → (IsDigit d → ⊥) → xs ++ (c ∷ r) ≡ ys ++ (d ∷ s)
    → Front xs ys r s c d
front_one [] [] r s c d ax ay nc nd e = record { front = refl; first = cc; rest = cc }
front_one [] (y ∷ ys) r s c d ax ay nc nd e = let k : c ≡ y = cc in absurd (nc (subst IsDigit (sym k) ay.0))
front_one (x ∷ xs) [] r s c d ax ay nc nd e = let k : x ≡ d = cc in absurd (nd (subst IsDigit k ax.0))
front_one (x ∷ xs) (y ∷ ys) r s c d ax ay nc nd e =
    let more = front_one xs ys r s c d ax.1 ay.1 nc nd cc in
    let k : x ≡ y = cc in
    let l = more.front in
    record { front = cc; first = more.first; rest = more.rest }

-- ---- numbers

-- a digit is no letter, bracket or colon
pub glyph_digit : (d : ℕ) → d < 16 → IsDigit (digit_glyph true d)
glyph_digit d small = glyph_cases IsDigit d (λ lt. (omega arith, λ h. omega arith)) (λ le. (omega arith, λ h. omega arith))

-- what holds of all digits and of what follows them
onto_each : (P : ℕ → Type 0) → ((d : ℕ) → d < 16 → P (digit_glyph true d)) → (k n : ℕ) (acc : List ℕ) → AllByRecursion P acc
    → AllByRecursion P (digits_onto k 16 true n acc)
onto_each P each zero n acc all = all
onto_each P each (suc k) n acc all =
    let more : AllByRecursion P (digit_glyph true (n % 16) ∷ acc) = (each (n % 16) (omega arith), all) in
    either (eqb (n / 16) 0) _ _ more (onto_each P each k (n / 16) _ more)
  where
    either : (b : Bool) (xs ys : List ℕ) → AllByRecursion P xs → AllByRecursion P ys → AllByRecursion P (cond b xs ys)
    either true xs ys p q = p
    either false xs ys p q = q

-- what holds of all digits holds of those of a number
pub hex_each : (P : ℕ → Type 0) → ((d : ℕ) → d < 16 → P (digit_glyph true d)) → (n : ℕ) → AllByRecursion P (hex_upper n)
unfolding digits
hex_each P each n = onto_each P each 64 n [] tt

-- a number is written in digits
pub hex_digits : (n : ℕ) → AllDigits (hex_upper n)
hex_digits n = hex_each IsDigit glyph_digit n

-- equal digits, equal numbers
hex_one : (m n : ℕ) → m < 2 ^ 32 → n < 2 ^ 32 → hex_upper m ≡ hex_upper n → m ≡ n
hex_one m n p q e = sym (digits_is_IsNumeral 16 true (omega arith) (omega arith) m (omega arith)).1 ∙ ap (digits_value 16) e
    ∙ (digits_is_IsNumeral 16 true (omega arith) (omega arith) n (omega arith)).1

-- what holds of all digits holds of six
pub six_each : (P : ℕ → Type 0) → ((d : ℕ) → d < 16 → P (digit_glyph true d)) → (n : ℕ) → AllByRecursion P (six_digits n)
unfolding six_digits
six_each P each n =
    (each _ (omega arith), (each _ (omega arith), (each _ (omega arith), (each _ (omega arith), (each _ (omega arith), (each _ (omega arith), tt))))))

-- six digits are digits
six_all : (n : ℕ) → AllDigits (six_digits n)
six_all n = six_each IsDigit glyph_digit n

-- there are six
six_length : (n : ℕ) → length (six_digits n) ≡ 6
unfolding six_digits
six_length n = refl

-- equal digits, equal tags
six_one : (m n : ℕ) → m < 2 ^ 24 → n < 2 ^ 24 → six_digits m ≡ six_digits n → m ≡ n
six_one m n p q e = last_one 6 m n p q (sym (six_last m) ∙ e ∙ six_last n)

-- ---- a tag without the prefix

pub record Cut (prefix text : List ℕ) : Type 0 where
  pub is : stripped prefix text ≡ drop (length prefix) text
  pub begins : text ≡ prefix ++ drop (length prefix) text

pub record Whole (prefix text : List ℕ) : Type 0 where
  is : stripped prefix text ≡ text
  never : prefix ≢ []

cut_or_whole : (prefix text : List ℕ) → Cut prefix text ⊎ Whole prefix text
cut_or_whole prefix text = by (starts_with nat_eq text prefix) refl
  where
    by : (b : Bool) → starts_with nat_eq text prefix ≡ b → Cut prefix text ⊎ Whole prefix text
    by true e = inl record { is = rw e refl; begins = (starts_is Decides-eqb text prefix (starts_with nat_eq text prefix) refl).0 e }
    by false e = inr record {
      is = rw e refl;
      never = λ none. let k : starts_with nat_eq text prefix ≡ true =
          (starts_is Decides-eqb text prefix (starts_with nat_eq text prefix) refl).1 text (ap (λ (p : List ℕ). p ++ text) (sym none)) in cc;
    }

drop_all : (n : ℕ) (cs : List ℕ) → AllDigits cs → AllDigits (drop n cs)
drop_all zero cs all = all
drop_all (suc n) [] all = all
drop_all (suc n) (c ∷ cs) all = drop_all n cs all.1

stripped_all : (prefix : List ℕ) (n : ℕ) → AllDigits (stripped prefix (six_digits n))
stripped_all prefix n = by (cut_or_whole prefix (six_digits n))
  where
    by : Cut prefix (six_digits n) ⊎ Whole prefix (six_digits n) → AllDigits (stripped prefix (six_digits n))
    by (inl k) = subst AllDigits (sym k.is) (drop_all (length prefix) (six_digits n) (six_all n))
    by (inr k) = subst AllDigits (sym k.is) (six_all n)

-- the shortened one is shorter, or nothing was omitted
cut_short : (prefix a b : List ℕ) → length a ≡ 6 → length b ≡ 6 → Cut prefix a → Whole prefix b → stripped prefix a ≡ stripped prefix b → ⊥
cut_short [] a b la lb k w e = w.never refl
cut_short (c ∷ cs) a b la lb k w e =
    let same : drop (length (c ∷ cs)) a ≡ b = sym k.is ∙ e ∙ w.is in
    omega (arith, ap length same, length-drop (length (c ∷ cs)) a, la, lb)

stripped_one : (prefix : List ℕ) (m n : ℕ) → m < 2 ^ 24 → n < 2 ^ 24 → stripped prefix (six_digits m) ≡ stripped prefix (six_digits n) → m ≡ n
stripped_one prefix m n p q e = by (cut_or_whole prefix (six_digits m)) (cut_or_whole prefix (six_digits n))
  where
    by : Cut prefix (six_digits m) ⊎ Whole prefix (six_digits m) → Cut prefix (six_digits n) ⊎ Whole prefix (six_digits n) → m ≡ n
    by (inl a) (inl b) = six_one m n p q (a.begins ∙ ap (λ (r : List ℕ). prefix ++ r) (sym a.is ∙ e ∙ b.is) ∙ sym b.begins)
    by (inl a) (inr b) = absurd (cut_short prefix (six_digits m) (six_digits n) (six_length m) (six_length n) a b e)
    by (inr a) (inl b) = absurd (cut_short prefix (six_digits n) (six_digits m) (six_length n) (six_length m) b a (sym e))
    by (inr a) (inr b) = six_one m n p q (sym a.is ∙ e ∙ b.is)

-- ---- letters

letter_none : (t : TtlvType) → IsDigit (letter t) → ⊥
letter_none Structure h = omega (arith, h.0)
letter_none typ h = omega (arith, h.0)

letter_one : (t u : TtlvType) → letter t ≡ letter u → t ≡ u
letter_one t u e = let k : Some t ≡ Some u = sym (letter_back t) ∙ ap type_of_letter e ∙ letter_back u in cc

-- ---- a leaf, or the opening of a structure

record SameMark (m n : ℕ) (t u : TtlvType) (r s : List ℕ) : Type 0 where
  tag : m ≡ n
  typ : t ≡ u
  rest : r ≡ s

mark_front : (prefix : List ℕ) (m n : ℕ) (t u : TtlvType) (v w : Option ℕ) (r s : List ℕ) → m < 2 ^ 24 → n < 2 ^ 24
    → mark prefix m t v ++ r ≡ mark prefix n u w ++ s → SameMark m n t u (value_text v ++ r) (value_text w ++ s)
unfolding mark
mark_front prefix m n t u v w r s p q e =
    let f = front_one (stripped prefix (six_digits m)) (stripped prefix (six_digits n)) _ _ (letter t) (letter u) (stripped_all prefix m)
    (stripped_all prefix n) (letter_none t) (letter_none u) (simp append_assoc at e) in
    record { tag = stripped_one prefix m n p q f.front; typ = letter_one t u f.first; rest = f.rest }

-- an item never begins with `]`
never_close : (xs r s : List ℕ) (t : TtlvType) → AllDigits xs → xs ++ (letter t ∷ r) ≡ 93 ∷ s → ⊥
never_close [] r s t all e = let k : letter t ≡ 93 = cc in close_letter t k
  where
    close_letter : (t : TtlvType) → letter t ≡ 93 → ⊥
    close_letter Structure h = omega (arith, h)
    close_letter typ h = omega (arith, h)
never_close (x ∷ xs) r s t all e = let k : x ≡ 93 = cc in omega (arith, k, all.0.0)

mark_open : (prefix : List ℕ) (m : ℕ) (t : TtlvType) (v : Option ℕ) (r s : List ℕ) → mark prefix m t v ++ r ≡ 93 ∷ s → ⊥
unfolding mark
mark_open prefix m t v r s e = never_close (stripped prefix (six_digits m)) _ s t (stripped_all prefix m) (simp append_assoc at e)

-- a value or an outline, and what follows it
record Same {A : Type 0} (x y : A) (r s : List ℕ) : Type 0 where
  same : x ≡ y
  rest : r ≡ s

colon_none : IsDigit 58 → ⊥
colon_none h = h.1 refl

value_one : (t : TtlvType) (v w : Option ℕ) (r s : List ℕ) → IsShown t v → IsShown t w → value_text v ++ r ≡ value_text w ++ s → Same v w r s
value_one Structure v w r s p q e = absurd p
value_one Enumeration None w r s p q e = absurd p
value_one Enumeration (Some m) None r s p q e = absurd q
value_one Enumeration (Some m) (Some n) r s p q e =
    let f = front_one (hex_upper m) (hex_upper n) r s 58 58 (hex_digits m) (hex_digits n) colon_none colon_none (simp append_assoc at e) in
    record { same = ap Some (hex_one m n p q f.front); rest = f.rest }
value_one typ None None r s p q e = record { same = refl; rest = e }
value_one typ (Some m) w r s p q e = absurd p
value_one typ None (Some n) r s p q e = absurd q

-- ---- outlines

never_first : (prefix : List ℕ) (o : Outline) (r s : List ℕ) → diag prefix o ++ r ≡ 93 ∷ s → ⊥
never_first prefix (leaf_outline m t v) r s e = mark_open prefix m t v r s e
never_first prefix (node_outline m below) r s e = mark_open prefix m Structure None _ s (simp append_assoc at e)

mutual
  diag_front : (prefix : List ℕ) (o p : Outline) (r s : List ℕ) → IsOutline o → IsOutline p → diag prefix o ++ r ≡ diag prefix p ++ s → Same o p r s
  diag_front prefix (leaf_outline m t v) (leaf_outline n u w) r s io ip e =
      let f = mark_front prefix m n t u v w r s io.0 ip.0 e in
      let g = value_one t v w r s io.1 (subst (λ (x : TtlvType). IsShown x w) (sym f.typ) ip.1) f.rest in
      let a = f.tag in let b = f.typ in let c = g.same in
      record { same = cc; rest = g.rest }
  diag_front prefix (leaf_outline m t v) (node_outline n below) r s io ip e =
      absurd (subst (λ (x : TtlvType). IsShown x v) (mark_front prefix m n t Structure v None _ _ io.0 ip.0 (simp append_assoc at e)).typ io.1)
  diag_front prefix (node_outline m above) (leaf_outline n u w) r s io ip e =
      absurd (subst (λ (x : TtlvType). IsShown x w) (mark_front prefix n m u Structure w None _ _ ip.0 io.0 (simp append_assoc at (sym e))).typ ip.1)
  diag_front prefix (node_outline m above) (node_outline n below) r s io ip e =
      let f = mark_front prefix m n Structure Structure None None _ _ io.0 ip.0 (simp append_assoc at e) in
      let g = diag_fronts prefix above below r s io.1 ip.1 f.rest in
      let a = f.tag in let b = g.same in
      record { same = cc; rest = g.rest }

  diag_fronts : (prefix : List ℕ) (os ps : Outlines) (r s : List ℕ) → AreOutlines os → AreOutlines ps → diag_all prefix os ++ (93 ∷ r) ≡ diag_all prefix ps
      ++ (93 ∷ s) → Same os ps r s
  diag_fronts prefix no_outlines no_outlines r s io ip e = record { same = refl; rest = cc }
  diag_fronts prefix no_outlines (outline p ps) r s io ip e = absurd (never_first prefix p _ r (simp append_assoc at (sym e)))
  diag_fronts prefix (outline o os) no_outlines r s io ip e = absurd (never_first prefix o _ s (simp append_assoc at e))
  diag_fronts prefix (outline o os) (outline p ps) r s io ip e =
      let f = diag_front prefix o p _ _ io.0 ip.0 (simp append_assoc at e) in
      let g = diag_fronts prefix os ps r s io.1 ip.1 f.rest in
      let a = f.same in let b = g.same in
      record { same = cc; rest = g.rest }

-- equal texts, equal outlines
pub diag_one : (prefix : List ℕ) (o p : Outline) → IsOutline o → IsOutline p → diag prefix o ≡ diag prefix p → o ≡ p
diag_one prefix o p io ip e = (diag_front prefix o p [] [] io ip (ap (λ (t : List ℕ). t ++ []) e)).same
