-- The last text that was kept under a tag, and what `in` says of it.
use Rattle.std.proofs.Common.{◌≡◌, ℕ, List, [], ◌∷◌, ◌++◌, Bool, true, false, cond, Option, Some, None, option_map, filter, refl, sym, ap, ◌∙◌, ◌==◌, rules}
use Rattle.std.specs.List.{last_or, list_any, slice_split}
use Rattle.std.specs.{Str.bytes_eq, Str.trim, Ordering.is_eq, Ordering.nat_cmp}
use Rattle.kmip_ttlv_reader.specs.{declared.store.StoredText.StoredText, StoredTexts.stored_text_of}
use Rattle.kmip_ttlv_reader.specs.TagValues.{TagValue, HoldsLast, last, with_number}
use Rattle.kmip_ttlv_types.specs.Names.{tag_of}
use Rattle.kmip_ttlv_reader.specs.Rules.{in_brackets, member, plain_verdict}

-- the last member that passes, with one more member at the end
last_with : {X : Type 0} (p : X → Bool) (o : Option X) (xs : List X) (x : X) → last_or o (filter p (xs ++ x ∷ [])) ≡ cond (p x) (Some x)
    (last_or o (filter p xs))
last_with p o [] x = elim (p x) as (λ b. last_or o (cond b (x ∷ []) []) ≡ cond b (Some x) o) [ true ↦ refl | false ↦ refl ]
last_with p o (y ∷ ys) x = elim (p y) as (λ b. last_or o (cond b (y ∷ filter p (ys ++ x ∷ [])) (filter p (ys ++ x ∷ []))) ≡ cond (p x) (Some x)
    (last_or o (cond b (y ∷ filter p ys) (filter p ys)))) [
      | true ↦ last_with p (Some y) ys x
      | false ↦ last_with p o ys x
    ]

-- the last text kept under a tag, with one more text
last_more : (ks : List TagValue) (x : TagValue) (t : ℕ) → last (ks ++ x ∷ []) t ≡ cond (x.tag == t) (Some x.text) (last ks t)
last_more ks x t = ap (option_map (λ k. k.text)) (last_with (λ k. k.tag == t) None ks x)
    ∙ elim (x.tag == t) as (λ b. option_map (λ k. k.text) (cond b (Some x) (last_or None (filter (λ k. k.tag == t) ks))) ≡ cond b (Some x.text)
    (option_map (λ k. k.text) (last_or None (filter (λ k. k.tag == t) ks)))) [ true ↦ refl | false ↦ refl ]

-- comparing to the same number
pub is_eq-nat_cmp : (a b : ℕ) → is_eq (nat_cmp a b) ≡ (a == b)
is_eq-nat_cmp a b = search rules

-- where a text takes the place of the one that was held under its tag, the last of each tag is held again
pub holds_more : (m n : ℕ → Option StoredText) (ks : List TagValue) (x : TagValue) (h : StoredText) → stored_text_of h ≡ with_number x.text
    → HoldsLast (λ t. option_map stored_text_of (m t)) ks → ((q : ℕ) → n q ≡ cond (x.tag == q) (Some h) (m q))
    → HoldsLast (λ t. option_map stored_text_of (n t)) (ks ++ x ∷ [])
holds_more m n ks x h text stored_text updated t = ap (option_map stored_text_of) (updated t)
    ∙ elim (x.tag == t) as (λ b. option_map stored_text_of (cond b (Some h) (m t)) ≡ option_map with_number (cond b (Some x.text) (last ks t))) [
      | true ↦ ap Some text
      | false ↦ stored_text t
    ]
    ∙ ap (option_map with_number) (sym (last_more ks x t))

-- what `in` says, where there are brackets, a tag and a text kept under it
pub member_said : (ks : List TagValue) (l x all : List ℕ) (t : ℕ) (text : List ℕ) → Some all ≡ in_brackets x → Some t ≡ tag_of l → Some text ≡ last ks t
    → plain_verdict (list_any (λ m. bytes_eq (trim m) text) (slice_split (λ c. c == 44) all)) ≡ member ks l x
unfolding member
member_said ks l x all t text between tag stored = rw (← between) (rw (← tag) (rw (← stored) refl))
