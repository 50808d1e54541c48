-- An item is at the end of a path where the tags down to it are the path.
use Rattle.std.specs.Borrow.{Bor}
use Rattle.std.proofs.Common.{◌≡◌, ◌≢◌, ◌∙◌, ℕ, zero, suc, ◌+◌, ◌≤◌, ◌==◌, ◌&&◌, Bool, true, false, if◌then◌else◌, List, [], ◌∷◌, ◌++◌}
use Rattle.std.proofs.Common.{length, take, Option, Some, ap, sym, refl, subst, arith, length-append}
use Rattle.std.specs.Prelude.{nat_lt, nat_le, slice_index}
use Rattle.std.proofs.lemmas.Bool.{eq-eqb, eqb-true}
use Rattle.std.proofs.lemmas.Bool.Decides.{nat_tests}
use Rattle.std.proofs.lemmas.List.{length-take-le}
use Rattle.kmip_ttlv_items.specs.declared.found.FoundItem.{FoundItem}
use Rattle.kmip_ttlv_items.specs.ItemWalks.{WalksTo, enters_root, enters, passes, leaves, Meets, at_first, on_the_way}
use Rattle.ttlv_run.specs.declared.{job.Look.Look, lines.Reach.Reach}
use Rattle.ttlv_run.specs.Paths.{tags_down, tags_from, tags_to}
use Rattle.ttlv_run.specs.Texts.{Names, reach_all, no_reach, path_reach, ends_path, bare_line, item_text, item_text_by}
use Rattle.ttlv_run.proofs.Completion.{reach-more}

-- how many tags two lists have in common, from the first on
abbrev common : List ℕ → List ℕ → ℕ
common [] tags = 0
common (a ∷ more) [] = 0
common (a ∷ more) (b ∷ bs) = if a == b then suc (common more bs) else 0

common_none : (path : List ℕ) → common path [] ≡ 0
common_none [] = refl
common_none (a ∷ more) = refl

common_same : (path : List ℕ) → common path path ≡ length path
common_same [] = refl
common_same (a ∷ more) = rw (eq-eqb a a refl) (ap suc (common_same more))

-- lists that have all in common are the same
same_with : (a b : ℕ) (more bs : List ℕ) → (common more bs ≡ length more → bs ≡ more) → (e : Bool) → (a == b) ≡ e
    → (if e then suc (common more bs) else 0) ≡ suc (length more) → b ∷ bs ≡ a ∷ more
same_with a b more bs rest true is h =
    ap (λ (x : ℕ). x ∷ bs) (sym (eqb-true a b is)) ∙ ap (λ (xs : List ℕ). a ∷ xs) (rest (omega (arith, h)))
same_with a b more bs rest false is h = absurd (omega (arith, h))

same_by : (path tags : List ℕ) → common path tags ≡ length path → length tags ≡ length path → tags ≡ path
same_by [] [] all len = refl
same_by [] (b ∷ bs) all len = absurd (omega (arith, len))
same_by (a ∷ more) [] all len = absurd (omega (arith, len))
same_by (a ∷ more) (b ∷ bs) all len = same_with a b more bs (λ h. same_by more bs h (omega (arith, len))) (a == b) refl all

-- what they have in common with one tag at a depth
abbrev further : List ℕ → ℕ → ℕ → ℕ → ℕ
further path met d t =
    if nat_lt d (length path) && (nat_le d met && slice_index path d == t) then d + 1 else if nat_lt d met then d else met

further_none : (d t : ℕ) → 0 ≡ further [] 0 d t
further_none d t = grind (arith, nat_tests)

further_first : (a t met : ℕ) (more : List ℕ) → (if a == t then 1 else 0) ≡ further (a ∷ more) met 0 t
further_first a t met more = grind (arith, nat_tests)

further_past : (a d t : ℕ) (more : List ℕ) → 0 ≡ further (a ∷ more) 0 (suc d) t
further_past a d t more = grind (arith, nat_tests)

further_on : (a met d t : ℕ) (more : List ℕ) → suc (further more met d t) ≡ further (a ∷ more) (suc met) (suc d) t
further_on a met d t more = grind (arith, nat_tests)

-- and behind a first tag
down_with : (a d t : ℕ) (more bs : List ℕ) → common more (take d bs ++ t ∷ []) ≡ further more (common more bs) d t → (e : Bool)
    → (if e then suc (common more (take d bs ++ t ∷ [])) else 0) ≡ further (a ∷ more) (if e then suc (common more bs) else 0) (suc d) t
down_with a d t more bs h true = ap suc h ∙ further_on a (common more bs) d t more
down_with a d t more bs h false = further_past a d t more

common_down : (path tags : List ℕ) (d t : ℕ) → d ≤ length tags → common path (take d tags ++ t ∷ []) ≡ further path (common path tags) d t
common_down [] tags d t le = further_none d t
common_down (a ∷ more) tags zero t le =
    ap (λ (n : ℕ). if a == t then suc n else 0) (common_none more) ∙ further_first a t (common (a ∷ more) tags) more
common_down (a ∷ more) [] (suc d) t le = absurd (omega (arith, le))
common_down (a ∷ more) (b ∷ bs) (suc d) t le = down_with a d t more bs (common_down more bs d t (omega (arith, le))) (a == b)

-- one item more
tags_more : (before : List ℕ) (xs : List FoundItem) (i : FoundItem) → tags_from before (xs ++ i ∷ []) ≡ tags_down (tags_from before xs) i
tags_more before [] i = refl
tags_more before (x ∷ xs) i = tags_more (tags_down before x) xs i

length_more : (xs : List FoundItem) (i : FoundItem) → i.depth ≤ length (tags_to xs) → length (tags_to (xs ++ i ∷ [])) ≡ i.depth + 1
length_more xs i le =
    ap length (tags_more [] xs i) ∙ length-append (take i.depth (tags_to xs)) (i.tag ∷ [])
    ∙ ap (λ (n : ℕ). n + 1) (length-take-le i.depth (tags_to xs) le)

-- a walk is in no more structures than the tags down to its last item
walk_deep : {bytes : List ℕ} {p : ℕ} {es : List ℕ} {xs : List FoundItem} → WalksTo bytes p es xs → length es ≤ length (tags_to xs)
walk_deep (enters_root q e i whole typ at end) = omega (arith, length_more [] i (omega (arith, whole.deep)))
walk_deep (enters p q e f es xs i w whole typ at end) =
    let deep = walk_deep w in
    omega (arith, whole.deep, length_more xs i (omega (arith, whole.deep, deep)))
walk_deep (passes p q e es xs i w whole typ at) =
    let deep = walk_deep w in
    omega (arith, whole.deep, length_more xs i (omega (arith, whole.deep, deep)))
walk_deep (leaves p e es xs w is) = let deep = walk_deep w in omega (arith, deep)

meets_deep : {bytes : List ℕ} {p : ℕ} {es : List ℕ} {xs : List FoundItem} → Meets bytes p es xs → length es ≤ length (tags_to xs)
meets_deep (at_first at none met) = omega (arith, ap length none)
meets_deep (on_the_way w) = walk_deep w

module _ (names : Names) (look : Look) (bytes : List ℕ) (path : Bor (List ℕ)) (is : look.path ≡ Some path) where
  -- a path is met as far as it has tags in common with those down to the last item
  abbrev Common : List FoundItem → Type 0
  Common xs = (reach_all names look bytes no_reach xs).path ≡ common path.now (tags_to xs)

  common_more : (xs : List FoundItem) (i : FoundItem) → i.depth ≤ length (tags_to xs) → Common xs → Common (xs ++ i ∷ [])
  common_more xs i le h =
      ap (λ (r : Reach). r.path) (reach-more names look 0 bytes no_reach i xs)
      ∙ ap (λ (o : Option (Bor (List ℕ))). path_reach o (reach_all names look bytes no_reach xs).path i) is
      ∙ ap (λ (n : ℕ). path_reach (Some path) n i) h
      ∙ sym (common_down path.now (tags_to xs) i.depth i.tag le)
      ∙ ap (common path.now) (sym (tags_more [] xs i))

  walk_common : {p : ℕ} {es : List ℕ} {xs : List FoundItem} → WalksTo bytes p es xs → Common xs
  walk_common (enters_root q e i whole typ at end) = common_more [] i (omega (arith, whole.deep)) (sym (common_none path.now))
  walk_common (enters p q e f es xs i w whole typ at end) =
      let deep = walk_deep w in
      common_more xs i (omega (arith, whole.deep, deep)) (walk_common w)
  walk_common (passes p q e es xs i w whole typ at) =
      let deep = walk_deep w in
      common_more xs i (omega (arith, whole.deep, deep)) (walk_common w)
  walk_common (leaves p e es xs w same) = walk_common w

  meets_common : {p : ℕ} {es : List ℕ} {xs : List FoundItem} → Meets bytes p es xs → Common xs
  meets_common (at_first at none met) = subst Common (sym met) (sym (common_none path.now))
  meets_common (on_the_way w) = walk_common w

  module _ {p : ℕ} {es : List ℕ} {met : List FoundItem} (meets : Meets bytes p es met) (i : FoundItem) (deep : i.depth ≡ length es) where
    le : i.depth ≤ length (tags_to met)
    le = omega (arith, deep, meets_deep meets)

    abbrev reached : Reach
    reached = reach_all names look bytes no_reach (met ++ i ∷ [])

    here : reached.path ≡ common path.now (tags_to (met ++ i ∷ []))
    here = common_more met i le (meets_common meets)

    long : length (tags_to (met ++ i ∷ [])) ≡ i.depth + 1
    long = length_more met i le

    pub got : (at : ℕ) → tags_to (met ++ i ∷ []) ≡ path.now
        → item_text names look (reach_all names look bytes no_reach (met ++ i ∷ [])) at bytes i
        ≡ bare_line names look (reach_all names look bytes no_reach (met ++ i ∷ [])) bytes i
    unfolding item_text
    got at same =
        let all : reached.path ≡ length path.now = here ∙ ap (common path.now) same ∙ common_same path.now in
        let one : reached.path ≡ i.depth + 1 = all ∙ sym (ap length same) ∙ long in
        let ends : ends_path path.now reached.path i ≡ true = rw (eq-eqb _ _ all, eq-eqb _ _ one) refl in
        ap (λ (o : Option (Bor (List ℕ))). item_text_by o names look reached at bytes i) is
        ∙ ap (λ (b : Bool). if b then bare_line names look reached bytes i else []) ends

    pub passed : (at : ℕ) → tags_to (met ++ i ∷ []) ≢ path.now
        → item_text names look (reach_all names look bytes no_reach (met ++ i ∷ [])) at bytes i ≡ []
    unfolding item_text
    passed at other =
        ap (λ (o : Option (Bor (List ℕ))). item_text_by o names look reached at bytes i) is
        ∙ ap (λ (b : Bool). if b then bare_line names look reached bytes i else []) (by (reached.path == length path.now) refl)
      where
        by_depth : (e : Bool) → (reached.path == i.depth + 1) ≡ e → reached.path ≡ length path.now → e ≡ false
        by_depth true is all = absurd (other (same_by path.now (tags_to (met ++ i ∷ [])) (sym here ∙ all) (long ∙ sym (eqb-true _ _ is) ∙ all)))
        by_depth false is all = refl

        by : (e : Bool) → (reached.path == length path.now) ≡ e → ends_path path.now reached.path i ≡ false
        by true is = rw is (by_depth (reached.path == i.depth + 1) refl (eqb-true _ _ is))
        by false is = rw is refl
